-- Where the pixels of an image lie: all of them in its store. Assumes nothing.
use Prim.Native.Nat.{ℕ, suc, ◌+◌, ◌-◌, ◌*◌, ◌/◌, ◌^◌, ◌≤◌, ◌<◌}
use native.Mathlib.Nat.{mul-le-mul, mul-le-mul_right, suc-mul, mul_comm}
use native.Mathlib.Omega.{arith}
use mathlib.Core.Path.{◌≡◌, refl, sym, ap}
use mathlib.Core.Bool.{Bool, true, false}
use mathlib.Core.List.{List}
use lib.ListN.{length}
use lib.Dec.{ltb}
use denote.Ref.{Bor}
use borrow.Author.Tests.{lt-ltb, le-ltb, ltb-true, ltb-false}
use Rattle.art.specs.Stores.{Stores, lent, of_store, bytes_of, runs_past, place_of}
use Rattle.art.specs.declared.memory_rgba8_texture.Image.{Image}
use Rattle.art.specs.declared.memory_rgba8_texture.Store.{Store}
use Rattle.art.specs.declared.memory_rgba8_texture.Stores.{Stores as LentStores}
use Rattle.art.specs.declared.memory_rgba8_texture.Store.TheVariants.{Symbols, Wording}

-- the bytes of the store that `Stores::of` gives
pub bytes_now : (s : LentStores) (store : Store) (r : Bor (List ℕ)) → r ≡ of_store store s.symbols s.wording → r.now ≡ bytes_of (lent s) store
unfolding bytes_of
bytes_now s Symbols r e = ap (λ x. x.now) e
bytes_now s Wording r e = ap (λ x. x.now) e

-- the area of an image counts in 64 bits
pub area-fits : (w h : ℕ) → w < 2 ^ 32 → h < 2 ^ 32 → w * h < 2 ^ 64
area-fits w h p q =
    let a : w ≤ 4294967295 = omega arith in
    let b : h ≤ 4294967295 = omega arith in
    let c : w * h ≤ 4294967295 * 4294967295 = mul-le-mul a b in
    omega arith

-- row y ends where the image ends, or before
pub row_in : (w h y : ℕ) → y < h → y * w + w ≤ w * h
row_in w h y p = let q : suc y * w ≤ h * w = mul-le-mul_right w p in omega (arith, suc-mul y w, mul_comm w h)

pub in_store : (s : Stores) (i : Image) → runs_past s i ≡ false → i.offset + 4 * (i.w * i.h) ≤ length (bytes_of s i.store)
unfolding runs_past
in_store s i e = ltb-false _ _ e

-- the four bytes of a pixel lie in the store
pub pixel_in_lem : (s : Stores) (i : Image) (x y : ℕ) → runs_past s i ≡ false → x < i.w → y < i.h → place_of i x y + 3 < length (bytes_of s i.store)
unfolding place_of
pixel_in_lem s i x y e p q = omega (arith, in_store s i e, row_in i.w i.h y q)

-- what is left of the store, divided by 4, against the area
pub past_offset : (s : Stores) (i : Image) (size : ℕ) → size ≡ length (bytes_of s i.store) → size < i.offset → runs_past s i ≡ true
unfolding runs_past
past_offset s i size e h =
    let l : length (bytes_of s i.store) < i.offset + 4 * (i.w * i.h) = omega arith in
    lt-ltb _ _ l

pub past_area : (s : Stores) (i : Image) (size : ℕ) → size ≡ length (bytes_of s i.store) → i.offset ≤ size
    → ltb ((size - i.offset) / 4) (i.w * i.h) ≡ runs_past s i
unfolding runs_past
past_area s i size e h = go (ltb ((size - i.offset) / 4) (i.w * i.h)) refl
  where
    go : (b : Bool) → ltb ((size - i.offset) / 4) (i.w * i.h) ≡ b → b ≡ ltb (length (bytes_of s i.store)) (i.offset + 4 * (i.w * i.h))
    go true q =
        let g : (size - i.offset) / 4 < i.w * i.h = ltb-true _ _ q in
        let l : length (bytes_of s i.store) < i.offset + 4 * (i.w * i.h) = omega arith in
        sym (lt-ltb _ _ l)
    go false q =
        let g : i.w * i.h ≤ (size - i.offset) / 4 = ltb-false _ _ q in
        let l : i.offset + 4 * (i.w * i.h) ≤ length (bytes_of s i.store) = omega arith in
        sym (le-ltb _ _ l)
