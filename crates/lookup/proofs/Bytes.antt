-- The bytes of a row that is handed back: 4 x the whole width of them, and pixel x of the row is the image's. Assumes nothing.
use Prim.Native.Nat.{ℕ, ◌+◌, ◌*◌, ◌≤◌, ◌<◌}
use native.Mathlib.Omega.{arith}
use mathlib.Core.Path.{◌≡◌, refl, sym, ap, ◌∙◌}
use mathlib.Core.Bool.{false}
use mathlib.Core.List.{List, []}
use lib.ListN.{length, get_or, take, drop, length-drop}
use lib.Seq.{length-take-le, get_or-take, get_or-drop}
use denote.Ref.{Bor}
use Rattle.art.specs.Stores.{Stores, lent, of_store, bytes_of, runs_past, place_of, pixel_from, pixel_in}
use Rattle.art.specs.declared.memory_rgba8_texture.Store.{Store}
use Rattle.art.specs.declared.memory_rgba8_texture.Stores.{Stores as LentStores}
use Rattle.art.specs.declared.memory_rgba8_texture.Store.TheVariants.{Symbols, Wording}
use Rattle.art.proofs.Places.{row_in, in_store}
use Rattle.records.specs.Records.{image_of}
use Rattle.records.specs.declared.frame.Record.{Record}
use Rattle.lookup.specs.Reading.{Part, row_part, empty_part, part_bytes, IsPart}

-- what a reference to a part reads
pub part_reads : (stores : LentStores) (k : Part) (r : Bor (List ℕ)) → IsPart stores k r → r.now ≡ part_bytes (lent stores) k
unfolding part_bytes bytes_of
part_reads stores k r p = p.bytes ∙ ap (λ (l : List ℕ). take k.size (drop k.start l)) (swap k.store)
  where
    swap : (q : Store) → (of_store q stores.symbols stores.wording).now ≡ of_store q stores.symbols.now stores.wording.now
    swap Symbols = refl
    swap Wording = refl

pub empty-bytes : (s : Stores) → part_bytes s empty_part ≡ []
unfolding part_bytes empty_part
empty-bytes s = refl

module _ (s : Stores) (r : Record) (y : ℕ) (below : y < r.source.h) (inside : runs_past s (image_of r) ≡ false) where
  -- the row ends in the store
  ends : place_of (image_of r) 0 y + 4 * r.source.w ≤ length (bytes_of s r.store)
  unfolding place_of image_of
  ends = omega (arith, in_store s (image_of r) inside, row_in r.source.w r.source.h y below)

  pub row-long : length (part_bytes s (row_part r y)) ≡ 4 * r.source.w
  unfolding part_bytes row_part
  row-long =
      let start = place_of (image_of r) 0 y in
      let rest = length-drop start (bytes_of s r.store) in
      length-take-le (4 * r.source.w) (drop start (bytes_of s r.store)) (omega (arith, ends))

-- byte i of the row, and pixel x of it
row_byte : (s : Stores) (r : Record) (y i : ℕ) → i < 4 * r.source.w → (at : ℕ) → at ≡ place_of (image_of r) 0 y + i
    → get_or (part_bytes s (row_part r y)) i 0 ≡ get_or (bytes_of s r.store) at 0
unfolding part_bytes row_part
row_byte s r y i h at e =
    let start = place_of (image_of r) 0 y in
    get_or-take (4 * r.source.w) (drop start (bytes_of s r.store)) i 0 h
    ∙ get_or-drop start (bytes_of s r.store) i 0
    ∙ ap (λ (n : ℕ). get_or (bytes_of s r.store) n 0) (sym e)

pub row-pixel : (s : Stores) (r : Record) (y x : ℕ) → x < r.source.w → pixel_from (part_bytes s (row_part r y)) (4 * x) ≡ pixel_in s (image_of r) x y
unfolding pixel_from pixel_in place_of image_of
row-pixel s r y x h =
    let at = r.offset + 4 * (y * r.source.w + x) in
    let red = row_byte s r y (4 * x) (omega arith) at (omega arith) in
    let green = row_byte s r y (4 * x + 1) (omega arith) (at + 1) (omega arith) in
    let blue = row_byte s r y (4 * x + 2) (omega arith) (at + 2) (omega arith) in
    let alpha = row_byte s r y (4 * x + 3) (omega arith) (at + 3) (omega arith) in
    λ i. record { r = red i; g = green i; b = blue i; a = alpha i }
