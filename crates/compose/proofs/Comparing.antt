-- Rows compared one after the other. Assumes nothing.
use Prim.Native.Nat.{ℕ, ◌+◌, ◌*◌, ◌-◌, ◌≤◌, ◌<◌}
use native.Mathlib.Omega.{arith}
use native.Mathlib.Nat.{add_assoc, add-mul}
use native.Mathlib.Decide.{dec_lt}
use mathlib.Core.Path.{◌≡◌, refl, sym, ap, ◌∙◌}
use mathlib.Core.Bool.{Bool, true, false, cond, not}
use mathlib.Core.List.{List}
use lib.Dec.{ltb}
use lib.ListN.{get_or, take, drop}
use lib.Seq.{get_or-take, get_or-drop}
use borrow.Author.Tests.{ltb-true, ltb-false, lt-ltb, le-ltb}
use Rattle.std.specs.Prelude.{Some, None}
use Rattle.art.specs.Trimming.{first_seen}
use Rattle.art.specs.Stores.{pixel_from}
use Rattle.art.specs.declared.memory_rgba8_texture.Pixel.{Pixel}
use Rattle.art.proofs.Seen.{first-is, first-none, first-few, first-le, first_below, first-same}
use Rattle.paint.specs.Painting.{Shows}
use Rattle.paint.proofs.Frames.{row_ends}
use Rattle.compose.specs.Checking.{same_pixel, differs, column_off, row_off, compared}
use Rattle.compose.specs.Comparing.{off_at}

-- ## wanted rows that show the picture

pub row-off : (f : ℕ → ℕ → Pixel) (shown wanted : List ℕ) (w first n v : ℕ) → Shows f w first n wanted → v < n
    → first_seen (off_at shown wanted (v * w)) w ≡ first_seen (differs f shown (v * w) (first + v)) w
unfolding differs
row-off f shown wanted w first n v s h =
    first-same (off_at shown wanted (v * w)) (differs f shown (v * w) (first + v)) w (λ x p. ap (λ (k : Pixel). not (same_pixel (pixel_from shown (4 * (v * w + x))) k)) (s.each x v p h))

-- ## row after row

module _ (f : ℕ → ℕ → Pixel) (w first n : ℕ) (shown : List ℕ) where
  -- no row before row v differs
  abbrev pub SameBefore : ℕ → Type 0
  SameBefore v = (k : ℕ) → k < v → column_off f w first n shown k ≡ w

  not_less : (k : ℕ) → column_off f w first n shown k ≡ w → ltb (column_off f w first n shown k) w ≡ false
  not_less k e = ap (λ (j : ℕ). ltb j w) e ∙ le-ltb w w (omega arith)

  -- none does
  pub all_same : (v : ℕ) → n ≤ v → SameBefore v → compared f w first n shown ≡ None
  unfolding compared row_off
  all_same v h s =
      let e : first_seen (λ k. ltb (column_off f w first n shown k) w) n ≡ n =
      first-none (λ k. ltb (column_off f w first n shown k) w) n (λ k p. not_less k (s k (omega arith))) in
      rw (e, le-ltb n n (omega arith)) refl

  -- this one does, first in column x
  pub first-differs : (v x : ℕ) → v < n → SameBefore v → column_off f w first n shown v ≡ x → x < w → compared f w first n shown ≡ Some (x, first + v)
  unfolding compared row_off
  first-differs v x h s at below =
      let e : first_seen (λ k. ltb (column_off f w first n shown k) w) n ≡ v =
      first-is (λ k. ltb (column_off f w first n shown k) w) n v (record {
        below = h;
        passes = ap (λ (j : ℕ). ltb j w) at ∙ lt-ltb x w below;
        before = λ k p. not_less k (s k p);
      }) in
      rw (e, lt-ltb v n h) (ap (λ (k : ℕ). Some (k, first + v)) at)

  pub column-is : (v x : ℕ) → x ≡ first_seen (differs f shown (v * w) (first + v)) w → column_off f w first n shown v ≡ x
  unfolding column_off
  column-is v x e = sym e

-- a row in which no column differs
pub column-full : (f : ℕ → ℕ → Pixel) (w first n : ℕ) (shown : List ℕ) (v x : ℕ) → x ≡ first_seen (differs f shown (v * w) (first + v)) w → w ≤ x
    → column_off f w first n shown v ≡ w
unfolding column_off
column-full f w first n shown v x e h = let q = first-few (differs f shown (v * w) (first + v)) w in omega arith

-- ## some rows of the lent ones, by themselves

-- a pixel of a part
pub part-pixel : (l : List ℕ) (a m i : ℕ) → i + 4 ≤ m → pixel_from (take m (drop a l)) i ≡ pixel_from l (a + i)
unfolding pixel_from
part-pixel l a m i h =
    let byte : (k j : ℕ) → k < m → a + k ≡ j → get_or (take m (drop a l)) k 0 ≡ get_or l j 0 =
    λ k j p e. get_or-take m (drop a l) k 0 p ∙ get_or-drop a l k 0 ∙ ap (λ (j : ℕ). get_or l j 0) e in
    rw (byte i (a + i) (omega arith) refl, byte (i + 1) (a + i + 1) (omega arith) (omega arith), byte (i + 2) (a + i + 2) (omega arith) (omega arith), byte (i + 3) (a + i + 3) (omega arith) (omega arith)) refl

module _ (f : ℕ → ℕ → Pixel) (w first n : ℕ) (shown : List ℕ) (v k : ℕ) where
  abbrev part : List ℕ
  part = take (4 * (k * w)) (drop (4 * (v * w)) shown)

  column-part : (j : ℕ) → j < k → column_off f w (first + v) k part j ≡ column_off f w first n shown (v + j)
  unfolding column_off differs
  column-part j h =
      let y : first + v + j ≡ first + (v + j) = add_assoc first v j in
      first-same (differs f part (j * w) (first + v + j)) (differs f shown ((v + j) * w) (first + (v + j))) w (λ x p.
      let fits = row_ends w j k h in
      let m = add-mul v j w in
      let at : 4 * (v * w) + 4 * (j * w + x) ≡ 4 * ((v + j) * w + x) = omega arith in
      let same = part-pixel shown (4 * (v * w)) (4 * (k * w)) (4 * (j * w + x)) (omega arith) ∙ ap (pixel_from shown) at in
      ap (λ (q : Pixel). not (same_pixel q (f x (first + v + j)))) same ∙ ap (λ (i : ℕ). not (same_pixel (pixel_from shown (4 * ((v + j) * w + x))) (f x i))) y)

  abbrev passes : ℕ → Bool
  passes j = ltb (column_off f w (first + v) k part j) w

  -- rows of the part that do not differ, after rows that do not
  on : (m : ℕ) → m ≤ k → SameBefore f w first n shown v → ((j : ℕ) → j < m → passes j ≡ false) → SameBefore f w first n shown (v + m)
  unfolding column_off
  on m h s none j g = go (dec_lt j v)
    where
      go : Dec (j < v) → column_off f w first n shown j ≡ w
      go (yes p) = s j p
      go (no p) =
          let i = j - v in
          let e : v + i ≡ j = omega arith in
          let few = first-few (differs f part (i * w) (first + v + i)) w in
          let many = ltb-false (column_off f w (first + v) k part i) w (none i (omega arith)) in
          let full : column_off f w (first + v) k part i ≡ w = omega arith in
          ap (column_off f w first n shown) (sym e) ∙ sym (column-part i (omega arith)) ∙ full

  told : (b : Bool) → ltb (first_seen passes k) k ≡ b
      → compared f w (first + v) k part ≡ cond b (Some (column_off f w (first + v) k part (first_seen passes k), first + v + first_seen passes k)) None
  unfolding compared row_off
  told b e = ap (λ (b : Bool). cond b (Some (column_off f w (first + v) k part (first_seen passes k), first + v + first_seen passes k)) None) e

  -- no row of the part differs
  pub part_same : SameBefore f w first n shown v → compared f w (first + v) k part ≡ None → SameBefore f w first n shown (v + k)
  part_same s e = on k (omega arith) s (λ j h. go j h (passes j) refl)
    where
      past : k ≤ first_seen passes k
      past = ltb-false _ _ (go (ltb (first_seen passes k) k) refl)
        where
          go : (b : Bool) → ltb (first_seen passes k) k ≡ b → b ≡ false
          go false q = refl
          go true q = let o = sym (told true q) ∙ e in absurd cc

      go : (j : ℕ) → j < k → (b : Bool) → passes j ≡ b → b ≡ false
      go j h false q = refl
      go j h true q = let l = first-le passes k j h q in let p = past in absurd (omega arith)

  -- one does
  pub part-differs : {off : ℕ × ℕ} → SameBefore f w first n shown v → v + k ≤ n → compared f w (first + v) k part ≡ Some off
      → compared f w first n shown ≡ Some off
  part-differs {off} s h e = go (ltb (first_seen passes k) k) refl
    where
      go : (b : Bool) → ltb (first_seen passes k) k ≡ b → compared f w first n shown ≡ Some off
      go false q = let o = sym (told false q) ∙ e in absurd cc
      go true q =
          let below = ltb-true _ _ q in
          let r = first_seen passes k in
          let is = first_below passes k below in
          let y : first + v + r ≡ first + (v + r) = add_assoc first v r in
          first-differs f w first n shown (v + r) (column_off f w (first + v) k part r) (omega arith) (on r (omega arith) s is.before) (sym (column-part r below)) (ltb-true _ _ is.passes)
          ∙ ap (λ (j : ℕ). Some (column_off f w (first + v) k part r, j)) (sym y)
          ∙ sym (told true q)
          ∙ e
