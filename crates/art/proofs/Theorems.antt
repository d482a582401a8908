-- What document 01 says of art, as theorems over the definitions of specs/. Assumes nothing.
use Prim.Native.Nat.{ℕ, ◌≤◌, ◌<◌}
use native.Mathlib.Omega.{arith}
use mathlib.Core.Path.{◌≡◌, refl, sym, ◌∙◌}
use mathlib.Core.Bool.{Bool, true, false, cond, not, ◌&&◌}
use mathlib.Core.List.{List}
use denote.Ref.{Bor}
use Rattle.geometry.specs.Rects.{holds_point, holds_rect}
use Rattle.geometry.specs.declared.rect.Rect.{Rect}
use Rattle.art.specs.Stores.{Stores, of_store, runs_past, pixel_from, pixel_in, upright_pixel, turned_pixel, BoxIn}
use Rattle.art.specs.Trimming.{visible, column_visible, row_visible, all_clear, smallest_box, whole_box, trim_box, trimmed_to, trimmed_numbers}
use Rattle.art.specs.declared.memory_rgba8_texture.Image.{Image}
use Rattle.art.specs.declared.memory_rgba8_texture.Pixel.{Pixel}
use Rattle.art.specs.declared.memory_rgba8_texture.Store.{Store}
use Rattle.std.specs.Prelude.{Option, Some, None}
use Rattle.geometry.proofs.Words.{not_both}
use Rattle.geometry.proofs.Rects.{point_in, in_point, rect_in, same-rect}
use Rattle.art.proofs.Seen.{some_seen, first-le, past_gt, past_le}
use Rattle.art.proofs.Boxes.{Shown, some-pixel, not-clear, in_column, in_row, columns, rows}

-- a box that holds every pixel of the image whose alpha is not 0
abbrev pub HoldsVisible : Stores → Image → Rect → Type 0
HoldsVisible s i k = (x y : ℕ) → x < i.w → y < i.h → visible s i x y ≡ true → holds_point k x y ≡ true

module _ (s : Stores) (i : Image) where
  -- ## "trim on, all alpha 0"

  pub clear_hides : all_clear s i ≡ true → (x y : ℕ) → x < i.w → y < i.h → visible s i x y ≡ false
  clear_hides e x y h g = go (visible s i x y) refl
    where
      go : (b : Bool) → visible s i x y ≡ b → b ≡ false
      go true q = absurd (not_both e (not-clear s i (record { x = x; y = y; column = h; row = g; shows = q })))
      go false q = refl

  pub hidden_clear : ((x y : ℕ) → x < i.w → y < i.h → visible s i x y ≡ false) → all_clear s i ≡ true
  hidden_clear h = go (all_clear s i) refl
    where
      go : (b : Bool) → all_clear s i ≡ b → b ≡ true
      go true q = refl
      go false q = let p = some-pixel s i q in absurd (not_both p.shows (h p.x p.y p.column p.row))

  -- ## "Trim (on): the smallest box holding every pixel whose alpha is not 0."

  pub holds-visible : HoldsVisible s i (smallest_box s i)
  unfolding smallest_box
  holds-visible x y h g e =
      let p : Shown s i = record { x = x; y = y; column = h; row = g; shows = e } in
      let a = first-le (column_visible s i) i.w x h (in_column s i p) in
      let b = first-le (row_visible s i) i.h y g (in_row s i p) in
      let c = past_gt (column_visible s i) i.w x h (in_column s i p) in
      let d = past_gt (row_visible s i) i.h y g (in_row s i p) in
      point_in (smallest_box s i) x y (record { left = a; right = omega arith; top = b; bottom = omega arith })

  column_shows : (x : ℕ) → column_visible s i x ≡ true → (y : ℕ) × (y < i.h) × (visible s i x y ≡ true)
  unfolding column_visible
  column_shows x e = some_seen (λ y. visible s i x y) i.h e

  row_shows : (y : ℕ) → row_visible s i y ≡ true → (x : ℕ) × (x < i.w) × (visible s i x y ≡ true)
  unfolding row_visible
  row_shows y e = some_seen (λ x. visible s i x y) i.w e

  -- it lies in every box that holds them
  pub in_every_box : all_clear s i ≡ false → (k : Rect) → HoldsVisible s i k → holds_rect k (smallest_box s i) ≡ true
  unfolding smallest_box
  in_every_box e k holds =
      let c = columns s i (some-pixel s i e) in
      let r = rows s i (some-pixel s i e) in
      let l = column_shows _ c.first.passes in
      let m = column_shows _ c.last.passes in
      let t = row_shows _ r.first.passes in
      let b = row_shows _ r.last.passes in
      let left = (in_point k _ _ (holds _ l.0 c.first.below l.1 l.2)).left in
      let right = (in_point k _ _ (holds _ m.0 c.last.below m.1 m.2)).right in
      let top = (in_point k _ _ (holds t.0 _ t.1 r.first.below t.2)).top in
      let bottom = (in_point k _ _ (holds b.0 _ b.1 r.last.below b.2)).bottom in
      rect_in k (smallest_box s i)
      (record { left = left; top = top; right = omega (arith, c.ordered, right); bottom = omega (arith, r.ordered, bottom) })

  -- and no other box is so: it holds them, and lies in every box that does
  pub one_smallest : all_clear s i ≡ false → (k : Rect) → HoldsVisible s i k → ((j : Rect) → HoldsVisible s i j → holds_rect j k ≡ true) → k ≡ smallest_box s i
  one_smallest e k holds least = same-rect k (smallest_box s i) (in_every_box e k holds) (least (smallest_box s i) holds-visible)

  -- ## "the trim box (..) not empty and inside the whole image"

  pub box_good : all_clear s i ≡ false → BoxIn (smallest_box s i) i.w i.h
  unfolding smallest_box
  box_good e =
      let c = columns s i (some-pixel s i e) in
      let r = rows s i (some-pixel s i e) in
      record {
        some_w = omega (arith, c.ordered);
        some_h = omega (arith, r.ordered);
        in_w = omega (arith, c.ordered, c.last.below);
        in_h = omega (arith, r.ordered, r.last.below);
      }

  pub box_in : (trim : Bool) → 1 ≤ i.w → 1 ≤ i.h → (trim && all_clear s i) ≡ false → BoxIn (trim_box trim s i) i.w i.h
  unfolding trim_box whole_box
  box_in true w h e = box_good e
  box_in false w h e = record { some_w = w; some_h = h; in_w = omega arith; in_h = omega arith }

  -- also where all is clear, no side is longer than the image's
  pub box_w : (trim : Bool) → (trim_box trim s i).w ≤ i.w
  unfolding trim_box smallest_box whole_box
  box_w true = let g = past_le (column_visible s i) i.w in omega arith
  box_w false = omega arith

  pub box_h : (trim : Bool) → (trim_box trim s i).h ≤ i.h
  unfolding trim_box smallest_box whole_box
  box_h true = let g = past_le (row_visible s i) i.h in omega arith
  box_h false = omega arith

  -- "with trim off each box is the whole image"
  pub untrimmed : trim_box false s i ≡ record { x = 0; y = 0; w = i.w; h = i.h }
  unfolding trim_box whole_box
  untrimmed = refl

  -- ## what the answer of `trim_texture` says

  pub answered_clear : trimmed_to s i ≡ None → all_clear s i ≡ true
  unfolding trimmed_to
  answered_clear e = go (all_clear s i) e
    where
      go : (b : Bool) → cond b None (Some (smallest_box s i)) ≡ None → b ≡ true
      go true q = refl
      go false q = cc

  pub answered_box : (k : Rect) → trimmed_to s i ≡ Some k → (all_clear s i ≡ false) × (k ≡ smallest_box s i)
  unfolding trimmed_to
  answered_box k e = go (all_clear s i) e
    where
      go : (b : Bool) → cond b None (Some (smallest_box s i)) ≡ Some k → (b ≡ false) × (k ≡ smallest_box s i)
      go true q = absurd cc
      go false q = (refl, cc)

-- ## "a definition gives this paper's number and values for each of its cases"

-- and no two answers have the same number and values
pub numbers_tell : (r q : Option Rect) → trimmed_numbers r ≡ trimmed_numbers q → r ≡ q
numbers_tell None None e = refl
numbers_tell None (Some k) e = absurd cc
numbers_tell (Some k) None e = absurd cc
numbers_tell (Some k) (Some j) e =
    let x : k.x ≡ j.x = cc in
    let y : k.y ≡ j.y = cc in
    let w : k.w ≡ j.w = cc in
    let h : k.h ≡ j.h = cc in
    λ i. Some (record { x = x i; y = y i; w = w i; h = h i })

-- ## "any two results allowed for one input are shown equal"

pub one : {A : Type 0} (d : A) {r q : A} → r ≡ d → q ≡ d → r ≡ q
one d e f = e ∙ sym f

module _ (s : Stores) (i : Image) where
  pub one_past : {r q : Bool} → r ≡ runs_past s i → q ≡ runs_past s i → r ≡ q
  one_past = one (runs_past s i)

  pub one_trim : {r q : Option Rect} → r ≡ trimmed_to s i → q ≡ trimmed_to s i → r ≡ q
  one_trim = one (trimmed_to s i)

  pub one_pixel : (x y : ℕ) {r q : Pixel} → r ≡ pixel_in s i x y → q ≡ pixel_in s i x y → r ≡ q
  one_pixel x y = one (pixel_in s i x y)

  pub one_upright : (k : Rect) (x y : ℕ) {r q : Pixel} → r ≡ upright_pixel s i k x y → q ≡ upright_pixel s i k x y → r ≡ q
  one_upright k x y = one (upright_pixel s i k x y)

  pub one_turned : (k : Rect) (x y : ℕ) {r q : Pixel} → r ≡ turned_pixel s i k x y → q ≡ turned_pixel s i k x y → r ≡ q
  one_turned k x y = one (turned_pixel s i k x y)

  pub one_column : (x : ℕ) {r q : Bool} → r ≡ not (column_visible s i x) → q ≡ not (column_visible s i x) → r ≡ q
  one_column x = one (not (column_visible s i x))

  pub one_row : (y : ℕ) {r q : Bool} → r ≡ not (row_visible s i y) → q ≡ not (row_visible s i y) → r ≡ q
  one_row y = one (not (row_visible s i y))

pub one_store : (store : Store) (symbols wording : Bor (List ℕ)) {r q : Bor (List ℕ)} → r ≡ of_store store symbols wording → q ≡ of_store store symbols wording → r ≡ q
one_store store symbols wording = one (of_store store symbols wording)

pub one_from : (bytes : List ℕ) (at : ℕ) {r q : Pixel} → r ≡ pixel_from bytes at → q ≡ pixel_from bytes at → r ≡ q
one_from bytes at = one (pixel_from bytes at)
