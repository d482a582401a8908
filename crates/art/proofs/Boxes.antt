-- What can be seen of an image, and the box of it. Assumes nothing.
use Prim.Native.Nat.{ℕ, ◌-◌, ◌<◌}
use native.Mathlib.Omega.{arith}
use mathlib.Core.Path.{◌≡◌, refl, sym, ap, ◌∙◌}
use mathlib.Core.Bool.{Bool, true, false, not}
use borrow.Author.Tests.{not-true, not-false}
use Rattle.geometry.specs.Words.{from, any}
use Rattle.geometry.specs.declared.rect.Rect.{Rect}
use Rattle.art.specs.Stores.{Stores}
use Rattle.art.specs.Trimming.{visible, column_visible, row_visible, all_clear, first_seen, past_seen, smallest_box, trimmed_to}
use Rattle.art.specs.declared.memory_rgba8_texture.Image.{Image}
use Rattle.std.specs.Prelude.{Some, None}
use Rattle.art.proofs.Seen.{seen, some_seen, not_seen, by_columns, Ends, ends, first-none}

module _ (s : Stores) (i : Image) where
  -- a visible pixel of the image
  pub record Shown : Type 0 where
    pub x : ℕ
    pub y : ℕ
    pub column : x < i.w
    pub row : y < i.h
    pub shows : visible s i x y ≡ true

  pub some-pixel : all_clear s i ≡ false → Shown
  unfolding all_clear row_visible
  some-pixel e =
      let y = some_seen (row_visible s i) i.h (not-false _ e) in
      let x = some_seen (λ x. visible s i x y.0) i.w y.2 in
      record { x = x.0; y = y.0; column = x.1; row = y.1; shows = x.2 }

  pub in_column : (p : Shown) → column_visible s i p.x ≡ true
  unfolding column_visible
  in_column p = seen (λ y. visible s i p.x y) i.h p.y p.row p.shows

  pub in_row : (p : Shown) → row_visible s i p.y ≡ true
  unfolding row_visible
  in_row p = seen (λ x. visible s i x p.y) i.w p.x p.column p.shows

  pub columns : Shown → Ends (column_visible s i) i.w
  columns p = ends (column_visible s i) i.w p.x p.column (in_column p)

  pub rows : Shown → Ends (row_visible s i) i.h
  rows p = ends (row_visible s i) i.h p.y p.row (in_row p)

  pub not-clear : Shown → all_clear s i ≡ false
  unfolding all_clear
  not-clear p = ap not (seen (row_visible s i) i.h p.y p.row (in_row p))

  -- no column is visible exactly when no row is
  pub clear_columns : all_clear s i ≡ not (any (column_visible s i) (from 0 i.w))
  unfolding all_clear column_visible row_visible
  clear_columns = ap not (sym (by_columns (visible s i) i.w i.h))

  -- the search from the left has gone through every column exactly when all is clear
  pub left-clear : first_seen (column_visible s i) i.w ≡ i.w → all_clear s i ≡ true
  left-clear e = go (all_clear s i) refl
    where
      go : (b : Bool) → all_clear s i ≡ b → b ≡ true
      go true q = refl
      go false q = absurd (let f = (columns (some-pixel q)).first.below in omega arith)

  pub clear-left : all_clear s i ≡ true → first_seen (column_visible s i) i.w ≡ i.w
  clear-left e =
      first-none (column_visible s i) i.w
      (not_seen (column_visible s i) i.w (not-true _ (sym clear_columns ∙ e)))

  pub left_seen : (first_seen (column_visible s i) i.w ≡ i.w → ⊥) → all_clear s i ≡ false
  left_seen h = go (all_clear s i) refl
    where
      go : (b : Bool) → all_clear s i ≡ b → b ≡ false
      go true q = absurd (h (clear-left q))
      go false q = refl

  -- the box from what the four searches found
  pub box_is : (left right top bottom : ℕ)
      → left ≡ first_seen (column_visible s i) i.w → right ≡ past_seen (column_visible s i) i.w
      → top ≡ first_seen (row_visible s i) i.h → bottom ≡ past_seen (row_visible s i) i.h
      → record { x = left; y = top; w = right - left; h = bottom - top } ≡ smallest_box s i
  unfolding smallest_box
  box_is left right top bottom l r t b = λ j. record { x = l j; y = t j; w = r j - l j; h = b j - t j }

  pub clear-answer : all_clear s i ≡ true → trimmed_to s i ≡ None
  unfolding trimmed_to
  clear-answer e = rw e

  pub box_answer : all_clear s i ≡ false → (k : Rect) → k ≡ smallest_box s i → trimmed_to s i ≡ Some k
  unfolding trimmed_to
  box_answer e k q = rw (e, q)
