-- What can be seen of an image, and the smallest box that holds it.
-- Assumes nothing.
use Rattle.std.specs.Prelude.{ℕ, ◌+◌, ◌-◌, Bool, cond, not, Option, Some, None, List, [], ◌∷◌, eqb}
use Rattle.geometry.specs.Words.{from, any, only, earliest, or_else, greatest}
use Rattle.geometry.specs.declared.rect.Rect.{Rect}
use Rattle.art.specs.Stores.{Stores, pixel_in}
use Rattle.art.specs.declared.memory_rgba8_texture.Image.{Image}

-- its alpha is not 0
unfoldable pub visible : Stores → Image → ℕ → ℕ → Bool
visible s i x y = not (eqb (pixel_in s i x y).a 0)

unfoldable pub column_visible : Stores → Image → ℕ → Bool
column_visible s i x = any (λ y. visible s i x y) (from 0 i.h)

unfoldable pub row_visible : Stores → Image → ℕ → Bool
row_visible s i y = any (λ x. visible s i x y) (from 0 i.w)

-- all alpha 0
unfoldable pub all_clear : Stores → Image → Bool
all_clear s i = not (any (row_visible s i) (from 0 i.h))

-- of the numbers below n that pass: the first (n if there is none), and one past the last (0 if there is none)
unfoldable pub first_seen : (ℕ → Bool) → ℕ → ℕ
first_seen t n = or_else (earliest t (from 0 n)) n

unfoldable pub past_seen : (ℕ → Bool) → ℕ → ℕ
past_seen t n = greatest (λ k. k + 1) (only t (from 0 n))

-- the smallest box holding every pixel whose alpha is not 0
unfoldable pub smallest_box : Stores → Image → Rect
smallest_box s i =
    let left = first_seen (column_visible s i) i.w in
    let top = first_seen (row_visible s i) i.h in
    record {
      x = left;
      y = top;
      w = past_seen (column_visible s i) i.w - left;
      h = past_seen (row_visible s i) i.h - top;
    }

unfoldable pub whole_box : Image → Rect
whole_box i = record { x = 0; y = 0; w = i.w; h = i.h }

-- with trim on the smallest box, else the whole image
unfoldable pub trim_box : Bool → Stores → Image → Rect
trim_box trim s i = cond trim (smallest_box s i) (whole_box i)

-- what trimming answers, None where all alpha is 0, and the number and values of each answer: 7 for None
unfoldable pub trimmed_to : Stores → Image → Option Rect
trimmed_to s i = cond (all_clear s i) None (Some (smallest_box s i))

abbrev pub trimmed_numbers : Option Rect → List ℕ
trimmed_numbers None = 7 ∷ []
trimmed_numbers (Some k) = 0 ∷ k.x ∷ k.y ∷ k.w ∷ k.h ∷ []
