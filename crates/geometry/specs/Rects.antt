-- Rectangles: their last column and row, and what lies in them. Columns and rows are spans: n numbers from a on.
-- Assumes nothing.
use Rattle.std.specs.Prelude.{ℕ, ◌+◌, ◌-◌, ◌≤◌, ◌<◌, Bool, ◌&&◌, ◌||◌, leb, ltb, eqb}
use Rattle.geometry.specs.declared.rect.Rect.{Rect}

-- x is one of the n numbers from a on
unfoldable pub on_span : ℕ → ℕ → ℕ → Bool
on_span a n x = leb a x && ltb x (a + n)

-- so are the m numbers from b on
unfoldable pub in_span : ℕ → ℕ → ℕ → ℕ → Bool
in_span a n b m = leb a b && leb (b + m) (a + n)

-- x is the first or the last of them
unfoldable pub at_end : ℕ → ℕ → ℕ → Bool
at_end a n x = eqb x a || eqb x (a + n - 1)

-- right and bottom: the last column and the last row
abbrev pub right_of : Rect → ℕ
right_of k = k.x + k.w - 1

abbrev pub bottom_of : Rect → ℕ
bottom_of k = k.y + k.h - 1

unfoldable pub holds_point : Rect → ℕ → ℕ → Bool
holds_point k x y = on_span k.x k.w x && on_span k.y k.h y

-- the second lies in the first
unfoldable pub holds_rect : Rect → Rect → Bool
holds_rect k j = in_span k.x k.w j.x j.w && in_span k.y k.h j.y j.h

-- x equals the left or right column, or y the top or bottom row
unfoldable pub on_outline : Rect → ℕ → ℕ → Bool
on_outline k x y = at_end k.x k.w x || at_end k.y k.h y

-- from a first number to a last one, and how many they are fits 32 bits
pub record Spanned (a b : ℕ) : Type 0 where
  pub ordered : a ≤ b
  pub short : b - a < 4294967295
