-- Placing on one page: the height of a column, starts, segments, the place at a start, what fits, the choice.
-- An area is W columns by H rows; heights give each column of a page its height.
-- Assumes nothing.
use Rattle.std.specs.Prelude.{ℕ, ◌+◌, ◌-◌, Bool, true, false, cond, not, ◌&&◌, ◌||◌, List, [], ◌∷◌, ◌++◌, map, leb, eqb, Option, Some, None}
use Rattle.geometry.specs.Words.{from, only, earliest, or_else, greatest, flat, before}
use Rattle.geometry.specs.Rects.{on_span, bottom_of}
use Rattle.geometry.specs.declared.rect.Rect.{Rect}
use Rattle.geometry.specs.declared.rect.Size.{Size}
use Rattle.geometry.specs.declared.spot.Spot.{Spot}
use Rattle.geometry.specs.declared.spot.Turn.{Turn}
use Rattle.geometry.specs.declared.spot.Turn.TheVariants.{Upright, Turned}

-- the cell covers column x
abbrev pub covers : ℕ → Rect → Bool
covers x k = on_span k.x k.w x

-- the height of a column: one more than the greatest row of any cell that covers it, 0 if none
unfoldable pub height : List Rect → ℕ → ℕ
height cells x = greatest (λ k. bottom_of k + 1) (only (covers x) cells)

-- a start is column 0 and any column whose height differs from its left neighbour's
unfoldable pub is_start : (ℕ → ℕ) → ℕ → Bool
is_start heights x = eqb x 0 || not (eqb (heights x) (heights (x - 1)))

-- the starts from column s on, in an area W wide
unfoldable pub starts_from : (ℕ → ℕ) → ℕ → ℕ → List ℕ
starts_from heights W s = only (is_start heights) (from s (W - s))

-- its segment runs to the next start or the edge: how many columns that is
unfoldable pub segment : (ℕ → ℕ) → ℕ → ℕ → ℕ
segment heights W s = or_else (earliest (is_start heights) (from (s + 1) (W - (s + 1)))) W - s

-- the greatest height of columns s to s+w-1
unfoldable pub top : (ℕ → ℕ) → ℕ → ℕ → ℕ
top heights s w = greatest heights (from s w)

-- a size as it lies: the sides swapped if turned
unfoldable pub lying : Turn → Size → Size
lying Upright s = s
lying Turned s = record { w = s.h; h = s.w }

-- a cell that lies w by h, at start s: y is the greatest height of its columns
unfoldable pub cell_at : (ℕ → ℕ) → Size → ℕ → Rect
cell_at heights size s = record { x = s; y = top heights s size.w; w = size.w; h = size.h }

-- the same with what it is ranked by
unfoldable pub spot_at : (ℕ → ℕ) → ℕ → Turn → Size → ℕ → Spot
spot_at heights W turn size s =
    record {
      at = cell_at heights size s;
      bottom = bottom_of (cell_at heights size s);
      segment = segment heights W s;
      turn = turn;
    }

-- it fits if it lies in the area: s+w and y+h at most its sides
unfoldable pub inside : Size → Rect → Bool
inside area k = leb (k.x + k.w) area.w && leb (k.y + k.h) area.h

-- the allowed orientations
unfoldable pub orientations : Bool → List Turn
orientations rotation = cond rotation (Upright ∷ Turned ∷ []) (Upright ∷ [])

-- what fits at start s, in an allowed orientation
unfoldable pub fitting_at : (ℕ → ℕ) → Size → Bool → Size → ℕ → List Spot
fitting_at heights area rotation cell s =
    only (λ k. inside area k.at) (map (λ t. spot_at heights area.w t (lying t cell) s) (orientations rotation))

-- what fits at the starts from column s on
unfoldable pub candidates_from : (ℕ → ℕ) → Size → Bool → Size → ℕ → List Spot
candidates_from heights area rotation cell s =
    flat (fitting_at heights area rotation cell) (starts_from heights area.w s)

-- fitting starts and allowed orientations
abbrev pub candidates : (ℕ → ℕ) → Size → Bool → Size → List Spot
candidates heights area rotation cell = candidates_from heights area rotation cell 0

abbrev pub turn_number : Turn → ℕ
turn_number Upright = 0
turn_number Turned = 1

-- least bottom row y+h-1; then narrower segment; then lower start; then upright
unfoldable pub rank : Spot → List ℕ
rank k = k.bottom ∷ k.segment ∷ k.at.x ∷ turn_number k.turn ∷ []

module _ (order : Spot → List ℕ) where
  -- the better of the best so far and the next
  unfoldable pub better : Option Spot → Spot → Option Spot
  better None k = Some k
  better (Some j) k = Some (cond (before (order k) (order j)) k j)

  -- the best of some, after the best so far
  unfoldable pub best_of : Option Spot → List Spot → Option Spot
  best_of o [] = o
  best_of o (k ∷ ks) = best_of (better o k) ks

-- THE CHOICE: where a page with these heights puts a cell, if it fits
unfoldable pub spot_for : (ℕ → ℕ) → Size → Bool → Size → Option Spot
spot_for heights area rotation cell = best_of rank None (candidates heights area rotation cell)

abbrev pub is_found : Option Spot → Bool
is_found None = false
is_found (Some k) = true

-- a page's cells after an answer, in order of acceptance
unfoldable pub grown : List Rect → Option Spot → List Rect
grown cells None = cells
grown cells (Some k) = cells ++ k.at ∷ []

-- cells placed one after the other on one page, and what each answered
unfoldable pub packed : Size → Bool → List Rect → List Size → List (Option Spot)
packed area rotation cells [] = []
packed area rotation cells (s ∷ ss) =
    spot_for (height cells) area rotation s
    ∷ packed area rotation (grown cells (spot_for (height cells) area rotation s)) ss
