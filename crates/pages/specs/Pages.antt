-- Eight pages: the skyline of each, and the cells that it stands for.
-- Assumes nothing.
use Rattle.std.specs.Prelude.{ℕ, ◌+◌, ◌≤◌, ◌<◌, ◌≡◌, Bool, List, [], length, get_or, Option}
use Rattle.geometry.specs.Words.{from, earliest, or_else}
use Rattle.geometry.specs.Placing.{height, spot_for, is_found, grown}
use Rattle.geometry.specs.declared.rect.Rect.{Rect}
use Rattle.geometry.specs.declared.rect.Size.{Size}
use Rattle.geometry.specs.declared.spot.Spot.{Spot}
use Rattle.skyline.specs.declared.skyline.Skyline.{Skyline}
use Rattle.skyline.specs.Skyline.{stored, Whole, Holds}
use Rattle.pages.specs.declared.Pages.{Pages}

-- the first of the first n pages that has a spot for a cell, else n
unfoldable pub first_fitting : (ℕ → List Rect) → Size → Bool → Size → ℕ → ℕ
first_fitting cells area rotation cell n = or_else (earliest (λ p. is_found (spot_for (height (cells p)) area rotation cell)) (from 0 n)) n

-- page p's skyline; past the last page there is one of nothing
abbrev pub page_of : ℕ → Pages → Skyline
page_of p k = get_or k.skylines p (record { xs = []; ys = []; n = 0 })

-- each page's skyline is that of its cells, of which no page has more than m
pub record Stands (W : ℕ) (cells : ℕ → List Rect) (m : ℕ) (k : Pages) : Type 0 where
  pub eight : length k.skylines ≡ 8
  pub whole : (p : ℕ) → p < 8 → Whole (page_of p k)
  pub holds : (p : ℕ) → p < 8 → Holds W (cells p) (stored (page_of p k))
  pub few : (p : ℕ) → p < 8 → length (cells p) ≤ m

-- some cells do
abbrev pub Standing : ℕ → ℕ → Pages → Type 0
Standing W m k = (cells : ℕ → List Rect) × Stands W cells m k

-- the cell placed on page p, and the other pages as they were
pub record PutOn (area : Size) (rotation : Bool) (cell : Size) (p m : ℕ) (cells : ℕ → List Rect) (r : Option Spot) (k : Pages) : Type 0 where
  pub found : r ≡ spot_for (height (cells p)) area rotation cell
  pub stands : (after : ℕ → List Rect) → after p ≡ grown (cells p) r → ((q : ℕ) → (q ≡ p → ⊥) → after q ≡ cells q) → Stands area.w after (m + 1) k

-- all eight are empty
pub record Fresh (W : ℕ) (k : Pages) : Type 0 where
  pub eight : length k.skylines ≡ 8
  pub whole : (p : ℕ) → p < 8 → Whole (page_of p k)
  pub holds : (p : ℕ) → p < 8 → Holds W [] (stored (page_of p k))
