-- What fits, any choice among what fits, and cells that share no pixel.
-- Assumes nothing.
use Rattle.std.specs.Prelude.{ℕ, ◌+◌, ◌≤◌, ◌<◌, ◌≡◌, Bool, true, ◌⊎◌, Option, Some}
use mathlib.Core.List.{List, [], ◌∷◌, ◌++◌, Memᴰ}
use Rattle.geometry.specs.Rects.{holds_point}
use Rattle.geometry.specs.Placing.{height, is_start, top, lying, spot_at, orientations}
use Rattle.geometry.specs.declared.rect.Rect.{Rect}
use Rattle.geometry.specs.declared.rect.Size.{Size}
use Rattle.geometry.specs.declared.spot.Spot.{Spot}
use Rattle.geometry.specs.declared.spot.Turn.{Turn}

-- a cell has at least one pixel
pub record HasPixels (cell : Size) : Type 0 where
  pub wide : 0 < cell.w
  pub tall : 0 < cell.h

-- a cell at a start, in an allowed orientation, that lies in the area
pub record Fits (heights : ℕ → ℕ) (area : Size) (rotation : Bool) (cell : Size) (k : Spot) : Type 0 where
  pub start : ℕ
  pub turn : Turn
  pub allowed : Memᴰ turn (orientations rotation)
  pub left : start < area.w
  pub started : is_start heights start ≡ true
  pub is : k ≡ spot_at heights area.w turn (lying turn cell) start
  pub across : start + (lying turn cell).w ≤ area.w
  pub down : top heights start (lying turn cell).w + (lying turn cell).h ≤ area.h

-- a choice that picks one of what it is given, wherever it is given one
pub record Picks (pick : List Spot → Option Spot) : Type 0 where
  pub given : (l : List Spot) (k : Spot) → pick l ≡ Some k → Memᴰ k l
  pub gives : (l : List Spot) (k : Spot) → Memᴰ k l → (j : Spot) × (pick l ≡ Some j)

-- no pixel lies in both
abbrev pub Apart : Rect → Rect → Type 0
Apart a b = (x y : ℕ) → holds_point a x y ≡ true → holds_point b x y ≡ true → ⊥

-- it lies in the area
pub record Within (area : Size) (k : Rect) : Type 0 where
  pub across : k.x + k.w ≤ area.w
  pub down : k.y + k.h ≤ area.h

-- a page's cells, each put where it fits over those before it
pub data Filled (area : Size) (rotation : Bool) : List Rect → Type 0 where
  empty : Filled area rotation []
  put : {cells : List Rect} {k : Spot} (cell : Size) → Filled area rotation cells → HasPixels cell
      → Fits (height cells) area rotation cell k → Filled area rotation (cells ++ k.at ∷ [])

-- no two of them share a pixel
abbrev pub AllApart : List Rect → Type 0
AllApart [] = Unit {0}
AllApart (k ∷ ks) = ((q : Rect) → Memᴰ q ks → Apart k q) × AllApart ks

-- the sides fit an empty area in an allowed orientation
abbrev pub SidesFit : Size → Bool → Size → Type 0
SidesFit area rotation cell =
    ((cell.w ≤ area.w) × (cell.h ≤ area.h)) ⊎ ((rotation ≡ true) × (cell.h ≤ area.w) × (cell.w ≤ area.h))

-- g is f with the columns from s up to e at height t
pub record Lifted (f g : ℕ → ℕ) (s e t : ℕ) : Type 0 where
  pub left : (c : ℕ) → c < s → g c ≡ f c
  pub here : (c : ℕ) → s ≤ c → c < e → g c ≡ t
  pub right : (c : ℕ) → e ≤ c → g c ≡ f c
