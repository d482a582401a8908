-- The skyline as the code keeps it: n segments, of which segment i has the columns from xs i up to xs (i + 1) and the height ys i.
-- It lies in two lists of any length, one with a place for each segment and for the edge, the other with one for each segment.
-- Assumes nothing.
use Rattle.std.specs.Prelude.{ℕ, ◌+◌, ◌≤◌, ◌<◌, max, ◌≡◌, Bool, cond, List, length, get_or, Option, Some, None, ◌⊎◌}
use Rattle.geometry.specs.Placing.{height, spot_for, inside, grown}
use Rattle.geometry.specs.Fits.{Lifted}
use Rattle.geometry.specs.declared.rect.Rect.{Rect}
use Rattle.geometry.specs.declared.rect.Size.{Size}
use Rattle.geometry.specs.declared.spot.Spot.{Spot}
use Rattle.skyline.specs.declared.skyline.Segments.{Segments}
use Rattle.skyline.specs.declared.skyline.Skyline.{Skyline}

-- a skyline: where its segments start, how high they are, and how many there are
pub record Outline : Type 0 where
  pub xs : List ℕ
  pub ys : List ℕ
  pub n : ℕ

abbrev pub outline : List ℕ → List ℕ → ℕ → Outline
outline xs ys n = record { xs = xs; ys = ys; n = n }

-- the one whose lists are lent
abbrev pub lent : Segments → Outline
lent s = outline s.xs.now s.ys.now s.n

-- the one in 258 places
abbrev pub stored : Skyline → Outline
stored k = outline k.xs k.ys k.n

-- these are all there
pub record Whole (k : Skyline) : Type 0 where
  pub wide-x : length k.xs ≡ 258
  pub wide-y : length k.ys ≡ 258

-- the spot, if it fits
unfoldable pub fitted : Size → Spot → Option Spot
fitted area k = cond (inside area k.at) (Some k) None

-- the column where it ends
abbrev pub edge : Outline → ℕ
edge k = get_or k.xs k.n 0

-- the segments follow each other from column 0 to column e, none is empty, and neighbours differ in height; there is a place for
-- each, and for the edge
pub record Shape (e : ℕ) (k : Outline) : Type 0 where
  pub room-x : k.n < length k.xs
  pub room-y : k.n ≤ length k.ys
  pub first : get_or k.xs 0 0 ≡ 0
  pub last : get_or k.xs k.n 0 ≡ e
  pub rises : (i : ℕ) → i < k.n → get_or k.xs i 0 < get_or k.xs (i + 1) 0
  pub steps : (i : ℕ) → i + 1 < k.n → get_or k.ys i 0 ≡ get_or k.ys (i + 1) 0 → ⊥

-- the columns of each segment have its height
abbrev pub Level : (ℕ → ℕ) → Outline → Type 0
Level heights k = (i c : ℕ) → i < k.n → get_or k.xs i 0 ≤ c → c < get_or k.xs (i + 1) 0 → heights c ≡ get_or k.ys i 0

-- a cell that lies as `size` says is too wide from column s on, or too high, for the area
abbrev pub TooSmall : Size → Size → ℕ → Type 0
TooSmall area size s = (area.w < s + size.w) ⊎ (area.h < size.h)

-- it is not: the column where it ends, and the greatest height that it can stand on
pub record Limits (area size : Size) (s end most : ℕ) : Type 0 where
  pub across : end ≡ s + size.w
  pub in_area : end ≤ area.w
  pub down : most + size.h ≡ area.h

-- nothing after the place of segment n of the old one has changed
pub record Untouched (old new : Outline) : Type 0 where
  pub after-x : (i : ℕ) → old.n + 1 < i → get_or new.xs i 0 ≡ get_or old.xs i 0
  pub after-y : (i : ℕ) → old.n < i → get_or new.ys i 0 ≡ get_or old.ys i 0

-- the skyline with the columns from its edge up to e added at height y
pub record Pushed (old : Outline) (y e : ℕ) (new : Outline) : Type 0 where
  pub shape : Shape e new
  pub count : new.n ≤ old.n + 1
  pub level : (f : ℕ → ℕ) → Level f old → ((c : ℕ) → edge old ≤ c → c < e → f c ≡ y) → Level f new
  pub untouched : Untouched old new

-- the same with what is left, right of column e, of an old segment of height y that ends at column x
pub record Kept (old : Outline) (y x e : ℕ) (new : Outline) : Type 0 where
  pub covered : x ≤ e → new ≡ old
  pub rest : e < x → Pushed old y x new

-- s is the first column of a segment
abbrev pub Starts : Outline → ℕ → Type 0
Starts k s = (i : ℕ) × (i < k.n) × (get_or k.xs i 0 ≡ s)

-- the skyline with the columns from s up to e at height t
pub record Raised (W : ℕ) (old : Outline) (s e t : ℕ) (new : Outline) : Type 0 where
  pub shape : Shape W new
  pub count : new.n ≤ old.n + 1
  pub level : (f g : ℕ → ℕ) → Lifted f g s e t → Level f old → Level g new

-- what is done when the old segments below j are: the new skyline reaches column max (xs j) e
pub record Part (old : Outline) (s e t j : ℕ) (new : Outline) : Type 0 where
  pub shape : Shape (max (get_or old.xs j 0) e) new
  pub count : new.n ≤ j + 1
  pub level : (f g : ℕ → ℕ) → Lifted f g s e t → Level f old → Level g new

-- what is still to be read: segment j, of height y up to column x, is taken out, and those after it are in their places
pub record Ahead (old : Outline) (j y x : ℕ) (new : Outline) : Type 0 where
  pub here-y : j < old.n → y ≡ get_or old.ys j 0
  pub here-x : j < old.n → x ≡ get_or old.xs (j + 1) 0
  pub after-y : (i : ℕ) → j < i → i < old.n → get_or new.ys i 0 ≡ get_or old.ys i 0
  pub after-x : (i : ℕ) → j + 1 < i → i ≤ old.n → get_or new.xs i 0 ≡ get_or old.xs i 0

-- the walk from segment j on: old skyline, what is done, what is still to be read, and a place for one segment more
pub record Walked (W : ℕ) (old : Outline) (s e t j y x : ℕ) (new : Outline) : Type 0 where
  pub before : Shape W old
  pub begun : s < e
  pub ended : e ≤ W
  pub reached : j ≤ old.n
  pub part : Part old s e t j new
  pub ahead : Ahead old j y x new
  pub room-x : old.n + 1 < length new.xs
  pub room-y : old.n < length new.ys

-- the skyline of a page with these cells, in an area W wide: at most one segment more than cells
pub record Holds (W : ℕ) (cells : List Rect) (k : Outline) : Type 0 where
  pub shape : Shape W k
  pub level : Level (height cells) k
  pub few : k.n ≤ length cells + 1

-- there is a place for one segment more than cells, and for the edge, with one cell more
pub record Room (cells : List Rect) (k : Outline) : Type 0 where
  pub for_x : length cells + 2 < length k.xs
  pub for_y : length cells + 1 < length k.ys

-- the best spot for a cell, and the skyline with the cell there
pub record Put (area : Size) (rotation : Bool) (cell : Size) (cells : List Rect) (r : Option Spot) (k : Outline) : Type 0 where
  pub found : r ≡ spot_for (height cells) area rotation cell
  pub holds : Holds area.w (grown cells r) k
