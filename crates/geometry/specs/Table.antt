-- The computed table of placing on one page: cells placed one after the other, and where each goes. The area is the canvas, a row
-- less than document 01's maxima. Assumes nothing.
use Rattle.std.specs.Prelude.{ℕ, Bool, true, false, not, List, [], ◌∷◌, map, Option, Some, None}
use Rattle.geometry.specs.Placing.{packed, turn_number}
use Rattle.geometry.specs.Rects.{holds_point, holds_rect, on_outline}
use Rattle.geometry.specs.declared.rect.Rect.{Rect}
use Rattle.geometry.specs.declared.rect.Size.{Size}
use Rattle.geometry.specs.declared.spot.Spot.{Spot}

pub record Line : Type 0 where
  pub area : Size
  pub rotation : Bool
  pub cells : List Size
  pub places : List (List ℕ)

abbrev size : ℕ → ℕ → Size
size w h = record { w = w; h = h }

abbrev line : Size → Bool → List Size → List (List ℕ) → Line
line area rotation cells places = record { area = area; rotation = rotation; cells = cells; places = places }

-- a cell's place: column, row, width and height as it lies, 0 upright or 1 turned
abbrev at : ℕ → ℕ → ℕ → ℕ → ℕ → List ℕ
at x y w h t = x ∷ y ∷ w ∷ h ∷ t ∷ []

-- no place
abbrev nowhere : List ℕ
nowhere = []

unfoldable pub place_of : Option Spot → List ℕ
place_of None = nowhere
place_of (Some k) = at k.at.x k.at.y k.at.w k.at.h (turn_number k.turn)

unfoldable pub computed : Line → List (List ℕ)
computed l = map place_of (packed l.area l.rotation [] l.cells)

-- lines of our own, each against a wrong reading
abbrev pub table : List Line
table =
    -- lower start comes before upright
    line (size 2 2) true (size 1 1 ∷ size 1 2 ∷ []) (at 0 0 1 1 0 ∷ at 0 1 2 1 1 ∷ [])
    -- and so does the narrower segment
    ∷ line (size 5 6) true (size 2 1 ∷ size 2 2 ∷ size 2 2 ∷ size 3 4 ∷ [])
    (at 0 0 2 1 0 ∷ at 2 0 2 2 0 ∷ at 0 1 2 2 0 ∷ at 0 3 4 3 1 ∷ [])
    -- both orientations end in one row at one start: upright
    ∷ line (size 3 3) true (size 1 1 ∷ size 2 2 ∷ size 1 2 ∷ []) (at 0 0 1 1 0 ∷ at 1 0 2 2 0 ∷ at 0 1 1 2 0 ∷ [])
    -- the bottom row decides before the row of the top, and before the height
    ∷ line (size 3 2) true (size 2 1 ∷ size 2 1 ∷ []) (at 0 0 2 1 0 ∷ at 2 0 1 2 1 ∷ [])
    -- turning is tried only if allowed
    ∷ line (size 8 3) true (size 2 8 ∷ []) (at 0 0 8 2 1 ∷ [])
    ∷ line (size 8 3) false (size 2 8 ∷ []) (nowhere ∷ [])
    -- nothing fits an area of no rows
    ∷ line (size 8 0) true (size 1 1 ∷ []) (nowhere ∷ [])
    -- the row where a cell stands counts against the area's height
    ∷ line (size 3 4) false (size 1 2 ∷ size 2 1 ∷ size 3 1 ∷ size 1 1 ∷ size 1 1 ∷ size 3 1 ∷ [])
    (at 0 0 1 2 0 ∷ at 1 0 2 1 0 ∷ at 0 2 3 1 0 ∷ at 0 3 1 1 0 ∷ at 1 3 1 1 0 ∷ nowhere ∷ [])
    -- a column higher than its left neighbour is a start too, and ends a segment
    ∷ line (size 5 3) false (size 2 1 ∷ size 1 2 ∷ size 2 1 ∷ size 1 1 ∷ [])
    (at 0 0 2 1 0 ∷ at 2 0 1 2 0 ∷ at 3 0 2 1 0 ∷ at 0 1 1 1 0 ∷ [])
    ∷ []

-- the points of a rectangle of 3 columns by 2 rows at (1, 1), and those of its outline, which goes on outside it
abbrev pane : Rect
pane = record { x = 1; y = 1; w = 3; h = 2 }

abbrev pub points : List Bool
points =
    holds_point pane 1 1
    ∷ holds_point pane 3 2
    ∷ not (holds_point pane 0 1)
    ∷ not (holds_point pane 4 2)
    ∷ not (holds_point pane 1 0)
    ∷ not (holds_point pane 3 3)
    ∷ on_outline pane 1 9
    ∷ on_outline pane 3 0
    ∷ on_outline pane 7 1
    ∷ on_outline pane 2 2
    ∷ not (on_outline pane 2 3)
    ∷ not (on_outline pane 4 0)
    ∷ holds_rect pane pane
    ∷ holds_rect pane (record { x = 3; y = 2; w = 1; h = 1 })
    ∷ not (holds_rect pane (record { x = 3; y = 2; w = 2; h = 1 }))
    ∷ not (holds_rect pane (record { x = 0; y = 1; w = 3; h = 2 }))
    ∷ []
