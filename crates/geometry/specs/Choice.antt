-- The choice as the code makes it: two answers compared, and what can still be better.
-- Assumes nothing.
use Rattle.std.specs.Prelude.{ℕ, ◌+◌, min, Option, Some, None}
use Rattle.geometry.specs.Placing.{better, rank}
use Rattle.geometry.specs.declared.spot.Spot.{Spot}

-- the better of two answers, the earlier first
unfoldable pub choice : Option Spot → Option Spot → Option Spot
choice o None = o
choice o (Some k) = better rank o k

-- the rows that a cell may end in and still rank before what was found
unfoldable pub lowest : ℕ → Option Spot → ℕ
lowest H None = H
lowest H (Some k) = min H (k.bottom + 1)
