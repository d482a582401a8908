use Prim.Native.Nat.{ℕ}
use mathlib.Core.Path.{◌≡◌}
use lib.ListN.{get_or}
use Rattle.geometry.specs.Placing.{rank, best_of, candidates_from, spot_for}
use Rattle.geometry.specs.Choice.{lowest}
use Rattle.skyline.specs.Skyline.{lent, Level}
use Rattle.skyline.proofs.skyline.Segments.find_skyline.Given as goal

abbrev pub invariant-loop-i : goal.invariant-loop-i
invariant-loop-i l =
    (l.low ≡ lowest l.area.h l.found)
    × ((f : ℕ → ℕ) → Level f (lent l.self) → best_of rank l.found (candidates_from f l.area l.rotation l.cell (get_or l.self.xs.now l.i 0)) ≡ spot_for f l.area l.rotation l.cell)
