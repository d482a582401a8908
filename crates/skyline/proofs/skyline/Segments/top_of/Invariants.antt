use Prim.Native.Nat.{ℕ, ◌≤◌, ◌-◌, min}
use mathlib.Core.Path.{◌≡◌}
use lib.ListN.{get_or}
use Rattle.geometry.specs.Placing.{top}
use Rattle.skyline.specs.Skyline.{lent, Level}
use Rattle.skyline.proofs.skyline.Segments.top_of.Given as goal

abbrev pub invariant-loop-j : goal.invariant-loop-j
invariant-loop-j l =
    (get_or l.self.xs.now l.i 0 ≤ get_or l.self.xs.now l.j 0)
    × ((f : ℕ → ℕ) → Level f (lent l.self) → l.y ≡ top f (get_or l.self.xs.now l.i 0) (min (get_or l.self.xs.now l.j 0) l.e - get_or l.self.xs.now l.i 0))
