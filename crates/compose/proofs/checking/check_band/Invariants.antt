use Prim.Native.Nat.{◌-◌, ◌≤◌}
use mathlib.Core.Path.{◌≡◌}
use lib.ListN.{length}
use Rattle.art.specs.Stores.{lent}
use Rattle.paint.specs.Pictures.{composed_at}
use Rattle.compose.proofs.Comparing.{SameBefore}
use Rattle.compose.proofs.checking.check_band.Given as goal

-- `check_band` has found no difference in the rows that it passed. Assumes nothing.
abbrev pub invariant-loop-v : goal.invariant-loop-v
invariant-loop-v l = (l.v ≤ l.rows) × (length l.room ≡ length l.initial.room) × SameBefore (composed_at l.l.layout.now (lent l.stores) l.page l.background) l.w l.first l.rows l.shown l.v

abbrev pub decreases-loop-v : goal.decreases-loop-v
decreases-loop-v l = l.rows - l.v
