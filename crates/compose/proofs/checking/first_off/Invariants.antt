use Prim.Native.Nat.{ℕ, ◌<◌}
use mathlib.Core.Path.{◌≡◌}
use mathlib.Core.Bool.{false}
use Rattle.compose.specs.Comparing.{off_at}
use Rattle.compose.proofs.checking.first_off.Given as goal

-- `first_off` has found no difference before column x. Assumes nothing.
abbrev pub invariant-loop-x : goal.invariant-loop-x
invariant-loop-x l = (k : ℕ) → k < l.x → off_at l.shown l.wanted l.base k ≡ false
