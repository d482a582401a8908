use Prim.Native.Nat.{ℕ, ◌<◌}
use mathlib.Core.Bool.{false}
use Rattle.art.proofs.trim.first_seen.Given as goal

-- `first_seen` has found nothing before k. Assumes nothing.
abbrev pub invariant-loop-k : goal.invariant-loop-k
invariant-loop-k g l = (j : ℕ) → j < l.k → goal.F-post g l.seen j false
