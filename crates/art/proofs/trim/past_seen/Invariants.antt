use Prim.Native.Nat.{ℕ, ◌≤◌, ◌<◌}
use mathlib.Core.Bool.{false}
use Rattle.art.proofs.trim.past_seen.Given as goal

-- `past_seen` has found nothing from k on. Assumes nothing.
abbrev pub invariant-loop-k : goal.invariant-loop-k
invariant-loop-k g l = (j : ℕ) → l.k ≤ j → j < l.n → goal.F-post g l.seen j false
