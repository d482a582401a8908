-- No more cases agree than there were turns.
use Rattle.std.proofs.Common.{◌≤◌}
use Rattle.replay.proofs.replay.Given as goal

abbrev pub invariant-loop-i : goal.invariant-loop-i
invariant-loop-i g l = l.agree ≤ l.i-counter
