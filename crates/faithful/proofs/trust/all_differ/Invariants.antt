use mathlib.Core.Path.{◌≡◌}
use lib.ListN.{drop}
use Rattle.faithful.specs.Replay.{distinct}
use Rattle.faithful.proofs.trust.all_differ.Given as goal

abbrev pub invariant-loop-i : goal.invariant-loop-i
invariant-loop-i l = distinct (drop l.i l.keys) ≡ distinct l.keys
