use Prim.Native.Nat.{◌+◌}
use mathlib.Core.Path.{◌≡◌}
use lib.ListN.{length, drop}
use Rattle.job.specs.Jobs.{after, lines_in}
use Rattle.job.specs.declared.reading.State.TheVariants.{Start}
use Rattle.job.proofs.reading.read_lines.Given as goal

-- `read_lines` takes line after line: what the rest of the text leads to is what the text leads to. Assumes nothing.
abbrev pub invariant-loop-i : goal.invariant-loop-i
invariant-loop-i l =
    (goal.iterator-loop-i).can_next l.i-iterator × (goal.iterator-loop-i).is_finite l.i-iterator
    × (after 1 (lines_in l.text) Start ≡ after (length l.yielded + 1) (drop (length l.yielded) (lines_in l.text)) l.state)
