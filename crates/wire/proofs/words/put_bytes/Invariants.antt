use mathlib.Core.Path.{◌≡◌}
use lib.Seq.{paste}
use Rattle.wire.proofs.words.put_bytes.Given as goal

-- `put_bytes` has copied i bytes, one by one. Assumes nothing.
abbrev pub invariant-loop-i : goal.invariant-loop-i
invariant-loop-i l = l.bytes ≡ paste l.initial.bytes l.at l.part l.i
