use Rattle.paint.specs.Painting.{SpanPainted}
use Rattle.paint.proofs.painting.fill.Given as goal

-- `fill` has painted the pixels that it passed. Assumes nothing.
abbrev pub invariant-loop-i : goal.invariant-loop-i
invariant-loop-i l = SpanPainted (λ j. l.k) 0 l.i l.initial.bytes l.bytes
