use Prim.Native.Nat.{◌+◌, ◌-◌, min}
use Rattle.art.specs.Stores.{lent}
use Rattle.paint.specs.Painting.{composed_frame, SpanPainted}
use Rattle.paint.proofs.painting.paint_span.Given as goal

-- `paint_span` has painted the columns that it passed; none, where the end stands before the start. Assumes nothing.
abbrev pub invariant-loop-x : goal.invariant-loop-x
invariant-loop-x l = SpanPainted (λ i. composed_frame l.c (lent l.stores) l.g l.r (i - l.base) l.y) (l.base + l.from) (l.base + min l.x l.end) l.initial.bytes l.bytes
