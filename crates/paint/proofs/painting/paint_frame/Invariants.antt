use Rattle.art.specs.Stores.{lent}
use Rattle.paint.specs.Painting.{composed_frame}
use Rattle.paint.proofs.Frames.{RowsPainted}
use Rattle.paint.proofs.painting.paint_frame.Given as goal

-- `paint_frame` has painted the rows that it passed. Assumes nothing.
abbrev pub invariant-loop-y : goal.invariant-loop-y
invariant-loop-y l = RowsPainted (composed_frame l.c.config (lent l.stores) l.g l.r) l.z l.w l.first l.rows l.y l.initial.bytes l.bytes
