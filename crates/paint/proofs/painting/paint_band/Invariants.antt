use lib.ListN.{length, drop}
use Rattle.art.specs.Stores.{lent}
use Rattle.records.specs.Layouts.{standing}
use Rattle.paint.specs.Painting.{composed_among, Shows}
use Rattle.paint.proofs.Stacks.{Left}
use Rattle.paint.proofs.painting.paint_band.Given as goal

-- `paint_band` shows the records that it passed, over the background. Assumes nothing.
abbrev pub invariant-loop-r : goal.invariant-loop-r
invariant-loop-r l =
    let rest = l.r-iterator.iter.rest.now in
    Left l.fn.l.layout.now rest × Shows (composed_among l.c.config (lent l.stores) l.page l.g (drop (length rest) (standing l.fn.l.layout.now))) l.w l.first l.rows l.bytes
