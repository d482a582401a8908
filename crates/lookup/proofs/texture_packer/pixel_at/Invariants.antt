use mathlib.Core.Path.{◌≡◌}
use lib.ListN.{drop}
use Rattle.art.specs.Stores.{lent}
use Rattle.lookup.specs.Zones.{pixel_among, pixel_at}
use Rattle.lookup.proofs.texture_packer.pixel_at.Given as goal

-- `pixel_at` passes the standing records that do not reach the pixel; the first that does shows it. Assumes nothing.
abbrev pub invariant-loop-r : goal.invariant-loop-r
invariant-loop-r l = pixel_among l.c.config (lent l.stores) l.page (drop l.r-index l.standing) l.x l.y ≡ pixel_at l.fn.l.layout.now (lent l.stores) l.page l.x l.y
