use Rattle.offers.proofs.Keeping.{large-is}
use Rattle.offers.proofs.too_large.Goals as goal

pub returns : goal.returns
returns c = large-is c.args.c.config c.args.s _ _ _ _ _ c.canvas_of-area.ensures c.cell_size-cell.ensures.0 c.lying_size.ensures c.fits_empty-upright.ensures c.fits_empty-turned.ensures
