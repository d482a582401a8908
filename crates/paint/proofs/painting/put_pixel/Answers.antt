use native.Mathlib.Omega.{arith}
use Rattle.paint.proofs.Pixels.{pixel_put}
use Rattle.paint.proofs.painting.put_pixel.Goals as goal

pub returns : goal.returns
returns c = pixel_put _ c.args.i _ c.args.k _ (omega arith) c.copy_from_slice.ensures.after c.requires
