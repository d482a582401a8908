use native.Mathlib.Omega.{arith}
use mathlib.Core.Path.{refl}
use Rattle.paint.proofs.Pixels.{span_more}
use Rattle.paint.proofs.painting.fill.Goals as goal

pub loop-i-preserved : goal.loop-i-preserved
loop-i-preserved c =
    let l = c.loop-i in
    let m = l.invariant.long in
    span_more _ 0 l.i _ l.bytes _ _ l.invariant (omega arith) (omega arith) refl c.put_pixel.ensures
