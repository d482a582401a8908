use lib.ListN.{get_or}
use native.Mathlib.Omega.{arith}
use Rattle.geometry.proofs.Heights.{top-none}
use Rattle.skyline.proofs.Skylines.{top-step}
use Rattle.skyline.proofs.skyline.Segments.top_of.Goals as goal

pub loop-j-init : goal.loop-j-init
loop-j-init c = (omega arith, λ f lv. top-none f _ _ (omega arith))

pub loop-j-preserved : goal.loop-j-preserved
loop-j-preserved c =
    let sh = c.requires.shape.1 in
    let up = sh.rises c.loop-j.j (omega arith) in (
      omega arith,
      λ f lv.
          let step = top-step _ _ sh f lv (get_or c.args.self.xs.now c.args.i 0) c.loop-j.j c.args.e (omega arith) (omega arith) (omega arith) in
          let so = c.loop-j.invariant.1 f lv in
          omega arith,
    )
