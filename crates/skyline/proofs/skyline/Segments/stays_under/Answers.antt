use Prim.Native.Nat.{◌-◌, min}
use mathlib.Core.Path.{sym}
use native.Mathlib.Nat.{lt_of_lt_of_le}
use lib.ListN.{get_or}
use native.Mathlib.Omega.{arith}
use borrow.Author.Tests.{lt-leb}
use Rattle.geometry.proofs.Heights.{top-none}
use Rattle.skyline.proofs.Skylines.{top-step, top_over}
use Rattle.skyline.proofs.skyline.Segments.stays_under.Goals as goal

pub loop-j-init : goal.loop-j-init
loop-j-init c = (omega arith, λ f lv. omega (arith, top-none f (get_or c.args.self.xs.now c.args.i 0) (min (get_or c.args.self.xs.now c.args.i 0) c.args.e - get_or c.args.self.xs.now c.args.i 0) (omega arith)))

pub returns-then-most-self : goal.returns-then-most-self
returns-then-most-self c f lv =
    let over = top_over _ _ c.requires.shape.1 f lv (get_or c.args.self.xs.now c.args.i 0) c.loop-j.j c.args.e (omega arith) (omega arith) (omega arith) in
    sym (lt-leb _ _ (lt_of_lt_of_le c.if-most-self.true over))

pub loop-j-preserved : goal.loop-j-preserved
loop-j-preserved c =
    let sh = c.requires.shape.1 in
    let up = sh.rises c.loop-j.j (omega arith) in (
      omega arith,
      λ f lv.
          let step = top-step _ _ sh f lv (get_or c.args.self.xs.now c.args.i 0) c.loop-j.j c.args.e (omega arith) (omega arith) (omega arith) in
          let so = c.loop-j.invariant.1 f lv in
          omega arith,
    )
