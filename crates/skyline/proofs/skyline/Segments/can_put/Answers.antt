use mathlib.Core.Path.{refl, ◌∙◌}
use native.Mathlib.Omega.{arith}
use Rattle.skyline.proofs.Skylines.{seg_width}
use Rattle.skyline.proofs.Search.{outside, not-put, put_low, put-here}
use Rattle.skyline.proofs.skyline.Segments.can_put.Goals as goal

pub returns-in_err-end : goal.returns-in_err-end
returns-in_err-end c f lv = c.from_residual.ensures ∙ not-put f _ _ _ _ (outside f _ _ _ c.in_err-end.ensures)

pub returns-then-most-y : goal.returns-then-most-y
returns-then-most-y c f lv = put_low f _ _ _ _ _ c.in_ok-end.ensures _ _ (c.top_of-y.ensures f lv) (omega arith)

pub returns : goal.returns
returns c f lv =
    put-here f _ _ _ _ _ c.in_ok-end.ensures _ _ _ _ (c.top_of-y.ensures f lv) (omega arith) refl
    (seg_width _ _ c.requires.shape f lv c.args.i c.requires.i_lt_n.0)
