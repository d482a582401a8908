use native.Mathlib.Omega.{arith}
use Rattle.records.proofs.Codes.{record_row}
use Rattle.records.proofs.Checks.{bounded}
use Rattle.records.proofs.frame.record_ok.Goals as goal

pub overflow_add-b : goal.overflow_add-b
overflow_add-b c = let b = bounded _ c.args.c.tested in omega (arith, b.border)

pub overflow_add-b-2 : goal.overflow_add-b-2
overflow_add-b-2 c = let b = bounded _ c.args.c.tested in omega (arith, b.border)

pub returns : goal.returns
returns c =
    record_row c.args.c.config c.args.r _ _ _ _ _ _ _
    c.box_of-kept.ensures
    c.whole_of-whole.ensures
    c.is_within.ensures
    c.is_within-2.ensures
    c.is_within-3.ensures
    c.is_within-4.ensures
    c.box_inside.ensures
