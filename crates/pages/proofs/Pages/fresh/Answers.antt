use native.Mathlib.Omega.{arith}
use Rattle.pages.proofs.Laws.{cleared_none, cleared_more, cleared_all}
use Rattle.pages.proofs.Pages.fresh.Goals as goal

pub loop-p-init : goal.loop-p-init
loop-p-init c = cleared_none _ _ (omega arith)

pub loop-p-preserved : goal.loop-p-preserved
loop-p-preserved c =
    let l = c.loop-p in
    let e = c.clear.ensures in
    cleared_more _ l.p l.self c.clear.new.self (omega arith) e.whole e.holds l.invariant

pub returns : goal.returns
returns c = cleared_all _ _ _ (omega arith) c.loop-p.invariant
