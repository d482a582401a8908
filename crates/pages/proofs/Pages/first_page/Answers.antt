use mathlib.Core.Path.{sym, ◌∙◌}
use native.Mathlib.Omega.{arith}
use borrow.Author.Count.{below_more}
use Rattle.pages.proofs.Laws.{page-found, page-none}
use Rattle.pages.proofs.Pages.first_page.Goals as goal

pub returns-then-can_pack_on : goal.returns-then-can_pack_on
returns-then-can_pack_on c cells m st =
    let l = c.loop-p in
    page-found cells _ _ _ _ l.p (omega arith) (l.invariant cells m st) (sym (c.can_pack_on.ensures cells m st) ∙ c.if-can_pack_on.true)

pub loop-p-preserved : goal.loop-p-preserved
loop-p-preserved c cells m st =
    below_more _ _ (c.loop-p.invariant cells m st) (sym (c.can_pack_on.ensures cells m st) ∙ c.if-can_pack_on.false)

pub returns : goal.returns
returns c cells m st = page-none cells _ _ _ _ (λ k h. c.loop-p.invariant cells m st k (omega arith))
