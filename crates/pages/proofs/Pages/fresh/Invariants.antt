use Rattle.pages.proofs.Laws.{Cleared}
use Rattle.pages.proofs.Pages.fresh.Given as goal

-- `fresh` has cleared p pages. Assumes nothing.
abbrev pub invariant-loop-p : goal.invariant-loop-p
invariant-loop-p l = Cleared l.w l.p l.self
