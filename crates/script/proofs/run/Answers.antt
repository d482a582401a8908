use native.Mathlib.Omega.{arith}
use mathlib.Core.List.{[]}
use mathlib.Core.Path.{◌≡◌, sym, ap, ◌∙◌}
use lib.ListN.{length}
use borrow.Author.Tests.{lt-ltb}
use Rattle.art.specs.Stores.{lent}
use Rattle.wire.specs.Bytes.{put}
use Rattle.wire.proofs.Putting.{put-none}
use Rattle.script.specs.Running.{ran}
use Rattle.script.proofs.run.Goals as goal

-- `run` says nothing where the end does not fit. Assumes nothing.
pub returns-then-answers-lt12 : goal.returns-then-answers-lt12
unfolding ran
returns-then-answers-lt12 c =
    let a = c.args in
    let none : ran a.script.now (lent a.stores) (length a.answers.now) ≡ [] = rw (lt-ltb (length a.answers.now) 12 (omega (arith, c.if-answers-lt12.true))) in
    record { value = ap length (sym none); answers_after = sym (put-none a.answers.now 0) ∙ ap (put a.answers.now 0) (sym none) }
