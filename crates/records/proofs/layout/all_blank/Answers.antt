use Rattle.std.proofs.Common.{rules, ◌≡◌, true, false}
use Rattle.std.proofs.lemmas.Iterator.{cases_from_all, YieldsList-from_slice}
use borrow.Author.Tests.{tests}
use Rattle.records.specs.Records.{is_blank}
use Rattle.records.proofs.Rows.{all_is}
use Rattle.records.proofs.layout.all_blank.Goals as goal

pub returns : goal.returns
returns c =
    all_is _ _ _
    (cases_from_all _ _ _ (λ x. is_blank x ≡ true) (λ x. is_blank x ≡ false) c.all.ensures.ran (YieldsList-from_slice c.args.records.now cc)
    (λ x q k. search (rules, tests))
    (λ x q k. search (rules, tests)))
