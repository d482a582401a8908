use Rattle.std.proofs.Common.{rules, ◌≡◌, true, false}
use Rattle.std.proofs.lemmas.Iterator.{cases_from_all, YieldsList-from_slice}
use borrow.Author.Tests.{tests}
use Rattle.records.specs.Records.{record_well_formed}
use Rattle.records.proofs.Rows.{all_is}
use Rattle.records.proofs.layout.records_ok.Goals as goal

pub returns : goal.returns
returns c =
    all_is _ _ _
    (cases_from_all _ _ _ (λ x. record_well_formed c.args.c.config x ≡ true) (λ x. record_well_formed c.args.c.config x ≡ false) c.all.ensures.ran (YieldsList-from_slice c.args.records.now cc)
    (λ x q k. search (rules, tests))
    (λ x q k. search (rules, tests)))
