use Prim.Native.Nat.{ℕ}
use mathlib.Core.List.{List}
use mathlib.Core.Path.{◌≡◌}
use Rattle.std.specs.Prelude.{Ok, Err}
use Rattle.records.proofs.Answers.{says}
use Rattle.rules.specs.Operations.{Offering, offered_numbers}
use Rattle.faithful.proofs.Trusting.{Formed2, stands_on}
use Rattle.layout.proofs.Answering.{offer-distrusted, offer-rest}
use Rattle.layout.proofs.multi_texture_packer.offer.Goals.{In-Ok}
use Rattle.layout.proofs.multi_texture_packer.offer.Goals as goal

abbrev numbers : Offering → List ℕ
numbers o = offered_numbers o.answer

told : (c : In-Ok) → c.trusted.result ≡ Ok c.in-Ok.pages
told c = cc

stands : (c : In-Ok) → Formed2 c.args.l c.trusted.result c.trusted.ensures.is
stands c = stands_on _ _ _ _ (told c)

pub invariant_of-tested : goal.invariant_of-tested
invariant_of-tested c = record { tested = (stands (goal.at.invariant_of-tested c).In-Ok).formed }

pub offer_on-requires : goal.offer_on-requires
offer_on-requires c = c.trusted.ensures.skies _ (told (goal.at.offer_on-requires c).In-Ok)

pub returns-in-Err : goal.returns-in-Err
returns-in-Err c =
    let e : c.trusted.result ≡ Err c.in-Err.refusal = cc in
    let both = says numbers (offer-distrusted c.args.l _ c.trusted.ensures.is _ _ _ _ e) in
    record { value = both.0; answer_value = both.1 }

pub returns-in-Ok : goal.returns-in-Ok
returns-in-Ok c =
    let f = stands (goal.at.returns-in-Ok c).In-Ok in
    let both = says numbers (offer-rest _ f.formed f.is-faithful _ _ _ _ c.offer_on.ensures) in
    record { value = both.0; answer_value = both.1 }
