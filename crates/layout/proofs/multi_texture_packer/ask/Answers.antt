use mathlib.Core.Path.{◌≡◌, ◌∙◌, subst}
use Rattle.geometry.specs.Placing.{is_found}
use Rattle.records.specs.Refusals.{first_refusal}
use Rattle.records.specs.declared.texture_packer_config.Config.{Config}
use Rattle.rules.specs.Placing.{spot_on, cells_on}
use Rattle.layout.specs.Rest.{ask_rest}
use native.Mathlib.Omega.{arith}
use Rattle.std.specs.Prelude.{Err}
use Rattle.std.proofs.Common.{rules}
use Rattle.records.proofs.Answers.{says}
use Rattle.records.proofs.Pages.{count-few}
use Rattle.records.specs.Layouts.{standing}
use Rattle.rules.specs.Operations.{ask_answer, asked_numbers}
use Rattle.faithful.proofs.Trusting.{Formed2, stands_on}
use Rattle.faithful.proofs.Sofar.{skies-as}
use Rattle.layout.proofs.Answering.{ask-distrusted, ask-rest}
use Rattle.layout.proofs.multi_texture_packer.ask.Goals.{In_ok-pages}
use Rattle.layout.proofs.multi_texture_packer.ask.Goals as goal

stands : (c : In_ok-pages) → Formed2 c.args.l c.trusted.result c.trusted.ensures.is
stands c = stands_on _ _ _ _ c.in_ok-pages.was

pub invariant_of-tested : goal.invariant_of-tested
invariant_of-tested c = record { tested = (stands (goal.at.invariant_of-tested c).In_ok-pages).formed }

pub ask_on-requires : goal.ask_on-requires
ask_on-requires c =
    let f = stands (goal.at.ask_on-requires c).In_ok-pages in
    let sk = c.trusted.ensures.skies _ c.in_ok-pages.was in
    record { c_value = omega (arith, sk.count, count-few _ f.formed); skies = (_, skies-as c.config.ensures sk) }

pub returns-in_err-pages : goal.returns-in_err-pages
returns-in_err-pages c =
    let e : c.from_residual.result ≡ Err c.in_err-pages.field-0.0 = search rules in
    let both = says asked_numbers (e ∙ ask-distrusted c.args.l _ c.trusted.ensures.is c.args.page c.args.size _ c.in_err-pages.was) in
    record { value = both.0; result_value = both.1 }

pub returns : goal.returns
returns c =
    let f = stands (goal.at.returns c).In_ok-pages in
    let a = c.args in
    let so = subst
    (λ (k : Config). c.ask_on.result ≡ ask_answer (is_found (spot_on k (cells_on k (standing a.l) a.page.0) a.size)) (first_refusal (ask_rest (standing a.l) a.page a.size)))
    c.config.ensures (c.ask_on.ensures (standing a.l) (skies-as c.config.ensures (c.trusted.ensures.skies _ c.in_ok-pages.was))) in
    let both = says asked_numbers (ask-rest _ f.formed f.is-faithful _ _ _ so) in
    record { value = both.0; result_value = both.1 }
