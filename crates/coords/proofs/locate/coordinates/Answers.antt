use mathlib.Core.Bool.{false}
use mathlib.Core.Path.{◌≡◌, sym, ap, ◌∙◌}
use Rattle.std.specs.Prelude.{Err}
use Rattle.std.proofs.Common.{rules}
use Rattle.records.specs.Layouts.{well_formed}
use Rattle.records.specs.declared.layout.Layout.{Layout}
use Rattle.records.specs.declared.refusal.Refusal.TheVariants.{NotWellFormed}
use Rattle.records.proofs.Answers.{says}
use Rattle.records.proofs.Keys.{unkeyed}
use Rattle.coords.specs.Coordinates.{located, located_numbers}
use Rattle.coords.proofs.Answers.{unformed, keyless, read_countable, read_found}
use Rattle.coords.proofs.locate.coordinates.Goals.{In_ok-l}
use Rattle.coords.proofs.locate.coordinates.Goals as goal

-- `coordinates` asks 2, then 15; the rest is asked of the record that the key names and of its page's size. Assumes nothing.
same : (c : In_ok-l) → located c.in_ok-l.l.layout.now c.args.key c.args.request ≡ located c.args.l c.args.key c.args.request
same c =
    let e : c.in_ok-l.l.layout.now ≡ c.args.l = search rules in
    ap (λ (k : Layout). located k c.args.key c.args.request) e

pub returns-in_err-l : goal.returns-in_err-l
returns-in_err-l c =
    let e : c.from_residual.result ≡ Err NotWellFormed = search rules in
    let f : well_formed c.args.l ≡ false = search rules in
    let both = says located_numbers (e ∙ sym (unformed _ _ _ f)) in
    record { value = both.0; result_value = both.1 }

pub returns-in_default : goal.returns-in_default
returns-in_default c =
    let both = says located_numbers (sym (keyless _ _ _ c.in_ok-l.l.tested (unkeyed _ _ c.in_default.ensures)) ∙ same (goal.at.returns-in_default c).In_ok-l) in
    record { value = both.0; result_value = both.1 }

pub answer_request-requires : goal.answer_request-requires
answer_request-requires c =
    read_countable _ _ c.in_ok-l.l.tested _ c.in-Some.ensures _ c.size_of_page-s.ensures

pub returns : goal.returns
returns c =
    let both = says located_numbers (c.answer_request.ensures ∙ read_found _ _ c.in_ok-l.l.tested _ c.in-Some.ensures _ c.size_of_page-s.ensures _ ∙ same (goal.at.returns c).In_ok-l) in
    record { value = both.0; result_value = both.1 }
