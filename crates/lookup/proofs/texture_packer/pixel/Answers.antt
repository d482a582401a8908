use native.Mathlib.Omega.{arith}
use mathlib.Core.Bool.{true, false}
use mathlib.Core.Option.{none}
use mathlib.Core.Path.{◌≡◌, sym, ap, ◌∙◌, subst}
use Rattle.std.proofs.Common.{rules, Err}
use Rattle.art.specs.Stores.{lent}
use Rattle.records.specs.Layouts.{standing, well_formed, page_count}
use Rattle.records.specs.declared.layout.Layout.{Layout}
use Rattle.records.specs.declared.refusal.Refusal.TheVariants.{NotWellFormed}
use Rattle.records.proofs.Answers.{says}
use Rattle.lookup.specs.Looking.{page_past, look_answer, looked_numbers}
use Rattle.lookup.specs.Zones.{pixel_at}
use Rattle.lookup.proofs.Answers.{look_unformed, look_no_page, look_past, look_passes, looked-refused, looked-found}
use Rattle.lookup.proofs.texture_packer.pixel.Goals.{In_ok-l}
use Rattle.lookup.proofs.texture_packer.pixel.Goals as goal

-- `pixel` asks 2, 11, 5, then looks. Assumes nothing.
-- the tested layout is the one that was handed in
same : (c : In_ok-l) → c.in_ok-l.l.layout.now ≡ c.args.l
same c = let e = c.in_ok-l.ensures in search rules

formed : (c : In_ok-l) → well_formed c.args.l ≡ true
formed c = subst (λ (l : Layout). well_formed l ≡ true) (same c) c.in_ok-l.l.tested

count : (c : In_ok-l) → page_count (standing c.in_ok-l.l.layout.now) ≡ page_count (standing c.args.l)
count c = ap (λ (l : Layout). page_count (standing l)) (same c)

past : (c : In_ok-l) → let a = c.args in page_past (lent a.stores) a.page (standing c.in_ok-l.l.layout.now) ≡ page_past (lent a.stores) a.page (standing a.l)
past c = ap (λ (l : Layout). page_past (lent c.args.stores) c.args.page (standing l)) (same c)

pub returns-in_err-l : goal.returns-in_err-l
returns-in_err-l c =
    let out : c.from_residual.result ≡ Err NotWellFormed = search rules in
    let unformed : well_formed c.args.l ≡ false = search rules in
    let both = says looked_numbers (out ∙ looked-refused _ _ _ _ _ (look_unformed _ _ _ unformed)) in
    record { value = both.0; result_value = both.1 }

pub returns-then-page_count-page : goal.returns-then-page_count-page
returns-then-page_count-page c =
    let s = (goal.at.returns-then-page_count-page c).In_ok-l in
    let both = says looked_numbers (looked-refused _ _ _ _ _ (look_no_page _ _ _ (formed s) (omega (arith, c.if-page_count-page.true, c.page_count.ensures, count s)))) in
    record { value = both.0; result_value = both.1 }

pub returns-then-page_past : goal.returns-then-page_past
returns-then-page_past c =
    let s = (goal.at.returns-then-page_past c).In_ok-l in
    let both = says looked_numbers
    (looked-refused _ _ _ _ _ (look_past _ _ _ (formed s) (omega (arith, c.if-page_count-page.false, c.page_count.ensures, count s)) (sym (past s) ∙ sym c.page_past.ensures ∙ c.if-page_past.true))) in
    record { value = both.0; result_value = both.1 }

pub returns : goal.returns
returns c =
    let s = (goal.at.returns c).In_ok-l in
    let a = c.args in
    let passes = look_passes _ _ _ (formed s) (omega (arith, c.if-page_count-page.false, c.page_count.ensures, count s)) (sym (past s) ∙ sym c.page_past.ensures ∙ c.if-page_past.false) in
    let both = says looked_numbers
    (c.pixel_at.ensures ∙ ap (λ (l : Layout). look_answer (pixel_at l (lent a.stores) a.page a.x a.y) none) (same s) ∙ looked-found _ _ _ _ _ passes) in
    record { value = both.0; result_value = both.1 }
