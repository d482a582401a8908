use Prim.Native.Nat.{◌*◌}
use native.Mathlib.Omega.{arith}
use mathlib.Core.Path.{◌≡◌, refl, sym, ap, ◌∙◌}
use Rattle.std.proofs.Common.{rules, Ok, Err}
use Rattle.geometry.specs.declared.rect.Size.{Size}
use Rattle.art.specs.Stores.{lent}
use Rattle.records.specs.Layouts.{standing, size_of_page}
use Rattle.records.specs.declared.layout.Layout.{Layout}
use Rattle.records.proofs.Answers.{says}
use Rattle.records.proofs.Pages.{side_w, side_h}
use Rattle.lookup.specs.Looking.{page_past}
use Rattle.paint.specs.Pictures.{composed_at}
use Rattle.compose.specs.Checking.{compared, checked_numbers}
use Rattle.compose.proofs.Answers.{none_refuses, checked_refused, compared_checked}
use Rattle.compose.proofs.checking.check_rows.Goals.{After-size_of_page-s}
use Rattle.compose.proofs.checking.check_rows.Goals as goal

-- `check_rows` compares where no check refuses. Assumes nothing.
-- the size is the lent layout's page's
sized : (c : After-size_of_page-s) → c.size_of_page-s.result ≡ size_of_page c.args.l c.args.page
sized c = c.size_of_page-s.ensures ∙ ap (λ (l : Layout). size_of_page l c.args.page) c.in_ok-l.ensures.1

pub check_band-off-requires : goal.check_band-off-requires
check_band-off-requires c =
    let t = none_refuses _ _ _ _ _ _ c.in_ok-l.ensures.0 in
    let a = c.args in
    let z = sized (goal.at.check_band-off-requires c).After-size_of_page-s in
    let w = ap (λ (k : Size). k.w) z in
    let wide = side_w a.l t.formed a.page in
    let some = t.wide in
    let tall = side_h a.l t.formed a.page in
    let in-page = t.within in
    let stored = ap (λ (l : Layout). page_past (lent a.stores) a.page (standing l)) c.in_ok-l.ensures.1 ∙ t.stored in
    record { l_value = stored; le_w = (omega arith, omega arith, omega arith, c.new_room-room.ensures, t.long ∙ ap (λ (k : Size). 4 * (k.w * a.rows)) (sym z)) }

pub returns-in_err-l : goal.returns-in_err-l
returns-in_err-l c =
    let out : c.from_residual.result ≡ Err c.in_err-l.field-0.0 = search rules in
    let both = says checked_numbers (out ∙ sym ((checked_refused _ _ _ _ _ _ _ _).1 c.in_err-l.ensures)) in
    record { value = both.0; result_value = both.1 }

pub returns : goal.returns
returns c =
    let a = c.args in
    let z = sized (goal.at.returns c).After-size_of_page-s in
    let picture = ap (λ (l : Layout). Ok (compared (composed_at l (lent a.stores) a.page a.background) c.size_of_page-s.result.w a.first a.rows a.shown.now)) c.in_ok-l.ensures.1 in
    let wide = ap (λ (k : Size). Ok (compared (composed_at a.l (lent a.stores) a.page a.background) k.w a.first a.rows a.shown.now)) z in
    let both = says checked_numbers (ap Ok c.check_band-off.ensures ∙ picture ∙ wide ∙ sym (compared_checked _ _ _ _ _ _ _ c.in_ok-l.ensures.0 refl)) in
    record { value = both.0; result_value = both.1 }
