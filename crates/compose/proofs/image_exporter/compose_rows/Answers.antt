use Prim.Native.Nat.{◌*◌}
use native.Mathlib.Omega.{arith}
use mathlib.Core.Path.{◌≡◌, sym, ap, ◌∙◌}
use Rattle.std.proofs.Common.{rules, Err}
use Rattle.geometry.specs.declared.rect.Size.{Size}
use Rattle.records.specs.Layouts.{size_of_page}
use Rattle.records.specs.declared.layout.Layout.{Layout}
use Rattle.records.proofs.Answers.{says}
use Rattle.records.proofs.Pages.{side_w, side_h}
use Rattle.art.specs.Stores.{lent}
use Rattle.records.specs.Layouts.{standing}
use Rattle.lookup.specs.Looking.{page_past}
use Rattle.paint.specs.Pictures.{picture, composed_at}
use Rattle.compose.specs.Composing.{composed_numbers}
use Rattle.compose.proofs.Answers.{none_refuses, composed-refused, composed-done, kept_of_some, buffer_of_done, band-is}
use Rattle.compose.proofs.image_exporter.compose_rows.Goals.{After-size_of_page-s}
use Rattle.compose.proofs.image_exporter.compose_rows.Goals as goal

-- `compose_rows` paints where no check refuses, and else leaves the buffer. Assumes nothing.
-- the size is the lent layout's page's
sized : (c : After-size_of_page-s) → c.size_of_page-s.result ≡ size_of_page c.args.l c.args.page
sized c = c.size_of_page-s.ensures ∙ ap (λ (l : Layout). size_of_page l c.args.page) c.in_ok-l.ensures.1

pub paint_band-requires : goal.paint_band-requires
paint_band-requires c =
    let t = none_refuses _ _ _ _ _ _ c.in_ok-l.ensures.0 in
    let a = c.args in
    let z = sized (goal.at.paint_band-requires c).After-size_of_page-s in
    let w = ap (λ (k : Size). k.w) z in
    let wide = side_w a.l t.formed a.page in
    let tall = side_h a.l t.formed a.page in
    let in-page = t.within in
    let stored = ap (λ (l : Layout). page_past (lent a.stores) a.page (standing l)) c.in_ok-l.ensures.1 ∙ t.stored in
    record { l_value = stored; rows_bound = (omega arith, omega arith, t.long ∙ ap (λ (k : Size). 4 * (k.w * a.rows)) (sym z)) }

pub returns-in_err-l : goal.returns-in_err-l
returns-in_err-l c =
    let out : c.from_residual.result ≡ Err c.in_err-l.field-0.0 = search rules in
    let e = c.in_err-l.ensures in
    let both = says composed_numbers (out ∙ sym ((composed-refused _ _ _ _ _ _ _).1 e)) in
    record { value = both.0; result_value = both.1; buffer_after = kept_of_some _ _ _ _ _ _ _ _ e }

pub returns : goal.returns
returns c =
    let e = c.in_ok-l.ensures.0 in
    let a = c.args in
    let both = says composed_numbers (sym ((composed-done _ _ _ _ _ _).1 e)) in
    let is = ap (λ (l : Layout). picture (composed_at l (lent a.stores) a.page a.background) c.size_of_page-s.result.w a.first a.rows) c.in_ok-l.ensures.1 in
    record { value = both.0; result_value = both.1; buffer_after = c.paint_band.ensures ∙ is ∙ band-is _ _ _ _ _ _ _ (sized (goal.at.returns c).After-size_of_page-s) ∙ buffer_of_done _ _ _ _ _ _ _ e }
