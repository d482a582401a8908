use native.Mathlib.Omega.{arith}
use mathlib.Core.Bool.{false, not}
use mathlib.Core.Logic.{inl, inr}
use mathlib.Core.Path.{◌≡◌, refl, sym, ap, ◌∙◌}
use mathlib.Core.Option.{Option}
use Rattle.std.proofs.Common.{rules, Err}
use Rattle.art.specs.Stores.{lent}
use Rattle.records.specs.declared.layout.Layout.{Layout}
use Rattle.records.specs.declared.refusal.Refusal.{Refusal}
use Rattle.records.specs.declared.refusal.Refusal.TheVariants.{NotWellFormed}
use Rattle.geometry.specs.declared.rect.Size.{Size}
use Rattle.records.specs.Layouts.{well_formed, size_of_page}
use Rattle.records.specs.Operations.{no_such_page}
use Rattle.records.proofs.Pages.{side_w, side_h}
use Rattle.compose.specs.Composing.{empty_page, bad_rows, bad_length, band_refusal}
use Rattle.compose.proofs.Answers.{no_page, a_page, band_refuses, band-passes, rows_few}
use Rattle.compose.proofs.image_exporter.band_answer.Goals.{In_ok-l}
use Rattle.compose.proofs.image_exporter.band_answer.Goals.{Else-page_count-page}
use Rattle.compose.proofs.image_exporter.band_answer.Goals.{Else-empty_page}
use Rattle.compose.proofs.image_exporter.band_answer.Goals.{Else-bad_rows}
use Rattle.compose.proofs.image_exporter.band_answer.Goals.{Else-bad_length}
use Rattle.compose.proofs.image_exporter.band_answer.Goals as goal

-- `band_answer` asks 2 11 12 13 14 5. Assumes nothing.
formed : (c : In_ok-l) → not (well_formed c.in_ok-l.l.layout.now) ≡ false
formed c = ap not c.in_ok-l.l.tested

-- the tested layout is the lent one
same : (c : In_ok-l) → c.in_ok-l.l.layout.now ≡ c.args.l.now
same c = let e = c.in_ok-l.ensures in search rules

-- what refuses the tested layout's rows refuses the lent one's
moved : (c : In_ok-l) {o : Option Refusal} →
    let a = c.args in
    band_refusal c.in_ok-l.l.layout.now (lent a.stores) a.page a.first a.rows a.len ≡ o → band_refusal a.l.now (lent a.stores) a.page a.first a.rows a.len ≡ o
moved c e =
    let a = c.args in
    ap (λ (l : Layout). band_refusal l (lent a.stores) a.page a.first a.rows a.len) (sym (same c)) ∙ e

is-page : (c : Else-page_count-page) → no_such_page c.in_ok-l.l.layout.now c.args.page ≡ false
is-page c = a_page _ _ _ c.page_count.ensures c.if-page_count-page.false

not-empty : (c : Else-empty_page) → empty_page (size_of_page c.in_ok-l.l.layout.now c.args.page) ≡ false
not-empty c = sym (ap empty_page c.size_of_page-s.ensures) ∙ sym c.empty_page.ensures ∙ c.if-empty_page.false

good-rows : (c : Else-bad_rows) → bad_rows (size_of_page c.in_ok-l.l.layout.now c.args.page) c.args.first c.args.rows ≡ false
good-rows c = sym (ap (λ (z : Size). bad_rows z c.args.first c.args.rows) c.size_of_page-s.ensures) ∙ sym c.bad_rows.ensures ∙ c.if-bad_rows.false

good_length : (c : Else-bad_length) → bad_length (size_of_page c.in_ok-l.l.layout.now c.args.page) c.args.rows c.args.len ≡ false
good_length c = sym (ap (λ (z : Size). bad_length z c.args.rows c.args.len) c.size_of_page-s.ensures) ∙ sym c.bad_length.ensures ∙ c.if-bad_length.false

pub returns-in_err-l : goal.returns-in_err-l
returns-in_err-l c =
    let out : c.from_residual.result ≡ Err NotWellFormed = search rules in
    let unformed : well_formed c.args.l.now ≡ false = search rules in
    rw out (band_refuses _ _ _ _ _ _ (inl (ap not unformed, refl)))

pub returns-then-page_count-page : goal.returns-then-page_count-page
returns-then-page_count-page c = moved (goal.at.returns-then-page_count-page c).In_ok-l (band_refuses _ _ _ _ _ _ (inr (formed (goal.at.returns-then-page_count-page c).In_ok-l, inl (no_page _ _ _ c.page_count.ensures c.if-page_count-page.true, refl))))

pub returns-then-empty_page : goal.returns-then-empty_page
returns-then-empty_page c =
    let e = sym (ap empty_page c.size_of_page-s.ensures) ∙ sym c.empty_page.ensures ∙ c.if-empty_page.true in
    moved (goal.at.returns-then-empty_page c).In_ok-l (band_refuses _ _ _ _ _ _ (inr (formed (goal.at.returns-then-empty_page c).In_ok-l, inr (is-page (goal.at.returns-then-empty_page c).Else-page_count-page, inl (e, refl)))))

pub returns-then-bad_rows : goal.returns-then-bad_rows
returns-then-bad_rows c =
    let a = c.args in
    let e = sym (ap (λ (z : Size). bad_rows z a.first a.rows) c.size_of_page-s.ensures) ∙ sym c.bad_rows.ensures ∙ c.if-bad_rows.true in
    moved (goal.at.returns-then-bad_rows c).In_ok-l (band_refuses _ _ _ _ _ _ (inr (formed (goal.at.returns-then-bad_rows c).In_ok-l, inr (is-page (goal.at.returns-then-bad_rows c).Else-page_count-page, inr (not-empty (goal.at.returns-then-bad_rows c).Else-empty_page, inl (e, refl))))))

pub bad_length-requires : goal.bad_length-requires
bad_length-requires c =
    let a = c.args in
    let l = c.in_ok-l.l.layout.now in
    let ok = c.in_ok-l.l.tested in
    let w = side_w l ok a.page in
    let z = c.size_of_page-s.ensures in
    let n = ap (λ (k : Size). k.w) z in
    (omega arith, rows_few _ a.first a.rows 6271 (good-rows c) (side_h l ok a.page))

pub returns-then-bad_length : goal.returns-then-bad_length
returns-then-bad_length c =
    let a = c.args in
    let e = sym (ap (λ (z : Size). bad_length z a.rows a.len) c.size_of_page-s.ensures) ∙ sym c.bad_length.ensures ∙ c.if-bad_length.true in
    moved (goal.at.returns-then-bad_length c).In_ok-l (band_refuses _ _ _ _ _ _ (inr (formed (goal.at.returns-then-bad_length c).In_ok-l, inr (is-page (goal.at.returns-then-bad_length c).Else-page_count-page, inr (not-empty (goal.at.returns-then-bad_length c).Else-empty_page, inr (good-rows (goal.at.returns-then-bad_length c).Else-bad_rows, inl (e, refl)))))))

pub returns-then-page_past : goal.returns-then-page_past
returns-then-page_past c =
    let e = sym c.page_past.ensures ∙ c.if-page_past.true in
    moved (goal.at.returns-then-page_past c).In_ok-l (band_refuses _ _ _ _ _ _
    (inr (formed (goal.at.returns-then-page_past c).In_ok-l, inr (is-page (goal.at.returns-then-page_past c).Else-page_count-page, inr (not-empty (goal.at.returns-then-page_past c).Else-empty_page, inr (good-rows (goal.at.returns-then-page_past c).Else-bad_rows, inr (good_length (goal.at.returns-then-page_past c).Else-bad_length, inl (e, refl))))))))

pub returns : goal.returns
returns c =
    let e = sym c.page_past.ensures ∙ c.if-page_past.false in (
      moved (goal.at.returns c).In_ok-l (band-passes _ _ _ _ _ _
          (formed (goal.at.returns c).In_ok-l, (is-page (goal.at.returns c).Else-page_count-page, (not-empty (goal.at.returns c).Else-empty_page, (good-rows (goal.at.returns c).Else-bad_rows, (good_length (goal.at.returns c).Else-bad_length, (e, tt))))))),
      same (goal.at.returns c).In_ok-l,
    )
