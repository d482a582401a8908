use mathlib.Core.Bool.{true, false}
use mathlib.Core.Path.{◌≡◌, sym, ap, ◌∙◌, subst}
use Rattle.std.proofs.Common.{rules, Err}
use Rattle.art.specs.Stores.{lent, runs_past}
use Rattle.records.specs.Layouts.{well_formed, record_of}
use Rattle.records.specs.declared.layout.Layout.{Layout}
use Rattle.records.specs.declared.refusal.Refusal.TheVariants.{NotWellFormed}
use Rattle.records.proofs.Keys.{keyed, unkeyed}
use Rattle.lookup.proofs.Answers.{read-unformed, read_no_key, read_no_row, read_past, read-passes}
use Rattle.lookup.proofs.image_row.row_record.Goals.{In_ok-l}
use Rattle.lookup.proofs.image_row.row_record.Goals as goal

-- `row_record` asks 2, 15, 13, 5, the last two of the record that the key names. Assumes nothing.
-- the tested layout is the one that was handed in
same : (c : In_ok-l) → c.in_ok-l.l.layout.now ≡ c.args.l
same c = let e = c.in_ok-l.ensures in search rules

formed : (c : In_ok-l) → well_formed c.args.l ≡ true
formed c = subst (λ (l : Layout). well_formed l ≡ true) (same c) c.in_ok-l.l.tested

named : (c : In_ok-l) → record_of c.args.l c.args.key ≡ record_of c.in_ok-l.l.layout.now c.args.key
named c = ap (λ (l : Layout). record_of l c.args.key) (sym (same c))

pub returns-in_err-l : goal.returns-in_err-l
returns-in_err-l c =
    let out : c.from_residual.result ≡ Err NotWellFormed = search rules in
    let unformed : well_formed c.args.l ≡ false = search rules in
    rw out (read-unformed _ _ _ _ unformed)

pub returns-in_default : goal.returns-in_default
returns-in_default c =
    let s = (goal.at.returns-in_default c).In_ok-l in
    read_no_key _ _ _ _ (formed s) (unkeyed _ _ (named s ∙ c.in_default.ensures))

pub returns-then-r-row : goal.returns-then-r-row
returns-then-r-row c =
    let s = (goal.at.returns-then-r-row c).In_ok-l in
    let key = keyed _ _ (named s ∙ c.in-Some.ensures) in
    read_no_row _ _ _ _ (formed s) key.0 _ key.1 c.if-r-row.true

pub returns-then-runs_past : goal.returns-then-runs_past
returns-then-runs_past c =
    let s = (goal.at.returns-then-runs_past c).In_ok-l in
    let key = keyed _ _ (named s ∙ c.in-Some.ensures) in
    let past = ap (runs_past (lent c.args.stores)) (sym c.image_of.ensures) ∙ sym c.runs_past.ensures ∙ c.if-runs_past.true in
    read_past _ _ _ _ (formed s) key.0 _ key.1 c.if-r-row.false past

pub returns : goal.returns
returns c =
    let s = (goal.at.returns c).In_ok-l in
    let key = keyed _ _ (named s ∙ c.in-Some.ensures) in
    let inside = ap (runs_past (lent c.args.stores)) (sym c.image_of.ensures) ∙ sym c.runs_past.ensures ∙ c.if-runs_past.false in
    (read-passes _ _ _ _ (formed s) key.0 _ key.1 c.if-r-row.false inside, key.1)
