use mathlib.Core.Bool.{false}
use mathlib.Core.Path.{◌≡◌, sym, ◌∙◌}
use Rattle.geometry.specs.Words.{any}
use Rattle.std.specs.Prelude.{Err, Some}
use Rattle.std.proofs.Common.{rules}
use Rattle.art.specs.Stores.{lent, runs_past}
use Rattle.records.specs.declared.refusal.Refusal.TheVariants.{BadSize, PastStore, KeyStands, AllClear}
use Rattle.records.specs.Layouts.{standing, has_key}
use Rattle.rules.specs.Operations.{bad_size}
use Rattle.offers.proofs.Keeping.{kept_clear, KeptBox, kept_box, sized, sized_kept}
use Rattle.offers.proofs.Rows.{named-stands, refuses, rest-size, rest-store, rest-key, rest-clear, rest-art}
use Rattle.offers.proofs.checked_art.Goals.{Start}
use Rattle.offers.proofs.checked_art.Goals.{Else-is_some}
use Rattle.offers.proofs.checked_art.Goals.{In_ok-kept}
use Rattle.offers.proofs.checked_art.Goals as goal

-- 4, 5 and 6 do not hold
size-fine : (c : Else-is_some) → let a = c.args in bad_size a.image.w a.image.h ≡ false
size-fine c = sym c.bad_size.ensures ∙ c.if-bad_size.false

in_store : (c : Else-is_some) → runs_past (lent c.args.stores) c.args.image ≡ false
in_store c = sym c.runs_past.ensures ∙ c.if-runs_past.false

new-key : (c : Else-is_some) → any (has_key c.args.key) (standing c.args.l.layout.now) ≡ false
new-key c = sym (named-stands c.args.l.layout.now _ _ c.named.ensures) ∙ sym c.is_some.ensures ∙ c.if-is_some.false

keeps : (c : In_ok-kept) → KeptBox (lent c.args.stores) c.args.image c.args.l.layout.now.config.trim c.in_ok-kept.kept
keeps c =
    let e : c.kept_box.result ≡ Some c.in_ok-kept.kept = search rules in
    kept_box _ _ _ _ (sym c.kept_box.ensures ∙ e)

pub returns-then-bad_size-clause-is : goal.returns-then-bad_size-clause-is
returns-then-bad_size-clause-is c = refuses _ _ BadSize (rest-size c.args.l.layout.now _ _ _ (sym c.bad_size.ensures ∙ c.if-bad_size.true))

pub returns-then-runs_past-clause-is : goal.returns-then-runs_past-clause-is
returns-then-runs_past-clause-is c = refuses _ _ PastStore (rest-store c.args.l.layout.now _ _ _ (sym c.bad_size.ensures ∙ c.if-bad_size.false) (sym c.runs_past.ensures ∙ c.if-runs_past.true))

pub returns-then-is_some-clause-is : goal.returns-then-is_some-clause-is
returns-then-is_some-clause-is c =
    refuses _ _ KeyStands
    (rest-key c.args.l.layout.now _ _ _ (sym c.bad_size.ensures ∙ c.if-bad_size.false) (sym c.runs_past.ensures ∙ c.if-runs_past.false)
    (sym (named-stands c.args.l.layout.now _ _ c.named.ensures) ∙ sym c.is_some.ensures ∙ c.if-is_some.true))

pub kept_box-requires : goal.kept_box-requires
kept_box-requires c = record { inside = in_store c }

pub returns-in_err-kept-clause-is : goal.returns-in_err-kept-clause-is
returns-in_err-kept-clause-is c =
    let e : c.from_residual.result ≡ Err AllClear = search rules in
    let b = (goal.at.returns-in_err-kept-clause-is c).Else-is_some in
    e ∙ refuses _ _ AllClear (rest-clear c.args.l.layout.now (lent c.args.stores) _ _ (size-fine b) (in_store b) (new-key b) (kept_clear _ _ _ (sym c.kept_box.ensures ∙ c.in_err-kept.ensures.ok_part)))

pub returns-clause-is : goal.returns-clause-is
returns-clause-is c =
    let k = keeps c in
    let b = (goal.at.returns-clause-is c).Else-is_some in
    rest-art c.args.l.layout.now (lent c.args.stores) c.args.key c.args.image (size-fine b) (in_store b) (new-key b) _ k.shows k.is

pub returns-clause-sized : goal.returns-clause-sized
returns-clause-sized c =
    let k = keeps c in
    let z = size-fine (goal.at.returns-clause-sized c).Else-is_some in
    (sized _ _ z, sized_kept c.args.l.layout.now.config.trim (lent c.args.stores) c.args.image _ z k.shows k.is)
