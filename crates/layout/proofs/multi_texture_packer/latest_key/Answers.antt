use Prim.Native.Nat.{◌-◌, ◌<◌}
use mathlib.Core.List.{List}
use Rattle.std.specs.List.{slice_get}
use mathlib.Core.Path.{◌≡◌, ap, sym, ◌∙◌}
use native.Mathlib.Omega.{arith}
use lib.ListN.{length, get_or}
use Rattle.std.specs.Prelude.{Ok, Err}
use Rattle.std.specs.Option.{option_copied}
use Rattle.std.proofs.Common.{rules, Some}
use Rattle.records.proofs.Checks.{formed}
use Rattle.records.specs.Settings.{blank_record}
use Rattle.records.specs.declared.frame.Record.{Record}
use Rattle.records.specs.declared.refusal.Refusal.TheVariants.{NothingStands}
use Rattle.offers.specs.Offers.{unless}
use Rattle.faithful.proofs.Trusting.{Formed2, stands_on}
use Rattle.layout.proofs.Answering.{withdraw-distrusted, none_gone, gone, latest-none, latest-is}
use Rattle.layout.proofs.multi_texture_packer.latest_key.Goals.{In_ok-trusted}
use Rattle.layout.proofs.multi_texture_packer.latest_key.Goals.{After-last}
use Rattle.layout.proofs.multi_texture_packer.latest_key.Goals as goal

stands : (c : In_ok-trusted) → Formed2 c.args.l c.trusted.result c.trusted.ensures.is
stands c = stands_on _ _ _ _ c.in_ok-trusted.was

-- the array has 256 places
long : (c : In_ok-trusted) → length c.args.l.records ≡ 256
long c = c.well_formed.0.1.1.1.1.0.1.0.1

pub invariant_of-tested : goal.invariant_of-tested
invariant_of-tested c = record { tested = (stands (goal.at.invariant_of-tested c).In_ok-trusted).formed }

pub returns-in_err-trusted-clause-is : goal.returns-in_err-trusted-clause-is
returns-in_err-trusted-clause-is c =
    let e : c.from_residual.result ≡ Err c.in_err-trusted.field-0.0 = search rules in
    e ∙ ap (unless (get_or c.args.l.records (c.args.l.count - 1) blank_record).key) (sym (withdraw-distrusted c.args.l _ c.trusted.ensures.is _ c.in_err-trusted.was))

pub returns-in_err-latest-clause-is : goal.returns-in_err-latest-clause-is
returns-in_err-latest-clause-is c =
    let s = (goal.at.returns-in_err-latest-clause-is c).In_ok-trusted in
    let f = stands s in
    let e : c.from_residual-in_err-latest.result ≡ Err NothingStands = search rules in
    let z = latest-none c.args.l (long s) (formed _ f.formed).few (ap option_copied (sym c.in_err-latest.ensures.ok_part) ∙ c.last.ensures.value ∙ ap (λ (z : List Record). slice_get z (length z - 1)) c.standing-standing.ensures) in
    e ∙ ap (unless (get_or c.args.l.records (c.args.l.count - 1) blank_record).key) (sym (none_gone c.args.l f.formed f.is-faithful z))

-- the record that the slice ends with
latest : (c : After-last) → (r : Record) → option_copied c.last.result ≡ Some r → (0 < c.args.l.count) × (r ≡ get_or c.args.l.records (c.args.l.count - 1) blank_record)
latest c r e =
    latest-is c.args.l (c.well_formed.0.1.1.1.1.0.1.0.1) (formed _ (stands_on _ _ c.trusted.ensures.is _ c.in_ok-trusted.was).formed).few r
    (sym e ∙ c.last.ensures.value ∙ ap (λ (z : List Record). slice_get z (length z - 1)) c.standing-standing.ensures)

pub returns-clause-is : goal.returns-clause-is
returns-clause-is c =
    let f = stands (goal.at.returns-clause-is c).In_ok-trusted in
    let z = latest (goal.at.returns-clause-is c).After-last _ (ap option_copied c.in_ok-latest.ensures.ok_part) in
    ap (λ (r : Record). Ok r.key) z.1
    ∙ ap (unless (get_or c.args.l.records (c.args.l.count - 1) blank_record).key) (sym (gone c.args.l f.formed f.is-faithful (λ q. omega arith)))

pub returns-clause-some : goal.returns-clause-some
returns-clause-some c =
    let f = stands (goal.at.returns-clause-some c).In_ok-trusted in
    ((latest (goal.at.returns-clause-some c).After-last _ (ap option_copied c.in_ok-latest.ensures.ok_part)).0, (formed _ f.formed).few)
