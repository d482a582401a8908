use mathlib.Core.Path.{◌≡◌}
use mathlib.Core.Bool.{false}
use Rattle.std.specs.Prelude.{Err}
use Rattle.std.proofs.Common.{rules}
use Rattle.records.specs.Layouts.{well_formed}
use Rattle.records.specs.declared.refusal.Refusal.TheVariants.{NotWellFormed}
use Rattle.faithful.proofs.Trusting.{trust-unformed, trust-as}
use Rattle.faithful.proofs.trust.trusted.Goals as goal

pub returns-in_err-l : goal.returns-in_err-l
returns-in_err-l c =
    let e : c.from_residual.result ≡ Err NotWellFormed = search rules in
    let f : well_formed c.args.l ≡ false = search rules in
    rw e (trust-unformed _ _ f)

pub returns : goal.returns
returns c =
    let e : c.in_ok-l.l.layout.now ≡ c.args.l = search rules in
    rw c.ok_or-2.ensures.value (trust-as e _ _ c.in_ok-l.l.tested c.is_faithful.ensures)
