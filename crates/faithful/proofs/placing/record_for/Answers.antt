use mathlib.Core.Path.{◌≡◌, ◌∙◌}
use native.Mathlib.Omega.{arith}
use Rattle.std.specs.Prelude.{Some, Err}
use Rattle.records.specs.declared.refusal.Refusal.TheVariants.{TooLarge}
use Rattle.std.proofs.Common.{rules}
use Rattle.records.proofs.Checks.{bounded}
use Rattle.faithful.proofs.Spots.{stood-none, stood-at}
use Rattle.faithful.proofs.placing.record_for.Goals.{In_ok-k}
use Rattle.faithful.proofs.placing.record_for.Goals as goal

is-spot : (c : In_ok-k) → c.args.f ≡ Some c.in_ok-k.k
is-spot c = search rules

pub overflow_add-frame : goal.overflow_add-frame
overflow_add-frame c = let b = bounded _ c.args.c.tested in let n = c.requires _ (is-spot (goal.at.overflow_add-frame c).In_ok-k) in omega (arith, b.border, n.0)

pub overflow_add-frame-2 : goal.overflow_add-frame-2
overflow_add-frame-2 c = let b = bounded _ c.args.c.tested in let n = c.requires _ (is-spot (goal.at.overflow_add-frame-2 c).In_ok-k) in omega (arith, b.border, n.1)

pub returns-in_err-k : goal.returns-in_err-k
returns-in_err-k c = let e : c.from_residual.result ≡ Err TooLarge = search rules in e ∙ stood-none _ _ _ _ c.in_err-k.ensures.ok_part

pub returns : goal.returns
returns c = stood-at c.args.c.config c.args.a c.args.p c.args.f _ _ (is-spot (goal.at.returns c).In_ok-k) c.lying_size-lies.ensures
