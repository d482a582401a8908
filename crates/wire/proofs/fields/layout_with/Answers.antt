use Prim.Native.Nat.{◌<◌, ◌%◌}
use native.Mathlib.Omega.{arith}
use lib.ListN.{set}
use borrow.Author.Tests.{lt-ltb, le-ltb, ne_eqb}
use Rattle.records.specs.Settings.{blank_record}
use Rattle.wire.specs.Fields.{layout_with, with_config, with_count, with_record_at}
use Rattle.wire.proofs.fields.layout_with.Goals as goal

pub returns-in-11 : goal.returns-in-11
unfolding layout_with with_count
returns-in-11 c = rw c.in-11.is

pub returns-in-0-to-10 : goal.returns-in-0-to-10
unfolding layout_with with_config
returns-in-0-to-10 c =
    let l = c.args.l in
    let below : c.args.field < 11 = omega arith in
    rw (lt-ltb _ _ below) (λ i. record { config = c.config_with-out.ensures i; count = l.count; records = l.records })

pub returns-in_default : goal.returns-in_default
unfolding layout_with with_record_at blank_record
returns-in_default c =
    let l = c.args.l in
    let at = c.args.place % 256 in
    rw (le-ltb c.args.field 11 (omega arith), ne_eqb c.args.field 11 (omega arith)) (λ i. record { config = l.config; count = l.count; records = set l.records at (c.record_with.ensures i) })
