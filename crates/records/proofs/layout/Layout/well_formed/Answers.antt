use Rattle.std.proofs.Common.{rules}
use native.Mathlib.Omega.{arith}
use mathlib.Core.Path.{◌≡◌}
use lib.ListN.{length}
use Rattle.records.specs.Layouts.{standing, unused}
use Rattle.records.proofs.Checks.{bounded, forms}
use Rattle.records.proofs.Codes.{formed_config, formed_count, formed_unused, formed_all}
use Rattle.records.proofs.layout.Layout.well_formed.Goals.{else-all_blank-via-then-all_blank+else-records_ok, else-all_blank-via-else-all_blank}
use Rattle.records.proofs.layout.Layout.well_formed.Goals as goal

pub returns-in_err-c : goal.returns-in_err-c
returns-in_err-c c = search (rules, formed_config)

pub returns-then-c-self : goal.returns-then-c-self
returns-then-c-self c = search (rules, formed_count)

pub split_at-requires : goal.split_at-requires
split_at-requires c =
    let b = bounded _ c.in_ok-c.c.tested in
    let n : length c.args.self.now.records ≡ 256 = search rules in
    omega (arith, b.images_few)

pub invariant_of-result : goal.invariant_of-result
unfolding standing unused
invariant_of-result c = record { tested = search (rules, forms) }

pub returns : goal.returns
unfolding standing unused
returns c = elim c.else-all_blank.branch [
  | else-all_blank-via-then-all_blank+else-records_ok w ↦ search (rules, formed_all)
  | else-all_blank-via-else-all_blank w ↦ search (rules, formed_unused)
]
