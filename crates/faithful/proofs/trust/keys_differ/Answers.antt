use mathlib.Core.Path.{ap, ◌∙◌}
use mathlib.Core.List.{map}
use native.Mathlib.Omega.{arith}
use lib.ListN.{length}
use Rattle.std.proofs.lemmas.List.{length-take}
use Rattle.records.specs.Layouts.{standing}
use Rattle.records.proofs.Checks.{formed}
use Rattle.faithful.specs.Replay.{distinct, key_of}
use Rattle.faithful.proofs.Trusting.{keys_distinct}
use Rattle.faithful.proofs.trust.keys_differ.Goals as goal

pub copy_keys-requires : goal.copy_keys-requires
unfolding standing
copy_keys-requires c = let n = length-take c.args.l.layout.now.count c.args.l.layout.now.records in omega (arith, (formed _ c.args.l.tested).few, ap length c.standing-standing.ensures)

pub returns : goal.returns
returns c = c.all_differ.ensures ∙ ap distinct (c.copy_keys.ensures ∙ ap (map key_of) c.standing-standing.ensures) ∙ keys_distinct _
