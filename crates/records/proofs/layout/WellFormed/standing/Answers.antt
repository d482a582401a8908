use Rattle.std.proofs.Common.{rules}
use Rattle.records.specs.Layouts.{standing}
use Rattle.records.proofs.Checks.{formed}
use Rattle.records.proofs.layout.WellFormed.standing.Goals as goal

pub shared_ref_as_front-result : goal.shared_ref_as_front-result
shared_ref_as_front-result c = (formed _ c.args.self.tested).few

pub returns : goal.returns
unfolding standing
returns c = search rules
