use Rattle.records.proofs.Checks.{formed}
use Rattle.records.proofs.layout.WellFormed.config.Goals as goal

pub invariant_of-result : goal.invariant_of-result
invariant_of-result c = record { tested = (formed _ c.args.self.tested).in_bounds }
