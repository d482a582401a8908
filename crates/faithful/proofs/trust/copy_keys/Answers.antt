use native.Mathlib.Omega.{arith}
use lib.ListN.{length-set}
use Rattle.records.specs.Settings.{blank_record}
use Rattle.faithful.proofs.Trusting.{keys_more}
use Rattle.faithful.proofs.trust.copy_keys.Goals as goal

pub loop-i-preserved : goal.loop-i-preserved
unfolding blank_record
loop-i-preserved c =
    let l = c.loop-i in
    (simp length-set l.invariant.0, keys_more _ blank_record l.keys l.i c.loop-i-test.true (omega arith) l.invariant.1)
