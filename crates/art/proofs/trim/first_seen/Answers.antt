use Rattle.std.proofs.Common.{rules}
use native.Mathlib.Omega.{arith}
use mathlib.Core.Path.{sym}
use mathlib.Core.Bool.{true, false}
use Rattle.art.proofs.Seen.{first-is, first-none}
use Rattle.art.proofs.trim.first_seen.Goals as goal

pub returns-then-seen : goal.returns-then-seen
returns-then-seen g c t tells =
    sym (first-is t _ _ (record {
      below = c.loop-k-test.true;
      passes = sym (tells c.loop-k.k true c.loop-k-test.true (search rules));
      before = λ j h. sym (tells j false (omega arith) (c.loop-k.invariant j h));
    }))

pub returns : goal.returns
returns g c t tells = sym (first-none t _ (λ j h. sym (tells j false h (c.loop-k.invariant j (omega arith)))))
