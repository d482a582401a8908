use Rattle.std.proofs.Common.{rules}
use Prim.Native.Nat.{◌-◌}
use native.Mathlib.Omega.{arith}
use mathlib.Core.Path.{sym}
use mathlib.Core.Bool.{true, false}
use Rattle.art.proofs.Seen.{last-is, past_none}
use Rattle.art.proofs.trim.past_seen.Goals as goal

pub returns-then-seen : goal.returns-then-seen
returns-then-seen g c t tells =
    sym (last-is t _ _ (record {
      below = omega arith;
      passes = sym (tells (c.loop-k.k - 1) true (omega arith) (search rules));
      after = λ j h b. sym (tells j false b (c.loop-k.invariant j (omega arith) b));
    }))

pub returns : goal.returns
returns g c t tells = sym (past_none t _ (λ j h. sym (tells j false h (c.loop-k.invariant j (omega arith) h))))
