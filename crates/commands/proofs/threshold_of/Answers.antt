use Prim.Native.Nat.{ℕ, ◌≤◌, ◌<◌}
use native.Mathlib.Omega.{arith}
use mathlib.Core.Bool.{cond}
use mathlib.Core.Path.{◌≡◌, ap, ◌∙◌}
use lib.Dec.{ltb}
use borrow.Author.Tests.{lt-ltb, le-ltb}
use Rattle.std.specs.Prelude.{Result, Ok, Err, Some, None}
use Rattle.std.specs.Result.{OkIff, result_ok}
use Rattle.commands.specs.Reading.{threshold_of}
use Rattle.commands.proofs.threshold_of.Goals as goal

-- a byte is there below 256
below : {E : Type 0} (n : ℕ) (r : Result ℕ E) → OkIff r (n < 256) n → result_ok r ≡ cond (ltb n 256) (Some n) None
below n (Ok x) h = rw (lt-ltb _ _ h.0) (ap Some h.1)
below n (Err e) h = let above : 256 ≤ n = omega (arith, h) in rw (le-ltb _ _ above)

pub returns : goal.returns
unfolding threshold_of
returns c = c.ok.ensures.value ∙ below c.args.n c.try_from.result c.try_from.ensures
