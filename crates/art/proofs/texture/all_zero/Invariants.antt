use Prim.Native.Nat.{ℕ, ◌+◌, ◌*◌, ◌<◌}
use mathlib.Core.Path.{◌≡◌}
use lib.ListN.{get_or}
use Rattle.art.proofs.texture.all_zero.Given as goal

-- `all_zero` has passed k bytes of the run, one step apart, all of them 0. Assumes nothing.
abbrev pub invariant-loop-k : goal.invariant-loop-k
invariant-loop-k l = (l.at ≡ l.first + l.k * l.step) × ((j : ℕ) → j < l.k → get_or l.bytes (l.first + j * l.step) 0 ≡ 0)
