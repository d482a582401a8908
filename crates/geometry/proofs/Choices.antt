-- The choice as the code makes it. Assumes nothing.
use Rattle.std.specs.Prelude.{Some, None}
use Prim.Native.Nat.{ℕ, ◌+◌, ◌≤◌, ◌<◌}
use mathlib.Core.Path.{◌≡◌, refl, sym}
use mathlib.Core.Bool.{true}
use native.Mathlib.Omega.{arith}
use lib.Dec.{ltb}
use Rattle.geometry.specs.declared.spot.Spot.{Spot}
use Rattle.geometry.specs.Words.{before}
use Rattle.geometry.specs.Placing.{rank, better}
use Rattle.geometry.specs.Choice.{choice, lowest}
use Rattle.geometry.proofs.Ranks.{before_differ}

-- ## the rank

module _ (a b : Spot) where
  pub rank-bottom : (a.bottom ≡ b.bottom → ⊥) → ltb a.bottom b.bottom ≡ before (rank a) (rank b)
  unfolding rank
  rank-bottom h = sym (before_differ _ _ _ _ h)

-- ## the choice

pub choice_new : (j k : Spot) → true ≡ before (rank k) (rank j) → Some k ≡ choice (Some j) (Some k)
unfolding choice better
choice_new j k h = rw (sym h)

pub lowest-none : (H : ℕ) → H ≡ lowest H None
unfolding lowest
lowest-none H = refl

pub lowest_above : (H : ℕ) (k : Spot) → k.bottom < H → k.bottom + 1 ≡ lowest H (Some k)
unfolding lowest
lowest_above H k l = omega arith

pub lowest_edge : (H : ℕ) (k : Spot) → H ≤ k.bottom → H ≡ lowest H (Some k)
unfolding lowest
lowest_edge H k l = omega arith
