-- A range of floats, as std tests it. Assumes nothing.
use mathlib.Core.Path.{◌≡◌, refl, ap₂}
use mathlib.Core.Bool.{Bool, true, false, cond, ◌&&◌, ◌||◌}
use lib.Ieee.{Float, lt, eq, le}
use Rattle.std.specs.Prelude.{Some, None}
use Rattle.std.specs.Ordering.{float_partial_cmp, partial_lt, partial_le, is_some_and, is_le}
use Rattle.std.proofs.Common.{Less, Equal, Greater}

-- std asks the order and then the equality, and finds no order beside a NaN
pub float_le : (x y : Float) → partial_le float_partial_cmp x y ≡ le x y
unfolding le
float_le x y = go (lt x y) (eq x y) (lt y x)
  where
    go : (a b c : Bool) → is_some_and is_le (cond a (Some Less) (cond b (Some Equal) (cond c (Some Greater) None))) ≡ (a || b)
    go true b c = refl
    go false true c = refl
    go false false true = refl
    go false false false = refl

-- both ends of a range that is not spent are in it
pub both_ends_in : (a b x : Float) {start end : Float} {spent : Bool} → start ≡ a → end ≡ b → spent ≡ false
    → (partial_le float_partial_cmp start x && cond spent (partial_lt float_partial_cmp x end) (partial_le float_partial_cmp x end)) ≡ (le a x && le x b)
both_ends_in a b x p q r = simp (p, q, r) (ap₂ (λ (l m : Bool). l && m) (float_le a x) (float_le x b))
