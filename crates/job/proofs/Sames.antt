-- The same bytes, as `==` finds out. Assumes nothing.
use Prim.Native.Nat.{ℕ}
use mathlib.Core.Bool.{◌&&◌}
use mathlib.Core.Path.{◌≡◌, refl, ap}
use mathlib.Core.List.{List, [], ◌∷◌}
use lib.Dec.{eqb}
use Rattle.std.specs.Str.{bytes_eq}
use Rattle.job.specs.Bytes.{same}

pub same_is : (a b : List ℕ) → bytes_eq a b ≡ same a b
unfolding same
same_is [] [] = refl
same_is [] (y ∷ b) = refl
same_is (x ∷ a) [] = refl
same_is (x ∷ a) (y ∷ b) = ap (◌&&◌ (eqb x y)) (same_is a b)
