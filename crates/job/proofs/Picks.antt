-- What a case picks. Assumes nothing.
use mathlib.Core.Bool.{Bool, true, false, cond}
use mathlib.Core.Path.{◌≡◌}

module _ {A : Type 0} where
  pub picked : {b : Bool} {x : A} (y : A) → b ≡ true → x ≡ cond b x y
  picked y e = rw e

  pub passed : {b : Bool} {y : A} (x : A) → b ≡ false → y ≡ cond b x y
  passed x e = rw e
