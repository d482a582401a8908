-- The one NaN. Assumes nothing.
use mathlib.Core.Bool.{true}
use mathlib.Core.Path.{◌≡◌, refl, sym, subst}
use lib.Dec.{T}
use lib.Ieee.{Float, nan, inf, fin, is_nan}

-- there is one NaN
pub one_nan : (x : Float) → is_nan x ≡ true → nan ≡ x
unfolding is_nan
one_nan nan e = refl
one_nan (inf s) e = absurd (subst T (sym e) tt)
one_nan (fin s m d) e = absurd (subst T (sym e) tt)
