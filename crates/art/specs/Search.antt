-- Words of the code that looks for the trim box: a line as bytes one step apart, and a test of numbers in order.
-- Assumes nothing.
use Rattle.std.specs.Prelude.{ℕ, ◌+◌, ◌*◌, ◌^◌, ◌<◌, ◌≡◌, Bool, not, List, length, get_or, eqb}
use Rattle.geometry.specs.Words.{from, any}

-- of bytes that start at `first` and lie `step` apart: number k is not 0, and one of the first n is not
unfoldable pub is_set : List ℕ → ℕ → ℕ → ℕ → Bool
is_set bytes first step k = not (eqb (get_or bytes (first + k * step) 0) 0)

unfoldable pub any_set : List ℕ → ℕ → ℕ → ℕ → Bool
any_set bytes first step n = any (is_set bytes first step) (from 0 n)

-- the first n are there, and the step past the last of them still counts in 64 bits
pub record HasRun (bytes : List ℕ) (first step n : ℕ) : Type 0 where
  pub ends : first + n * step < length bytes + step
  pub step_fits : step < 2 ^ 63

-- a test of the numbers below n answers as t does
abbrev pub Tells : (ℕ → Bool → Type 0) → (ℕ → Bool) → ℕ → Type 0
Tells answers t n = (k : ℕ) (r : Bool) → k < n → answers k r → r ≡ t k
