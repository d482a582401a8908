-- Where frames end, as the code counts it: one frame after the other, on either axis.
-- Assumes nothing.
use Rattle.std.specs.Prelude.{ℕ, ◌+◌, ◌-◌, max, Bool, cond}

-- the last of n columns (or rows) from a on, +1+b
abbrev pub end_at : ℕ → ℕ → ℕ → ℕ
end_at a n b = a + n - 1 + 1 + b

-- the greatest end so far, after one more, which counts only if it is on the page
abbrev pub grows : Bool → ℕ → ℕ → ℕ
grows on end most = cond on (max most end) most
