-- A number as a person writes it.
-- Assumes nothing.
use Rattle.std.specs.Prelude.{ℕ, ◌+◌, ◌*◌, ◌-◌, Bool, cond, List, [], ◌∷◌, Option, Some, None, leb}
use Rattle.geometry.specs.Words.{all_of, all, within}
use Rattle.job.specs.Bytes.{filled}

-- 0 to 9
abbrev pub is_digit : ℕ → Bool
is_digit b = within 48 57 b

-- the value of digits that follow those of the value n
unfoldable pub value_from : ℕ → List ℕ → ℕ
value_from n [] = n
value_from n (b ∷ bs) = value_from (10 * n + (b - 48)) bs

-- one or more digits, with a value of at most 4294967295
unfoldable pub number_in : List ℕ → Option ℕ
number_in w =
    cond (all_of (filled w ∷ all is_digit w ∷ leb (value_from 0 w) 4294967295 ∷ []))
    (Some (value_from 0 w))
    None
