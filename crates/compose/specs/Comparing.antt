-- Words of the code that compares lent rows with the wanted ones.
-- Assumes nothing.
use Rattle.std.specs.Prelude.{ℕ, ◌+◌, ◌*◌, Bool, not, List}
use Rattle.art.specs.Stores.{pixel_from}
use Rattle.compose.specs.Checking.{same_pixel}

-- pixel number base + x of the lent bytes is not that of the wanted ones
abbrev pub off_at : List ℕ → List ℕ → ℕ → ℕ → Bool
off_at lent wanted base x = not (same_pixel (pixel_from lent (4 * (base + x))) (pixel_from wanted (4 * (base + x))))
