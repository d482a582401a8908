-- Check rows: the lent rows against what composing gives.
-- Assumes nothing.
use Rattle.std.specs.Prelude.{ℕ, ◌+◌, ◌*◌, Bool, cond, not, Option as Maybe, Some, None, Result, Ok, Err, List, [], ◌∷◌, length, ltb, eqb}
use Rattle.std.proofs.Math.Option.{Option, none, some}
use Rattle.geometry.specs.Words.{all_of}
use Rattle.art.specs.Stores.{Stores, pixel_from}
use Rattle.art.specs.Trimming.{first_seen}
use Rattle.art.specs.declared.memory_rgba8_texture.Pixel.{Pixel}
use Rattle.records.specs.Refusals.{number_of}
use Rattle.records.specs.Layouts.{size_of_page}
use Rattle.records.specs.declared.frame.Page.{Page}
use Rattle.records.specs.declared.layout.Layout.{Layout}
use Rattle.records.specs.declared.refusal.Refusal.{Refusal}
use Rattle.paint.specs.Pictures.{composed_at}
use Rattle.paint.specs.Backgrounds.{Background}
use Rattle.compose.specs.Composing.{band_refusal}

-- each byte agrees
unfoldable pub same_pixel : Pixel → Pixel → Bool
same_pixel k j = all_of (eqb k.r j.r ∷ eqb k.g j.g ∷ eqb k.b j.b ∷ eqb k.a j.a ∷ [])

-- row y shows f x y in column x; of the lent bytes, from pixel number `base` on, the pixel in column x is not that
unfoldable pub differs : (ℕ → ℕ → Pixel) → List ℕ → ℕ → ℕ → ℕ → Bool
differs f lent base y x = not (same_pixel (pixel_from lent (4 * (base + x))) (f x y))

-- of n lent rows, w pixels wide, the first of them row `first`
module _ (f : ℕ → ℕ → Pixel) (w first n : ℕ) (lent : List ℕ) where
  -- the first differing column of the lent row v, or w
  unfoldable pub column_off : ℕ → ℕ
  column_off v = first_seen (differs f lent (v * w) (first + v)) w

  -- the first row that has one, or n
  unfoldable pub row_off : ℕ
  row_off = first_seen (λ v. ltb (column_off v) w) n

  -- same, or the first differing pixel in row order, given as page column and page row
  unfoldable pub compared : Maybe (ℕ × ℕ)
  compared = cond (ltb row_off n) (Some (column_off row_off, first + row_off)) None

-- ## check rows: 2 11 12 13 14 5

abbrev pub check_answer : Maybe (ℕ × ℕ) → Option Refusal → Result (Maybe (ℕ × ℕ)) Refusal
check_answer k none = Ok k
check_answer k (some r) = Err r

unfoldable pub checked_rows : Layout → Stores → Page → Background → ℕ → ℕ → List ℕ → Result (Maybe (ℕ × ℕ)) Refusal
checked_rows l s p g first n lent =
    check_answer (compared (composed_at l s p g) (size_of_page l p).w first n lent) (band_refusal l s p first n (length lent))

abbrev pub checked_numbers : Result (Maybe (ℕ × ℕ)) Refusal → List ℕ
checked_numbers (Ok None) = 0 ∷ []
checked_numbers (Ok (Some off)) = 0 ∷ off.0 ∷ off.1 ∷ []
checked_numbers (Err r) = number_of r ∷ []
