-- Compose rows: its row of checks, left to right, the answer and the buffer, and the answer's numbers.
-- Assumes nothing.
use Rattle.std.specs.Prelude.{ℕ, ◌+◌, ◌*◌, ⊤, Bool, not, ◌||◌, Result, Ok, Err, List, [], ◌∷◌, length, ltb, eqb}
use Rattle.std.proofs.Math.Option.{Option, none, some}
use Rattle.geometry.specs.declared.rect.Size.{Size}
use Rattle.art.specs.Stores.{Stores}
use Rattle.records.specs.Refusals.{number_of, Row, first_refusal}
use Rattle.records.specs.Layouts.{standing, well_formed, size_of_page}
use Rattle.records.specs.Operations.{no_such_page}
use Rattle.records.specs.declared.frame.Page.{Page}
use Rattle.records.specs.declared.layout.Layout.{Layout}
use Rattle.records.specs.declared.refusal.Refusal.{Refusal}
use Rattle.records.specs.declared.refusal.Refusal.TheVariants.{NotWellFormed, NoSuchPage, EmptyPage, BadRows, BadLength, PastStore}
use Rattle.lookup.specs.Looking.{page_past}
use Rattle.paint.specs.Pictures.{band}
use Rattle.paint.specs.Backgrounds.{Background}

-- ## compose rows, check rows: 2 11 12 13 14 5

-- 12: page width or height 0
unfoldable pub empty_page : Size → Bool
empty_page s = eqb s.w 0 || eqb s.h 0

-- 13: no rows, or start plus rows past the page height
unfoldable pub bad_rows : Size → ℕ → ℕ → Bool
bad_rows s first n = eqb n 0 || ltb s.h (first + n)

-- 14: buffer length not 4 x page width x rows
unfoldable pub bad_length : Size → ℕ → ℕ → Bool
bad_length s n len = not (eqb len (4 * (s.w * n)))

abbrev pub band_row : Layout → Stores → Page → ℕ → ℕ → ℕ → Row
band_row l s p first n len =
    (not (well_formed l), NotWellFormed)
    ∷ (no_such_page l p, NoSuchPage)
    ∷ (empty_page (size_of_page l p), EmptyPage)
    ∷ (bad_rows (size_of_page l p) first n, BadRows)
    ∷ (bad_length (size_of_page l p) n len, BadLength)
    ∷ (page_past s p (standing l), PastStore)
    ∷ []

unfoldable pub band_refusal : Layout → Stores → Page → ℕ → ℕ → ℕ → Option Refusal
band_refusal l s p first n len = first_refusal (band_row l s p first n len)

-- ## compose rows

abbrev pub compose_answer : Option Refusal → Result ⊤ Refusal
compose_answer none = Ok tt
compose_answer (some r) = Err r

-- what the lent buffer then holds: a refusal leaves it untouched
abbrev pub compose_buffer : List ℕ → List ℕ → Option Refusal → List ℕ
compose_buffer old new none = new
compose_buffer old new (some r) = old

unfoldable pub composed_answer : Layout → Stores → Page → ℕ → ℕ → List ℕ → Result ⊤ Refusal
composed_answer l s p first n buffer = compose_answer (band_refusal l s p first n (length buffer))

unfoldable pub composed_buffer : Layout → Stores → Page → Background → ℕ → ℕ → List ℕ → List ℕ
composed_buffer l s p g first n buffer = compose_buffer buffer (band l s p g first n) (band_refusal l s p first n (length buffer))

abbrev pub composed_numbers : Result ⊤ Refusal → List ℕ
composed_numbers (Ok done) = 0 ∷ []
composed_numbers (Err r) = number_of r ∷ []
