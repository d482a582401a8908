-- What document 01 says of compose rows and check rows, each under the sentence that it carries. The crates above cite these.
-- Assumes nothing.
use Prim.Native.Nat.{ℕ, ◌*◌}
use native.Mathlib.Omega.{arith}
use mathlib.Core.Path.{◌≡◌, refl, sym, ap, ◌∙◌, subst}
use mathlib.Core.Bool.{true, not}
use mathlib.Core.List.{List, [], ◌∷◌, Memᴰ}
use mathlib.Core.Logic.{◌↔◌}
use mathlib.Core.Option.{none, some}
use lib.ListN.{length}
use Rattle.std.specs.Prelude.{⊤, Option as Maybe, Some, None, Result, Ok, Err}
use Rattle.art.specs.Stores.{Stores}
use Rattle.records.specs.Refusals.{number_of, first_refusal, row_numbers}
use Rattle.records.specs.Layouts.{standing, well_formed, size_of_page}
use Rattle.records.specs.Operations.{no_such_page}
use Rattle.records.specs.declared.frame.Page.{Page}
use Rattle.records.specs.declared.layout.Layout.{Layout}
use Rattle.records.specs.declared.refusal.Refusal.{Refusal}
use Rattle.records.specs.declared.refusal.Refusal.TheVariants.{NotWellFormed, NoSuchPage, EmptyPage, BadRows, BadLength, PastStore}
use Rattle.art.proofs.Theorems.{one}
use Rattle.rules.proofs.Rows.{Passed, answer_in}
use Rattle.lookup.specs.Looking.{page_past}
use Rattle.paint.specs.Pictures.{composed_at, band}
use Rattle.paint.specs.Painting.{Shows}
use Rattle.paint.specs.Backgrounds.{Background}
use Rattle.paint.proofs.Pictures.{shows_is, picture_shows}
use Rattle.compose.specs.Composing.{empty_page, bad_rows, bad_length, band_row, band_refusal, composed_answer, composed_buffer, composed_numbers}
use Rattle.compose.specs.Checking.{checked_rows, checked_numbers}
use Rattle.compose.proofs.Answers.{band-row, band-at, none_refuses, composed-refused, composed-done, checked_refused, checked_compared, compared_checked, kept_of_some, buffer_of_done, composed_tells, checked_tells}
use Rattle.compose.proofs.Agreeing.{same_shows, shows_same, FirstOff, differs-off, off-differs}

-- ## "compose rows, check rows: 2 11 12 13 14 5"

pub band-order : (l : Layout) (s : Stores) (p : Page) (first n len : ℕ)
    → (band_refusal l s p first n len ≡ first_refusal (band_row l s p first n len)) × (row_numbers (band_row l s p first n len) ≡ 2 ∷ 11 ∷ 12 ∷ 13 ∷ 14 ∷ 5 ∷ [])
band-order l s p first n len = (band-row l s p first n len, refl)

-- ## "Each row's checks run left to right; the first that holds is answered. Each is given exactly when its condition holds."

-- `Passed n` says that none of the first n checks of the row holds.
module _ (l : Layout) (s : Stores) (p : Page) (first n len : ℕ) where
  pub band_2 : band_refusal l s p first n len ≡ some NotWellFormed ↔ (Passed 0 (band_row l s p first n len) × (not (well_formed l) ≡ true))
  band_2 = band-at l s p first n len 0 (omega arith) (refl, refl)

  pub band_11 : band_refusal l s p first n len ≡ some NoSuchPage ↔ (Passed 1 (band_row l s p first n len) × (no_such_page l p ≡ true))
  band_11 = band-at l s p first n len 1 (omega arith) (refl, refl)

  pub band_12 : band_refusal l s p first n len ≡ some EmptyPage ↔ (Passed 2 (band_row l s p first n len) × (empty_page (size_of_page l p) ≡ true))
  band_12 = band-at l s p first n len 2 (omega arith) (refl, refl)

  pub band_13 : band_refusal l s p first n len ≡ some BadRows ↔ (Passed 3 (band_row l s p first n len) × (bad_rows (size_of_page l p) first n ≡ true))
  band_13 = band-at l s p first n len 3 (omega arith) (refl, refl)

  pub band_14 : band_refusal l s p first n len ≡ some BadLength ↔ (Passed 4 (band_row l s p first n len) × (bad_length (size_of_page l p) n len ≡ true))
  band_14 = band-at l s p first n len 4 (omega arith) (refl, refl)

  pub band_5 : band_refusal l s p first n len ≡ some PastStore ↔ (Passed 5 (band_row l s p first n len) × (page_past s p (standing l) ≡ true))
  band_5 = band-at l s p first n len 5 (omega arith) (refl, refl)

  -- no other number is answered
  pub band-only : (r : Refusal) → band_refusal l s p first n len ≡ some r → Memᴰ (number_of r) (2 ∷ 11 ∷ 12 ∷ 13 ∷ 14 ∷ 5 ∷ [])
  band-only r e = answer_in (band_row l s p first n len) r (sym (band-row l s p first n len) ∙ e)

-- both operations answer that row
module _ (l : Layout) (s : Stores) (p : Page) (g : Background) (first n : ℕ) (bytes : List ℕ) (r : Refusal) where
  pub compose_refuses : composed_answer l s p first n bytes ≡ Err r ↔ band_refusal l s p first n (length bytes) ≡ some r
  compose_refuses = composed-refused l s p first n bytes r

  pub check_refuses : checked_rows l s p g first n bytes ≡ Err r ↔ band_refusal l s p first n (length bytes) ≡ some r
  check_refuses = checked_refused l s p g first n bytes r

  -- "buffers stay untouched"
  pub compose_keeps : composed_answer l s p first n bytes ≡ Err r → composed_buffer l s p g first n bytes ≡ bytes
  compose_keeps e = sym (kept_of_some l s p g first n bytes r (compose_refuses.0 e))

-- ## "Checking reads the lent page rows themselves: same, or the first differing pixel in row order, given as page column and page row."

module _ (l : Layout) (s : Stores) (p : Page) (g : Background) (first n : ℕ) (shown : List ℕ) where
  -- the composed rows have the length that 14 asks
  pub band-long : length (band l s p g first n) ≡ 4 * ((size_of_page l p).w * n)
  unfolding band
  band-long = (picture_shows (composed_at l s p g) (size_of_page l p).w first n).long

  -- "same holds only if each byte agrees", and it holds then
  pub check_same : checked_rows l s p g first n shown ≡ Ok None ↔ ((band_refusal l s p first n (length shown) ≡ none) × (shown ≡ band l s p g first n))
  unfolding band
  check_same = (to, back)
    where
      to : checked_rows l s p g first n shown ≡ Ok None → (band_refusal l s p first n (length shown) ≡ none) × (shown ≡ band l s p g first n)
      to e =
          let h = checked_compared l s p g first n shown e in
          (h.0, shows_is (same_shows (composed_at l s p g) (size_of_page l p).w first n shown (none_refuses l s p first n (length shown) h.0).long h.1))

      back : (band_refusal l s p first n (length shown) ≡ none) × (shown ≡ band l s p g first n) → checked_rows l s p g first n shown ≡ Ok None
      back h =
          compared_checked l s p g first n shown h.0
          (shows_same (composed_at l s p g) (size_of_page l p).w first n shown
          (subst (λ (b : List ℕ). Shows (composed_at l s p g) (size_of_page l p).w first n b) (sym h.1) (picture_shows (composed_at l s p g) (size_of_page l p).w first n)))

  -- at (x, y) a byte differs, and at no pixel before it in row order (`FirstOff`)
  pub check_differs : (x y : ℕ) → checked_rows l s p g first n shown ≡ Ok (Some (x, y))
      ↔ ((band_refusal l s p first n (length shown) ≡ none) × FirstOff (composed_at l s p g) (size_of_page l p).w first n shown x y)
  check_differs x y = (to, back)
    where
      to : checked_rows l s p g first n shown ≡ Ok (Some (x, y))
          → (band_refusal l s p first n (length shown) ≡ none) × FirstOff (composed_at l s p g) (size_of_page l p).w first n shown x y
      to e =
          let h = checked_compared l s p g first n shown e in
          (h.0, differs-off (composed_at l s p g) (size_of_page l p).w first n shown x y h.1)

      back : (band_refusal l s p first n (length shown) ≡ none) × FirstOff (composed_at l s p g) (size_of_page l p).w first n shown x y
          → checked_rows l s p g first n shown ≡ Ok (Some (x, y))
      back h = compared_checked l s p g first n shown h.0 (off-differs (composed_at l s p g) (size_of_page l p).w first n shown x y h.1)

-- ## composing, then checking: same

module _ (l : Layout) (s : Stores) (p : Page) (g : Background) (first n : ℕ) (buffer : List ℕ) (done : composed_answer l s p first n buffer ≡ Ok tt) where
  unrefused : band_refusal l s p first n (length buffer) ≡ none
  unrefused = (composed-done l s p first n buffer).0 done

  -- what the buffer holds, of the length that it had
  pub compose_done : composed_buffer l s p g first n buffer ≡ band l s p g first n
  compose_done = sym (buffer_of_done l s p g first n buffer unrefused)

  pub compose_long : length (composed_buffer l s p g first n buffer) ≡ length buffer
  compose_long = ap length compose_done ∙ band-long l s p g first n buffer ∙ sym (none_refuses l s p first n (length buffer) unrefused).long

  pub compose_then_check : checked_rows l s p g first n (composed_buffer l s p g first n buffer) ≡ Ok None
  compose_then_check =
      (check_same l s p g first n (composed_buffer l s p g first n buffer)).1
      (ap (band_refusal l s p first n) compose_long ∙ unrefused, compose_done)

-- ## "a definition gives this paper's number and values for each of its cases"

pub composed_one : (a b : Result ⊤ Refusal) → composed_numbers a ≡ composed_numbers b → a ≡ b
composed_one = composed_tells

pub checked_one : (a b : Result (Maybe (ℕ × ℕ)) Refusal) → checked_numbers a ≡ checked_numbers b → a ≡ b
checked_one = checked_tells

-- ## "any two results allowed for one input are shown equal"

-- the answer, and what the buffer then holds
pub one_compose : (l : Layout) (s : Stores) (p : Page) (g : Background) (first n : ℕ) (buffer : List ℕ) {r q : Result ⊤ Refusal} {b k : List ℕ}
    → r ≡ composed_answer l s p first n buffer → q ≡ composed_answer l s p first n buffer
    → b ≡ composed_buffer l s p g first n buffer → k ≡ composed_buffer l s p g first n buffer → (r ≡ q) × (b ≡ k)
one_compose l s p g first n buffer e f h i = (one (composed_answer l s p first n buffer) e f, one (composed_buffer l s p g first n buffer) h i)

pub one_check : (l : Layout) (s : Stores) (p : Page) (g : Background) (first n : ℕ) (shown : List ℕ) {r q : Result (Maybe (ℕ × ℕ)) Refusal}
    → r ≡ checked_rows l s p g first n shown → q ≡ checked_rows l s p g first n shown → r ≡ q
one_check l s p g first n shown = one (checked_rows l s p g first n shown)
