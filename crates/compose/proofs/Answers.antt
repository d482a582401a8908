-- The row of checks of compose rows and check rows, and what has passed it. Assumes nothing.
use Prim.Native.Nat.{ℕ, ◌+◌, ◌*◌, ◌≤◌, ◌<◌}
use native.Mathlib.Omega.{arith}
use mathlib.Core.Path.{◌≡◌, refl, sym, ap, ◌∙◌}
use mathlib.Core.Logic.{◌↔◌}
use mathlib.Core.Bool.{true, false}
use mathlib.Core.List.{List, [], ◌∷◌}
use mathlib.Core.Option.{Option, none, some}
use lib.ListN.{length}
use lib.Dec.{ltb, eqb}
use borrow.Author.Tests.{le-leb, lt-leb, ltb-false, eqb-true, eqb-false, not-false}
use Rattle.std.specs.Prelude.{⊤, Option as Maybe, Some, None, Result, Ok, Err}
use Rattle.geometry.proofs.Words.{or_no_left, or_no_right}
use Rattle.geometry.specs.declared.rect.Size.{Size}
use Rattle.art.specs.Stores.{Stores}
use Rattle.records.specs.Refusals.{number_of, first_refusal}
use Rattle.records.specs.Layouts.{standing, well_formed, page_count, size_of_page}
use Rattle.records.specs.Operations.{no_such_page}
use Rattle.records.specs.declared.frame.Page.{Page}
use Rattle.records.specs.declared.layout.Layout.{Layout}
use Rattle.records.specs.declared.refusal.Refusal.{Refusal}
use Rattle.records.proofs.Theorems.{number_tells, number-some}
use Rattle.records.proofs.Rows.{passed, First, first-is, Nones}
use Rattle.rules.proofs.Rows.{test_at, refusal_at, Passed, Once, exactly_at, holds-none}
use Rattle.lookup.specs.Looking.{page_past}
use Rattle.paint.specs.Pictures.{picture, composed_at, band}
use Rattle.paint.specs.Backgrounds.{Background}
use Rattle.compose.specs.Composing.{empty_page, bad_rows, bad_length, band_row, band_refusal, compose_answer, compose_buffer, composed_answer, composed_buffer, composed_numbers}
use Rattle.compose.specs.Checking.{compared, check_answer, checked_rows, checked_numbers}

-- 11, as the code asks it
pub no_page : (l : Layout) (p : Page) (n : ℕ) → n ≡ page_count (standing l) → n ≤ p.0 → no_such_page l p ≡ true
unfolding no_such_page
no_page l p n e h = le-leb (page_count (standing l)) p.0 (omega arith)

pub a_page : (l : Layout) (p : Page) (n : ℕ) → n ≡ page_count (standing l) → p.0 < n → no_such_page l p ≡ false
unfolding no_such_page
a_page l p n e h = lt-leb (page_count (standing l)) p.0 (omega arith)

pub done_none : (o : Option Refusal) → compose_answer o ≡ Ok tt → o ≡ none
done_none none e = refl
done_none (some r) e = absurd cc

pub refused-some : (o : Option Refusal) (r : Refusal) → compose_answer o ≡ Err r → o ≡ some r
refused-some none r e = absurd cc
refused-some (some q) r e = let z : q ≡ r = cc in ap some z

module _ (l : Layout) (s : Stores) (p : Page) (first n len : ℕ) where
  pub band_refuses : {r : Refusal} → First (band_row l s p first n len) r → band_refusal l s p first n len ≡ some r
  unfolding band_refusal
  band_refuses h = first-is _ h

  pub band-passes : Nones (band_row l s p first n len) → band_refusal l s p first n len ≡ none
  unfolding band_refusal
  band-passes h = holds-none _ h

  -- what no check refuses
  pub record Unrefused : Type 0 where
    pub formed : well_formed l ≡ true
    pub page : no_such_page l p ≡ false
    pub wide : 1 ≤ (size_of_page l p).w
    pub tall : 1 ≤ (size_of_page l p).h
    pub rows : 1 ≤ n
    pub within : first + n ≤ (size_of_page l p).h
    pub long : len ≡ 4 * ((size_of_page l p).w * n)
    pub stored : page_past s p (standing l) ≡ false

  pub none_refuses : band_refusal l s p first n len ≡ none → Unrefused
  unfolding band_refusal empty_page bad_rows bad_length
  none_refuses e =
      let z = size_of_page l p in
      let p2 = passed _ _ _ e in
      let p11 = passed _ _ _ p2.1 in
      let p12 = passed _ _ _ p11.1 in
      let p13 = passed _ _ _ p12.1 in
      let p14 = passed _ _ _ p13.1 in
      let p5 = passed _ _ _ p14.1 in
      record {
        formed = not-false _ p2.0;
        page = p11.0;
        wide = some_of _ (eqb-false _ _ (or_no_left (eqb z.w 0) (eqb z.h 0) p12.0));
        tall = some_of _ (eqb-false _ _ (or_no_right (eqb z.w 0) (eqb z.h 0) p12.0));
        rows = some_of _ (eqb-false _ _ (or_no_left (eqb n 0) (ltb z.h (first + n)) p13.0));
        within = ltb-false _ _ (or_no_right (eqb n 0) (ltb z.h (first + n)) p13.0);
        long = eqb-true _ _ (not-false _ p14.0);
        stored = p5.0;
      }
    where
      some_of : (k : ℕ) → (k ≡ 0 → ⊥) → 1 ≤ k
      some_of k h = omega arith

-- the operation's answer and buffer, once the row's answer is known
module _ (l : Layout) (s : Stores) (p : Page) (g : Background) (first n : ℕ) (old : List ℕ) where
  pub kept_of_some : (r : Refusal) → band_refusal l s p first n (length old) ≡ some r → old ≡ composed_buffer l s p g first n old
  unfolding composed_buffer
  kept_of_some r e = sym (ap (compose_buffer old (band l s p g first n)) e)

  pub buffer_of_done : band_refusal l s p first n (length old) ≡ none → band l s p g first n ≡ composed_buffer l s p g first n old
  unfolding composed_buffer
  buffer_of_done e = sym (ap (compose_buffer old (band l s p g first n)) e)

-- rows that 13 lets pass are no more than the page has
pub rows_few : (z : Size) (first n m : ℕ) → bad_rows z first n ≡ false → z.h ≤ m → n ≤ m
unfolding bad_rows
rows_few z first n m e h = let w : first + n ≤ z.h = ltb-false z.h (first + n) (or_no_right (eqb n 0) (ltb z.h (first + n)) e) in omega arith

-- the painted rows are the page's
pub band-is : (l : Layout) (s : Stores) (p : Page) (g : Background) (first n : ℕ) (z : Size) → z ≡ size_of_page l p
    → picture (composed_at l s p g) z.w first n ≡ band l s p g first n
unfolding band
band-is l s p g first n z e = ap (λ (k : Size). picture (composed_at l s p g) k.w first n) e

-- ## the row itself

module _ (l : Layout) (s : Stores) (p : Page) (first n len : ℕ) where
  pub band-row : band_refusal l s p first n len ≡ first_refusal (band_row l s p first n len)
  unfolding band_refusal
  band-row = refl

  -- place i of the row: its refusal is answered exactly when its check holds and none before it does
  pub band-at : (i : ℕ) → i < 6 → Once i (band_row l s p first n len)
      → band_refusal l s p first n len ≡ some (refusal_at i (band_row l s p first n len))
      ↔ (Passed i (band_row l s p first n len) × (test_at i (band_row l s p first n len) ≡ true))
  band-at i h o =
      let x = exactly_at (band_row l s p first n len) i h o in
      (λ e. x.0 (sym band-row ∙ e), λ t. band-row ∙ x.1 t)

-- ## the answers, and what they say of the row

module _ (l : Layout) (s : Stores) (p : Page) (first n : ℕ) (old : List ℕ) where
  pub composed-refused : (r : Refusal) → composed_answer l s p first n old ≡ Err r ↔ band_refusal l s p first n (length old) ≡ some r
  unfolding composed_answer
  composed-refused r = (λ e. refused-some (band_refusal l s p first n (length old)) r e, λ e. ap compose_answer e)

  pub composed-done : composed_answer l s p first n old ≡ Ok tt ↔ band_refusal l s p first n (length old) ≡ none
  unfolding composed_answer
  composed-done = (λ e. done_none (band_refusal l s p first n (length old)) e, λ e. ap compose_answer e)

module _ (l : Layout) (s : Stores) (p : Page) (g : Background) (first n : ℕ) (shown : List ℕ) where
  pub checked_refused : (r : Refusal) → checked_rows l s p g first n shown ≡ Err r ↔ band_refusal l s p first n (length shown) ≡ some r
  unfolding checked_rows
  checked_refused r = (go (band_refusal l s p first n (length shown)), λ e. ap (check_answer (compared (composed_at l s p g) (size_of_page l p).w first n shown)) e)
    where
      go : (o : Option Refusal) → check_answer (compared (composed_at l s p g) (size_of_page l p).w first n shown) o ≡ Err r → o ≡ some r
      go none e = absurd cc
      go (some q) e = let z : q ≡ r = cc in ap some z

  -- any other answer is the comparison's
  pub checked_compared : {k : Maybe (ℕ × ℕ)} → checked_rows l s p g first n shown ≡ Ok k
      → (band_refusal l s p first n (length shown) ≡ none) × (compared (composed_at l s p g) (size_of_page l p).w first n shown ≡ k)
  unfolding checked_rows
  checked_compared {k} e = go (band_refusal l s p first n (length shown)) e
    where
      go : (o : Option Refusal) → check_answer (compared (composed_at l s p g) (size_of_page l p).w first n shown) o ≡ Ok k
          → (o ≡ none) × (compared (composed_at l s p g) (size_of_page l p).w first n shown ≡ k)
      go none q = let z : compared (composed_at l s p g) (size_of_page l p).w first n shown ≡ k = cc in (refl, z)
      go (some r) q = absurd cc

  pub compared_checked : {k : Maybe (ℕ × ℕ)} → band_refusal l s p first n (length shown) ≡ none
      → compared (composed_at l s p g) (size_of_page l p).w first n shown ≡ k → checked_rows l s p g first n shown ≡ Ok k
  unfolding checked_rows
  compared_checked e q = ap (check_answer (compared (composed_at l s p g) (size_of_page l p).w first n shown)) e ∙ ap Ok q

-- ## numbers and values, one to one

pub composed_tells : (a b : Result ⊤ Refusal) → composed_numbers a ≡ composed_numbers b → a ≡ b
composed_tells (Ok a) (Ok b) e = refl
composed_tells (Ok done) (Err r) e = let z : 0 ≡ number_of r = cc in absurd (number-some r (sym z))
composed_tells (Err r) (Ok done) e = let z : number_of r ≡ 0 = cc in absurd (number-some r z)
composed_tells (Err r) (Err q) e = let z : number_of r ≡ number_of q = cc in ap Err (number_tells r q z)

pub checked_tells : (a b : Result (Maybe (ℕ × ℕ)) Refusal) → checked_numbers a ≡ checked_numbers b → a ≡ b
checked_tells (Ok None) (Ok None) e = refl
checked_tells (Ok None) (Ok (Some (x, y))) e = let z : ◌≡◌ {A = List ℕ} [] (x ∷ y ∷ []) = cc in let k : ◌≡◌ {A = ℕ} 0 2 = ap length z in absurd (omega arith)
checked_tells (Ok None) (Err r) e = let z : 0 ≡ number_of r = cc in absurd (number-some r (sym z))
checked_tells (Ok (Some (x, y))) (Ok None) e = let z : ◌≡◌ {A = List ℕ} (x ∷ y ∷ []) [] = cc in let k : ◌≡◌ {A = ℕ} 2 0 = ap length z in absurd (omega arith)
checked_tells (Ok (Some (x, y))) (Ok (Some (u, v))) e = let p : x ≡ u = cc in let q : y ≡ v = cc in λ i. Ok (Some (p i, q i))
checked_tells (Ok (Some (x, y))) (Err r) e = let z : 0 ≡ number_of r = cc in absurd (number-some r (sym z))
checked_tells (Err r) (Ok None) e = let z : number_of r ≡ 0 = cc in absurd (number-some r z)
checked_tells (Err r) (Ok (Some (x, y))) e = let z : number_of r ≡ 0 = cc in absurd (number-some r z)
checked_tells (Err r) (Err q) e = let z : number_of r ≡ number_of q = cc in ap Err (number_tells r q z)
