-- Each answer and its row: refused with what the row answers, and then the layout comes back as given; the numbers and values tell an
-- answer. Assumes nothing.
use Rattle.std.specs.Prelude.{Ok, Err}
use Prim.Native.Nat.{ℕ, ◌<◌}
use native.Mathlib.Omega.{arith}
use mathlib.Core.Path.{◌≡◌, refl, sym, ◌∙◌, ap}
use mathlib.Core.Bool.{Bool, true, false}
use mathlib.Core.Logic.{◌↔◌}
use mathlib.Core.Option.{Option, none, some}
use Rattle.geometry.specs.Placing.{turn_number}
use Rattle.geometry.specs.declared.rect.Size.{Size}
use Rattle.art.specs.Stores.{Stores}
use Rattle.art.specs.declared.memory_rgba8_texture.Image.{Image}
use Rattle.records.specs.Refusals.{number_of}
use Rattle.records.specs.Layouts.{standing}
use Rattle.records.specs.declared.frame.Key.{Key}
use Rattle.records.specs.declared.frame.Page.{Page}
use Rattle.records.specs.declared.frame.Record.{Record}
use Rattle.records.specs.declared.layout.Layout.{Layout}
use Rattle.records.specs.declared.refusal.Refusal.{Refusal}
use Rattle.rules.specs.Placing.{placed}
use Rattle.rules.specs.Operations.{ask_refusal, fits_page, ask_answer, asked, asked_numbers, art_for, offer_refusal, offer_answer, offered, offered_numbers, withdraw_refusal, withdraw_answer, withdrawn, withdrawn_numbers, ask_row, offer_row, withdraw_row, Asked, Offered, Withdrawn}
use Rattle.records.proofs.Theorems.{number_tells, number-some}
use Rattle.rules.proofs.Rows.{ask-row, offer-row, withdraw_row_lem, test_at, refusal_at, Passed, Once, exactly_at}
use Rattle.rules.proofs.Accepted.{accepted_placed}
use Rattle.rules.proofs.Steps.{turn-same}

-- ## ask

module _ (l : Layout) (p : Page) (s : Size) where
  pub ask-refused : (r : Refusal) → asked l p s ≡ Err r → ask_refusal l p s ≡ some r
  unfolding asked
  ask-refused r e = go (fits_page l p s) (ask_refusal l p s) e
    where
      go : (b : Bool) (o : Option Refusal) → ask_answer b o ≡ Err r → o ≡ some r
      go true none q = absurd cc
      go false none q = absurd cc
      go b (some n) q = let z : n ≡ r = cc in ap some z

  refused-ask : (r : Refusal) → ask_refusal l p s ≡ some r → asked l p s ≡ Err r
  unfolding asked
  refused-ask r e = ap (ask_answer (fits_page l p s)) e

  -- place n of the row
  pub ask-at : (n : ℕ) → n < 4 → Once n (ask_row l p s) → asked l p s ≡ Err (refusal_at n (ask_row l p s)) ↔ (Passed n (ask_row l p s) × (test_at n (ask_row l p s) ≡ true))
  ask-at n h o =
      let x = exactly_at (ask_row l p s) n h o in
      let r = refusal_at n (ask_row l p s) in
      (λ e. x.0 (sym (ask-row l p s) ∙ ask-refused r e), λ t. refused-ask r (ask-row l p s ∙ x.1 t))

  -- where no check holds: yes or no
  pub ask_passed : ask_refusal l p s ≡ none → asked l p s ≡ Ok (fits_page l p s)
  unfolding asked
  ask_passed e = ap (ask_answer (fits_page l p s)) e

-- ## offer

module _ (l : Layout) (s : Stores) (k : Key) (i : Image) where
  pub offer-refused : (r : Refusal) → (offered l s k i).answer ≡ Err r → offer_refusal l s k i ≡ some r
  unfolding offered
  offer-refused r e = go (offer_refusal l s k i) refl (placed l.config (standing l) (art_for l.config s k i)) refl e
    where
      go : (o : Option Refusal) → offer_refusal l s k i ≡ o → (q : Option Record) → placed l.config (standing l) (art_for l.config s k i) ≡ q
          → (offer_answer l q o).answer ≡ Err r → o ≡ some r
      go none f none g h = let t = (accepted_placed l s k i f).1 in let z : ◌≡◌ {A = ℕ} 0 1 = never (sym g ∙ t) in absurd (omega arith)
        where
          never : {r : Record} → none ≡ some r → ◌≡◌ {A = ℕ} 0 1
          never w = cc
      go none f (some q) g h = absurd cc
      go (some n) f q g h = let z : n ≡ r = cc in ap some z

  pub refused-offer : (r : Refusal) → offer_refusal l s k i ≡ some r → offered l s k i ≡ record { answer = Err r; layout = l }
  unfolding offered
  refused-offer r e = ap (offer_answer l (placed l.config (standing l) (art_for l.config s k i))) e

  pub offer-at : (n : ℕ) → n < 9 → Once n (offer_row l s k i)
      → (offered l s k i).answer ≡ Err (refusal_at n (offer_row l s k i)) ↔ (Passed n (offer_row l s k i) × (test_at n (offer_row l s k i) ≡ true))
  offer-at n h o =
      let x = exactly_at (offer_row l s k i) n h o in
      let r = refusal_at n (offer_row l s k i) in (
        λ e. x.0 (sym (offer-row l s k i) ∙ offer-refused r e),
        λ t. ap (λ o. o.answer) (refused-offer r (offer-row l s k i ∙ x.1 t)),
      )

  pub offer_back : (r : Refusal) → (offered l s k i).answer ≡ Err r → (offered l s k i).layout ≡ l
  offer_back r e = ap (λ o. o.layout) (refused-offer r (offer-refused r e))

-- ## withdraw

module _ (l : Layout) where
  pub withdraw_refused : (r : Refusal) → (withdrawn l).answer ≡ Err r → withdraw_refusal l ≡ some r
  unfolding withdrawn
  withdraw_refused r e = go (withdraw_refusal l) e
    where
      go : (o : Option Refusal) → (withdraw_answer l o).answer ≡ Err r → o ≡ some r
      go none q = absurd cc
      go (some n) q = let z : n ≡ r = cc in ap some z

  pub refused_withdraw : (r : Refusal) → withdraw_refusal l ≡ some r → withdrawn l ≡ record { answer = Err r; layout = l }
  unfolding withdrawn
  refused_withdraw r e = ap (withdraw_answer l) e

  pub withdraw_at : (n : ℕ) → n < 3 → Once n (withdraw_row l)
      → (withdrawn l).answer ≡ Err (refusal_at n (withdraw_row l)) ↔ (Passed n (withdraw_row l) × (test_at n (withdraw_row l) ≡ true))
  withdraw_at n h o =
      let x = exactly_at (withdraw_row l) n h o in
      let r = refusal_at n (withdraw_row l) in (
        λ e. x.0 (sym (withdraw_row_lem l) ∙ withdraw_refused r e),
        λ t. ap (λ o. o.answer) (refused_withdraw r (withdraw_row_lem l ∙ x.1 t)),
      )

  pub withdraw_back : (r : Refusal) → (withdrawn l).answer ≡ Err r → (withdrawn l).layout ≡ l
  withdraw_back r e = ap (λ o. o.layout) (refused_withdraw r (withdraw_refused r e))

-- ## the numbers and values of an answer tell it

pub asked_tells : (a b : Asked) → asked_numbers a ≡ asked_numbers b → a ≡ b
asked_tells (Ok true) (Ok true) e = refl
asked_tells (Ok true) (Ok false) e = absurd cc
asked_tells (Ok true) (Err r) e = let z : 0 ≡ number_of r = cc in absurd (number-some r (sym z))
asked_tells (Ok false) (Ok true) e = absurd cc
asked_tells (Ok false) (Ok false) e = refl
asked_tells (Ok false) (Err r) e = let z : 0 ≡ number_of r = cc in absurd (number-some r (sym z))
asked_tells (Err r) (Ok true) e = let z : number_of r ≡ 0 = cc in absurd (number-some r z)
asked_tells (Err r) (Ok false) e = let z : number_of r ≡ 0 = cc in absurd (number-some r z)
asked_tells (Err r) (Err q) e = let z : number_of r ≡ number_of q = cc in ap Err (number_tells r q z)

pub offered_tells : (a b : Offered) → offered_numbers a ≡ offered_numbers b → a ≡ b
offered_tells (Ok p) (Ok q) e =
    let pg : p.page.0 ≡ q.page.0 = cc in
    let x : p.frame.x ≡ q.frame.x = cc in
    let y : p.frame.y ≡ q.frame.y = cc in
    let w : p.frame.w ≡ q.frame.w = cc in
    let h : p.frame.h ≡ q.frame.h = cc in
    let n : turn_number p.turn ≡ turn_number q.turn = cc in
    let tu = turn-same p.turn q.turn n in
    λ i. Ok (record { page = record { 0 = pg i }; frame = record { x = x i; y = y i; w = w i; h = h i }; turn = tu i })
offered_tells (Ok p) (Err r) e = let z : 0 ≡ number_of r = cc in absurd (number-some r (sym z))
offered_tells (Err r) (Ok p) e = let z : number_of r ≡ 0 = cc in absurd (number-some r z)
offered_tells (Err r) (Err q) e = let z : number_of r ≡ number_of q = cc in ap Err (number_tells r q z)

pub withdrawn_tells : (a b : Withdrawn) → withdrawn_numbers a ≡ withdrawn_numbers b → a ≡ b
withdrawn_tells (Ok k) (Ok j) e = let z : k.0 ≡ j.0 = cc in λ i. Ok (record { 0 = z i })
withdrawn_tells (Ok k) (Err r) e = let z : 0 ≡ number_of r = cc in absurd (number-some r (sym z))
withdrawn_tells (Err r) (Ok k) e = let z : number_of r ≡ 0 = cc in absurd (number-some r z)
withdrawn_tells (Err r) (Err q) e = let z : number_of r ≡ number_of q = cc in ap Err (number_tells r q z)
