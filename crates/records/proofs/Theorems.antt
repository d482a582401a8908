-- What document 01 says of open and of page size, each theorem under the sentence that it carries. Assumes nothing.
use Prim.Native.Nat.{ℕ, zero, suc, ◌≤◌, ◌<◌}
use native.Mathlib.Omega.{arith}
use mathlib.Core.Bool.{not, Bool, true, false}
use mathlib.Core.Option.{Option, none, some}
use mathlib.Core.Path.{◌≡◌, refl, sym, ap, ◌∙◌}
use mathlib.Core.List.{List, [], ◌∷◌}
use mathlib.Core.Logic.{◌↔◌, ◌⊎◌, inl, inr}
use lib.ListN.{get_or, replicate}
use borrow.Author.Tests.{not-true, not-false, leb-true, leb-false}
use Rattle.geometry.proofs.Words.{both}
use Rattle.geometry.specs.Words.{all, greatest}
use Rattle.geometry.specs.declared.rect.Size.{Size}
use Rattle.art.proofs.Theorems.{one}
use Rattle.std.specs.Prelude.{⊤, Result, Ok, Err}
use Rattle.records.specs.Operations.{Opening, size_refusal, size_answer, no_such_page, opened_numbers, sized_numbers, open_row, opened, size_row, page_sized}
use Rattle.records.specs.Refusals.{number_of, row_numbers}
use Rattle.records.specs.Settings.{in_bounds, blank_config, blank_record, empty_layout}
use Rattle.records.specs.Records.{is_blank, record_well_formed}
use Rattle.records.specs.Layouts.{standing, unused, well_formed, page_count, size_of_page}
use Rattle.records.specs.declared.texture_packer_config.Config.{Config}
use Rattle.records.specs.declared.frame.Page.{Page}
use Rattle.records.specs.declared.layout.Layout.{Layout}
use Rattle.records.specs.declared.refusal.Refusal.{Refusal}
use Rattle.records.specs.declared.refusal.Refusal.TheVariants.{OutOfBounds, NotWellFormed, NotFaithful, BadSize, PastStore, KeyStands, AllClear, TooLarge, ImageLimit, PageLimit, NoSuchPage, EmptyPage, BadRows, BadLength, NoSuchKey, PastPage, BadInset, NothingStands}
use Rattle.records.proofs.Rows.{First, is-first, passed, exactly}
use Rattle.records.proofs.Checks.{is_blank_lem, forms}
use Rattle.records.proofs.Answers.{opened-done, opened-refused, size-unformed, size_no_page, size-passes, sized_refused, sized_is}

-- ## "Each row's checks run left to right; the first that holds is answered. Each is given exactly when its condition holds."

pub open_numbers : (c : Config) → row_numbers (open_row c) ≡ 1 ∷ []
unfolding open_row
open_numbers c = refl

pub size-numbers : (l : Layout) (p : Page) → row_numbers (size_row l p) ≡ 2 ∷ 11 ∷ []
unfolding size_row
size-numbers l p = refl

-- a test is yes or no
either : (b : Bool) → (b ≡ true) ⊎ (b ≡ false)
either true = inl refl
either false = inr refl

module _ (c : Config) where
  answer_of : {o : Opening} → opened c ≡ o → (opened c).answer ≡ o.answer
  answer_of e = ap (λ (o : Opening). o.answer) e

  pub open_done : (opened c).answer ≡ Ok tt ↔ in_bounds c ≡ true
  open_done = (λ e. go e (either (in_bounds c)), λ b. answer_of (opened-done c b))
    where
      go : (opened c).answer ≡ Ok tt → (in_bounds c ≡ true) ⊎ (in_bounds c ≡ false) → in_bounds c ≡ true
      go e (inl b) = b
      go e (inr b) = let a = answer_of (opened-refused c b) in absurd cc

  -- 1: configuration out of bounds; and no other number
  pub open_1 : (r : Refusal) → (opened c).answer ≡ Err r ↔ (r ≡ OutOfBounds) × (in_bounds c ≡ false)
  open_1 r = (λ e. go e (either (in_bounds c)), λ h. answer_of (opened-refused c h.1) ∙ ap Err (sym h.0))
    where
      go : (opened c).answer ≡ Err r → (in_bounds c ≡ true) ⊎ (in_bounds c ≡ false) → (r ≡ OutOfBounds) × (in_bounds c ≡ false)
      go e (inl b) = let a = answer_of (opened-done c b) in absurd cc
      go e (inr b) = let a = answer_of (opened-refused c b) in ((cc), b)

module _ (l : Layout) (p : Page) where
  answered : {r : Refusal} (o : Option Refusal) → size_answer (size_of_page l p) o ≡ Err r → o ≡ some r
  answered none e = absurd cc
  answered (some q) e = cc

  given : {s : Size} (o : Option Refusal) → size_answer (size_of_page l p) o ≡ Ok s → (o ≡ none) × (s ≡ size_of_page l p)
  given none e = (refl, (cc))
  given (some q) e = absurd cc

  refusal_of : {r : Refusal} → page_sized l p ≡ Err r → size_refusal l p ≡ some r
  unfolding page_sized
  refusal_of e = answered (size_refusal l p) e

  -- 2: not well-formed
  pub size_2 : page_sized l p ≡ Err NotWellFormed ↔ well_formed l ≡ false
  unfolding size_refusal size_row
  size_2 = (
    λ e. not-true _ ((exactly [] (not (well_formed l)) NotWellFormed ((no_such_page l p, NoSuchPage) ∷ []) refl refl).0 (refusal_of e)).1,
    λ f. sized_refused l p (size-unformed l p f),
  )

  -- 11: page not below the page count, of a layout that is well-formed
  pub size_11 : page_sized l p ≡ Err NoSuchPage ↔ (well_formed l ≡ true) × (page_count (standing l) ≤ p.0)
  unfolding size_refusal size_row no_such_page
  size_11 = (to, λ h. sized_refused l p (size_no_page l p h.0 h.1))
    where
      to : page_sized l p ≡ Err NoSuchPage → (well_formed l ≡ true) × (page_count (standing l) ≤ p.0)
      to e =
          let h = (exactly ((not (well_formed l), NotWellFormed) ∷ []) (no_such_page l p) NoSuchPage [] refl refl).0 (refusal_of e) in
          (not-false _ h.0.0, leb-true _ _ h.1)

  -- no number: the size
  pub size_is : (s : Size) → page_sized l p ≡ Ok s ↔ (well_formed l ≡ true) × (p.0 < page_count (standing l)) × (s ≡ size_of_page l p)
  unfolding page_sized size_refusal size_row no_such_page
  size_is s = (to, λ h. sized_is l p (size-passes l p h.0 h.1) ∙ ap Ok (sym h.2))
    where
      to : page_sized l p ≡ Ok s → (well_formed l ≡ true) × (p.0 < page_count (standing l)) × (s ≡ size_of_page l p)
      to e =
          let g = given (size_refusal l p) e in
          let two = passed (not (well_formed l)) NotWellFormed ((no_such_page l p, NoSuchPage) ∷ []) g.0 in
          let eleven = passed (no_such_page l p) NoSuchPage [] two.1 in
          (not-false _ two.0, leb-false _ _ eleven.0, g.1)

  -- and no other number
  pub size-only : (r : Refusal) → page_sized l p ≡ Err r → (r ≡ NotWellFormed) ⊎ (r ≡ NoSuchPage)
  unfolding size_refusal size_row
  size-only r e = go (is-first (size_row l p) (refusal_of e))
    where
      go : First ((not (well_formed l), NotWellFormed) ∷ (no_such_page l p, NoSuchPage) ∷ []) r → (r ≡ NotWellFormed) ⊎ (r ≡ NoSuchPage)
      go (inl h) = inl (sym h.1)
      go (inr h) = last h.1
        where
          last : First ((no_such_page l p, NoSuchPage) ∷ []) r → (r ≡ NotWellFormed) ⊎ (r ≡ NoSuchPage)
          last (inl g) = inr (sym g.1)
          last (inr g) = absurd g.1

-- ## "A refused open gives the blank layout: configuration numbers 0, switches off, no image."

pub refused_blank : (c : Config) → in_bounds c ≡ false → (opened c).layout ≡ empty_layout blank_config
refused_blank c e = ap (λ (o : Opening). o.layout) (opened-refused c e)

-- an empty layout has no image, and each of its 256 places is blank
pub empty-standing : (c : Config) → standing (empty_layout c) ≡ []
unfolding standing empty_layout
empty-standing c = refl

pub empty-unused : (c : Config) → unused (empty_layout c) ≡ replicate 256 blank_record
unfolding unused empty_layout
empty-unused c = refl

-- ## an opened layout is well-formed, has the configuration asked for, and no image

pub opened-empty : (c : Config) → in_bounds c ≡ true → (opened c).layout ≡ empty_layout c
opened-empty c e = ap (λ (o : Opening). o.layout) (opened-done c e)

all_same : {A : Type 0} (t : A → Bool) (x : A) → t x ≡ true → (n : ℕ) → all t (replicate n x) ≡ true
unfolding all
all_same t x e zero = refl
all_same t x e (suc n) = both e (all_same t x e n)

pub empty_formed : (c : Config) → in_bounds c ≡ true → well_formed (empty_layout c) ≡ true
unfolding empty_layout all
empty_formed c e =
    forms (empty_layout c) e (omega arith) (ap (all is_blank) (empty-unused c) ∙ all_same is_blank blank_record is_blank_lem 256)
    (ap (all (record_well_formed c)) (empty-standing c))

pub opened_formed : (c : Config) → (opened c).answer ≡ Ok tt → well_formed (opened c).layout ≡ true
opened_formed c e =
    let b = (open_done c).0 e in
    ap well_formed (opened-empty c b) ∙ empty_formed c b

-- and asked for any page's size it answers 11
pub opened_pages : (c : Config) (p : Page) → (opened c).answer ≡ Ok tt → page_sized (opened c).layout p ≡ Err NoSuchPage
unfolding page_count greatest
opened_pages c p e =
    let b = (open_done c).0 e in
    let none-stands : standing (opened c).layout ≡ [] = ap standing (opened-empty c b) ∙ empty-standing c in
    let no_page : page_count (standing (opened c).layout) ≡ 0 = ap page_count none-stands in
    (size_11 (opened c).layout p).1 (opened_formed c e, omega arith)

-- ## "Where an answer is an enum, a definition gives this paper's number and values for each of its cases."

-- by its number; nothing has the number 0
abbrev refusals : List Refusal
refusals =
    OutOfBounds
    ∷ OutOfBounds
    ∷ NotWellFormed
    ∷ NotFaithful
    ∷ BadSize
    ∷ PastStore
    ∷ KeyStands
    ∷ AllClear
    ∷ TooLarge
    ∷ ImageLimit
    ∷ PageLimit
    ∷ NoSuchPage
    ∷ EmptyPage
    ∷ BadRows
    ∷ BadLength
    ∷ NoSuchKey
    ∷ PastPage
    ∷ BadInset
    ∷ NothingStands
    ∷ []

back : (r : Refusal) → get_or refusals (number_of r) OutOfBounds ≡ r
back OutOfBounds = refl
back NotWellFormed = refl
back NotFaithful = refl
back BadSize = refl
back PastStore = refl
back KeyStands = refl
back AllClear = refl
back TooLarge = refl
back ImageLimit = refl
back PageLimit = refl
back NoSuchPage = refl
back EmptyPage = refl
back BadRows = refl
back BadLength = refl
back NoSuchKey = refl
back PastPage = refl
back BadInset = refl
back NothingStands = refl

-- no two cases have the same number and values
pub number_tells : (r q : Refusal) → number_of r ≡ number_of q → r ≡ q
number_tells r q e = sym (back r) ∙ ap (λ (n : ℕ). get_or refusals n OutOfBounds) e ∙ back q

-- 0 says that nothing is refused
pub number-some : (r : Refusal) → number_of r ≡ 0 → ⊥
number-some r e =
    let first : r ≡ OutOfBounds = sym (back r) ∙ ap (λ (n : ℕ). get_or refusals n OutOfBounds) e in
    let one = ap number_of first in
    omega arith

abbrev head : List ℕ → ℕ
head [] = 0
head (n ∷ ns) = n

pub opened_tells : (o q : Result ⊤ Refusal) → opened_numbers o ≡ opened_numbers q → o ≡ q
opened_tells (Ok a) (Ok b) e = refl
opened_tells (Ok done) (Err r) e = absurd (number-some r (sym (ap head e)))
opened_tells (Err r) (Ok done) e = absurd (number-some r (ap head e))
opened_tells (Err r) (Err s) e = ap Err (number_tells r s (ap head e))

pub sized_tells : (o q : Result Size Refusal) → sized_numbers o ≡ sized_numbers q → o ≡ q
sized_tells (Ok s) (Ok t) e =
    let w : s.w ≡ t.w = cc in
    let h : s.h ≡ t.h = cc in
    λ i. Ok (record { w = w i; h = h i })
sized_tells (Ok s) (Err r) e = absurd (number-some r (sym (ap head e)))
sized_tells (Err r) (Ok s) e = absurd (number-some r (ap head e))
sized_tells (Err r) (Err s) e = ap Err (number_tells r s (ap head e))

-- so an answer is one of the cases exactly when it has that case's number and values
pub opened_numbered : (o q : Result ⊤ Refusal) → o ≡ q ↔ opened_numbers o ≡ opened_numbers q
opened_numbered o q = (ap opened_numbers, opened_tells o q)

pub sized_numbered : (o q : Result Size Refusal) → o ≡ q ↔ sized_numbers o ≡ sized_numbers q
sized_numbered o q = (ap sized_numbers, sized_tells o q)

-- ## "any two results allowed for one input are shown equal"

pub one_open : (c : Config) {r q : Opening} → r ≡ opened c → q ≡ opened c → r ≡ q
one_open c = one (opened c)

pub one_size : (l : Layout) (p : Page) {r q : Result Size Refusal} → r ≡ page_sized l p → q ≡ page_sized l p → r ≡ q
one_size l p = one (page_sized l p)
