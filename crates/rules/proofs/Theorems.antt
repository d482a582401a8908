-- What document 01 says of ask, offer and withdraw, and demand 3, each under the sentence that it carries. The crates above cite these.
-- Assumes nothing.
use Rattle.std.specs.Prelude.{Ok, Err, Some, None}
use Prim.Native.Nat.{ℕ, ◌≤◌}
use native.Mathlib.Omega.{arith}
use mathlib.Core.Path.{◌≡◌, refl, sym, ◌∙◌, ap}
use mathlib.Core.Bool.{true, false, not, ◌&&◌}
use mathlib.Core.List.{List, [], ◌∷◌, map, Memᴰ}
use mathlib.Core.Logic.{◌↔◌}
use mathlib.Core.Option.{Option, none, some}
use lib.ListN.{length}
use lib.Dec.{leb, eqb}
use Rattle.geometry.specs.Words.{all_of, any}
use Rattle.geometry.specs.Fits.{HasPixels, Within, AllApart}
use Rattle.geometry.specs.declared.rect.Rect.{Rect}
use Rattle.geometry.specs.declared.rect.Size.{Size}
use Rattle.geometry.specs.declared.spot.Spot.{Spot}
use Rattle.art.specs.Stores.{Stores, runs_past}
use Rattle.art.specs.Trimming.{all_clear}
use Rattle.art.specs.declared.memory_rgba8_texture.Image.{Image}
use Rattle.records.specs.Refusals.{number_of, first_refusal, row_numbers}
use Rattle.records.specs.Settings.{in_bounds, blank_config, empty_layout}
use Rattle.records.specs.Records.{size_of}
use Rattle.records.specs.Layouts.{standing, has_key, well_formed, page_count}
use Rattle.records.specs.Operations.{Opening, no_such_page, opened}
use Rattle.records.specs.declared.texture_packer_config.Config.{Config}
use Rattle.records.specs.declared.frame.Key.{Key}
use Rattle.records.specs.declared.frame.Page.{Page}
use Rattle.records.specs.declared.frame.Record.{Record}
use Rattle.records.specs.declared.layout.Layout.{Layout}
use Rattle.records.specs.declared.refusal.Refusal.{Refusal}
use Rattle.records.specs.declared.refusal.Refusal.TheVariants.{NotWellFormed, NotFaithful, BadSize, PastStore, KeyStands, AllClear, TooLarge, ImageLimit, PageLimit, NoSuchPage, NothingStands}
use Rattle.rules.specs.declared.multi_texture_packer.Place.{Place}
use Rattle.rules.specs.Placing.{canvas, spot_on, cells_on, placed}
use Rattle.rules.specs.Faithful.{art_of, faithful}
use Rattle.rules.specs.Operations.{bad_size, ask_refusal, fits_page, asked, asked_numbers, art_for, too_large, pages_full, offer_refusal, with_record, offer_answer, offered, offered_numbers, withdraw_refusal, withdrawn, withdrawn_numbers, ask_row, offer_row, withdraw_row, Asked, Offered, Offering, Withdrawn, Withdrawing, place_of}
use Rattle.rules.specs.Story.{Call, Ask, step, layout_after, images_after}
use Rattle.geometry.proofs.Words.{not_both}
use Rattle.geometry.proofs.Theorems.{page-inside, page_apart}
use Rattle.records.proofs.Rows.{Nones}
use Rattle.records.proofs.Answers.{opened-done, opened-refused}
use Rattle.art.proofs.Theorems.{one}
use Rattle.rules.proofs.Rows.{ask-row, offer-row, withdraw_row_lem, Passed, answer_in, holds-none}
use Rattle.rules.proofs.Pages.{PagesFilled}
use Rattle.rules.proofs.Accepted.{large_exactly, smaller_fits, art_pixels, art_smaller, accepted_placed, NoPageFits, full_exactly}
use Rattle.rules.proofs.Answers.{ask-refused, ask-at, ask_passed, offer-refused, offer-at, offer_back, withdraw_refused, withdraw_at, withdraw_back, asked_tells, offered_tells, withdrawn_tells}
use Rattle.rules.proofs.Standing.{empty-filled}
use Rattle.rules.proofs.Sound.{sound_pages, none_sound}
use Rattle.rules.proofs.Story.{standing_sound, layout-stands, calls_stand, Demand3, stands_demand, calls_shut, images_shut}
use Rattle.rules.proofs.Undo.{gone, undone}

-- ## "ask (page, size): 2 3 4 11"; "offer: 2 3 4 5 6 7 8 9 10"; "withdraw latest: 2 3 18"

pub ask-order : (l : Layout) (p : Page) (s : Size)
    → (ask_refusal l p s ≡ first_refusal (ask_row l p s)) × (row_numbers (ask_row l p s) ≡ 2 ∷ 3 ∷ 4 ∷ 11 ∷ [])
ask-order l p s = (ask-row l p s, refl)

pub offer-order : (l : Layout) (s : Stores) (k : Key) (i : Image)
    → (offer_refusal l s k i ≡ first_refusal (offer_row l s k i)) × (row_numbers (offer_row l s k i) ≡ 2 ∷ 3 ∷ 4 ∷ 5 ∷ 6 ∷ 7 ∷ 8 ∷ 9 ∷ 10 ∷ [])
offer-order l s k i = (offer-row l s k i, refl)

pub withdraw_order : (l : Layout) → (withdraw_refusal l ≡ first_refusal (withdraw_row l)) × (row_numbers (withdraw_row l) ≡ 2 ∷ 3 ∷ 18 ∷ [])
withdraw_order l = (withdraw_row_lem l, refl)

-- ## "Each row's checks run left to right; the first that holds is answered. Each is given exactly when its condition holds."

-- `Passed n` says that none of the first n checks of the row holds.
module _ (l : Layout) (p : Page) (s : Size) where
  pub ask_2 : asked l p s ≡ Err NotWellFormed ↔ (Passed 0 (ask_row l p s) × (not (well_formed l) ≡ true))
  ask_2 = ask-at l p s 0 (omega arith) (refl, refl)

  pub ask_3 : asked l p s ≡ Err NotFaithful ↔ (Passed 1 (ask_row l p s) × (not (faithful l) ≡ true))
  ask_3 = ask-at l p s 1 (omega arith) (refl, refl)

  pub ask_4 : asked l p s ≡ Err BadSize ↔ (Passed 2 (ask_row l p s) × (bad_size s.w s.h ≡ true))
  ask_4 = ask-at l p s 2 (omega arith) (refl, refl)

  pub ask_11 : asked l p s ≡ Err NoSuchPage ↔ (Passed 3 (ask_row l p s) × (no_such_page l p ≡ true))
  ask_11 = ask-at l p s 3 (omega arith) (refl, refl)

  -- no other number is answered
  pub ask-only : (r : Refusal) → asked l p s ≡ Err r → Memᴰ (number_of r) (2 ∷ 3 ∷ 4 ∷ 11 ∷ [])
  ask-only r e = answer_in (ask_row l p s) r (sym (ask-row l p s) ∙ ask-refused l p s r e)

  -- "Asking answers yes or no for one page as it stands."
  pub ask-answers : Nones (ask_row l p s) → asked l p s ≡ Ok (fits_page l p s)
  ask-answers h = ask_passed l p s (ask-row l p s ∙ holds-none (ask_row l p s) h)

module _ (l : Layout) (s : Stores) (k : Key) (i : Image) where
  pub offer_2 : (offered l s k i).answer ≡ Err NotWellFormed ↔ (Passed 0 (offer_row l s k i) × (not (well_formed l) ≡ true))
  offer_2 = offer-at l s k i 0 (omega arith) (refl, refl)

  pub offer_3 : (offered l s k i).answer ≡ Err NotFaithful ↔ (Passed 1 (offer_row l s k i) × (not (faithful l) ≡ true))
  offer_3 = offer-at l s k i 1 (omega arith) (refl, refl)

  pub offer_4 : (offered l s k i).answer ≡ Err BadSize ↔ (Passed 2 (offer_row l s k i) × (bad_size i.w i.h ≡ true))
  offer_4 = offer-at l s k i 2 (omega arith) (refl, refl)

  pub offer_5 : (offered l s k i).answer ≡ Err PastStore ↔ (Passed 3 (offer_row l s k i) × (runs_past s i ≡ true))
  offer_5 = offer-at l s k i 3 (omega arith) (refl, refl)

  pub offer_6 : (offered l s k i).answer ≡ Err KeyStands ↔ (Passed 4 (offer_row l s k i) × (any (has_key k) (standing l) ≡ true))
  offer_6 = offer-at l s k i 4 (omega arith) (refl, refl)

  pub offer_7 : (offered l s k i).answer ≡ Err AllClear ↔ (Passed 5 (offer_row l s k i) × ((l.config.trim && all_clear s i) ≡ true))
  offer_7 = offer-at l s k i 5 (omega arith) (refl, refl)

  pub offer_8 : (offered l s k i).answer ≡ Err TooLarge
      ↔ (Passed 6 (offer_row l s k i) × (too_large l.config (size_of (art_for l.config s k i).kept) ≡ true))
  offer_8 = offer-at l s k i 6 (omega arith) (refl, refl)

  pub offer_9 : (offered l s k i).answer ≡ Err ImageLimit ↔ (Passed 7 (offer_row l s k i) × (leb l.config.images l.count ≡ true))
  offer_9 = offer-at l s k i 7 (omega arith) (refl, refl)

  pub offer_10 : (offered l s k i).answer ≡ Err PageLimit
      ↔ (Passed 8 (offer_row l s k i) × (pages_full l.config (standing l) (art_for l.config s k i).whole ≡ true))
  offer_10 = offer-at l s k i 8 (omega arith) (refl, refl)

  pub offer-only : (r : Refusal) → (offered l s k i).answer ≡ Err r
      → Memᴰ (number_of r) (2 ∷ 3 ∷ 4 ∷ 5 ∷ 6 ∷ 7 ∷ 8 ∷ 9 ∷ 10 ∷ [])
  offer-only r e = answer_in (offer_row l s k i) r (sym (offer-row l s k i) ∙ offer-refused l s k i r e)

module _ (l : Layout) where
  pub withdraw_2 : (withdrawn l).answer ≡ Err NotWellFormed ↔ (Passed 0 (withdraw_row l) × (not (well_formed l) ≡ true))
  withdraw_2 = withdraw_at l 0 (omega arith) (refl, refl)

  pub withdraw_3 : (withdrawn l).answer ≡ Err NotFaithful ↔ (Passed 1 (withdraw_row l) × (not (faithful l) ≡ true))
  withdraw_3 = withdraw_at l 1 (omega arith) (refl, refl)

  pub withdraw_18 : (withdrawn l).answer ≡ Err NothingStands ↔ (Passed 2 (withdraw_row l) × (eqb l.count 0 ≡ true))
  withdraw_18 = withdraw_at l 2 (omega arith) (refl, refl)

  pub withdraw_only : (r : Refusal) → (withdrawn l).answer ≡ Err r → Memᴰ (number_of r) (2 ∷ 3 ∷ 18 ∷ [])
  withdraw_only r e = answer_in (withdraw_row l) r (sym (withdraw_row_lem l) ∙ withdraw_refused l r e)

-- ## "8 trimmed cell fits an empty canvas in no allowed orientation"

-- an empty page has no spot for it
pub large_empty : (c : Config) (s : Size) → HasPixels s → too_large c s ≡ true ↔ spot_on c [] s ≡ None
large_empty = large_exactly

pub offer_8_empty : (l : Layout) (s : Stores) (k : Key) (i : Image)
    → (offered l s k i).answer ≡ Err TooLarge ↔ (Passed 6 (offer_row l s k i) × (spot_on l.config [] (size_of (art_for l.config s k i).kept) ≡ None))
offer_8_empty l s k i = (
  λ e. let h = (offer_8 l s k i).0 e in (h.0, (exact h.0).0 h.1),
  λ h. (offer_8 l s k i).1 (h.0, (exact h.0).1 h.1),
)
  where
    exact : Passed 6 (offer_row l s k i)
        → too_large l.config (size_of (art_for l.config s k i).kept) ≡ true ↔ spot_on l.config [] (size_of (art_for l.config s k i).kept) ≡ None
    exact p = large_exactly l.config (size_of (art_for l.config s k i).kept) (art_pixels l s k i p.1.1.0 p.1.1.1.1.1.0)

-- ## "10 no page fits the whole size and the page limit is reached"

pub full_pages : (c : Config) (rs : List Record) (whole : Size) → pages_full c rs whole ≡ true ↔ (NoPageFits c rs whole × (c.pages ≤ page_count rs))
full_pages = full_exactly

-- ## "Pages are tried in order with the WHOLE size. The first that fits takes the trimmed cell. If none fits, a new page takes the trimmed
-- cell."

-- a page that fits the whole size fits the trimmed cell
pub whole-fits : (l : Layout) (s : Stores) (k : Key) (i : Image) (cells : List Rect) (j : Spot)
    → spot_on l.config cells (art_for l.config s k i).whole ≡ Some j
    → (q : Spot) × (spot_on l.config cells (size_of (art_for l.config s k i).kept) ≡ Some q)
whole-fits l s k i cells j e =
    smaller_fits l.config cells (size_of (art_for l.config s k i).kept) (art_for l.config s k i).whole (art_smaller l s k i) j e

-- so what no check refuses is placed: the last case of `offer_answer` does not arise
pub offer-placed : (l : Layout) (s : Stores) (k : Key) (i : Image) → offer_refusal l s k i ≡ none
    → (r : Record) × (placed l.config (standing l) (art_for l.config s k i) ≡ some r)
    × (offered l s k i ≡ record { answer = Ok (place_of r); layout = with_record l r })
unfolding offered
offer-placed l s k i e =
    let p = accepted_placed l s k i e in (
      p.0,
      p.1,
      ap (offer_answer l (placed l.config (standing l) (art_for l.config s k i))) e ∙ ap (λ (o : Option Record). offer_answer l o none) p.1,
    )

-- ## demand 3: "all cells in the canvas, no two on one page sharing a pixel", over the placing rule

-- in every well-formed and faithful layout
module _ (l : Layout) (formed : well_formed l ≡ true) (true-to : faithful l ≡ true) where
  pub pages_filled : PagesFilled l.config (standing l)
  pages_filled = sound_pages l.config (standing l) (standing_sound l formed true-to)

  pub cells-inside : (p : ℕ) (k : Rect) → Memᴰ k (cells_on l.config (standing l) p) → Within (canvas l.config) k
  cells-inside p k m = page-inside (canvas l.config) l.config.rotation (pages_filled p) k m

  pub cells_apart : (p : ℕ) → AllApart (cells_on l.config (standing l) p)
  cells_apart p = page_apart (canvas l.config) l.config.rotation (pages_filled p)

-- after any calls from a well-formed and faithful layout, whose own records' images stand first
pub demand_3 : (l : Layout) → well_formed l ≡ true → faithful l ≡ true → length l.records ≡ 256 → (calls : List Call)
    → Demand3 l.config (layout_after l calls) (images_after l (map art_of (standing l)) calls)
demand_3 l w f n calls =
    stands_demand l.config (layout_after l calls) (images_after l (map art_of (standing l)) calls)
    (calls_stand l.config l (map art_of (standing l)) calls (layout-stands l w f n))

blank_shut : well_formed (empty_layout blank_config) ≡ false
unfolding well_formed empty_layout blank_config in_bounds all_of
blank_shut = refl

-- and so from an opened one, where nothing stands
pub demand_3_opened : (c : Config) → in_bounds c ≡ true → (calls : List Call)
    → Demand3 c (layout_after (opened c).layout calls) (images_after (opened c).layout [] calls)
demand_3_opened c b calls =
    stands_demand c (layout_after (opened c).layout calls) (images_after (opened c).layout [] calls)
    (calls_stand c (opened c).layout [] calls
    (record { records = []; layout = ap (λ (o : Opening). o.layout) (opened-done c b) ∙ empty-filled c; sound = none_sound c b; images_are = refl }))

-- "A refused open gives the blank layout": every call returns it, and nothing ever stands
pub refused_open : (c : Config) → in_bounds c ≡ false → (calls : List Call)
    → (layout_after (opened c).layout calls ≡ (opened c).layout) × (images_after (opened c).layout [] calls ≡ [])
refused_open c b calls =
    let shut = ap (λ (o : Opening). well_formed o.layout) (opened-refused c b) ∙ blank_shut in
    (calls_shut (opened c).layout shut calls, images_shut (opened c).layout shut [] calls)

-- a layout of demand 3 is never answered 2 or 3
module _ (l : Layout) (formed : well_formed l ≡ true) (true-to : faithful l ≡ true) where
  no_2 : not (well_formed l) ≡ true → ⊥
  no_2 e = not_both e (ap not formed)

  no_3 : not (faithful l) ≡ true → ⊥
  no_3 e = not_both e (ap not true-to)

  pub ask_never : (p : Page) (s : Size) → (asked l p s ≡ Err NotWellFormed → ⊥) × (asked l p s ≡ Err NotFaithful → ⊥)
  ask_never p s = (λ e. no_2 ((ask_2 l p s).0 e).1, λ e. no_3 ((ask_3 l p s).0 e).1)

  pub offer_never : (s : Stores) (k : Key) (i : Image)
      → ((offered l s k i).answer ≡ Err NotWellFormed → ⊥) × ((offered l s k i).answer ≡ Err NotFaithful → ⊥)
  offer_never s k i = (λ e. no_2 ((offer_2 l s k i).0 e).1, λ e. no_3 ((offer_3 l s k i).0 e).1)

  pub withdraw_never : ((withdrawn l).answer ≡ Err NotWellFormed → ⊥) × ((withdrawn l).answer ≡ Err NotFaithful → ⊥)
  withdraw_never = (λ e. no_2 ((withdraw_2 l).0 e).1, λ e. no_3 ((withdraw_3 l).0 e).1)

-- ## "a withdrawal, the key gone"

-- it undoes the latest offer: the key of that offer, and exactly the layout before it
pub withdraw_undoes : (l : Layout) → well_formed l ≡ true → faithful l ≡ true → length l.records ≡ 256
    → (s : Stores) (k : Key) (i : Image) (p : Place)
    → (offered l s k i).answer ≡ Ok p → withdrawn (offered l s k i).layout ≡ gone k l
withdraw_undoes = undone

-- ## "Other refusals return the layout as given"

pub ask_keeps : (l : Layout) (p : Page) (s : Size) → step (Ask p s) l ≡ l
unfolding step
ask_keeps l p s = refl

pub offer_keeps : (l : Layout) (s : Stores) (k : Key) (i : Image) (r : Refusal) → (offered l s k i).answer ≡ Err r → (offered l s k i).layout ≡ l
offer_keeps = offer_back

pub withdraw_keeps : (l : Layout) (r : Refusal) → (withdrawn l).answer ≡ Err r → (withdrawn l).layout ≡ l
withdraw_keeps = withdraw_back

-- ## "a definition gives this paper's number and values for each of its cases"

pub asked_one : (a b : Asked) → asked_numbers a ≡ asked_numbers b → a ≡ b
asked_one = asked_tells

pub offered_one_lem : (a b : Offered) → offered_numbers a ≡ offered_numbers b → a ≡ b
offered_one_lem = offered_tells

pub withdrawn_one : (a b : Withdrawn) → withdrawn_numbers a ≡ withdrawn_numbers b → a ≡ b
withdrawn_one = withdrawn_tells

-- ## "any two results allowed for one input are shown equal"

pub one_ask : (l : Layout) (p : Page) (s : Size) {r q : Asked} → r ≡ asked l p s → q ≡ asked l p s → r ≡ q
one_ask l p s = one (asked l p s)

pub one_offer : (l : Layout) (s : Stores) (k : Key) (i : Image) {r q : Offering} → r ≡ offered l s k i → q ≡ offered l s k i → r ≡ q
one_offer l s k i = one (offered l s k i)

pub one_withdraw : (l : Layout) {r q : Withdrawing} → r ≡ withdrawn l → q ≡ withdrawn l → r ≡ q
one_withdraw l = one (withdrawn l)
