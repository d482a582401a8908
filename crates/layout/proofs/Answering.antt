-- The rows of ask, offer and withdraw as the code goes through them, but for offer's past 2 and 3. Assumes nothing.
use Prim.Native.Nat.{ℕ, ◌-◌, ◌≤◌, ◌<◌}
use mathlib.Core.Path.{◌≡◌, refl, sym, ap, ◌∙◌}
use mathlib.Core.Bool.{Bool, true, false, not}
use mathlib.Core.List.{List}
use mathlib.Core.Option.{Option, none, some}
use lib.ListN.{length, get_or}
use borrow.Author.Tests.{le-leb, lt-leb, eq-eqb, ne_eqb}
use Rattle.geometry.specs.Placing.{height, spot_for, is_found}
use Rattle.geometry.specs.declared.rect.Size.{Size}
use Rattle.art.specs.Stores.{Stores}
use Rattle.art.specs.declared.memory_rgba8_texture.Image.{Image}
use Rattle.records.specs.Refusals.{first_refusal}
use Rattle.records.specs.Settings.{blank_record}
use Rattle.records.specs.Layouts.{standing, well_formed, page_count}
use Rattle.records.specs.Operations.{no_such_page}
use Rattle.records.specs.declared.texture_packer_config.Config.{Config}
use Rattle.records.specs.declared.frame.Key.{Key}
use Rattle.records.specs.declared.frame.Page.{Page}
use Rattle.records.specs.declared.frame.Record.{Record}
use Rattle.records.specs.declared.layout.Layout.{Layout}
use Rattle.records.specs.declared.refusal.Refusal.TheVariants.{NotWellFormed, NotFaithful, BadSize, NoSuchPage, NothingStands}
use Rattle.records.proofs.Rows.{hit, skipped, none_left}
use Rattle.rules.specs.Placing.{canvas, cell_size, spot_on, cells_on, placed}
use Rattle.rules.specs.Faithful.{faithful}
use Rattle.rules.specs.Operations.{bad_size, ask_refusal, ask_answer, Asked, asked, fits_page, art_for, offer_refusal, offer_answer, Offering, offered, withdraw_refusal, withdraw_answer, withdrawn, without_latest}
use Rattle.offers.specs.Offers.{room_rest, offer_rest}
use Rattle.faithful.specs.Replay.{trust}
use Rattle.faithful.proofs.Trusting.{distrusted}
use Rattle.layout.specs.Rest.{ask_rest}
use Rattle.std.specs.Prelude.{Result, Ok, Err, Some, None}
use Rattle.std.specs.List.{slice_get}
use Rattle.std.proofs.lemmas.Option.{slice_get_within, slice_get-get_or, get_or_from_slice_get}
use Rattle.records.proofs.Standing.{standing-long, standing-at}
use Rattle.offers.specs.Offers.{unless}
use native.Mathlib.Omega.{arith}
use native.Mathlib.Decide.{dec_lt}
use Rattle.records.specs.declared.refusal.Refusal.{Refusal}

-- ## 2 and 3 first

module _ (l : Layout) (t : Result ℕ Refusal) (e : t ≡ trust l) where
  pub ask-distrusted : (p : Page) (s : Size) (n : Refusal) → t ≡ Err n → Err n ≡ asked l p s
  unfolding asked ask_refusal
  ask-distrusted p s n q = ap (ask_answer (fits_page l p s)) (sym (distrusted l t e n q _))

  pub offer-distrusted : (s : Stores) (k : Key) (i : Image) (n : Refusal) → t ≡ Err n → record { answer = Err n; layout = l } ≡ offered l s k i
  unfolding offered offer_refusal
  offer-distrusted s k i n q = go (placed l.config (standing l) (art_for l.config s k i)) ∙ ap (offer_answer l (placed l.config (standing l) (art_for l.config s k i))) (sym (distrusted l t e n q _))
    where
      go : (pl : Option Record) → record { answer = Err n; layout = l } ≡ offer_answer l pl (some n)
      go none = refl
      go (some r) = refl

  pub withdraw-distrusted : (n : Refusal) → t ≡ Err n → withdraw_refusal l ≡ some n
  unfolding withdraw_refusal
  withdraw-distrusted n q = distrusted l t e n q _

module _ (l : Layout) (w : well_formed l ≡ true) (f : faithful l ≡ true) where
  pub ask-rest : (p : Page) (s : Size) (r : Asked)
      → r ≡ ask_answer (is_found (spot_on l.config (cells_on l.config (standing l) p.0) s)) (first_refusal (ask_rest (standing l) p s)) → r ≡ asked l p s
  unfolding asked ask_refusal ask_rest no_such_page fits_page
  ask-rest p s r e = e ∙ ap (ask_answer (fits_page l p s)) (sym (skipped _ NotWellFormed _ (ap not w) ∙ skipped _ NotFaithful _ (ap not f)))

  pub offer-rest : (s : Stores) (k : Key) (i : Image) (r : Offering)
      → r ≡ offer_answer l (placed l.config (standing l) (art_for l.config s k i)) (first_refusal (offer_rest l s k i)) → r ≡ offered l s k i
  unfolding offered offer_refusal offer_rest room_rest
  offer-rest s k i r e = e ∙ ap (offer_answer l (placed l.config (standing l) (art_for l.config s k i))) (sym (skipped _ NotWellFormed _ (ap not w) ∙ skipped _ NotFaithful _ (ap not f)))

  -- 18, and none of a withdrawal's checks
  pub none_gone : l.count ≡ 0 → withdraw_refusal l ≡ some NothingStands
  unfolding withdraw_refusal
  none_gone e = skipped _ NotWellFormed _ (ap not w) ∙ skipped _ NotFaithful _ (ap not f) ∙ hit _ NothingStands _ (eq-eqb _ _ e)

  pub gone : (l.count ≡ 0 → ⊥) → withdraw_refusal l ≡ none
  unfolding withdraw_refusal
  gone nz = skipped _ NotWellFormed _ (ap not w) ∙ skipped _ NotFaithful _ (ap not f) ∙ skipped _ NothingStands _ (ne_eqb _ _ nz) ∙ none_left

-- ## ask, past 2 and 3

-- what the code asks the page is the rule's question
pub ask-found : (c : Config) (rs : List Record) (p : ℕ) (s area cell : Size) (b : Bool) → area ≡ canvas c → cell ≡ cell_size c s
    → b ≡ is_found (spot_for (height (cells_on c rs p)) area c.rotation cell) → is_found (spot_on c (cells_on c rs p) s) ≡ b
unfolding spot_on
ask-found c rs p s area cell b ea ec e =
    ap (λ (z : Size). is_found (spot_for (height (cells_on c rs p)) z c.rotation (cell_size c s))) (sym ea)
    ∙ ap (λ (z : Size). is_found (spot_for (height (cells_on c rs p)) area c.rotation z)) (sym ec) ∙ sym e

module _ (rs : List Record) (p : Page) (s : Size) (b : Bool) where
  pub ask-size : bad_size s.w s.h ≡ true → Err BadSize ≡ ask_answer b (first_refusal (ask_rest rs p s))
  unfolding ask_rest
  ask-size e = ap (ask_answer b) (sym (hit _ BadSize _ e))

  pub ask-page : bad_size s.w s.h ≡ false → page_count rs ≤ p.0 → Err NoSuchPage ≡ ask_answer b (first_refusal (ask_rest rs p s))
  unfolding ask_rest
  ask-page e h = ap (ask_answer b) (sym (skipped _ BadSize _ e ∙ hit _ NoSuchPage _ (le-leb _ _ h)))

  passes : bad_size s.w s.h ≡ false → p.0 < page_count rs → none ≡ first_refusal (ask_rest rs p s)
  unfolding ask_rest
  passes e h = sym (skipped _ BadSize _ e ∙ skipped _ NoSuchPage _ (lt-leb _ _ h) ∙ none_left)

  -- the page's answer, for the question as the rule puts it
  pub ask-is : (r : Bool) → bad_size s.w s.h ≡ false → p.0 < page_count rs → b ≡ r → Ok r ≡ ask_answer b (first_refusal (ask_rest rs p s))
  ask-is r e h q = ap Ok (sym q) ∙ ap (ask_answer b) (passes e h)

-- ## a withdrawal

-- the latest of the standing records, if there is one
module _ (l : Layout) (long : length l.records ≡ 256) (few : l.count ≤ 256) where
  pub latest-none : None ≡ slice_get (standing l) (length (standing l) - 1) → l.count ≡ 0
  latest-none e = let n = standing-long l long few in go (dec_lt 0 l.count)
    where
      go : Dec (0 < l.count) → l.count ≡ 0
      go (no h) = omega arith
      go (yes h) =
          let n = standing-long l long few in
          let m : length (standing l) - 1 < length (standing l) = omega arith in
          let s = slice_get-get_or (standing l) (length (standing l) - 1) blank_record m in absurd (cc)

  pub latest-is : (r : Record) → Some r ≡ slice_get (standing l) (length (standing l) - 1) → (0 < l.count) × (r ≡ get_or l.records (l.count - 1) blank_record)
  latest-is r e =
      let n = standing-long l long few in
      let w = slice_get_within (standing l) _ r (sym e) in (
        omega arith,
        sym (get_or_from_slice_get (standing l) _ r blank_record (sym e))
            ∙ ap (λ (k : ℕ). get_or (standing l) (k - 1) blank_record) n
            ∙ standing-at l long few blank_record (l.count - 1) (omega arith),
      )

module _ (l : Layout) where
  pub withdrawn-gone : (n : Layout) (k : Key) → n ≡ without_latest l → Ok k ≡ unless (get_or l.records (l.count - 1) blank_record).key (withdraw_refusal l)
      → record { answer = Ok k; layout = n } ≡ withdrawn l
  unfolding withdrawn
  withdrawn-gone n k e q = go (withdraw_refusal l) q
    where
      go : (o : Option Refusal) → Ok k ≡ unless (get_or l.records (l.count - 1) blank_record).key o → record { answer = Ok k; layout = n } ≡ withdraw_answer l o
      go none q = let s : k ≡ (get_or l.records (l.count - 1) blank_record).key = cc in λ i. record { answer = Ok (s i); layout = e i }
      go (some m) q = absurd (cc)

  pub withdrawn-refused : (m : Refusal) → Err m ≡ unless (get_or l.records (l.count - 1) blank_record).key (withdraw_refusal l)
      → record { answer = Err m; layout = l } ≡ withdrawn l
  unfolding withdrawn
  withdrawn-refused m q = go (withdraw_refusal l) q
    where
      go : (o : Option Refusal) → Err m ≡ unless (get_or l.records (l.count - 1) blank_record).key o → record { answer = Err m; layout = l } ≡ withdraw_answer l o
      go none q = absurd (cc)
      go (some n) q = let s : m ≡ n = cc in λ i. record { answer = Err (s i); layout = l }
