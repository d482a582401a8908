-- The row of offer past 2 and 3 as the code goes through it. Assumes nothing.
use Rattle.std.specs.Prelude.{Option as Maybe, Some, None, MatchOption, Result, Ok, Err, IfOk}
use Rattle.std.specs.Option.{is_some}
use Rattle.records.proofs.Keys.{keyed, unkeyed}
use denote.Bor.{Bor}
use Prim.Native.Nat.{◌≤◌, ◌<◌}
use mathlib.Core.Path.{◌≡◌, refl, sym, ap, ◌∙◌}
use mathlib.Core.Bool.{Bool, true, false, cond, ◌&&◌}
use mathlib.Core.List.{List, [], ◌∷◌, ◌++◌}
use mathlib.Core.Option.{Option, none, some}
use native.Mathlib.Omega.{arith}
use native.Mathlib.Decide.{dec_le, dec_lt}
use lib.Dec.{leb, ltb, eqb}
use borrow.Author.Tests.{le-leb, lt-leb, eq-eqb, ne_eqb, lt-ltb, le-ltb}
use Rattle.geometry.specs.Words.{any}
use Rattle.geometry.specs.declared.rect.Rect.{Rect}
use Rattle.geometry.proofs.Words.{both, and_no_left, and_no_right}
use Rattle.art.specs.Stores.{Stores, runs_past}
use Rattle.art.specs.Trimming.{all_clear, trim_box}
use Rattle.art.specs.declared.memory_rgba8_texture.Image.{Image}
use Rattle.records.specs.Refusals.{Row, first_refusal}
use Rattle.records.specs.Records.{size_of}
use Rattle.records.specs.Layouts.{standing, has_key, record_of, page_count}
use Rattle.records.specs.declared.texture_packer_config.Config.{Config}
use Rattle.records.specs.declared.frame.Key.{Key}
use Rattle.records.specs.declared.frame.Record.{Record}
use Rattle.records.specs.declared.layout.Layout.{Layout}
use Rattle.records.specs.declared.refusal.Refusal.{Refusal}
use Rattle.records.specs.declared.refusal.Refusal.TheVariants.{BadSize, PastStore, KeyStands, AllClear, TooLarge, ImageLimit, PageLimit}
use Rattle.records.proofs.Rows.{hit, skipped, none_left}
use Rattle.rules.specs.Placing.{page_for, placed}
use Rattle.rules.specs.Operations.{bad_size, art_for, too_large, pages_full}
use Rattle.rules.specs.declared.placing.Art.{Art}
use Rattle.rules.proofs.Pages.{page-le}
use Rattle.faithful.specs.Replay.{stood}
use Rattle.offers.specs.Offers.{outcome, room_rest, offer_rest, art_rest, unless, record_answer}

-- ## offer, past 7

module _ (l : Layout) (a : Art) where
  pub room_large : (b : Bool) → b ≡ too_large l.config (size_of a.kept) → b ≡ true → first_refusal (room_rest l a) ≡ some TooLarge
  unfolding room_rest
  room_large b e t = hit _ TooLarge _ (sym e ∙ t)

  module _ (b : Bool) (e : b ≡ too_large l.config (size_of a.kept)) (f : b ≡ false) where
    pub room_images : l.config.images ≤ l.count → first_refusal (room_rest l a) ≡ some ImageLimit
    unfolding room_rest
    room_images h = skipped _ TooLarge _ (sym e ∙ f) ∙ hit _ ImageLimit _ (le-leb _ _ h)

    pub room_pages : l.count < l.config.images → pages_full l.config (standing l) a.whole ≡ true → first_refusal (room_rest l a) ≡ some PageLimit
    unfolding room_rest
    room_pages h t = skipped _ TooLarge _ (sym e ∙ f) ∙ skipped _ ImageLimit _ (lt-leb _ _ h) ∙ hit _ PageLimit _ t

    pub room-none : l.count < l.config.images → pages_full l.config (standing l) a.whole ≡ false → first_refusal (room_rest l a) ≡ none
    unfolding room_rest
    room-none h t = skipped _ TooLarge _ (sym e ∙ f) ∙ skipped _ ImageLimit _ (lt-leb _ _ h) ∙ skipped _ PageLimit _ t ∙ none_left

-- 10 exactly where the step finds no page
module _ (c : Config) (rs : List Record) (a : Art) (few : page_count rs ≤ c.pages) where
  pub full_pages : c.pages ≤ page_for c rs a.whole → pages_full c rs a.whole ≡ true
  unfolding pages_full
  full_pages n =
      let m = page-le c rs a.whole in
      both (eq-eqb (page_for c rs a.whole) (page_count rs) (omega arith)) (le-leb c.pages (page_count rs) (omega arith))

  pub open_pages : page_for c rs a.whole < c.pages → pages_full c rs a.whole ≡ false
  unfolding pages_full
  open_pages h = room (dec_le c.pages (page_count rs))
    where
      room : Dec (c.pages ≤ page_count rs) → (eqb (page_for c rs a.whole) (page_count rs) && leb c.pages (page_count rs)) ≡ false
      room (yes g) = and_no_left (eqb (page_for c rs a.whole) (page_count rs)) (leb c.pages (page_count rs)) (ne_eqb (page_for c rs a.whole) (page_count rs) (λ z. omega arith))
      room (no g) = and_no_right (eqb (page_for c rs a.whole) (page_count rs)) (leb c.pages (page_count rs)) (lt-leb c.pages (page_count rs) (omega arith))

-- ## what is answered

pub refused : (pl : Option Record) (row : Row) (n : Refusal) → first_refusal row ≡ some n → Err n ≡ record_answer pl (first_refusal row)
refused pl row n e = go pl ∙ ap (record_answer pl) (sym e)
  where
    go : (pl : Option Record) → Err n ≡ record_answer pl (some n)
    go none = refl
    go (some r) = refl

pub placed-answer : (pl : Option Record) (row : Row) → first_refusal row ≡ none → stood pl ≡ record_answer pl (first_refusal row)
placed-answer pl row e = go pl ∙ ap (record_answer pl) (sym e)
  where
    go : (pl : Option Record) → stood pl ≡ record_answer pl none
    go none = refl
    go (some r) = refl

-- the step, where 8 and 9 do not hold
pub step-answer : (l : Layout) (a : Art) (b : Bool) (o : Result Record Refusal) → page_count (standing l) ≤ l.config.pages → b ≡ too_large l.config (size_of a.kept) → b ≡ false
    → l.count < l.config.images → o ≡ outcome l.config (standing l) a → o ≡ record_answer (placed l.config (standing l) a) (first_refusal (room_rest l a))
unfolding outcome
step-answer l a b o few e f h q = q ∙ go (dec_lt (page_for l.config (standing l) a.whole) l.config.pages)
  where
    go : Dec (page_for l.config (standing l) a.whole < l.config.pages)
        → cond (ltb (page_for l.config (standing l) a.whole) l.config.pages) (stood (placed l.config (standing l) a)) (Err PageLimit)
        ≡ record_answer (placed l.config (standing l) a) (first_refusal (room_rest l a))
    go (yes y) = rw (lt-ltb _ _ y) (placed-answer _ _ (room-none l a b e f h (open_pages l.config (standing l) a few y)))
    go (no n) =
        let m : l.config.pages ≤ page_for l.config (standing l) a.whole = omega arith in
        rw (le-ltb _ _ m) (refused _ _ PageLimit (room_pages l a b e f h (full_pages l.config (standing l) a few m)))

pub on-ok : {A P : Type 0} (r : Result A Refusal) → P → IfOk r (λ x. P)
on-ok (Ok x) p = p
on-ok (Err n) p = tt

-- a row that goes on after its first part
pub first_of_part : (as' bs : Row) (n : Refusal) → first_refusal as' ≡ some n → first_refusal (as' ++ bs) ≡ some n
unfolding first_refusal
first_of_part [] bs n e = absurd (cc)
first_of_part (c ∷ cs) bs n e = go c.0 e (first_of_part cs bs n)
  where
    go : (t : Bool) → cond t (some c.1) (first_refusal cs) ≡ some n → (first_refusal cs ≡ some n → first_refusal (cs ++ bs) ≡ some n)
        → cond t (some c.1) (first_refusal (cs ++ bs)) ≡ some n
    go true q rest = q
    go false q rest = rest q

pub past_part : (as' bs : Row) → first_refusal as' ≡ none → first_refusal (as' ++ bs) ≡ first_refusal bs
unfolding first_refusal
past_part [] bs e = refl
past_part (c ∷ cs) bs e = go c.0 e (past_part cs bs)
  where
    go : (t : Bool) → cond t (some c.1) (first_refusal cs) ≡ none → (first_refusal cs ≡ none → first_refusal (cs ++ bs) ≡ first_refusal bs)
        → cond t (some c.1) (first_refusal (cs ++ bs)) ≡ first_refusal bs
    go true q rest = absurd (cc)
    go false q rest = rest q

module _ {A : Type 0} where
  pub unless-ok : (x a : A) (o : Option Refusal) → Ok a ≡ unless x o → (a ≡ x) × (o ≡ none)
  unless-ok x a none e = ((cc), refl)
  unless-ok x a (some n) e = absurd (cc)

  pub unless-err : (x : A) (o : Option Refusal) (n : Refusal) → Err n ≡ unless x o → o ≡ some n
  unless-err x none n e = absurd (cc)
  unless-err x (some m) n e = let s : m ≡ n = cc in ap some s

  pub refuses : (x : A) (row : Row) (n : Refusal) → first_refusal row ≡ some n → Err n ≡ unless x (first_refusal row)
  refuses x row n e = ap (unless x) (sym e)

-- ## offer, from 4 on

-- a key stands where a record is named by it
pub named-stands : (l : Layout) (k : Key) (o : Maybe (Bor Record)) → MatchOption o (record_of l k ≡ none) (λ r. record_of l k ≡ some r.now) → is_some o ≡ any (has_key k) (standing l)
named-stands l k None e = sym (unkeyed l k e)
named-stands l k (Some r) e = sym (keyed l k e).0

pub art_made : (c : Config) (s : Stores) (key : Key) (i : Image) (k : Rect) → k ≡ trim_box c.trim s i
    → record { key = key; store = i.store; offset = i.offset; whole = record { w = i.w; h = i.h }; kept = k } ≡ art_for c s key i
unfolding art_for
art_made c s key i k e = λ j. record { key = key; store = i.store; offset = i.offset; whole = record { w = i.w; h = i.h }; kept = e j }

module _ (l : Layout) (s : Stores) (k : Key) (i : Image) where
  pub rest-size : bad_size i.w i.h ≡ true → first_refusal (art_rest l s k i) ≡ some BadSize
  unfolding art_rest
  rest-size t = hit _ BadSize _ t

  module _ (sz : bad_size i.w i.h ≡ false) where
    pub rest-store : runs_past s i ≡ true → first_refusal (art_rest l s k i) ≡ some PastStore
    unfolding art_rest
    rest-store t = skipped _ BadSize _ sz ∙ hit _ PastStore _ t

    module _ (st : runs_past s i ≡ false) where
      pub rest-key : any (has_key k) (standing l) ≡ true → first_refusal (art_rest l s k i) ≡ some KeyStands
      unfolding art_rest
      rest-key t = skipped _ BadSize _ sz ∙ skipped _ PastStore _ st ∙ hit _ KeyStands _ t

      module _ (ky : any (has_key k) (standing l) ≡ false) where
        pub rest-clear : (l.config.trim && all_clear s i) ≡ true → first_refusal (art_rest l s k i) ≡ some AllClear
        unfolding art_rest
        rest-clear t = skipped _ BadSize _ sz ∙ skipped _ PastStore _ st ∙ skipped _ KeyStands _ ky ∙ hit _ AllClear _ t

        pub rest-art : (k' : Rect) → (l.config.trim && all_clear s i) ≡ false → k' ≡ trim_box l.config.trim s i
            → Ok (record { key = k; store = i.store; offset = i.offset; whole = record { w = i.w; h = i.h }; kept = k' }) ≡ unless (art_for l.config s k i) (first_refusal (art_rest l s k i))
        unfolding art_rest
        rest-art k' t e =
            ap Ok (art_made l.config s k i k' e)
            ∙ ap (unless (art_for l.config s k i)) (sym (skipped _ BadSize _ sz ∙ skipped _ PastStore _ st ∙ skipped _ KeyStands _ ky ∙ skipped _ AllClear _ t ∙ none_left))

  -- the image refuses, or the row goes on with the art
  pub rest-refused : (n : Refusal) → first_refusal (art_rest l s k i) ≡ some n → first_refusal (offer_rest l s k i) ≡ some n
  unfolding offer_rest art_rest
  rest-refused n e = first_of_part (art_rest l s k i) (room_rest l (art_for l.config s k i)) n e

  pub rest-room : first_refusal (art_rest l s k i) ≡ none → first_refusal (offer_rest l s k i) ≡ first_refusal (room_rest l (art_for l.config s k i))
  unfolding offer_rest art_rest
  rest-room e = past_part (art_rest l s k i) (room_rest l (art_for l.config s k i)) e

  -- past 7, for the art as the code makes it
  pub rest-made : (o : Result Record Refusal) (a : Art) → a ≡ art_for l.config s k i → first_refusal (art_rest l s k i) ≡ none
      → o ≡ record_answer (placed l.config (standing l) a) (first_refusal (room_rest l a))
      → o ≡ record_answer (placed l.config (standing l) (art_for l.config s k i)) (first_refusal (offer_rest l s k i))
  rest-made o a ea t e =
      e ∙ ap (λ (z : Art). record_answer (placed l.config (standing l) z) (first_refusal (room_rest l z))) ea
      ∙ ap (record_answer (placed l.config (standing l) (art_for l.config s k i))) (sym (rest-room t))
