-- Demand 3: after any calls the layout is the one that the placing rule gives for the images still standing. Assumes nothing.
use Rattle.std.specs.Prelude.{Err}
use Prim.Native.Nat.{ℕ, ◌-◌, ◌≤◌, ◌<◌}
use native.Mathlib.Omega.{arith}
use mathlib.Core.Path.{◌≡◌, refl, sym, ◌∙◌, ap, subst}
use mathlib.Core.Bool.{true, false, not}
use mathlib.Core.List.{List, [], ◌∷◌, ◌++◌, map, Memᴰ}
use mathlib.Core.Option.{Option, none, some}
use lib.ListN.{length, take, length-take, length-map}
use lib.Seq.{take_at}
use borrow.Author.Tests.{leb-false, eqb-false}
use Rattle.geometry.specs.Words.{any}
use Rattle.geometry.specs.Fits.{Within, AllApart}
use Rattle.geometry.specs.declared.rect.Rect.{Rect}
use Rattle.art.specs.Stores.{Stores}
use Rattle.art.specs.declared.memory_rgba8_texture.Image.{Image}
use Rattle.records.specs.Layouts.{standing, has_key, well_formed}
use Rattle.records.specs.declared.texture_packer_config.Config.{Config}
use Rattle.records.specs.declared.frame.Key.{Key}
use Rattle.records.specs.declared.frame.Record.{Record}
use Rattle.records.specs.declared.layout.Layout.{Layout}
use Rattle.records.specs.declared.refusal.Refusal.{Refusal}
use Rattle.records.specs.declared.refusal.Refusal.TheVariants.{NotWellFormed}
use Rattle.rules.specs.Placing.{canvas, cells_on, placed}
use Rattle.rules.specs.Faithful.{art_of, faithful}
use Rattle.rules.specs.Operations.{art_for, pages_full, offer_refusal, offer_answer, offered, withdraw_refusal, withdraw_answer, withdrawn, without_latest, withdraw_row, Offering, Withdrawing}
use Rattle.rules.specs.Story.{filled, filled_with, layout_for, Call, Offer, Withdraw, Ask, step, added, lost, stand, layout_after, images_after}
use Rattle.rules.specs.declared.placing.Art.{Art}
use Rattle.geometry.proofs.Theorems.{page-inside, page_apart}
use Rattle.records.proofs.Rows.{Nones, all_of_lem, hit}
use Rattle.records.proofs.Checks.{bounded, formed}
use Rattle.rules.proofs.Rows.{offer-row, withdraw_row_lem, none-holds}
use Rattle.rules.proofs.Pages.{map_snoc}
use Rattle.rules.proofs.Accepted.{size_in, accepted, art_box, art_pixels}
use Rattle.rules.proofs.Answers.{refused-offer, refused_withdraw}
use Rattle.rules.proofs.Steps.{art_placed}
use Rattle.rules.proofs.Standing.{length_snoc, standing-filled, places-filled, is-filled, with_filled, without_filled, latest_of}
use Rattle.rules.proofs.Sound.{Sound, sound_formed, sound_faithful, sound_laid, sound_pages, front_sound, Taken, more_sound}

-- ## the invariant: sound records, and the images are theirs

pub record Stands (c : Config) (l : Layout) (images : List Art) : Type 0 where
  pub records : List Record
  pub layout : l ≡ filled c records
  pub sound : Sound c records
  pub images_are : map art_of records ≡ images

pub standing_sound : (l : Layout) → well_formed l ≡ true → faithful l ≡ true → Sound l.config (standing l)
unfolding faithful
standing_sound l w f =
    let a = formed l w in
    let b = all_of_lem _ f in
    let n : length (standing l) ≤ l.count = unfold standing in omega (arith, length-take l.count l.records) in
    record {
      bounds = a.in_bounds;
      few = omega (arith, a.count);
      each = a.standing-so;
      keys = b.0;
      so = b.1.0;
      whole = b.1.1.0;
    }

-- a layout stands for the images of its own records
pub layout-stands : (l : Layout) → well_formed l ≡ true → faithful l ≡ true → length l.records ≡ 256
    → Stands l.config l (map art_of (standing l))
layout-stands l w f n = record { records = standing l; layout = is-filled l w n; sound = standing_sound l w f; images_are = refl }

-- ## one call keeps it

pub few_records : (c : Config) (rs : List Record) → Sound c rs → length rs ≤ 256
few_records c rs h = omega (arith, h.few, (bounded c h.bounds).images_few)

pub taken : (c : Config) (rs : List Record) (s : Stores) (k : Key) (i : Image) → offer_refusal (filled c rs) s k i ≡ none → Taken c rs s k i
unfolding filled
taken c rs s k i e =
    let a = accepted (filled c rs) s k i e in
    let st = standing-filled c rs in
    record {
      size = size_in i.w i.h a.size;
      key_new = ap (any (has_key k)) (sym st) ∙ a.key_new;
      box = art_box (filled c rs) s k i a.size a.not-clear;
      pixels = art_pixels (filled c rs) s k i a.size a.not-clear;
      room = leb-false _ _ a.image-room;
      page-room = ap (λ (m : List Record). pages_full c m (art_for c s k i).whole) (sym st) ∙ a.page-room;
    }

module _ (c : Config) (rs : List Record) (h : Sound c rs) where
  pub offer_sound : (s : Stores) (k : Key) (i : Image) (r : Record) → offer_refusal (filled c rs) s k i ≡ none
      → placed c rs (art_for c s k i) ≡ some r → Sound c (rs ++ r ∷ [])
  offer_sound s k i r e p = more_sound c rs s k i r h (taken c rs s k i e) p

  pub offer-room : (s : Stores) (k : Key) (i : Image) → offer_refusal (filled c rs) s k i ≡ none → length rs < 256
  offer-room s k i e = let t = (taken c rs s k i e).room in omega (arith, (bounded c h.bounds).images_few)

  pub offer-places : (s : Stores) (k : Key) (i : Image) {o : Option Record}
      → placed (filled c rs).config (standing (filled c rs)) (art_for (filled c rs).config s k i) ≡ o → placed c rs (art_for c s k i) ≡ o
  unfolding filled
  offer-places s k i e = ap (λ (m : List Record). placed c m (art_for c s k i)) (sym (standing-filled c rs)) ∙ e

  offer-stands : (s : Stores) (k : Key) (i : Image) → Stands c (step (Offer s k i) (filled c rs)) (stand (Offer s k i) (filled c rs) (map art_of rs))
  unfolding step stand offered
  offer-stands s k i =
      go (offer_refusal (filled c rs) s k i) refl (placed (filled c rs).config (standing (filled c rs)) (art_for (filled c rs).config s k i)) refl
    where
      same : Stands c (filled c rs) (map art_of rs)
      same = record { records = rs; layout = refl; sound = h; images_are = refl }

      art : art_for c s k i ≡ art_for (filled c rs).config s k i
      art = unfold filled in refl

      go : (o : Option Refusal) → offer_refusal (filled c rs) s k i ≡ o
          → (q : Option Record) → placed (filled c rs).config (standing (filled c rs)) (art_for (filled c rs).config s k i) ≡ q
          → Stands c (offer_answer (filled c rs) q o).layout (added (offer_answer (filled c rs) q o).answer (art_for (filled c rs).config s k i) (map art_of rs))
      go (some n) e q p = same
      go none e none p = same
      go none e (some r) p =
          let pl = offer-places s k i p in
          record {
            records = rs ++ r ∷ [];
            layout = with_filled c rs r (offer-room s k i e);
            sound = offer_sound s k i r e pl;
            images_are = map_snoc art_of rs r ∙ ap (λ (a : Art). map art_of rs ++ a ∷ []) (art_placed c rs (art_for c s k i) r pl ∙ art);
          }

-- the images without the latest
take_less : (rs : List Record) (r : Record) → map art_of rs ≡ take (length (map art_of (rs ++ r ∷ [])) - 1) (map art_of (rs ++ r ∷ []))
take_less rs r =
    let n : length (map art_of rs) ≡ length (map art_of (rs ++ r ∷ [])) - 1 = let a = length-map rs art_of in let b = length-map (rs ++ r ∷ []) art_of in let d = length_snoc rs r in omega arith in
    sym
    (ap (take (length (map art_of (rs ++ r ∷ [])) - 1)) (map_snoc art_of rs r)
    ∙ take_at (map art_of rs) (art_of r ∷ []) (length (map art_of (rs ++ r ∷ [])) - 1) n)

withdraw_stands : (c : Config) (rs : List Record) → Sound c rs → Stands c (step Withdraw (filled c rs)) (stand Withdraw (filled c rs) (map art_of rs))
unfolding step stand withdrawn
withdraw_stands c rs h = go rs h (withdraw_refusal (filled c rs)) refl
  where
    stood : (qs : List Record) → withdraw_refusal (filled c qs) ≡ none → length qs ≡ 0 → ⊥
    stood qs e n =
        let p : Nones (withdraw_row (filled c qs)) = none-holds (withdraw_row (filled c qs)) (sym (withdraw_row_lem (filled c qs)) ∙ e) in
        eqb-false (filled c qs).count 0 p.1.1.0 (unfold filled in n)

    go : (qs : List Record) → Sound c qs → (o : Option Refusal) → withdraw_refusal (filled c qs) ≡ o
        → Stands c (withdraw_answer (filled c qs) o).layout (lost (withdraw_answer (filled c qs) o).answer (map art_of qs))
    go qs f (some n) e = record { records = qs; layout = refl; sound = f; images_are = refl }
    go [] f none e = absurd (stood [] e refl)
    go (r ∷ qs) f none e =
        let t = latest_of r qs in
        let g = subst (Sound c) t.is f in
        let n = length_snoc t.others t.latest in
        let m = few_records c (t.others ++ t.latest ∷ []) g in
        record {
          records = t.others;
          layout = ap (λ (m : List Record). without_latest (filled c m)) t.is ∙ without_filled c t.others t.latest (omega arith);
          sound = front_sound c t.others t.latest g;
          images_are = take_less t.others t.latest ∙ ap (λ (m : List Record). take (length (map art_of m) - 1) (map art_of m)) (sym t.is);
        }

filled-stands : (c : Config) (rs : List Record) (k : Call) → Sound c rs → Stands c (step k (filled c rs)) (stand k (filled c rs) (map art_of rs))
filled-stands c rs (Offer s k i) h = offer-stands c rs h s k i
filled-stands c rs Withdraw h = withdraw_stands c rs h
filled-stands c rs (Ask p z) h = unfold step stand in record { records = rs; layout = refl; sound = h; images_are = refl }

pub step-stands : (c : Config) (l : Layout) (images : List Art) (k : Call) → Stands c l images → Stands c (step k l) (stand k l images)
step-stands c l images k h =
    subst (λ (m : Layout). Stands c (step k m) (stand k m images)) (sym h.layout)
    (subst (λ (a : List Art). Stands c (step k (filled c h.records)) (stand k (filled c h.records) a)) h.images_are
    (filled-stands c h.records k h.sound))

pub calls_stand : (c : Config) (l : Layout) (images : List Art) (calls : List Call) → Stands c l images
    → Stands c (layout_after l calls) (images_after l images calls)
unfolding layout_after images_after
calls_stand c l images [] h = h
calls_stand c l images (k ∷ ks) h = calls_stand c (step k l) (stand k l images) ks (step-stands c l images k h)

-- ## what it says

-- the layout is what the placing rule gives for the images alone; well-formed and faithful; its records' images are these; every page's
-- cells lie in the canvas and share no pixel
pub record Demand3 (c : Config) (l : Layout) (images : List Art) : Type 0 where
  pub state : layout_for c images ≡ some l
  pub well_formed : well_formed l ≡ true
  pub is-faithful : faithful l ≡ true
  pub images_are : map art_of (standing l) ≡ images
  pub places : length l.records ≡ 256
  pub inside : (p : ℕ) (k : Rect) → Memᴰ k (cells_on c (standing l) p) → Within (canvas c) k
  pub apart : (p : ℕ) → AllApart (cells_on c (standing l) p)

pub stands_demand : (c : Config) (l : Layout) (images : List Art) → Stands c l images → Demand3 c l images
unfolding layout_for
stands_demand c l images h =
    let rs = h.records in
    let st : standing l ≡ rs = ap standing h.layout ∙ standing-filled c rs in
    let f = sound_pages c rs h.sound in
    record {
      state = ap (layout_for c) (sym h.images_are) ∙ ap (filled_with c) (sound_laid c rs h.sound) ∙ ap some (sym h.layout);
      well_formed = ap well_formed h.layout ∙ sound_formed c rs h.sound;
      is-faithful = ap faithful h.layout ∙ sound_faithful c rs h.sound;
      images_are = ap (map art_of) st ∙ h.images_are;
      places = ap (λ (m : Layout). length m.records) h.layout ∙ places-filled c rs (few_records c rs h.sound);
      inside = λ p k m.
          page-inside (canvas c) c.rotation (f p) k
          (subst (λ (qs : List Record). Memᴰ k (cells_on c qs p)) st m);
      apart = λ p. subst (λ (qs : List Record). AllApart (cells_on c qs p)) (sym st) (page_apart (canvas c) c.rotation (f p));
    }

-- ## a layout that is not well-formed: every call is refused and returns it

module _ (l : Layout) (shut : well_formed l ≡ false) where
  offer_shut : (s : Stores) (k : Key) (i : Image) → offered l s k i ≡ record { answer = Err NotWellFormed; layout = l }
  offer_shut s k i =
      refused-offer l s k i NotWellFormed (offer-row l s k i ∙ hit (not (well_formed l)) NotWellFormed _ (ap not shut))

  withdraw_shut : withdrawn l ≡ record { answer = Err NotWellFormed; layout = l }
  withdraw_shut = refused_withdraw l NotWellFormed (withdraw_row_lem l ∙ hit (not (well_formed l)) NotWellFormed _ (ap not shut))

  step_shut : (k : Call) → step k l ≡ l
  unfolding step
  step_shut (Offer s k i) = ap (λ (o : Offering). o.layout) (offer_shut s k i)
  step_shut Withdraw = ap (λ (o : Withdrawing). o.layout) withdraw_shut
  step_shut (Ask p z) = refl

  stand_shut : (k : Call) (images : List Art) → stand k l images ≡ images
  unfolding stand
  stand_shut (Offer s k i) images = ap (λ (o : Offering). added o.answer (art_for l.config s k i) images) (offer_shut s k i)
  stand_shut Withdraw images = ap (λ (o : Withdrawing). lost o.answer images) withdraw_shut
  stand_shut (Ask p z) images = refl

  pub calls_shut : (calls : List Call) → layout_after l calls ≡ l
  unfolding layout_after
  calls_shut [] = refl
  calls_shut (k ∷ ks) = ap (λ (m : Layout). layout_after m ks) (step_shut k) ∙ calls_shut ks

  pub images_shut : (images : List Art) (calls : List Call) → images_after l images calls ≡ images
  unfolding images_after
  images_shut images [] = refl
  images_shut images (k ∷ ks) =
      ap (λ (m : Layout). images_after m (stand k l images) ks) (step_shut k)
      ∙ ap (λ (a : List Art). images_after l a ks) (stand_shut k images)
      ∙ images_shut images ks
