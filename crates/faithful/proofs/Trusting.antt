-- Keys that differ, whole boxes, and 2 and 3 together: the code's tests are the definitions'. Assumes nothing.
use Prim.Native.Nat.{ℕ, ◌+◌, ◌<◌}
use mathlib.Core.Path.{◌≡◌, refl, sym, ap, ◌∙◌, subst}
use mathlib.Core.Bool.{Bool, true, false, cond, not, ◌&&◌, ◌||◌}
use mathlib.Core.List.{List, [], ◌∷◌, ◌++◌, map}
use native.Mathlib.Numerals.{add-one}
use lib.ListN.{length, get_or, take, drop, set}
use lib.Seq.{drop-length, take-suc, take-suc-set}
use lib.Dec.{eqb}
use Rattle.std.specs.List.{list_any, list_all}
use Rattle.geometry.specs.Words.{all_of, all, any}
use Rattle.geometry.proofs.Words.{and_no_left, and_no_right}
use Rattle.records.specs.declared.texture_packer_config.Config.{Config}
use Rattle.records.specs.declared.frame.Record.{Record}
use Rattle.records.specs.declared.layout.Layout.{Layout}
use Rattle.records.specs.Layouts.{standing, well_formed, has_key, page_count}
use Rattle.records.proofs.Rows.{hit, skipped, and_true}
use Rattle.records.proofs.Standing.{rest_next}
use Rattle.pages.specs.declared.Pages.{Pages}
use Rattle.rules.specs.Faithful.{keys_differ, placed_so, whole_if_untrimmed, faithful}
use Rattle.faithful.specs.Replay.{distinct, key_of, Skies, pages_if, Ran, Tested, trust, Trusted}
use Rattle.records.specs.Refusals.{Row, first_refusal}
use Rattle.records.specs.declared.refusal.Refusal.{Refusal}
use Rattle.records.specs.declared.refusal.Refusal.TheVariants.{NotWellFormed, NotFaithful}
use mathlib.Core.Option.{some}
use Rattle.std.specs.Prelude.{Option, Some, None, Result, Ok, Err}
use Rattle.std.specs.Option.{ok_or}
use Rattle.rules.proofs.Pages.{map_snoc}

-- ## a loop over a list, from a place on

drop_end : {A : Type 0} (l : List A) (i : ℕ) → i ≡ length l → drop i l ≡ []
drop_end l i e = ap (λ (j : ℕ). drop j l) e ∙ drop-length l

-- std's words for a test over a list are these
any-list : {A : Type 0} (t : A → Bool) (l : List A) → list_any t l ≡ any t l
unfolding any
any-list t [] = refl
any-list t (x ∷ xs) = ap (λ (b : Bool). t x || b) (any-list t xs)

pub all-list : {A : Type 0} (t : A → Bool) (l : List A) → list_all t l ≡ all t l
unfolding all
all-list t [] = refl
all-list t (x ∷ xs) = ap (λ (b : Bool). t x && b) (all-list t xs)

module _ (l : List ℕ) (i : ℕ) (h : i < length l) where
  step : (b : Bool) → b ≡ list_any (λ (j : ℕ). eqb j (get_or l i 0)) (drop (i + 1) l) → distinct (drop i l) ≡ (not b && distinct (drop (i + 1) l))
  unfolding distinct
  step b e = ap distinct (rest_next (λ n. true) l 0 i h) ∙ ap (λ (z : Bool). not z && distinct (drop (i + 1) l)) (sym (e ∙ any-list _ _))

  pub distinct_hit : (b : Bool) → b ≡ list_any (λ (j : ℕ). eqb j (get_or l i 0)) (drop (i + 1) l) → b ≡ true → distinct (drop i l) ≡ distinct l → false ≡ distinct l
  distinct_hit b e t p = sym (step true (sym t ∙ e)) ∙ p

  pub distinct_more : (b : Bool) → b ≡ list_any (λ (j : ℕ). eqb j (get_or l i 0)) (drop (i + 1) l) → b ≡ false → distinct (drop i l) ≡ distinct l
      → distinct (drop (i + 1) l) ≡ distinct l
  distinct_more b e t p = sym (step false (sym t ∙ e)) ∙ p

pub distinct_end : (l : List ℕ) (i : ℕ) → i ≡ length l → distinct (drop i l) ≡ distinct l → true ≡ distinct l
unfolding distinct
distinct_end l i h p = sym (ap distinct (drop_end l i h)) ∙ p

any_keys : (k : ℕ) (rs : List Record) → any (λ (j : ℕ). eqb j k) (map key_of rs) ≡ any (λ (r : Record). eqb r.key.0 k) rs
unfolding any
any_keys k [] = refl
any_keys k (r ∷ rs) = ap (λ (b : Bool). eqb r.key.0 k || b) (any_keys k rs)

pub keys_distinct : (rs : List Record) → distinct (map key_of rs) ≡ keys_differ rs
unfolding distinct keys_differ has_key
keys_distinct [] = refl
keys_distinct (r ∷ rs) = ap (λ (b : Bool). not b && distinct (map key_of rs)) (any_keys r.key.0 rs) ∙ ap (λ (b : Bool). not (any (has_key r.key) rs) && b) (keys_distinct rs)

-- ## the keys of records, copied

pub keys_more : (rs : List Record) (d : Record) (keys : List ℕ) (i : ℕ) → i < length rs → i < length keys → take i keys ≡ map key_of (take i rs)
    → take (i + 1) (set keys i (get_or rs i d).key.0) ≡ map key_of (take (i + 1) rs)
keys_more rs d keys i h m e =
    ap (λ (j : ℕ). take j (set keys i (get_or rs i d).key.0)) (add-one i)
    ∙ take-suc-set keys i (get_or rs i d).key.0 m
    ∙ ap (λ (z : List ℕ). z ++ (get_or rs i d).key.0 ∷ []) e
    ∙ sym (ap (map key_of) (ap (λ (j : ℕ). take j rs) (add-one i) ∙ take-suc rs i d h) ∙ map_snoc key_of (take i rs) (get_or rs i d))

-- ## the three tests

module _ (l : Layout) where
  pub unlike_keys : keys_differ (standing l) ≡ false → faithful l ≡ false
  unfolding faithful all_of
  unlike_keys e = and_no_left (keys_differ (standing l)) (placed_so l.config [] (standing l) && (all (whole_if_untrimmed l.config) (standing l) && true)) e

  pub unlike_boxes : all (whole_if_untrimmed l.config) (standing l) ≡ false → faithful l ≡ false
  unfolding faithful all_of
  unlike_boxes e =
      and_no_right (keys_differ (standing l)) (placed_so l.config [] (standing l) && (all (whole_if_untrimmed l.config) (standing l) && true))
      (and_no_right (placed_so l.config [] (standing l)) (all (whole_if_untrimmed l.config) (standing l) && true)
      (and_no_left (all (whole_if_untrimmed l.config) (standing l)) true e))

  module _ (sky : Pages) where
    pub test_none : faithful l ≡ false → Tested l None sky
    test_none e = record { is = sym (ap (λ (z : Bool). pages_if z l) e); skies = λ p q. absurd (cc) }

    pub test_all : (r : Option ℕ) → keys_differ (standing l) ≡ true → all (whole_if_untrimmed l.config) (standing l) ≡ true → Ran l r sky → Tested l r sky
    unfolding faithful all_of
    test_all r k w rn = record {
      is = rn.is
          ∙ ap (λ (z : Bool). pages_if z l)
          (and_true (placed_so l.config [] (standing l))
          ∙ ap (λ (z : Bool). placed_so l.config [] (standing l) && (z && true)) (sym w)
          ∙ ap (λ (z : Bool). z && (placed_so l.config [] (standing l) && (all (whole_if_untrimmed l.config) (standing l) && true))) (sym k));
      skies = rn.skies;
    }

-- ## a box that is the whole image

pub whole_trim : (c : Config) (r : Record) → c.trim ≡ true → true ≡ whole_if_untrimmed c r
unfolding whole_if_untrimmed
whole_trim c r e = rw e

-- ## 2 and 3

module _ (l : Layout) (sky : Pages) where
  pub trust-unformed : well_formed l ≡ false → Trusted l (Err NotWellFormed) sky
  unfolding trust
  trust-unformed e = record { is = rw e; skies = λ p q. absurd (cc) }

  pub trust-tested : (s : Option ℕ) → well_formed l ≡ true → Tested l s sky → Trusted l (ok_or s NotFaithful) sky
  unfolding trust
  trust-tested s e t = record { is = ap (λ (z : Option ℕ). ok_or z NotFaithful) t.is ∙ go (faithful l) ∙ rw e; skies = keeps s t.skies }
    where
      go : (b : Bool) → ok_or (pages_if b l) NotFaithful ≡ cond b (Ok (page_count (standing l))) (Err NotFaithful)
      go true = refl
      go false = refl

      keeps : (s : Option ℕ) → ((p : ℕ) → s ≡ Some p → Skies l.config (standing l) p sky) → (p : ℕ) → ok_or s NotFaithful ≡ Ok p → Skies l.config (standing l) p sky
      keeps None h p q = absurd (cc)
      keeps (Some n) h p q = h p (cc)

pub trust-as : {k l : Layout} → k ≡ l → (sky : Pages) (s : Option ℕ) → well_formed k ≡ true → Tested k s sky → Trusted l (ok_or s NotFaithful) sky
trust-as {k} e sky s w t = subst (λ (z : Layout). Trusted z (ok_or s NotFaithful) sky) e (trust-tested k sky s w t)

-- ## what the answer says of the layout

module _ (l : Layout) (t : Result ℕ Refusal) (e : t ≡ trust l) where
  told : (w : Bool) → well_formed l ≡ w → (f : Bool) → faithful l ≡ f → t ≡ cond w (cond f (Ok (page_count (standing l))) (Err NotFaithful)) (Err NotWellFormed)
  unfolding trust
  told w ew f ef = e ∙ ap (λ (z : Bool). cond z (cond (faithful l) (Ok (page_count (standing l))) (Err NotFaithful)) (Err NotWellFormed)) ew
      ∙ ap (λ (z : Bool). cond w (cond z (Ok (page_count (standing l))) (Err NotFaithful)) (Err NotWellFormed)) ef

  -- which of 2 and 3 was first to hold
  pub distrusted : (n : Refusal) → t ≡ Err n → (rest : Row) → first_refusal ((not (well_formed l), NotWellFormed) ∷ (not (faithful l), NotFaithful) ∷ rest) ≡ some n
  distrusted n q rest = go (well_formed l) refl (faithful l) refl
    where
      go : (w : Bool) → well_formed l ≡ w → (f : Bool) → faithful l ≡ f → first_refusal ((not (well_formed l), NotWellFormed) ∷ (not (faithful l), NotFaithful) ∷ rest) ≡ some n
      go false ew f ef = let z = told false ew f ef in let y : NotWellFormed ≡ n = cc in hit _ NotWellFormed _ (ap not ew) ∙ ap some y
      go true ew true ef = let z = told true ew true ef in absurd (cc)
      go true ew false ef = let z = told true ew false ef in let y : NotFaithful ≡ n = cc in skipped _ NotWellFormed _ (ap not ew) ∙ hit _ NotFaithful _ (ap not ef) ∙ ap some y

  pub record Formed2 : Type 0 where
    pub formed : well_formed l ≡ true
    pub is-faithful : faithful l ≡ true

  pub stands_on : (p : ℕ) → t ≡ Ok p → Formed2
  stands_on p q = go (well_formed l) refl (faithful l) refl
    where
      go : (w : Bool) → well_formed l ≡ w → (f : Bool) → faithful l ≡ f → Formed2
      go false ew f ef = let z = told false ew f ef in absurd (cc)
      go true ew true ef = record { formed = ew; is-faithful = ef }
      go true ew false ef = let z = told true ew false ef in absurd (cc)
