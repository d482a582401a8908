-- The standing records replayed one after the other. Assumes nothing.
use Rattle.std.specs.Prelude.{Some, None}
use Prim.Native.Nat.{ℕ, max, ◌+◌, ◌≤◌, ◌<◌}
use mathlib.Core.Path.{◌≡◌, refl, sym, ap, ◌∙◌, subst}
use mathlib.Core.Bool.{Bool, true, false, ◌&&◌}
use mathlib.Core.List.{List, [], ◌∷◌, ◌++◌}
use native.Mathlib.Omega.{arith}
use lib.ListN.{length, get_or, take, drop}
use lib.Seq.{take-suc, length-take-le, take_all, drop-length}
use native.Mathlib.Numerals.{add-one}
use Rattle.std.proofs.lemmas.List.{length-take}
use Rattle.records.specs.Settings.{blank_record}
use Rattle.geometry.specs.Words.{only, greatest}
use Rattle.records.specs.declared.texture_packer_config.Config.{Config}
use Rattle.records.specs.declared.frame.Record.{Record}
use Rattle.records.specs.declared.layout.Layout.{Layout}
use Rattle.records.specs.Layouts.{standing, on_page, page_count}
use Rattle.records.proofs.Checks.{Good, Formed}
use Rattle.records.proofs.Standing.{rest_next}
use Rattle.records.proofs.Pages.{count_snoc}
use Rattle.pages.specs.declared.Pages.{Pages}
use Rattle.pages.specs.Pages.{Stands, Fresh}
use Rattle.pages.proofs.Laws.{fresh_stands}
use Rattle.rules.specs.Placing.{canvas, cells_on, placed}
use Rattle.rules.specs.Faithful.{art_of, same_spot, placed_so}
use Rattle.faithful.specs.Replay.{Skies, Replayed, pages_if, Ran}

-- the part of a replay of some records that is done: what is left decides, and the skylines are those of the records so far
pub record Sofar (c : Config) (rs : List Record) (i pages : ℕ) (sky : Pages) : Type 0 where
  pub passed : placed_so c (take i rs) (drop i rs) ≡ placed_so c [] rs
  pub skies : Skies c (take i rs) pages sky
  pub pages_few : pages ≤ 8

module _ (l : Layout) (f : Formed l) (rs : List Record) (is : rs ≡ standing l) where
  -- the record that stands at a place
  abbrev at : ℕ → Record
  at i = get_or rs i blank_record

  few : length rs ≤ 256
  unfolding standing
  few = let n = length-take l.count l.records in omega (arith, f.few, ap length is)

  pub good-at : (i : ℕ) → i < length rs → Good l.config (at i)
  good-at = subst (λ (z : List Record). (i : ℕ) → i < length z → Good l.config (get_or z i blank_record)) (sym is) f.at

  pub few-earlier : (i : ℕ) → i < length rs → length (take i rs) < 256
  few-earlier i h = let n = few in omega (arith, length-take-le i rs)

  no_cells : (c : Config) (p : ℕ) → cells_on c [] p ≡ []
  unfolding cells_on on_page only
  no_cells c p = refl

  pub sofar_none : (w : ℕ) (sky : Pages) → w ≡ l.config.maxw → Fresh w sky → Sofar l.config rs 0 0 sky
  unfolding page_count greatest canvas
  sofar_none w sky e fr = record {
    passed = refl;
    skies = record { stands = subst (λ (v : ℕ). Stands v (cells_on l.config []) 0 sky) e (fresh_stands w (cells_on l.config []) sky (no_cells l.config) fr); count = refl };
    pages_few = omega arith;
  }

  module _ (i : ℕ) (h : i < length rs) where
    next : take (i + 1) rs ≡ take i rs ++ at i ∷ []
    next = ap (λ (j : ℕ). take j rs) (add-one i) ∙ take-suc rs i blank_record h

    step : (b : Bool) → b ≡ same_spot (at i) (placed l.config (take i rs) (art_of (at i)))
        → placed_so l.config (take i rs) (drop i rs) ≡ (b && placed_so l.config (take (i + 1) rs) (drop (i + 1) rs))
    unfolding placed_so
    step b e =
        ap (placed_so l.config (take i rs)) (rest_next (λ r. true) rs blank_record i h)
        ∙ ap (λ (z : Bool). z && placed_so l.config (take i rs ++ at i ∷ []) (drop (i + 1) rs)) (sym e)
        ∙ ap (λ (z : List Record). b && placed_so l.config z (drop (i + 1) rs)) (sym next)

    pub sofar_stop : {pages : ℕ} (sky sky' : Pages) (so : Bool) → so ≡ false → Sofar l.config rs i pages sky
        → Replayed l.config (take i rs) (at i) so sky' → Ran l None sky'
    sofar_stop sky sky' so e sf rp = record {
      is = sym (ap (λ (z : Bool). pages_if z l) (sym (ap (placed_so l.config []) is) ∙ sym sf.passed ∙ step false (sym e ∙ rp.same)));
      skies = λ p q. absurd (cc);
    }

    pub sofar_more : (pages pages' : ℕ) (sky sky' : Pages) (so : Bool) → so ≡ true → Sofar l.config rs i pages sky
        → Replayed l.config (take i rs) (at i) so sky' → pages' ≡ max pages ((at i).page.0 + 1)
        → Sofar l.config rs (i + 1) pages' sky'
    sofar_more pages pages' sky sky' so e sf rp ep = record {
      passed = sym (step true (sym e ∙ rp.same)) ∙ sf.passed;
      skies = subst (λ (z : List Record). Skies l.config z pages' sky') (sym next)
          (record {
            stands = rp.after e;
            count = ep ∙ ap (λ (n : ℕ). max n ((at i).page.0 + 1)) sf.skies.count ∙ sym (count_snoc (take i rs) (at i));
          });
      pages_few = let g = good-at i h in omega (arith, g.page, f.config.pages_few, sf.pages_few);
    }

  pub sofar_done : (i pages : ℕ) (sky : Pages) → i ≡ length rs → Sofar l.config rs i pages sky → Ran l (Some pages) sky
  unfolding placed_so
  sofar_done i pages sky e sf =
      let b : drop i rs ≡ [] = ap (λ (k : ℕ). drop k rs) e ∙ drop-length rs in
      let sk = subst (λ (z : List Record). Skies l.config z pages sky) (take_all i rs (omega arith) ∙ is) sf.skies in
      record {
        is = ap Some sk.count ∙ ap (λ (z : Bool). pages_if z l) (sym (ap (placed_so l.config (take i rs)) b) ∙ sf.passed ∙ ap (placed_so l.config []) is);
        skies = λ p q. let z : pages ≡ p = cc in subst (λ (n : ℕ). Skies l.config (standing l) n sky) z sk;
      }

-- ## the configuration of the layout, by another name

module _ {c d : Config} (e : c ≡ d) {rs : List Record} where
  pub skies-as : {n : ℕ} {sky : Pages} → Skies d rs n sky → Skies c rs n sky
  skies-as {n} {sky} h = subst (λ (k : Config). Skies k rs n sky) (sym e) h

  pub replayed-as : {r : Record} {so : Bool} {sky : Pages} → Replayed c rs r so sky → Replayed d rs r so sky
  replayed-as {r} {so} {sky} h = subst (λ (k : Config). Replayed k rs r so sky) e h
