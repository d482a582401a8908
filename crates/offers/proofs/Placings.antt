-- One step of an offer on the skylines of the records so far. Assumes nothing.
use Prim.Native.Nat.{ℕ, ◌≤◌, ◌<◌}
use mathlib.Core.Path.{◌≡◌, refl, sym, ap, ◌∙◌, subst}
use mathlib.Core.Bool.{true}
use mathlib.Core.List.{List, [], ◌∷◌, ◌++◌}
use native.Mathlib.Omega.{arith}
use lib.ListN.{length}
use borrow.Author.Tests.{lt-ltb, le-ltb}
use Rattle.geometry.specs.declared.rect.Rect.{Rect}
use Rattle.geometry.specs.declared.rect.Size.{Size}
use Rattle.geometry.specs.declared.spot.Spot.{Spot}
use Rattle.std.specs.Prelude.{Option, None, Some, Result, Ok, Err}
use Rattle.records.specs.declared.texture_packer_config.Config.{Config}
use Rattle.records.specs.declared.frame.Record.{Record}
use Rattle.geometry.specs.Placing.{height, spot_for, grown}
use Rattle.geometry.proofs.Theorems.{chosen_fits}
use Rattle.geometry.proofs.Fitting.{fits-inside}
use Rattle.pages.specs.Pages.{Stands, PutOn}
use Rattle.pages.specs.declared.Pages.{Pages}
use Rattle.records.specs.Settings.{in_bounds}
use Rattle.records.specs.Records.{size_of}
use Rattle.records.proofs.Checks.{bounded}
use Rattle.rules.specs.Placing.{canvas, cell_size, spot_on, cell_of, cells_on, page_for, record_at, record_for, placed}
use Rattle.faithful.specs.Replay.{Near, stood}
use Rattle.offers.specs.Offers.{outcome, Stepped}
use Rattle.rules.specs.declared.placing.Art.{Art}
use Rattle.records.specs.declared.refusal.Refusal.{Refusal}
use Rattle.records.specs.declared.refusal.Refusal.TheVariants.{PageLimit}
use Rattle.rules.proofs.Pages.{cells-here, cells_other, cell_given}
use Rattle.faithful.proofs.Replays.{length_snoc}
use Rattle.faithful.proofs.Spots.{stood-none}

pub near : (c : Config) (cells : List Rect) (cell : Size) (f : Option Spot) → in_bounds c ≡ true → f ≡ spot_for (height cells) (canvas c) c.rotation cell → Near f
unfolding canvas
near c cells cell f b e k q =
    let h = chosen_fits (height cells) (canvas c) c.rotation cell k (sym e ∙ q) in
    let i = fits-inside (height cells) (canvas c) c.rotation cell k h in
    let u = bounded c b in
    (omega (arith, i.across, u.wide-few), omega (arith, i.down, u.tall-few))

stood-is : (c : Config) (a : Art) (p : ℕ) (k : Spot) (r : Record) → stood (record_for c a p (Some k)) ≡ Ok r → record_at c a p k ≡ r
unfolding record_for
stood-is c a p k r q = injective (record_at c a p k) r q
  where
    injective : (x y : Record) → ◌≡◌ {A = Result Record Refusal} (Ok x) (Ok y) → x ≡ y
    injective x y e = cc

module _ (c : Config) (rs : List Record) (a : Art) (p : ℕ) (sky : Pages) (e : p ≡ page_for c rs a.whole) where
  pub step-full : c.pages ≤ p → Stepped c rs a (Err PageLimit) sky
  unfolding outcome
  step-full l =
      let m : c.pages ≤ page_for c rs a.whole = omega arith in
      record {
        is = rw (le-ltb _ _ m);
        after = λ r q. absurd (cc);
      }

  after-at : (k : Spot) (r : Record) → Some k ≡ spot_on c (cells_on c rs p) (size_of a.kept) → record_at c a p k ≡ r
      → (cells_on c (rs ++ r ∷ []) p ≡ grown (cells_on c rs p) (Some k)) × (r.page.0 ≡ p)
  unfolding spot_on grown record_at
  after-at k r f q =
      let pg : r.page.0 ≡ p = sym (ap (λ (z : Record). z.page.0) q) in (
        cells-here c rs r p pg
            ∙ ap (λ (z : Rect). cells_on c rs p ++ z ∷ []) (ap (cell_of c) (sym q) ∙ cell_given c a p k (height (cells_on c rs p)) (chosen_fits _ _ _ _ k (sym f))),
        pg,
      )

  pub step-here : (f : Option Spot) (o : Result Record Refusal) → p < c.pages → PutOn (canvas c) c.rotation (cell_size c (size_of a.kept)) p (length rs) (cells_on c rs) f sky
      → o ≡ stood (record_for c a p f) → Stepped c rs a o sky
  unfolding outcome placed spot_on
  step-here f o l put s =
      let m : page_for c rs a.whole < c.pages = omega arith in
      record {
        is = s ∙ ap (λ (z : Option Spot). stood (record_for c a p z)) put.found
            ∙ ap (λ (z : ℕ). stood (record_for c a z (spot_on c (cells_on c rs z) (size_of a.kept)))) e
            ∙ rw (lt-ltb _ _ m);
        after = λ r q. go f put.found (sym s ∙ q) put;
      }
    where
      go : {r : Record} (g : Option Spot) → g ≡ spot_on c (cells_on c rs p) (size_of a.kept) → stood (record_for c a p g) ≡ Ok r
          → PutOn (canvas c) c.rotation (cell_size c (size_of a.kept)) p (length rs) (cells_on c rs) g sky
          → Stands (canvas c).w (cells_on c (rs ++ r ∷ [])) (length (rs ++ r ∷ [])) sky
      go None h q pt = absurd (never q)
        where
          never : {r : Record} → stood (record_for c a p None) ≡ Ok r → ⊥
          never q = let t = stood-none c a p None refl in cc
      go {r} (Some k) h q pt =
          let w = after-at k r h (same k r q) in
          subst (λ (n : ℕ). Stands (canvas c).w (cells_on c (rs ++ r ∷ [])) n sky) (sym (length_snoc rs r))
          (pt.stands (cells_on c (rs ++ r ∷ [])) w.0 (λ j n. cells_other c rs r j (λ z. n (sym z ∙ w.1))))
        where
          same : (k : Spot) (r : Record) → stood (record_for c a p (Some k)) ≡ Ok r → record_at c a p k ≡ r
          same k r q = stood-is c a p k r q
