-- Sizes in bounds, the check 8 by the sides, and what trimming keeps. Assumes nothing.
use Prim.Native.Nat.{ℕ}
use Rattle.std.specs.Prelude.{None, Some}
use mathlib.Core.Path.{◌≡◌, refl, ap, ◌∙◌}
use mathlib.Core.List.{[], ◌∷◌}
use mathlib.Core.Bool.{Bool, true, false, cond, not, ◌&&◌, ◌||◌}
use native.Mathlib.Omega.{arith}
use Rattle.geometry.specs.Words.{any}
use Rattle.geometry.specs.Placing.{lying, orientations}
use Rattle.geometry.specs.declared.rect.Rect.{Rect}
use Rattle.geometry.specs.declared.rect.Size.{Size}
use Rattle.geometry.specs.declared.spot.Turn.TheVariants.{Upright, Turned}
use Rattle.art.specs.Stores.{Stores}
use Rattle.art.specs.Trimming.{all_clear, smallest_box, trim_box, trimmed_to}
use Rattle.art.specs.declared.memory_rgba8_texture.Image.{Image}
use Rattle.art.proofs.Theorems.{box_in}
use Rattle.records.specs.Records.{size_of}
use Rattle.records.specs.declared.texture_packer_config.Config.{Config}
use Rattle.rules.specs.Placing.{canvas, cell_size}
use Rattle.rules.specs.Operations.{bad_size, fits_empty, too_large}
use Rattle.rules.proofs.Accepted.{size_in}
use Rattle.faithful.specs.Replay.{Sized}
use Rattle.offers.specs.Offers.{kept_of}

-- ## sizes

pub sized : (w h : ℕ) → bad_size w h ≡ false → Sized (record { w = w; h = h })
sized w h e = let s = size_in w h e in record { some_w = s.wide; some_h = s.tall; few_w = s.wide-few; few_h = s.tall-few }

pub sized_kept : (trim : Bool) (s : Stores) (i : Image) (k : Rect) → bad_size i.w i.h ≡ false → (trim && all_clear s i) ≡ false → k ≡ trim_box trim s i → Sized (size_of k)
unfolding size_of
sized_kept trim s i k e n q =
    let z = size_in i.w i.h e in
    let b = box_in s i trim z.wide z.tall n in
    let w : k.w ≡ (trim_box trim s i).w = ap (λ (j : Rect). j.w) q in
    let h : k.h ≡ (trim_box trim s i).h = ap (λ (j : Rect). j.h) q in
    record {
      some_w = omega (arith, b.some_w);
      some_h = omega (arith, b.some_h);
      few_w = omega (arith, b.in_w, z.wide-few);
      few_h = omega (arith, b.in_h, z.tall-few);
    }

-- ## 8, by the sides

or_none : (b : Bool) → b ≡ (b || false)
or_none true = refl
or_none false = refl

-- the cell as the code lies it down
pub large-is : (c : Config) (s area cell lies : Size) (a b : Bool) → area ≡ canvas c → cell ≡ cell_size c s
    → lies ≡ lying Turned cell → a ≡ fits_empty area cell → b ≡ fits_empty area lies → not (a || (c.rotation && b)) ≡ too_large c s
unfolding too_large any orientations lying
large-is c s area cell lies a b ea ec el fa fb =
    ap (λ (z : Bool). not (z || (c.rotation && b))) fa
    ∙ ap (λ (z : Bool). not (fits_empty area cell || (c.rotation && z))) (fb ∙ ap (fits_empty area) el)
    ∙ ap (λ (z : Size). not (fits_empty z cell || (c.rotation && fits_empty z (record { w = cell.h; h = cell.w })))) ea
    ∙ ap (λ (z : Size). not (fits_empty (canvas c) z || (c.rotation && fits_empty (canvas c) (record { w = z.h; h = z.w })))) ec
    ∙ ap not (go c.rotation)
  where
    go : (r : Bool) → (fits_empty (canvas c) (lying Upright (cell_size c s)) || (r && fits_empty (canvas c) (lying Turned (cell_size c s))))
        ≡ any (λ t. fits_empty (canvas c) (lying t (cell_size c s))) (cond r (Upright ∷ Turned ∷ []) (Upright ∷ []))
    go true = ap (λ (b : Bool). fits_empty (canvas c) (lying Upright (cell_size c s)) || b) (or_none (fits_empty (canvas c) (lying Turned (cell_size c s))))
    go false = refl

-- ## what trimming keeps

module _ (s : Stores) (i : Image) where
  pub kept_clear : (trim : Bool) → kept_of trim s i ≡ None → (trim && all_clear s i) ≡ true
  unfolding kept_of trimmed_to
  kept_clear true e = go (all_clear s i) e
    where
      go : (b : Bool) → cond b None (Some (smallest_box s i)) ≡ None → b ≡ true
      go true q = refl
      go false q = absurd (cc)
  kept_clear false e = absurd (cc)

  pub record KeptBox (trim : Bool) (k : Rect) : Type 0 where
    pub shows : (trim && all_clear s i) ≡ false
    pub is : k ≡ trim_box trim s i

  pub kept_box : (trim : Bool) (k : Rect) → kept_of trim s i ≡ Some k → KeptBox trim k
  unfolding kept_of trimmed_to trim_box
  kept_box true k e = go (all_clear s i) refl e
    where
      go : (b : Bool) → all_clear s i ≡ b → cond b None (Some (smallest_box s i)) ≡ Some k → KeptBox true k
      go true h q = absurd (cc)
      go false h q = record { shows = h; is = cc }
  kept_box false k e = record { shows = refl; is = cc }
