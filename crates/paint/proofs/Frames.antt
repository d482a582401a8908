-- A zone painted row by row, each row a span of the band. Assumes nothing.
use Prim.Native.Nat.{ℕ, suc, ◌+◌, ◌*◌, ◌-◌, ◌≤◌, ◌<◌, min}
use native.Mathlib.Omega.{arith}
use native.Mathlib.Nat.{mul-le-mul_right, suc-mul, mul_comm}
use native.Mathlib.Decide.{dec_lt}
use mathlib.Core.Path.{◌≡◌, refl, sym, ap, ◌∙◌, subst}
use mathlib.Core.Bool.{true, false}
use mathlib.Core.List.{List}
use mathlib.Core.Logic.{◌⊎◌, inl, inr}
use lib.ListN.{length}
use Rattle.geometry.specs.Rects.{holds_point}
use Rattle.geometry.specs.declared.rect.Rect.{Rect}
use Rattle.geometry.proofs.Words.{not_both}
use Rattle.geometry.proofs.Rects.{point_in, in_point}
use Rattle.art.specs.declared.memory_rgba8_texture.Pixel.{Pixel}
use Rattle.records.specs.Settings.{in_bounds}
use Rattle.records.specs.Records.{record_well_formed}
use Rattle.records.specs.declared.texture_packer_config.Config.{Config}
use Rattle.records.specs.declared.frame.Record.{Record}
use Rattle.records.proofs.Checks.{bounded, good, framed}
use Rattle.lookup.specs.Zones.{zone}
use Rattle.paint.specs.Painting.{pixel_no, SpanPainted, ZonePainted}

-- ## rows of w pixels, one after the other

-- a row ends where the next begins, or before
pub row_ends : (w v u : ℕ) → v < u → v * w + w ≤ u * w
row_ends w v u h = let p : suc v * w ≤ u * w = mul-le-mul_right w h in omega (arith, suc-mul v w)

pub row_fits : (w v n e : ℕ) → v < n → e ≤ w → 4 * (v * w + e) ≤ 4 * (w * n)
row_fits w v n e h g = let m = mul_comm w n in omega (arith, row_ends w v n h)

-- the lesser of two is one of them
pub min-is : (a b : ℕ) → (a ≤ min a b) ⊎ (b ≤ min a b)
min-is a b = go (dec_lt a b)
  where
    go : Dec (a < b) → (a ≤ min a b) ⊎ (b ≤ min a b)
    go (yes h) = inl (omega arith)
    go (no h) = inr (omega arith)

-- a zone ends where 32 bits count far beyond
pub record ZoneFew (z : Rect) : Type 0 where
  pub w : z.x + z.w ≤ 8191
  pub h : z.y + z.h ≤ 8191

pub zone-few : (c : Config) (r : Record) → in_bounds c ≡ true → record_well_formed c r ≡ true → ZoneFew (zone c r)
unfolding zone
zone-few c r b h =
    let g = good c r h in
    let k = bounded c b in
    let f = framed c r g in
    record {
      w = omega (arith, g.left-few, f.w_few, k.border, k.extrusion);
      h = omega (arith, g.top-few, f.h_few, k.border, k.extrusion);
    }

-- ## the rows before row y are painted

pub record RowsPainted (f : ℕ → ℕ → Pixel) (z : Rect) (w first n y : ℕ) (old new : List ℕ) : Type 0 where
  pub long : length new ≡ length old
  pub done : (x v : ℕ) → x < w → v < n → first + v < y → holds_point z x (first + v) ≡ true → pixel_no new (v * w + x) ≡ f x (first + v)
  pub outside : (x v : ℕ) → x < w → v < n → holds_point z x (first + v) ≡ false → pixel_no new (v * w + x) ≡ pixel_no old (v * w + x)
  pub later : (x v : ℕ) → x < w → v < n → y ≤ first + v → pixel_no new (v * w + x) ≡ pixel_no old (v * w + x)

module _ (f : ℕ → ℕ → Pixel) (z : Rect) (w first n : ℕ) where
  -- none before the band, or before the zone
  pub rows_none : (y : ℕ) (l : List ℕ) → (y ≤ first) ⊎ (y ≤ z.y) → RowsPainted f z w first n y l l
  rows_none y l h = record {
    long = refl;
    done = λ x v p q r t. absurd (no v h (in_point z x (first + v) t).top r);
    outside = λ x v p q t. refl;
    later = λ x v p q t. refl;
  }
    where
      no : (v : ℕ) → (y ≤ first) ⊎ (y ≤ z.y) → z.y ≤ first + v → first + v < y → ⊥
      no v (inl a) t r = omega arith
      no v (inr a) t r = omega arith

  -- past the band, or past the zone, all are
  pub rows_all : (y : ℕ) (old new : List ℕ) → (first + n ≤ y) ⊎ (z.y + z.h ≤ y) → RowsPainted f z w first n y old new
      → ZonePainted f z w first n old new
  rows_all y old new h s = record {
    long = s.long;
    inside = λ x v p q t. s.done x v p q (before v h q (in_point z x (first + v) t).bottom) t;
    outside = s.outside;
  }
    where
      before : (v : ℕ) → (first + n ≤ y) ⊎ (z.y + z.h ≤ y) → v < n → first + v < z.y + z.h → first + v < y
      before v (inl a) q b = omega arith
      before v (inr a) q b = omega arith

  -- ## one row more: the pixels of row y from the zone's left edge to e, the zone's right edge or the band's

  module _ (y u e : ℕ) (old mid new : List ℕ) (at : y ≡ first + u) (top : z.y ≤ y) (bottom : y < z.y + z.h) (narrow : e ≤ w) (within : e ≤ z.x + z.w)
      (all : (w ≤ e) ⊎ (z.x + z.w ≤ e)) (s : RowsPainted f z w first n y old mid)
      (t : SpanPainted (λ i. f (i - u * w) y) (u * w + z.x) (u * w + e) mid new) where
    -- another row is as it was
    other : (x v : ℕ) → x < w → (v < u) ⊎ (u < v) → pixel_no new (v * w + x) ≡ pixel_no mid (v * w + x)
    other x v p (inl h) = t.before (v * w + x) (omega (arith, row_ends w v u h))
    other x v p (inr h) = t.after (v * w + x) (omega (arith, row_ends w u v h))

    -- this row, in the zone
    here : (x : ℕ) → x < w → holds_point z x y ≡ true → pixel_no new (u * w + x) ≡ f x y
    here x p h =
        let i = in_point z x y h in
        let back : u * w + x - u * w ≡ x = omega arith in
        t.inside (u * w + x) (omega (arith, i.left)) (right all i.right) ∙ ap (λ (k : ℕ). f k y) back
      where
        right : (w ≤ e) ⊎ (z.x + z.w ≤ e) → x < z.x + z.w → u * w + x < u * w + e
        right (inl a) r = omega arith
        right (inr a) r = omega arith

    -- and beside it
    beside : (x : ℕ) → holds_point z x y ≡ false → pixel_no new (u * w + x) ≡ pixel_no mid (u * w + x)
    beside x h = go (dec_lt x z.x) (dec_lt x e)
      where
        go : Dec (x < z.x) → Dec (x < e) → pixel_no new (u * w + x) ≡ pixel_no mid (u * w + x)
        go (yes a) b = t.before (u * w + x) (omega arith)
        go (no a) (no b) = t.after (u * w + x) (omega arith)
        go (no a) (yes b) =
            absurd (not_both (point_in z x y (record { left = omega arith; right = omega arith; top = top; bottom = bottom })) h)

    pub rows_more : RowsPainted f z w first n (y + 1) old new
    rows_more = record {
      long = t.long ∙ s.long;
      done = λ x v p q r h. done x v p q r h (dec_lt (first + v) y);
      outside = λ x v p q h. outside x v p q h (dec_lt (first + v) y) (dec_lt y (first + v));
      later = λ x v p q r. other x v p (inr (omega arith)) ∙ s.later x v p q (omega arith);
    }
      where
        same : (v : ℕ) → first + v ≡ y → v ≡ u
        same v r = omega arith

        done : (x v : ℕ) → x < w → v < n → first + v < y + 1 → holds_point z x (first + v) ≡ true → Dec (first + v < y)
            → pixel_no new (v * w + x) ≡ f x (first + v)
        done x v p q r h (yes a) = other x v p (inl (omega arith)) ∙ s.done x v p q a h
        done x v p q r h (no a) =
            let j : first + v ≡ y = omega arith in
            ap (λ (k : ℕ). pixel_no new (k * w + x)) (same v j) ∙ here x p (ap (holds_point z x) (sym j) ∙ h) ∙ ap (f x) (sym j)

        outside : (x v : ℕ) → x < w → v < n → holds_point z x (first + v) ≡ false → Dec (first + v < y) → Dec (y < first + v)
            → pixel_no new (v * w + x) ≡ pixel_no old (v * w + x)
        outside x v p q h (yes a) b = other x v p (inl (omega arith)) ∙ s.outside x v p q h
        outside x v p q h (no a) (yes b) = other x v p (inr (omega arith)) ∙ s.outside x v p q h
        outside x v p q h (no a) (no b) =
            let j : first + v ≡ y = omega arith in
            ap (λ (k : ℕ). pixel_no new (k * w + x)) (same v j)
            ∙ beside x (ap (holds_point z x) (sym j) ∙ h)
            ∙ ap (λ (k : ℕ). pixel_no mid (k * w + x)) (sym (same v j))
            ∙ s.outside x v p q h

pub zone_to : {f : ℕ → ℕ → Pixel} {z k : Rect} {w first n : ℕ} {old new : List ℕ} → z ≡ k → ZonePainted f z w first n old new → ZonePainted f k w first n old new
zone_to {f} {z} {k} {w} {first} {n} {old} {new} e s = subst (λ (j : Rect). ZonePainted f j w first n old new) e s
