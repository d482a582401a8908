-- Lent rows that agree with a picture, pixel by pixel, and the first that does not. Assumes nothing.
use Prim.Native.Nat.{ℕ, ◌+◌, ◌*◌, ◌-◌, ◌≤◌, ◌<◌}
use native.Mathlib.Omega.{arith}
use mathlib.Core.Path.{◌≡◌, refl, sym, ap, ◌∙◌, subst}
use mathlib.Core.Bool.{Bool, true, false, cond, not}
use mathlib.Core.List.{List}
use lib.ListN.{length, take, drop}
use lib.Dec.{ltb}
use borrow.Author.Tests.{ltb-true, ltb-false, eqb-true, eq-eqb, not-false}
use Rattle.std.specs.Prelude.{Option as Maybe, Some, None}
use Rattle.geometry.proofs.Words.{not_both}
use Rattle.art.specs.Stores.{pixel_from}
use Rattle.art.specs.Trimming.{first_seen}
use Rattle.art.specs.declared.memory_rgba8_texture.Pixel.{Pixel}
use Rattle.art.proofs.Seen.{first-is, first-none, first_below, first-le}
use Rattle.records.proofs.Rows.{all_of_lem, of_all}
use Rattle.paint.specs.Painting.{pixel_no, Shows}
use Rattle.compose.specs.Checking.{same_pixel, differs, column_off, row_off, compared}
use Rattle.compose.specs.Comparing.{off_at}
use Rattle.compose.proofs.Comparing.{all_same, first-differs, part-pixel}

-- ## one pixel

pixels-same : (k j : Pixel) → same_pixel k j ≡ true → k ≡ j
unfolding same_pixel
pixels-same k j e =
    let h = all_of_lem _ e in
    let r = eqb-true k.r j.r h.0 in
    let g = eqb-true k.g j.g h.1.0 in
    let b = eqb-true k.b j.b h.1.1.0 in
    let a = eqb-true k.a j.a h.1.1.1.0 in
    λ i. record { r = r i; g = g i; b = b i; a = a i }

same-pixels : (k j : Pixel) → k ≡ j → same_pixel k j ≡ true
unfolding same_pixel
same-pixels k j e =
    of_all _ (eq-eqb k.r j.r (ap (λ (p : Pixel). p.r) e), (eq-eqb k.g j.g (ap (λ (p : Pixel). p.g) e), (eq-eqb k.b j.b (ap (λ (p : Pixel). p.b) e), (eq-eqb k.a j.a (ap (λ (p : Pixel). p.a) e), tt))))

-- rows of the same bytes, w pixels wide, from pixel number `base` on, differ nowhere
pub alike : (shown wanted : List ℕ) (base w : ℕ)
    → take (4 * base + 4 * w - 4 * base) (drop (4 * base) shown) ≡ take (4 * base + 4 * w - 4 * base) (drop (4 * base) wanted)
    → (k : ℕ) → k < w → off_at shown wanted base k ≡ false
alike shown wanted base w e k h =
    let m = 4 * base + 4 * w - 4 * base in
    let at : 4 * (base + k) ≡ 4 * base + 4 * k = omega arith in
    let one = part-pixel shown (4 * base) m (4 * k) (omega arith) in
    let two = part-pixel wanted (4 * base) m (4 * k) (omega arith) in
    let same : pixel_from shown (4 * base + 4 * k) ≡ pixel_from wanted (4 * base + 4 * k) = sym one ∙ ap (λ (l : List ℕ). pixel_from l (4 * k)) e ∙ two in
    ap not (same-pixels _ _ (ap (λ (i : ℕ). pixel_from shown i) at ∙ same ∙ ap (λ (i : ℕ). pixel_from wanted i) (sym at)))

module _ (f : ℕ → ℕ → Pixel) (shown : List ℕ) (base y x : ℕ) where
  agrees : differs f shown base y x ≡ false → pixel_no shown (base + x) ≡ f x y
  unfolding differs
  agrees e = pixels-same (pixel_no shown (base + x)) (f x y) (not-false _ e)

  agreed : pixel_no shown (base + x) ≡ f x y → differs f shown base y x ≡ false
  unfolding differs
  agreed e = ap not (same-pixels (pixel_no shown (base + x)) (f x y) e)

-- no number before the first that passes does
none_before : (t : ℕ → Bool) (n k : ℕ) → k < n → k < first_seen t n → t k ≡ false
none_before t n k h below = go (t k) refl
  where
    go : (b : Bool) → t k ≡ b → t k ≡ false
    go true e = let q = first-le t n k h e in absurd (omega arith)
    go false e = e

-- ## all of them

module _ (f : ℕ → ℕ → Pixel) (w first n : ℕ) (shown : List ℕ) where
  -- in rows that are found the same, each pixel agrees
  column-all : (v : ℕ) → w ≤ column_off f w first n shown v → (x : ℕ) → x < w → pixel_no shown (v * w + x) ≡ f x (first + v)
  unfolding column_off
  column-all v h x p = agrees f shown (v * w) (first + v) x (none_before (differs f shown (v * w) (first + v)) w x p (omega arith))

  rows_all : n ≤ row_off f w first n shown → (v : ℕ) → v < n → w ≤ column_off f w first n shown v
  unfolding row_off
  rows_all h v p = ltb-false _ _ (none_before (λ (k : ℕ). ltb (column_off f w first n shown k) w) n v p (omega arith))

  -- the comparison says same, or the first difference
  said : compared f w first n shown ≡ None → n ≤ row_off f w first n shown
  unfolding compared
  said e = go (ltb (row_off f w first n shown) n) refl e
    where
      go : (b : Bool) → ltb (row_off f w first n shown) n ≡ b
          → cond {A = Maybe (ℕ × ℕ)} b (Some (column_off f w first n shown (row_off f w first n shown), first + row_off f w first n shown)) None ≡ None → n ≤ row_off f w first n shown
      go true q z = absurd cc
      go false q z = ltb-false _ _ q

  pub same_shows : length shown ≡ 4 * (w * n) → compared f w first n shown ≡ None → Shows f w first n shown
  same_shows long e = record { long = long; each = λ x v p q. column-all v (rows_all (said e) v q) x p }

  pub shows_same : Shows f w first n shown → compared f w first n shown ≡ None
  unfolding column_off
  shows_same s = all_same f w first n shown n (omega arith) (λ v p. full v p)
    where
      full : (v : ℕ) → v < n → column_off f w first n shown v ≡ w
      full v p = first-none (differs f shown (v * w) (first + v)) w (λ x q. agreed f shown (v * w) (first + v) x (s.each x v q p))

  -- ## the first that differs, in row order: its lent row, and its column

  pub record FirstOff (x y : ℕ) : Type 0 where
    pub row : ℕ
    pub page-row : y ≡ first + row
    pub within : row < n
    pub column : x < w
    pub off : pixel_no shown (row * w + x) ≡ f x y → ⊥
    pub earlier_rows : (k v : ℕ) → v < row → k < w → pixel_no shown (v * w + k) ≡ f k (first + v)
    pub earlier_columns : (k : ℕ) → k < x → pixel_no shown (row * w + k) ≡ f k y

  -- the definition's row and column are that
  found-off : row_off f w first n shown < n → FirstOff (column_off f w first n shown (row_off f w first n shown)) (first + row_off f w first n shown)
  unfolding row_off column_off
  found-off h =
      let r = first_below (λ (v : ℕ). ltb (column_off f w first n shown v) w) n h in
      let v = row_off f w first n shown in
      let below : column_off f w first n shown v < w = ltb-true _ _ r.passes in
      let c = first_below (differs f shown (v * w) (first + v)) w below in
      record {
        row = v;
        page-row = refl;
        within = h;
        column = below;
        off = λ e. not_both c.passes (agreed f shown (v * w) (first + v) (column_off f w first n shown v) e);
        earlier_rows = λ k u p q. column-all u (ltb-false _ _ (r.before u p)) k q;
        earlier_columns = λ k p. agrees f shown (v * w) (first + v) k (c.before k p);
      }

  pub differs-off : (x y : ℕ) → compared f w first n shown ≡ Some (x, y) → FirstOff x y
  unfolding compared
  differs-off x y e = go (ltb (row_off f w first n shown) n) refl e
    where
      go : (b : Bool) → ltb (row_off f w first n shown) n ≡ b
          → cond {A = Maybe (ℕ × ℕ)} b (Some (column_off f w first n shown (row_off f w first n shown), first + row_off f w first n shown)) None ≡ Some (x, y) → FirstOff x y
      go true q z =
          let o : ◌≡◌ {A = ℕ × ℕ} (column_off f w first n shown (row_off f w first n shown), first + row_off f w first n shown) (x, y) = cc in
          let p : column_off f w first n shown (row_off f w first n shown) ≡ x = ap (λ (k : ℕ × ℕ). k.0) o in
          let r : first + row_off f w first n shown ≡ y = ap (λ (k : ℕ × ℕ). k.1) o in
          subst (λ (k : ℕ). FirstOff k y) p (subst (λ (k : ℕ). FirstOff (column_off f w first n shown (row_off f w first n shown)) k) r (found-off (ltb-true _ _ q)))
      go false q z = absurd cc

  pub off-differs : (x y : ℕ) → FirstOff x y → compared f w first n shown ≡ Some (x, y)
  unfolding column_off
  off-differs x y o =
      first-differs f w first n shown o.row x o.within (λ v p. full v p) here o.column ∙ ap (λ (j : ℕ). Some (x, j)) (sym o.page-row)
    where
      full : (v : ℕ) → v < o.row → column_off f w first n shown v ≡ w
      full v p = first-none (differs f shown (v * w) (first + v)) w (λ k q. agreed f shown (v * w) (first + v) k (o.earlier_rows k v p q))

      passes : (b : Bool) → differs f shown (o.row * w) (first + o.row) x ≡ b → differs f shown (o.row * w) (first + o.row) x ≡ true
      passes true e = e
      passes false e = absurd (o.off (agrees f shown (o.row * w) (first + o.row) x e ∙ ap (f x) (sym o.page-row)))

      here : column_off f w first n shown o.row ≡ x
      here =
          first-is (differs f shown (o.row * w) (first + o.row)) w x (record {
            below = o.column;
            passes = passes (differs f shown (o.row * w) (first + o.row) x) refl;
            before = λ k p. agreed f shown (o.row * w) (first + o.row) k (o.earlier_columns k p ∙ ap (f k) o.page-row);
          })
