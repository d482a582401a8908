-- Pixels by their number, and spans of them painted one after the other. Assumes nothing.
use Prim.Native.Nat.{ℕ, zero, suc, ◌+◌, ◌*◌, ◌≤◌, ◌<◌}
use native.Mathlib.Omega.{arith}
use native.Mathlib.Decide.{ℕ_discrete}
use mathlib.Core.Path.{◌≡◌, refl, sym, ap, ◌∙◌, subst}
use mathlib.Core.List.{List, [], ◌∷◌}
use borrow.Rule.Slice.PartMut.{put_mid}
use lib.ListN.{length, get_or, set, length-set}
use lib.Seq.{get_or-set_same, get_or-set_other}
use Rattle.art.specs.Stores.{pixel_from}
use Rattle.art.specs.declared.memory_rgba8_texture.Pixel.{Pixel}
use Rattle.paint.specs.Painting.{pixel_no, with_pixel, SpanPainted}

-- four bytes written over a part are four bytes set, one after the other
four_set : (l : List ℕ) (a r g b k : ℕ) → a + 4 ≤ length l → put_mid a 4 l (r ∷ g ∷ b ∷ k ∷ []) ≡ set (set (set (set l a r) (a + 1) g) (a + 2) b) (a + 3) k
four_set [] a r g b k h = absurd (omega arith)
four_set (w ∷ []) zero r g b k h = absurd (omega arith)
four_set (w ∷ x ∷ []) zero r g b k h = absurd (omega arith)
four_set (w ∷ x ∷ y ∷ []) zero r g b k h = absurd (omega arith)
four_set (w ∷ x ∷ y ∷ z ∷ l) zero r g b k h = refl
four_set (x ∷ l) (suc a) r g b k h =
    let e1 : suc a + 1 ≡ suc (a + 1) = omega arith in
    let e2 : suc a + 2 ≡ suc (a + 2) = omega arith in
    let e3 : suc a + 3 ≡ suc (a + 3) = omega arith in
    rw (e1, e2, e3) (ap (λ (m : List ℕ). x ∷ m) (four_set l a r g b k (omega arith)))

pub pixel_put : (l : List ℕ) (i n : ℕ) (k : Pixel) (bytes : List ℕ) → n ≡ 4 → bytes ≡ k.r ∷ k.g ∷ k.b ∷ k.a ∷ [] → 4 * i + 4 ≤ length l
    → put_mid (4 * i) n l bytes ≡ with_pixel l i k
unfolding with_pixel
pixel_put l i n k bytes e q h = rw (e, q) (four_set l (4 * i) k.r k.g k.b k.a h)

module _ (l : List ℕ) (i : ℕ) (k : Pixel) where
  abbrev a : ℕ
  a = 4 * i

  abbrev l1 : List ℕ
  l1 = set l a k.r

  abbrev l2 : List ℕ
  l2 = set l1 (a + 1) k.g

  abbrev l3 : List ℕ
  l3 = set l2 (a + 2) k.b

  pub with_long : length (with_pixel l i k) ≡ length l
  unfolding with_pixel
  with_long = length-set l3 (a + 3) k.a ∙ length-set l2 (a + 2) k.b ∙ length-set l1 (a + 1) k.g ∙ length-set l a k.r

  -- a byte of another pixel
  kept : (q : ℕ) → (q ≡ a → ⊥) → (q ≡ a + 1 → ⊥) → (q ≡ a + 2 → ⊥) → (q ≡ a + 3 → ⊥) → get_or (with_pixel l i k) q 0 ≡ get_or l q 0
  unfolding with_pixel
  kept q n0 n1 n2 n3 =
      get_or-set_other l3 (a + 3) q k.a 0 n3
      ∙ get_or-set_other l2 (a + 2) q k.b 0 n2
      ∙ get_or-set_other l1 (a + 1) q k.g 0 n1
      ∙ get_or-set_other l a q k.r 0 n0

  other_byte : (j d : ℕ) → (j ≡ i → ⊥) → d < 4 → get_or (with_pixel l i k) (4 * j + d) 0 ≡ get_or l (4 * j + d) 0
  other_byte j d ne h =
      kept (4 * j + d) (λ e. ne (omega arith)) (λ e. ne (omega arith)) (λ e. ne (omega arith)) (λ e. ne (omega arith))

  -- no other pixel is changed
  pub with_other : (j : ℕ) → (j ≡ i → ⊥) → pixel_no (with_pixel l i k) j ≡ pixel_no l j
  unfolding pixel_from
  with_other j ne =
      let z : 4 * j + 0 ≡ 4 * j = omega arith in
      let p0 : get_or (with_pixel l i k) (4 * j) 0 ≡ get_or l (4 * j) 0 =
      ap (λ (q : ℕ). get_or (with_pixel l i k) q 0) (sym z) ∙ other_byte j 0 ne (omega arith) ∙ ap (λ (q : ℕ). get_or l q 0) z in
      let p1 = other_byte j 1 ne (omega arith) in
      let p2 = other_byte j 2 ne (omega arith) in
      let p3 = other_byte j 3 ne (omega arith) in
      λ t. record { r = p0 t; g = p1 t; b = p2 t; a = p3 t }

  -- this one is
  pub with_here : 4 * i + 4 ≤ length l → pixel_no (with_pixel l i k) i ≡ k
  unfolding pixel_from with_pixel
  with_here h =
      let m1 = length-set l a k.r in
      let m2 = length-set l1 (a + 1) k.g in
      let m3 = length-set l2 (a + 2) k.b in
      let p0 : get_or (set l3 (a + 3) k.a) a 0 ≡ k.r =
      get_or-set_other l3 (a + 3) a k.a 0 (λ e. omega arith)
      ∙ get_or-set_other l2 (a + 2) a k.b 0 (λ e. omega arith)
      ∙ get_or-set_other l1 (a + 1) a k.g 0 (λ e. omega arith)
      ∙ get_or-set_same l a k.r 0 (omega arith) in
      let p1 : get_or (set l3 (a + 3) k.a) (a + 1) 0 ≡ k.g =
      get_or-set_other l3 (a + 3) (a + 1) k.a 0 (λ e. omega arith)
      ∙ get_or-set_other l2 (a + 2) (a + 1) k.b 0 (λ e. omega arith)
      ∙ get_or-set_same l1 (a + 1) k.g 0 (omega arith) in
      let p2 : get_or (set l3 (a + 3) k.a) (a + 2) 0 ≡ k.b =
      get_or-set_other l3 (a + 3) (a + 2) k.a 0 (λ e. omega arith) ∙ get_or-set_same l2 (a + 2) k.b 0 (omega arith) in
      let p3 : get_or (set l3 (a + 3) k.a) (a + 3) 0 ≡ k.a = get_or-set_same l3 (a + 3) k.a 0 (omega arith) in
      λ t. record { r = p0 t; g = p1 t; b = p2 t; a = p3 t }

-- ## spans

pub span_none : (f : ℕ → Pixel) (a e : ℕ) (l : List ℕ) → e ≤ a → SpanPainted f a e l l
span_none f a e l h = record {
  long = refl;
  inside = λ i p q. absurd (omega arith);
  before = λ i p. refl;
  after = λ i p. refl;
}

-- one pixel more
pub span_more : (f : ℕ → Pixel) (a e : ℕ) (old l new : List ℕ) (k : Pixel) → SpanPainted f a e old l → a ≤ e → 4 * e + 4 ≤ length l
    → k ≡ f e → new ≡ with_pixel l e k → SpanPainted f a (e + 1) old new
span_more f a e old l new k s h room is n = record {
  long = ap length n ∙ with_long l e k ∙ s.long;
  inside = λ i p q. ap (λ (b : List ℕ). pixel_no b i) n ∙ go i p q (ℕ_discrete i e);
  before = λ i p. ap (λ (b : List ℕ). pixel_no b i) n ∙ with_other l e k i (λ z. omega arith) ∙ s.before i p;
  after = λ i p. ap (λ (b : List ℕ). pixel_no b i) n ∙ with_other l e k i (λ z. omega arith) ∙ s.after i (omega arith);
}
  where
    go : (i : ℕ) → a ≤ i → i < e + 1 → Dec (i ≡ e) → pixel_no (with_pixel l e k) i ≡ f i
    go i p q (yes z) =
        ap (λ (j : ℕ). pixel_no (with_pixel l e k) j) z ∙ with_here l e k room ∙ is ∙ ap f (sym z)
    go i p q (no z) = with_other l e k i z ∙ s.inside i p (less i q z)
      where
        less : (i : ℕ) → i < e + 1 → (i ≡ e → ⊥) → i < e
        less i q z = omega arith

pub span_to : {f : ℕ → Pixel} {a e n : ℕ} {old new : List ℕ} → e ≡ n → SpanPainted f a e old new → SpanPainted f a n old new
span_to {f} {a} {e} {n} {old} {new} q s = subst (λ (m : ℕ). SpanPainted f a m old new) q s
