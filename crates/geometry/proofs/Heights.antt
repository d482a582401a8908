-- Laws of heights: the greatest of some columns, starts, segments, and what a new cell does to them. Assumes nothing.
use Prim.Native.Nat.{ℕ, zero, suc, ◌+◌, ◌-◌, ◌≤◌, ◌<◌, max}
use mathlib.Core.Path.{◌≡◌, refl, sym, ap, ◌∙◌}
use mathlib.Core.Bool.{Bool, true, false, cond}
use mathlib.Core.List.{List, [], ◌∷◌, ◌++◌, Memᴰ}
use mathlib.Core.Logic.{◌⊎◌, inl, inr}
use mathlib.Core.Option.{Option}
use native.Mathlib.Nat.{eq-or-lt_of_le}
use native.Mathlib.Omega.{arith}
use lib.Dec.{leb, ltb}
use borrow.Author.Tests.{lt-ltb, le-ltb, le-leb, lt-leb, eq-eqb, ne_eqb}
use Rattle.geometry.specs.declared.rect.Rect.{Rect}
use Rattle.geometry.specs.Words.{from, only, earliest, or_else, greatest}
use Rattle.geometry.specs.Rects.{on_span, bottom_of}
use Rattle.geometry.specs.Placing.{covers, height, is_start, starts_from, segment, top}
use Rattle.geometry.specs.Fits.{Lifted}
use Rattle.geometry.proofs.Words.{both, and_no_left, and_no_right, from-none, from_more, only_run, only_append, greatest_append, earliest-at, earliest-none}
use Rattle.geometry.proofs.Members.{only_in, greatest-le}

-- ## the greatest height

pub top-none : (f : ℕ → ℕ) (s n : ℕ) → n ≡ 0 → 0 ≡ top f s n
unfolding top greatest
top-none f s n e = sym (ap (greatest f) (from-none s n e))

pub top_more : (f : ℕ → ℕ) (s n k : ℕ) → n ≡ suc k → top f s n ≡ max (f s) (top f (suc s) k)
unfolding top greatest
top_more f s n k e = ap (greatest f) (from_more s n k e)

top-flat : (f : ℕ → ℕ) (v : ℕ) (k s n : ℕ) → n ≡ suc k → ((c : ℕ) → s ≤ c → c < s + n → f c ≡ v) → top f s n ≡ v
top-flat f v zero s n e h =
    let a = top_more f s n 0 e in
    let z = top-none f (suc s) 0 refl in
    let u = h s (omega arith) (omega arith) in
    omega arith
top-flat f v (suc k) s n e h =
    let a = top_more f s n (suc k) e in
    let ih = top-flat f v k (suc s) (suc k) refl (λ c l r. h c (omega arith) (omega arith)) in
    let u = h s (omega arith) (omega arith) in
    omega arith

top_then : (f : ℕ → ℕ) (v m s a b : ℕ) → a ≡ s + m → a < b → ((c : ℕ) → a ≤ c → c < b → f c ≡ v) → top f s (b - s) ≡ max (top f s (a - s)) v
top_then f v zero s a b e ab h =
    let z = top-none f s (a - s) (omega arith) in
    let t = top-flat f v (b - s - 1) s (b - s) (omega arith) (λ c l r. h c (omega arith) (omega arith)) in
    omega arith
top_then f v (suc m) s a b e ab h =
    let p = top_more f s (b - s) (b - suc s) (omega arith) in
    let q = top_more f s (a - s) (a - suc s) (omega arith) in
    let ih = top_then f v m (suc s) a b (omega arith) ab h in
    omega arith

pub top-level : (f : ℕ → ℕ) (s a b v : ℕ) → s ≤ a → a < b → ((c : ℕ) → a ≤ c → c < b → f c ≡ v) → top f s (b - s) ≡ max (top f s (a - s)) v
top-level f s a b v sa ab h = top_then f v (a - s) s a b (omega arith) ab h

pub top_bound : (f : ℕ → ℕ) (n s c : ℕ) → s ≤ c → c < s + n → f c ≤ top f s n
top_bound f zero s c l r = absurd (omega arith)
top_bound f (suc n) s c l r = go (eq-or-lt_of_le l) (λ h. top_bound f n (suc s) c h (omega arith))
  where
    go : (s ≡ c) ⊎ (s < c) → (s < c → f c ≤ top f (suc s) n) → f c ≤ top f s (suc n)
    go (inl e) k = let z = ap f e in let m = top_more f s (suc n) n refl in omega arith
    go (inr h) k = let z = k h in let m = top_more f s (suc n) n refl in omega arith

-- no higher than a bound that all its columns have
pub top_least : (f : ℕ → ℕ) (b n s : ℕ) → ((c : ℕ) → s ≤ c → c < s + n → f c ≤ b) → top f s n ≤ b
top_least f b zero s h = let z = top-none f s 0 refl in omega arith
top_least f b (suc n) s h =
    let m = top_more f s (suc n) n refl in
    let ih = top_least f b n (suc s) (λ c l r. h c (omega arith) (omega arith)) in
    let u = h s (omega arith) (omega arith) in
    omega arith

-- ## starts

pub start-zero : (f : ℕ → ℕ) (c : ℕ) → c ≡ 0 → is_start f c ≡ true
unfolding is_start
start-zero f c e = rw (eq-eqb c 0 e)

pub start_yes : (f : ℕ → ℕ) (c d : ℕ) → c ≡ suc d → (f c ≡ f d → ⊥) → is_start f c ≡ true
unfolding is_start
start_yes f c d e h =
    let n : (c ≡ 0 → ⊥) = λ z. omega arith in
    let p : c - 1 ≡ d = omega arith in
    rw (ne_eqb c 0 n, p, ne_eqb (f c) (f d) h)

pub start_no : (f : ℕ → ℕ) (c d : ℕ) → c ≡ suc d → f c ≡ f d → is_start f c ≡ false
unfolding is_start
start_no f c d e h =
    let n : (c ≡ 0 → ⊥) = λ z. omega arith in
    let p : c - 1 ≡ d = omega arith in
    rw (ne_eqb c 0 n, p, eq-eqb (f c) (f d) h)

-- a start is followed by columns that are none, up to the next
pub starts_run : (f : ℕ → ℕ) (W a b : ℕ) → a < b → b ≤ W → is_start f a ≡ true → ((c : ℕ) → a < c → c < b → is_start f c ≡ false)
    → starts_from f W a ≡ a ∷ starts_from f W b
unfolding starts_from
starts_run f W a b l m y h =
    let e : a + suc (b - a - 1) ≡ b = omega arith in
    only_run (is_start f) (b - a - 1) a (W - a) (W - b) (omega arith) y (λ c p q. h c p (omega arith))
    ∙ ap (λ (j : ℕ). a ∷ only (is_start f) (from j (W - b))) e

pub starts_end : (f : ℕ → ℕ) (W a : ℕ) → a ≡ W → starts_from f W a ≡ []
unfolding starts_from only
starts_end f W a e = ap (only (is_start f)) (from-none a (W - a) (omega arith))

pub segment-is : (f : ℕ → ℕ) (W a b : ℕ) → a < b → b ≤ W → ((c : ℕ) → a < c → c < b → is_start f c ≡ false) → (b < W → is_start f b ≡ true)
    → segment f W a ≡ b - a
unfolding segment
segment-is f W a b l m h y = go (eq-or-lt_of_le m)
  where
    go : (b ≡ W) ⊎ (b < W) → or_else (earliest (is_start f) (from (a + 1) (W - (a + 1)))) W - a ≡ b - a
    go (inl e) =
        let z = ap (λ (o : Option ℕ). or_else o W) (earliest-none (is_start f) (a + 1) (W - (a + 1)) (λ c p q. h c (omega arith) (omega arith))) in
        omega arith
    go (inr n) =
        let e : a + 1 + (b - (a + 1)) ≡ b = omega arith in
        let z = ap (λ (o : Option ℕ). or_else o W) (earliest-at (is_start f) (b - (a + 1)) (a + 1) (W - (a + 1)) (omega arith) (λ c p q. h c (omega arith) (omega arith)) (ap (is_start f) e ∙ y n)) in
        omega arith

-- ## what a new cell does to the heights

covers_in : (k : Rect) (c : ℕ) → k.x ≤ c → c < k.x + k.w → covers c k ≡ true
unfolding on_span
covers_in k c l r = both (le-leb _ _ l) (lt-ltb _ _ r)

covers-left : (k : Rect) (c : ℕ) → c < k.x → covers c k ≡ false
unfolding on_span
covers-left k c l = and_no_left _ _ (lt-leb _ _ l)

covers-right : (k : Rect) (c : ℕ) → k.x + k.w ≤ c → covers c k ≡ false
unfolding on_span
covers-right k c l = and_no_right (leb k.x c) (ltb c (k.x + k.w)) (le-ltb _ _ l)

-- no column that a cell covers is higher than its bottom row
pub under_height : (cells : List Rect) (q : Rect) (x : ℕ) → Memᴰ q cells → q.x ≤ x → x < q.x + q.w → q.y + q.h ≤ height cells x
unfolding height
under_height cells q x m a b =
    let g = greatest-le (λ (k : Rect). bottom_of k + 1) (only (covers x) cells) (only_in (covers x) cells m (covers_in q x a b)) in
    omega arith

pub no_height : (c : ℕ) → height [] c ≡ 0
unfolding height only greatest
no_height c = refl

height_snoc : (cells : List Rect) (k : Rect) (c : ℕ) → height (cells ++ k ∷ []) c ≡ max (height cells c) (cond (covers c k) (bottom_of k + 1) 0)
unfolding height only greatest
height_snoc cells k c =
    ap (greatest (λ (j : Rect). bottom_of j + 1)) (only_append (covers c) cells (k ∷ []))
    ∙ greatest_append (λ (j : Rect). bottom_of j + 1) (only (covers c) cells) (only (covers c) (k ∷ []))
    ∙ ap (max (greatest (λ (j : Rect). bottom_of j + 1) (only (covers c) cells))) (one (covers c k) refl)
  where
    one : (b : Bool) → covers c k ≡ b → greatest (λ (j : Rect). bottom_of j + 1) (only (covers c) (k ∷ [])) ≡ cond b (bottom_of k + 1) 0
    one true e = rw e (omega arith)
    one false e = rw e

height_as : (cells : List Rect) (k : Rect) (c : ℕ) (b : Bool) → covers c k ≡ b → height (cells ++ k ∷ []) c ≡ max (height cells c) (cond b (bottom_of k + 1) 0)
height_as cells k c b z = height_snoc cells k c ∙ ap (λ (t : Bool). max (height cells c) (cond t (bottom_of k + 1) 0)) z

height_out : (cells : List Rect) (k : Rect) (c : ℕ) → covers c k ≡ false → height (cells ++ k ∷ []) c ≡ height cells c
height_out cells k c z = let e = height_as cells k c false z in omega arith

-- a cell at the greatest height of its columns lifts them to its end
pub lifted : (cells : List Rect) (k : Rect) → 0 < k.h → k.y ≡ top (height cells) k.x k.w
    → Lifted (height cells) (height (cells ++ k ∷ [])) k.x (k.x + k.w) (k.y + k.h)
lifted cells k tall e = record {
  left = λ c l. height_out cells k c (covers-left k c l);
  here = λ c l r.
      let b = top_bound (height cells) k.w k.x c l r in
      let h = height_as cells k c true (covers_in k c l r) in
      omega arith;
  right = λ c l. height_out cells k c (covers-right k c l);
}
