-- Laws of spans and rectangles: how the code tests them, by subtraction, and what the tests say. Assumes nothing.
use Prim.Native.Nat.{ℕ, ◌+◌, ◌-◌, ◌*◌, ◌≤◌, ◌<◌}
use mathlib.Core.Path.{◌≡◌, sym, ◌∙◌}
use mathlib.Core.Bool.{true, false, ◌&&◌}
use native.Mathlib.Omega.{arith}
use native.Mathlib.Decide.{dec_lt}
use native.Mathlib.Nat.{mul-le-mul_left, mul-lt-mul_of_pos_right, lt_of_le_of_lt, le_of_lt}
use lib.Dec.{leb, ltb}
use borrow.Author.Tests.{lt-ltb, le-ltb, le-leb, lt-leb, leb-true, ltb-true}
use Rattle.geometry.specs.Rects.{on_span, in_span, holds_point, holds_rect}
use Rattle.geometry.specs.declared.rect.Rect.{Rect}
use Rattle.geometry.proofs.Words.{and_left, and_right, and_no_left, and_no_right, both}

module _ (a n x : ℕ) where
  pub span_before : x < a → false ≡ on_span a n x
  unfolding on_span
  span_before l = sym (and_no_left (leb a x) (ltb x (a + n)) (lt-leb _ _ l))

  pub span_from : a ≤ x → ltb (x - a) n ≡ on_span a n x
  unfolding on_span
  span_from l = go (dec_lt (x - a) n)
    where
      go : Dec (x - a < n) → ltb (x - a) n ≡ (leb a x && ltb x (a + n))
      go (yes h) = lt-ltb _ _ h ∙ sym (both (le-leb _ _ l) (lt-ltb x (a + n) (omega arith)))
      go (no h) = le-ltb (x - a) n (omega arith) ∙ sym (and_no_right (leb a x) (ltb x (a + n)) (le-ltb x (a + n) (omega arith)))

module _ (a n b m : ℕ) where
  pub inside_past : a ≤ b → n < b - a → false ≡ in_span a n b m
  unfolding in_span
  inside_past l h = sym (and_no_right (leb a b) (leb (b + m) (a + n)) (lt-leb (b + m) (a + n) (omega arith)))

-- a product of two numbers of 32 bits fits 64
pub product_fits : (a b : ℕ) → a < 4294967296 → b < 4294967296 → a * b < 18446744073709551616
product_fits a b ha hb = lt_of_le_of_lt (mul-le-mul_left a (le_of_lt hb)) (mul-lt-mul_of_pos_right ha (omega arith))

-- ## points in a rectangle, and a rectangle in another, as orders

-- x is one of the n numbers from a on, and the m numbers from b on are too
span_in : (a n x : ℕ) → a ≤ x → x < a + n → on_span a n x ≡ true
unfolding on_span
span_in a n x l r = both (le-leb _ _ l) (lt-ltb _ _ r)

in_span_lem : (a n x : ℕ) → on_span a n x ≡ true → (a ≤ x) × (x < a + n)
unfolding on_span
in_span_lem a n x e = (leb-true _ _ (and_left (leb a x) (ltb x (a + n)) e), ltb-true _ _ (and_right (leb a x) (ltb x (a + n)) e))

inner_span : (a n b m : ℕ) → a ≤ b → b + m ≤ a + n → in_span a n b m ≡ true
unfolding in_span
inner_span a n b m l r = both (le-leb _ _ l) (le-leb _ _ r)

span_inner : (a n b m : ℕ) → in_span a n b m ≡ true → (a ≤ b) × (b + m ≤ a + n)
unfolding in_span
span_inner a n b m e = (leb-true _ _ (and_left (leb a b) (leb (b + m) (a + n)) e), leb-true _ _ (and_right (leb a b) (leb (b + m) (a + n)) e))

pub record PointIn (k : Rect) (x y : ℕ) : Type 0 where
  pub left : k.x ≤ x
  pub right : x < k.x + k.w
  pub top : k.y ≤ y
  pub bottom : y < k.y + k.h

pub point_in : (k : Rect) (x y : ℕ) → PointIn k x y → holds_point k x y ≡ true
unfolding holds_point
point_in k x y p = both (span_in k.x k.w x p.left p.right) (span_in k.y k.h y p.top p.bottom)

pub in_point : (k : Rect) (x y : ℕ) → holds_point k x y ≡ true → PointIn k x y
unfolding holds_point
in_point k x y e =
    let a = in_span_lem k.x k.w x (and_left (on_span k.x k.w x) (on_span k.y k.h y) e) in
    let b = in_span_lem k.y k.h y (and_right (on_span k.x k.w x) (on_span k.y k.h y) e) in
    record { left = a.0; right = a.1; top = b.0; bottom = b.1 }

pub record RectIn (k j : Rect) : Type 0 where
  pub left : k.x ≤ j.x
  pub right : j.x + j.w ≤ k.x + k.w
  pub top : k.y ≤ j.y
  pub bottom : j.y + j.h ≤ k.y + k.h

pub rect_in : (k j : Rect) → RectIn k j → holds_rect k j ≡ true
unfolding holds_rect
rect_in k j r = both (inner_span k.x k.w j.x j.w r.left r.right) (inner_span k.y k.h j.y j.h r.top r.bottom)

pub in_rect : (k j : Rect) → holds_rect k j ≡ true → RectIn k j
unfolding holds_rect
in_rect k j e =
    let a = span_inner k.x k.w j.x j.w (and_left (in_span k.x k.w j.x j.w) (in_span k.y k.h j.y j.h) e) in
    let b = span_inner k.y k.h j.y j.h (and_right (in_span k.x k.w j.x j.w) (in_span k.y k.h j.y j.h) e) in
    record { left = a.0; right = a.1; top = b.0; bottom = b.1 }

pub same-rect : (k j : Rect) → holds_rect k j ≡ true → holds_rect j k ≡ true → k ≡ j
same-rect k j e f =
    let a = in_rect k j e in
    let b = in_rect j k f in
    let x : k.x ≡ j.x = omega (arith, a.left, b.left) in
    let y : k.y ≡ j.y = omega (arith, a.top, b.top) in
    let w : k.w ≡ j.w = omega (arith, a.left, b.left, a.right, b.right) in
    let h : k.h ≡ j.h = omega (arith, a.top, b.top, a.bottom, b.bottom) in
    λ i. record { x = x i; y = y i; w = w i; h = h i }
