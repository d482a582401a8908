-- Which of some records shows a pixel: the first that reaches it, and what is left of a list from index i on. Assumes nothing.
use Prim.Native.Nat.{ℕ, zero, suc, ◌+◌, ◌≤◌, ◌<◌}
use native.Mathlib.Omega.{arith}
use mathlib.Core.Path.{◌≡◌, refl, sym, ap, ◌∙◌}
use mathlib.Core.Bool.{Bool, true, false, cond}
use mathlib.Core.List.{List, [], ◌∷◌}
use mathlib.Core.Option.{none, some}
use mathlib.Core.Logic.{◌⊎◌, inl, inr}
use lib.ListN.{length, get_or, drop, drop_of_length-le}
use lib.Dec.{eqb}
use Rattle.geometry.specs.Words.{earliest}
use Rattle.geometry.specs.Rects.{holds_point}
use Rattle.geometry.proofs.Words.{and_left, and_right}
use Rattle.art.specs.Stores.{Stores}
use Rattle.records.specs.declared.texture_packer_config.Config.{Config}
use Rattle.records.specs.declared.frame.Page.{Page}
use Rattle.records.specs.declared.frame.Record.{Record}
use Rattle.records.proofs.Standing.{rest_next}
use Rattle.lookup.specs.Zones.{zone, reaches, owner, frame_pixel, pixel_of, pixel_among}

pub reached_on : (c : Config) (p : Page) (x y : ℕ) (r : Record) → reaches c p x y r ≡ true → eqb r.page.0 p.0 ≡ true
unfolding reaches
reached_on c p x y r e = and_left (eqb r.page.0 p.0) (holds_point (zone c r) x y) e

pub reached_in : (c : Config) (p : Page) (x y : ℕ) (r : Record) → reaches c p x y r ≡ true → holds_point (zone c r) x y ≡ true
unfolding reaches
reached_in c p x y r e = and_right (eqb r.page.0 p.0) (holds_point (zone c r) x y) e

-- ## what is left, as a loop goes through them

module _ (c : Config) (s : Stores) (p : Page) (x y : ℕ) where
  among_cons : (r : Record) (rs : List Record) → pixel_among c s p (r ∷ rs) x y ≡ cond (reaches c p x y r) (some (frame_pixel c s r x y)) (pixel_among c s p rs x y)
  unfolding pixel_among owner earliest pixel_of
  among_cons r rs = go (reaches c p x y r)
    where
      go : (b : Bool) → pixel_of c s x y (cond b (some r) (owner c p x y rs)) ≡ cond b (some (frame_pixel c s r x y)) (pixel_among c s p rs x y)
      go true = refl
      go false = refl

  among_none : pixel_among c s p [] x y ≡ none
  unfolding pixel_among owner earliest pixel_of
  among_none = refl

  module _ (l : List Record) (d : Record) (i : ℕ) where
    among_step : (r : Record) (b : Bool) → i < length l → r ≡ get_or l i d → b ≡ reaches c p x y r
        → pixel_among c s p (drop i l) x y ≡ cond b (some (frame_pixel c s r x y)) (pixel_among c s p (drop (i + 1) l) x y)
    among_step r b h e q =
        ap (λ (rs : List Record). pixel_among c s p rs x y) (rest_next (λ (z : Record). true) l d i h)
        ∙ among_cons (get_or l i d) (drop (i + 1) l)
        ∙ ap (λ (z : Record). cond (reaches c p x y z) (some (frame_pixel c s z x y)) (pixel_among c s p (drop (i + 1) l) x y)) (sym e)
        ∙ ap (λ (z : Bool). cond z (some (frame_pixel c s r x y)) (pixel_among c s p (drop (i + 1) l) x y)) (sym q)

    pub among_stop : (r : Record) (b : Bool) → i < length l → r ≡ get_or l i d → b ≡ reaches c p x y r → b ≡ true
        → pixel_among c s p (drop i l) x y ≡ some (frame_pixel c s r x y)
    among_stop r b h e q t = among_step r true h e (sym t ∙ q)

    pub among_more : (r : Record) (b : Bool) → i < length l → r ≡ get_or l i d → b ≡ reaches c p x y r → b ≡ false
        → pixel_among c s p (drop (i + 1) l) x y ≡ pixel_among c s p (drop i l) x y
    among_more r b h e q f = sym (among_step r false h e (sym f ∙ q))

    pub among_done : length l ≤ i → pixel_among c s p (drop i l) x y ≡ none
    among_done h = ap (λ (rs : List Record). pixel_among c s p rs x y) (drop_of_length-le l h) ∙ among_none

-- ## the first that passes a test

module _ {A : Type 0} (t : A → Bool) (d : A) where
  -- place i of a list passes, and none before it does
  pub record FirstAt (xs : List A) (i : ℕ) : Type 0 where
    pub below : i < length xs
    pub none_before : (j : ℕ) → j < i → t (get_or xs j d) ≡ false
    pub passes : t (get_or xs i d) ≡ true

  -- none of it does
  abbrev pub NonePasses : List A → Type 0
  NonePasses xs = (j : ℕ) → j < length xs → t (get_or xs j d) ≡ false

  pub first-is : (xs : List A) (i : ℕ) → FirstAt xs i → earliest t xs ≡ some (get_or xs i d)
  unfolding earliest
  first-is [] i f = absurd (omega (arith, f.below))
  first-is (x ∷ xs) zero f = rw f.passes
  first-is (x ∷ xs) (suc i) f =
      rw (f.none_before 0 (omega arith))
      (first-is xs i (record { below = omega (arith, f.below); none_before = λ j h. f.none_before (suc j) (omega arith); passes = f.passes }))

  pub none_is : (xs : List A) → NonePasses xs → earliest t xs ≡ none
  unfolding earliest
  none_is [] f = refl
  none_is (x ∷ xs) f = rw (f 0 (omega arith)) (none_is xs (λ j h. f (suc j) (omega arith)))

  -- one or the other
  pub look : (xs : List A) → ((i : ℕ) × FirstAt xs i) ⊎ NonePasses xs
  look [] = inr (λ j h. absurd (omega arith))
  look (x ∷ xs) = go (t x) refl (look xs)
    where
      after : t x ≡ false → (n : ℕ) → ((j : ℕ) → j < n → t (get_or xs j d) ≡ false) → (j : ℕ) → j < suc n → t (get_or (x ∷ xs) j d) ≡ false
      after e n m zero h = e
      after e n m (suc j) h = m j (omega arith)

      go : (b : Bool) → t x ≡ b → ((i : ℕ) × FirstAt xs i) ⊎ NonePasses xs → ((i : ℕ) × FirstAt (x ∷ xs) i) ⊎ NonePasses (x ∷ xs)
      go true e rest = inl (0, record { below = omega arith; none_before = λ j h. absurd (omega arith); passes = e })
      go false e (inl f) = inl (suc f.0, record { below = omega (arith, f.1.below); none_before = after e f.0 f.1.none_before; passes = f.1.passes })
      go false e (inr m) = inr (after e (length xs) m)

  -- the only one that passes is the first
  pub only-first : (xs : List A) (i : ℕ) → i < length xs → t (get_or xs i d) ≡ true → ((j : ℕ) → j < length xs → (j ≡ i → ⊥) → t (get_or xs j d) ≡ false) → FirstAt xs i
  only-first xs i h e others = record { below = h; none_before = λ j g. others j (omega arith) (λ q. omega arith); passes = e }
