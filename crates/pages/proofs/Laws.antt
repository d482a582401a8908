-- Laws of the eight pages' skylines. Assumes nothing.
use Rattle.std.specs.Prelude.{Option, Some, None}
use Prim.Native.Nat.{ℕ, ◌+◌, ◌≤◌, ◌<◌}
use mathlib.Core.Path.{◌≡◌, sym, ap, ◌∙◌}
use mathlib.Core.Bool.{Bool, true, false}
use mathlib.Core.List.{List, []}
use mathlib.Core.Option.{Option as Maybe}
use native.Mathlib.Omega.{arith}
use native.Mathlib.Decide.{ℕ_discrete}
use lib.ListN.{length, set, length-set, length-append}
use lib.Seq.{get_or-set_same, get_or-set_other}
use Rattle.geometry.specs.declared.rect.Rect.{Rect}
use Rattle.geometry.specs.declared.rect.Size.{Size}
use Rattle.geometry.specs.declared.spot.Spot.{Spot}
use Rattle.geometry.specs.Words.{or_else}
use Rattle.geometry.specs.Placing.{height, spot_for, is_found, grown}
use Rattle.geometry.proofs.Words.{earliest-at, earliest-none}
use Rattle.skyline.specs.declared.skyline.Skyline.{Skyline}
use Rattle.skyline.specs.Skyline.{stored, Whole, Holds, Put}
use Rattle.pages.specs.declared.Pages.{Pages}
use Rattle.pages.specs.Pages.{first_fitting, page_of, Stands, PutOn, Fresh}

one_more : (cells : List Rect) (o : Option Spot) (m : ℕ) → length cells ≤ m → length (grown cells o) ≤ m + 1
unfolding grown
one_more cells None m l = omega arith
one_more cells (Some k) m l = simp length-append (omega arith)

-- the skyline of one page anew
module _ (area : Size) (rotation : Bool) (cell : Size) (p m : ℕ) (cells : ℕ → List Rect) (old : Pages) (new : Skyline) (r : Option Spot)
    (h : p < 8) (st : Stands area.w cells m old) (wh : Whole new) (pt : Put area rotation cell (cells p) r (stored new)) where
  whole : (q : ℕ) → q < 8 → Dec (q ≡ p) → Whole (page_of q (record { skylines = set old.skylines p new }))
  whole q hq (yes e) = rw (e, get_or-set_same old.skylines p new (record { xs = []; ys = []; n = 0 }) (omega (arith, st.eight))) wh
  whole q hq (no e) = rw (get_or-set_other old.skylines p q new (record { xs = []; ys = []; n = 0 }) e) (st.whole q hq)

  module _ (after : ℕ → List Rect) (here : after p ≡ grown (cells p) r) (others : (q : ℕ) → (q ≡ p → ⊥) → after q ≡ cells q) where
    holds : (q : ℕ) → q < 8 → Dec (q ≡ p) → Holds area.w (after q) (stored (page_of q (record { skylines = set old.skylines p new })))
    holds q hq (yes e) =
        rw (e, here, get_or-set_same old.skylines p new (record { xs = []; ys = []; n = 0 }) (omega (arith, st.eight))) pt.holds
    holds q hq (no e) = rw (others q e, get_or-set_other old.skylines p q new (record { xs = []; ys = []; n = 0 }) e) (st.holds q hq)

    few : (q : ℕ) → q < 8 → Dec (q ≡ p) → length (after q) ≤ m + 1
    few q hq (yes e) =
        let a = ap length (ap after e ∙ here) in
        let b = one_more (cells p) r m (st.few p h) in
        omega arith
    few q hq (no e) = let a = ap length (others q e) in let b = st.few q hq in omega arith

  pub put_page : PutOn area rotation cell p m cells r (record { skylines = set old.skylines p new })
  put_page = record {
    found = pt.found;
    stands = λ after here others. record {
      eight = length-set old.skylines p new ∙ st.eight;
      whole = λ q hq. whole q hq (ℕ_discrete q p);
      holds = λ q hq. holds after here others q hq (ℕ_discrete q p);
      few = λ q hq. few after here others q hq (ℕ_discrete q p);
    };
  }

-- ## the page loop

module _ (cells : ℕ → List Rect) (area : Size) (rotation : Bool) (cell : Size) (n : ℕ) where
  abbrev on : ℕ → Bool
  on p = is_found (spot_for (height (cells p)) area rotation cell)

  pub page-found : (p : ℕ) → p < n → ((k : ℕ) → k < p → on k ≡ false) → on p ≡ true → p ≡ first_fitting cells area rotation cell n
  unfolding first_fitting
  page-found p l h y =
      let z : 0 + p ≡ p = omega arith in
      sym (ap (λ (o : Maybe ℕ). or_else o n) (earliest-at on p 0 n l (λ c a b. h c (omega arith)) (ap on z ∙ y)) ∙ z)

  pub page-none : ((k : ℕ) → k < n → on k ≡ false) → n ≡ first_fitting cells area rotation cell n
  unfolding first_fitting
  page-none h = sym (ap (λ (o : Maybe ℕ). or_else o n) (earliest-none on 0 n (λ c a b. h c (omega arith))))

-- ## empty pages

-- the first n are
pub record Cleared (W n : ℕ) (k : Pages) : Type 0 where
  pub eight : length k.skylines ≡ 8
  pub whole : (p : ℕ) → p < n → Whole (page_of p k)
  pub holds : (p : ℕ) → p < n → Holds W [] (stored (page_of p k))

pub cleared_none : (w : ℕ) (k : Pages) → length k.skylines ≡ 8 → Cleared w 0 k
cleared_none w k e = record { eight = e; whole = λ p h. absurd (omega arith); holds = λ p h. absurd (omega arith) }

-- one page more
module _ (w n : ℕ) (old : Pages) (new : Skyline) (h : n < 8) (wh : Whole new) (hd : Holds w [] (stored new)) (s : Cleared w n old) where
  clear_whole : (q : ℕ) → q < n + 1 → Dec (q ≡ n) → Whole (page_of q (record { skylines = set old.skylines n new }))
  clear_whole q b (yes e) = rw (e, get_or-set_same old.skylines n new (record { xs = []; ys = []; n = 0 }) (omega (arith, s.eight))) wh
  clear_whole q b (no e) = rw (get_or-set_other old.skylines n q new (record { xs = []; ys = []; n = 0 }) e) (s.whole q (omega (arith, e)))

  clear_holds : (q : ℕ) → q < n + 1 → Dec (q ≡ n) → Holds w [] (stored (page_of q (record { skylines = set old.skylines n new })))
  clear_holds q b (yes e) = rw (e, get_or-set_same old.skylines n new (record { xs = []; ys = []; n = 0 }) (omega (arith, s.eight))) hd
  clear_holds q b (no e) = rw (get_or-set_other old.skylines n q new (record { xs = []; ys = []; n = 0 }) e) (s.holds q (omega (arith, e)))

  pub cleared_more : Cleared w (n + 1) (record { skylines = set old.skylines n new })
  cleared_more = record {
    eight = length-set old.skylines n new ∙ s.eight;
    whole = λ q b. clear_whole q b (ℕ_discrete q n);
    holds = λ q b. clear_holds q b (ℕ_discrete q n);
  }

pub cleared_all : (w n : ℕ) (k : Pages) → 8 ≤ n → Cleared w n k → Fresh w k
cleared_all w n k b s = record { eight = s.eight; whole = λ p h. s.whole p (omega arith); holds = λ p h. s.holds p (omega arith) }

-- they stand with no cells
pub fresh_stands : (w : ℕ) (cells : ℕ → List Rect) (k : Pages) → ((p : ℕ) → cells p ≡ []) → Fresh w k → Stands w cells 0 k
fresh_stands w cells k e fr = record {
  eight = fr.eight;
  whole = fr.whole;
  holds = λ p h. rw (e p) (fr.holds p h);
  few = λ p h. let z = ap length (e p) in omega arith;
}
