-- The skyline with a cell more, written over the old one. Assumes nothing.
use Rattle.std.specs.Prelude.{Option, Some, None, MatchOption, EachIndex, slice_index, unwrap_or, ◌≢◌}
use Prim.Native.Nat.{ℕ, zero, suc, ◌+◌, ◌-◌, ◌≤◌, ◌<◌, max}
use mathlib.Core.Path.{◌≡◌, refl, sym, ap, ◌∙◌}
use native.Mathlib.Omega.{arith}
use native.Mathlib.Decide.{dec_lt}
use lib.ListN.{length, get_or, take}
use lib.Seq.{get_or-take, length-take-le}
use Rattle.skyline.specs.Skyline.{Outline, outline, edge, Shape, Untouched, Pushed, Kept, Starts, Raised, Part, Ahead, Walked}

-- the same skyline, with its edge named in another way
edge_as : (e e' : ℕ) (k : Outline) → e ≡ e' → Shape e k → Shape e' k
edge_as e e' k q sh = record {
  room-x = sh.room-x;
  room-y = sh.room-y;
  first = sh.first;
  last = sh.last ∙ q;
  rises = sh.rises;
  steps = sh.steps;
}

-- the first j segments of a skyline
abbrev pub first_of : Outline → ℕ → Outline
first_of k j = outline k.xs k.ys j

ahead-first : (old : Outline) (j : ℕ) (new : Outline) → Untouched (first_of old j) new → Ahead old j (get_or old.ys j 0) (get_or old.xs (j + 1) 0) new
ahead-first old j new u = record {
  here-y = λ l. refl;
  here-x = λ l. refl;
  after-y = λ i l m. u.after-y i l;
  after-x = λ i l m. u.after-x i l;
}

-- a segment kept leaves what lies after its place
kept_after : (now : Outline) (y x e : ℕ) (new : Outline) → Kept now y x e new → Untouched now new
kept_after now y x e new h = go (dec_lt e x)
  where
    go : Dec (e < x) → Untouched now new
    go (yes l) = (h.rest l).untouched
    go (no l) =
        let z = h.covered (omega arith) in
        record {
          after-x = λ i m. ap (λ (k : Outline). get_or k.xs i 0) z;
          after-y = λ i m. ap (λ (k : Outline). get_or k.ys i 0) z;
        }

ahead_next : (old : Outline) (j y x e : ℕ) (now new : Outline) → now.n ≤ j + 1 → Ahead old j y x now
    → Kept now y x e new → Ahead old (j + 1) (get_or now.ys (j + 1) 0) (get_or now.xs (j + 2) 0) new
ahead_next old j y x e now new few a h =
    let u = kept_after now y x e new h in
    let two : j + 2 ≡ j + 1 + 1 = omega arith in
    record {
      here-y = λ l. a.after-y (j + 1) (omega arith) l;
      here-x = λ l. a.after-x (j + 2) (omega arith) (omega arith) ∙ ap (λ (i : ℕ). get_or old.xs i 0) two;
      after-y = λ i l m. u.after-y i (omega arith) ∙ a.after-y i (omega arith) m;
      after-x = λ i l m. u.after-x i (omega arith) ∙ a.after-x i (omega arith) m;
    }

module _ (W : ℕ) (old : Outline) (sh : Shape W old) where
  mono : (m i k : ℕ) → k ≡ i + m → k ≤ old.n → get_or old.xs i 0 ≤ get_or old.xs k 0
  mono zero i k q l = let e : i ≡ k = omega arith in let z = ap (λ (j : ℕ). get_or old.xs j 0) e in omega arith
  mono (suc m) i k q l = let ih = mono m (i + 1) k (omega arith) l in let r = sh.rises i (omega arith) in omega arith

  rising : (i k : ℕ) → i ≤ k → k ≤ old.n → get_or old.xs i 0 ≤ get_or old.xs k 0
  rising i k l m = mono (k - i) i k (omega arith) m

  -- the first j segments are a skyline too
  pub cut : (j : ℕ) → j ≤ old.n → Shape (get_or old.xs j 0) (first_of old j)
  cut j l = record {
    room-x = omega (arith, sh.room-x);
    room-y = omega (arith, sh.room-y);
    first = sh.first;
    last = refl;
    rises = λ i m. sh.rises i (omega arith);
    steps = λ i m. sh.steps i (omega arith);
  }

  module _ (s e t : ℕ) (se : s < e) (e_w : e ≤ W) where
    part-first : (j : ℕ) (new : Outline) → j < old.n → get_or old.xs j 0 ≡ s → Pushed (first_of old j) t e new → Part old s e t j new
    part-first j new l js p = record {
      shape = edge_as e (max (get_or old.xs j 0) e) new (omega arith) p.shape;
      count = p.count;
      level = λ f g li lv. p.level g
          (λ i c il a b.
          let up = rising (i + 1) j (omega arith) (omega arith) in
          li.left c (omega arith) ∙ lv i c (omega arith) a b)
          (λ c a b. li.here c (omega arith) b);
    }

    -- a segment that is covered whole
    part_skip : (j : ℕ) (now : Outline) → j < old.n → get_or old.xs (j + 1) 0 ≤ e → Part old s e t j now → Part old s e t (j + 1) now
    part_skip j now l xe p =
        let r = sh.rises j l in
        record {
          shape = edge_as (max (get_or old.xs j 0) e) (max (get_or old.xs (j + 1) 0) e) now (omega arith) p.shape;
          count = omega (arith, p.count);
          level = p.level;
        }

    -- a segment of which columns are left
    part_push : (j y x : ℕ) (now new : Outline) → j < old.n → y ≡ get_or old.ys j 0 → x ≡ get_or old.xs (j + 1) 0 → e < x
        → Part old s e t j now → Pushed now y x new → Part old s e t (j + 1) new
    part_push j y x now new l ey ex past p q =
        let r = sh.rises j l in
        let z = p.shape.last in
        record {
          shape = edge_as x (max (get_or old.xs (j + 1) 0) e) new (omega arith) q.shape;
          count = omega (arith, p.count, q.count);
          level = λ f g li lv. q.level g (p.level f g li lv) (λ c a b. li.right c (omega arith) ∙ lv j c l (omega arith) (omega arith) ∙ sym ey);
        }

    part_keep : (j y x : ℕ) (now new : Outline) → j < old.n → Part old s e t j now → Ahead old j y x now
        → Kept now y x e new → Part old s e t (j + 1) new
    part_keep j y x now new l p a q = go (dec_lt e x)
      where
        ex : x ≡ get_or old.xs (j + 1) 0
        ex = a.here-x l

        go : Dec (e < x) → Part old s e t (j + 1) new
        go (yes h) = part_push j y x now new l (a.here-y l) ex h p (q.rest h)
        go (no h) = let w = ex in rw (q.covered (omega arith)) (part_skip j now l (omega arith) p)

    part-done : (j : ℕ) (new : Outline) → j ≡ old.n → Part old s e t j new → Raised W old s e t new
    part-done j new q p =
        let z = ap (λ (i : ℕ). get_or old.xs i 0) q in
        let v = sh.last in
        record {
          shape = edge_as (max (get_or old.xs j 0) e) W new (omega arith) p.shape;
          count = omega (arith, p.count);
          level = p.level;
        }

-- the column that was found among the starts is where a segment starts
pub found_start : (k : Outline) (s : ℕ) → k.n ≤ length k.xs → Starts k s → (o : Option ℕ)
    → MatchOption o (EachIndex (take k.n k.xs) (λ i. slice_index (take k.n k.xs) i ≢ s)) (λ j. (j < length (take k.n k.xs)) × (slice_index (take k.n k.xs) j ≡ s))
    → (unwrap_or o 0 < k.n) × (get_or k.xs (unwrap_or o 0) 0 ≡ s)
found_start k s few st None none = let many = length-take-le k.n k.xs few in absurd (none st.0 (omega (arith, st.1)) (get_or-take k.n k.xs st.0 0 st.1 ∙ st.2))
found_start k s few st (Some j) here =
    let many = length-take-le k.n k.xs few in
    let l : j < k.n = omega (arith, here.0) in
    (l, sym (get_or-take k.n k.xs j 0 l) ∙ here.1)

-- ## the walk over the old segments

pub walk_first : (W : ℕ) (old : Outline) (s e t j : ℕ) (new : Outline) → Shape W old → s < e → e ≤ W → j < old.n → get_or old.xs j 0 ≡ s
    → old.n + 1 < length new.xs → old.n < length new.ys → Pushed (first_of old j) t e new
    → Walked W old s e t j (get_or old.ys j 0) (get_or old.xs (j + 1) 0) new
walk_first W old s e t j new sh se e_w l js rx ry p = record {
  before = sh;
  begun = se;
  ended = e_w;
  reached = omega arith;
  part = part-first W old sh s e t se e_w j new l js p;
  ahead = ahead-first old j new p.untouched;
  room-x = rx;
  room-y = ry;
}

module _ (W : ℕ) (old : Outline) (s e t j y x : ℕ) (now : Outline) (w : Walked W old s e t j y x now) where
  -- the new skyline ends at or left of the segment that is next
  pub walk_left : j < old.n → e < x → edge now < x
  walk_left l ex =
      let r = w.before.rises j l in
      let z = w.part.shape.last in
      let q = w.ahead.here-x l in
      omega arith

  pub walk_edge : Shape (edge now) now
  walk_edge = edge_as _ _ now (sym w.part.shape.last) w.part.shape

  pub walk_next : (new : Outline) → j < old.n → length new.xs ≡ length now.xs → length new.ys ≡ length now.ys → Kept now y x e new
      → Walked W old s e t (j + 1) (get_or now.ys (j + 1) 0) (get_or now.xs (j + 2) 0) new
  walk_next new l lx ly h = record {
    before = w.before;
    begun = w.begun;
    ended = w.ended;
    reached = omega arith;
    part = part_keep W old w.before s e t w.begun w.ended j y x now new l w.part w.ahead h;
    ahead = ahead_next old j y x e now new w.part.count w.ahead h;
    room-x = omega (arith, w.room-x);
    room-y = omega (arith, w.room-y);
  }

  pub walk_done : old.n ≤ j → Raised W old s e t now
  walk_done l = let r = w.reached in part-done W old w.before s e t w.begun w.ended j now (omega arith) w.part
