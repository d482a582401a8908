use Prim.Native.Nat.{ℕ, ◌+◌, ◌*◌, ◌-◌, ◌≤◌}
use native.Mathlib.Omega.{arith}
use native.Mathlib.Nat.{add-mul, mul_comm, mul-le-mul, mul-le-mul_right}
use mathlib.Core.Path.{◌≡◌, refl, sym, ap, ◌∙◌}
use mathlib.Core.List.{◌++◌}
use lib.ListN.{length, take, drop, length-append, length-drop}
use lib.Seq.{length-take-le}
use Rattle.art.specs.Stores.{lent}
use Rattle.paint.specs.Pictures.{composed_at}
use Rattle.compose.specs.Checking.{compared}
use Rattle.compose.proofs.Comparing.{all_same, part_same, part-differs}
use Rattle.compose.proofs.checking.check_band.Goals.{After-rows_at_once-n}
use Rattle.compose.proofs.checking.check_band.Goals.{After-check_part}
use Rattle.compose.proofs.checking.check_band.Goals as goal

-- the next n of the m lent rows
record Next (w v n m : ℕ) : Type 0 where
  some : 1 ≤ n
  within : v + n ≤ m
  fits : v * w + n * w ≤ w * m
  few : n * w ≤ 6271
  small : w * m ≤ 39325441
  turned : n * w ≡ w * n

next : (c : After-rows_at_once-n) → Next c.args.w c.loop-v.v c.rows_at_once-n.result c.args.rows
next c =
    let a = c.args in
    let p = c.requires.le_w in
    let v = c.loop-v.v in
    let n = c.rows_at_once-n.result in
    let e = c.rows_at_once-n.ensures in
    let below = c.loop-v-test.true in
    let on : v + n ≤ a.rows = omega arith in
    let rows_few : a.rows ≤ 6271 = omega arith in
    let m : (v + n) * a.w ≤ a.rows * a.w = mul-le-mul_right a.w on in
    let s = add-mul v n a.w in
    let t = mul_comm a.rows a.w in
    let u = mul_comm n a.w in
    record {
      some = e.0;
      within = on;
      fits = omega arith;
      few = omega arith;
      small = mul-le-mul p.1 rows_few;
      turned = u;
    }

pub loop-v-init : goal.loop-v-init
loop-v-init c = (omega arith, refl, λ k h. absurd (omega arith))

pub overflow_sub-rows : goal.overflow_sub-rows
overflow_sub-rows c = omega arith

pub rows_at_once-n-requires : goal.rows_at_once-n-requires
rows_at_once-n-requires c = let p = c.requires.le_w in (p.0, p.1, omega arith)

pub overflow_cast-from : goal.overflow_cast-from
overflow_cast-from c = omega arith

pub overflow_mul-from : goal.overflow_mul-from
overflow_mul-from c = let t = next c in let f = t.fits in let s = t.small in omega arith

pub overflow_mul-from-in-loop-v : goal.overflow_mul-from-in-loop-v
overflow_mul-from-in-loop-v c = let t = next c in let f = t.fits in let s = t.small in omega arith

pub overflow_cast-long : goal.overflow_cast-long
overflow_cast-long c = omega arith

pub overflow_mul-long : goal.overflow_mul-long
overflow_mul-long c = let f = (next c).few in omega arith

pub overflow_mul-long-in-loop-v : goal.overflow_mul-long-in-loop-v
overflow_mul-long-in-loop-v c = let f = (next c).few in omega arith

-- there is room for them
roomy : (c : After-rows_at_once-n) → 4 * (c.rows_at_once-n.result * c.args.w) ≤ length c.loop-v.room
roomy c =
    let f = (next c).few in
    let long = c.loop-v.invariant.1 in
    let all = c.requires.le_w.3 in
    omega arith

pub slice_bounds-check_part-end : goal.slice_bounds-check_part-end
slice_bounds-check_part-end c = roomy c

pub slice_bounds-check_part-end-in-loop-v : goal.slice_bounds-check_part-end-in-loop-v
slice_bounds-check_part-end-in-loop-v c = sym (length-take-le _ _ (roomy (goal.at.slice_bounds-check_part-end-in-loop-v c).After-rows_at_once-n))

pub overflow_add-first : goal.overflow_add-first
overflow_add-first c = let w = (next (goal.at.overflow_add-first c).After-rows_at_once-n).within in let p = c.requires.le_w.2 in omega arith

pub overflow_add-from : goal.overflow_add-from
overflow_add-from c = let t = next (goal.at.overflow_add-from c).After-rows_at_once-n in let f = t.fits in let s = t.small in omega arith

pub slice_bounds-check_part-count : goal.slice_bounds-check_part-count
slice_bounds-check_part-count c = omega arith

pub slice_bounds-check_part-start : goal.slice_bounds-check_part-start
slice_bounds-check_part-start c = omega arith

pub check_part-requires : goal.check_part-requires
check_part-requires c =
    let t = next (goal.at.check_part-requires c).After-rows_at_once-n in
    let f = t.fits in
    let within = t.within in
    let turned = t.turned in
    let p = c.requires in
    let last = p.le_w.2 in
    let long = p.le_w.4 in
    let w = c.args.w in
    let k = c.rows_at_once-n.result in
    let shown = c.args.shown.now in
    let at = 4 * (c.loop-v.v * w) in
    let n = 4 * (k * w) in
    let left = length-drop at shown in
    let own : length (take (at + n - at) (drop at shown)) ≡ 4 * (w * k) = length-take-le (at + n - at) (drop at shown) (omega arith) ∙ omega arith in
    record { l_value = p.l_value; w_bound = (p.le_w.1, omega arith, length-take-le _ _ (roomy (goal.at.check_part-requires c).After-rows_at_once-n) ∙ ap (λ (k : ℕ). 4 * k) turned, own) }

-- what the part answered, of the lent rows that were its own
answered : (c : After-check_part) →
    let a = c.args in
    let v = c.loop-v.v in
    let n = c.rows_at_once-n.result in
    c.check_part.result ≡ compared (composed_at a.l.layout.now (lent a.stores) a.page a.background) a.w (a.first + v) n (take (4 * (n * a.w)) (drop (4 * (v * a.w)) a.shown.now))
answered c =
    let a = c.args in
    let v = c.loop-v.v in
    let n = c.rows_at_once-n.result in
    let m : 4 * (v * a.w) + 4 * (n * a.w) - 4 * (v * a.w) ≡ 4 * (n * a.w) = omega arith in
    c.check_part.ensures
    ∙ ap (λ (k : ℕ). compared (composed_at a.l.layout.now (lent a.stores) a.page a.background) a.w (a.first + v) n (take k (drop (4 * (v * a.w)) a.shown.now))) m

-- the room is as long as it was
kept : (c : After-check_part) → 4 * (c.rows_at_once-n.result * c.args.w) ≤ length c.loop-v.room
    → length (c.check_part.new.wanted ++ drop (4 * (c.rows_at_once-n.result * c.args.w)) c.loop-v.room) ≡ length c.args.room.now
kept c fits =
    let m = 4 * (c.rows_at_once-n.result * c.args.w) in
    let room = c.loop-v.room in
    let front : length c.check_part.new.wanted ≡ m = c.check_part.auto.wanted ∙ length-take-le m room fits in
    let back = length-drop m room in
    let both = length-append c.check_part.new.wanted (drop m room) in
    let all = c.loop-v.invariant.1 in
    omega arith

pub returns-in-Some : goal.returns-in-Some
returns-in-Some c =
    let l = c.loop-v in
    sym (part-differs _ _ _ _ _ l.v _ l.invariant.2 (next (goal.at.returns-in-Some c).After-rows_at_once-n).within (sym (answered (goal.at.returns-in-Some c).After-check_part) ∙ c.in-Some.is))

pub overflow_add-v : goal.overflow_add-v
overflow_add-v c = let w = (next (goal.at.overflow_add-v c).After-rows_at_once-n).within in omega arith

pub loop-v-smaller : goal.loop-v-smaller
loop-v-smaller c = let t = next (goal.at.loop-v-smaller c).After-rows_at_once-n in let s = t.some in let w = t.within in omega arith

pub loop-v-preserved : goal.loop-v-preserved
loop-v-preserved c =
    let l = c.loop-v in
    let at = (goal.at.loop-v-preserved c).After-check_part in
    ((next (goal.at.loop-v-preserved c).After-rows_at_once-n).within, kept at (roomy (goal.at.loop-v-preserved c).After-rows_at_once-n), part_same _ _ _ _ _ l.v _ l.invariant.2 (sym (answered at) ∙ c.in_default.is))

pub returns : goal.returns
returns c = let l = c.loop-v in sym (all_same _ _ _ _ _ l.v c.loop-v-test.false l.invariant.2)

pub slice_bounds-check_part-end-in-loop-v-2 : goal.slice_bounds-check_part-end-in-loop-v-2
slice_bounds-check_part-end-in-loop-v-2 c =
    let f = (next (goal.at.slice_bounds-check_part-end-in-loop-v-2 c).After-rows_at_once-n).fits in
    let long = c.requires.le_w.4 in
    omega arith
