use Prim.Native.Nat.{ℕ, ◌+◌, ◌-◌, ◌≤◌, ◌<◌, min, max}
use native.Mathlib.Omega.{arith}
use native.Mathlib.Decide.{dec_lt}
use mathlib.Core.Logic.{◌⊎◌, inl, inr}
use mathlib.Core.Path.{◌≡◌, sym, subst}
use Rattle.paint.proofs.Frames.{min-is, ZoneFew, zone-few, rows_none, rows_all, rows_more, zone_to}
use Rattle.paint.proofs.painting.paint_frame.Goals.{After-zone_of-z}
use Rattle.paint.proofs.painting.paint_frame.Goals as goal

-- the zone that the call gave
few : (c : After-zone_of-z) → ZoneFew c.zone_of-z.result
few c =
    subst ZoneFew (sym c.zone_of-z.ensures) (zone-few c.args.c.config c.args.r c.args.c.tested c.requires.in_store.1)

-- the first row is the band's or the zone's; the end is the band's or the zone's, on either axis
starts : (first top y : ℕ) → y ≡ max first top → (y ≤ first) ⊎ (y ≤ top)
starts first top y e = go (dec_lt first top)
  where
    go : Dec (first < top) → (y ≤ first) ⊎ (y ≤ top)
    go (yes h) = inr (omega arith)
    go (no h) = inl (omega arith)

ends : (w right e : ℕ) → e ≡ min w right → (w ≤ e) ⊎ (right ≤ e)
ends w right e h = go (min-is w right)
  where
    go : (w ≤ min w right) ⊎ (right ≤ min w right) → (w ≤ e) ⊎ (right ≤ e)
    go (inl a) = inl (omega arith)
    go (inr a) = inr (omega arith)

past : (last bottom y stop : ℕ) → stop ≡ min last bottom → stop ≤ y → (last ≤ y) ⊎ (bottom ≤ y)
past last bottom y stop e h = go (ends last bottom stop e)
  where
    go : (last ≤ stop) ⊎ (bottom ≤ stop) → (last ≤ y) ⊎ (bottom ≤ y)
    go (inl a) = inl (omega arith)
    go (inr a) = inr (omega arith)

pub overflow_add-z : goal.overflow_add-z
overflow_add-z c = let f = (few (goal.at.overflow_add-z c).After-zone_of-z).w in omega arith

pub overflow_add-z-2 : goal.overflow_add-z-2
overflow_add-z-2 c = let f = (few (goal.at.overflow_add-z-2 c).After-zone_of-z).h in omega arith

pub loop-y-init : goal.loop-y-init
loop-y-init c = rows_none _ _ _ _ _ _ _ (starts c.args.first c.zone_of-z.result.y _ (omega (arith, c.max-start.ensures)))

pub loop-y-preserved : goal.loop-y-preserved
loop-y-preserved c =
    let l = c.loop-y in
    let stop = c.min-stop.ensures in
    let end = c.min-end.ensures in
    let start = c.max-start.ensures in
    let low = l.auto.y in
    let below = c.loop-y-test.true in
    let z = c.zone_of-z.result in
    let a = c.args in
    let e = c.min-end.result in
    let top : z.y ≤ l.y = omega arith in
    let last : l.y < z.y + z.h = omega arith in
    let narrow : e ≤ a.w = omega arith in
    let right : e ≤ z.x + z.w = omega arith in
    rows_more _ z a.w a.first a.rows l.y (l.y - a.first) e _ l.bytes _ (omega arith) top last narrow right
    (ends a.w (z.x + z.w) e (omega arith)) l.invariant c.paint_span.ensures

pub returns : goal.returns
returns c =
    let l = c.loop-y in
    let a = c.args in
    let z = c.zone_of-z.result in
    zone_to c.zone_of-z.ensures
    (rows_all _ _ _ _ _ l.y _ _ (past (a.first + a.rows) (z.y + z.h) l.y c.min-stop.result (omega (arith, c.min-stop.ensures)) c.loop-y-test.false) l.invariant)
