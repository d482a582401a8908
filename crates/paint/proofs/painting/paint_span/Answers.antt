use Prim.Native.Nat.{ℕ, ◌+◌, ◌*◌, ◌-◌, ◌≤◌, min}
use native.Mathlib.Omega.{arith}
use mathlib.Core.Path.{◌≡◌, ap, ◌∙◌}
use mathlib.Core.Option.{some}
use lib.ListN.{length}
use Rattle.art.specs.Stores.{lent}
use Rattle.art.specs.declared.memory_rgba8_texture.Pixel.{Pixel}
use Rattle.paint.specs.Backgrounds.{composed}
use Rattle.paint.specs.Painting.{composed_frame}
use Rattle.paint.proofs.Pixels.{span_none, span_more, span_to}
use Rattle.paint.proofs.painting.paint_span.Goals as goal

pub loop-x-init : goal.loop-x-init
loop-x-init c = span_none _ _ _ _ (omega arith)

pub loop-x-preserved : goal.loop-x-preserved
loop-x-preserved c =
    let l = c.loop-x in
    let a = c.args in
    let here : l.x ≡ a.base + l.x - a.base = omega arith in
    let is : c.with_pixel.result ≡ composed_frame a.c (lent a.stores) a.g a.r (a.base + l.x - a.base) a.y =
    c.with_pixel.ensures
    ∙ ap (λ (k : Pixel). composed a.g (some k)) c.frame_pixel-k.ensures
    ∙ ap (λ (x : ℕ). composed_frame a.c (lent a.stores) a.g a.r x a.y) here in
    let m = l.invariant.long in
    let low = l.auto.x in
    let fits = c.requires.end_in_bounds in
    let below = c.loop-x-test.true in
    let after : a.base + a.from ≤ a.base + l.x = omega arith in
    let room : 4 * (a.base + l.x) + 4 ≤ length l.bytes = omega arith in
    let passed : a.base + min l.x a.end ≡ a.base + l.x = omega arith in
    let next : a.base + l.x + 1 ≡ a.base + min (l.x + 1) a.end = omega arith in
    span_to next (span_more _ _ (a.base + l.x) _ l.bytes _ _ (span_to passed l.invariant) after room is c.put_pixel.ensures)

pub returns : goal.returns
returns c =
    let l = c.loop-x in
    let a = c.args in
    let past = c.loop-x-test.false in
    let all : a.base + min l.x a.end ≡ a.base + a.end = omega arith in
    span_to all l.invariant
