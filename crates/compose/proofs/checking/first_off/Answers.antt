use native.Mathlib.Omega.{arith}
use mathlib.Core.Path.{refl, sym, ap, ◌∙◌}
use mathlib.Core.Bool.{not}
use Rattle.std.proofs.lemmas.Bool.Decides.{Decides-eqb}
use Rattle.std.proofs.lemmas.Slice.Eq.{slice_eq-Decides}
use Rattle.art.proofs.Seen.{first-is, first-none}
use Rattle.compose.proofs.Agreeing.{alike}
use Rattle.compose.proofs.checking.first_off.Goals as goal

pub returns-then-eq : goal.returns-then-eq
returns-then-eq c =
    let a = c.args in
    let same = (slice_eq-Decides Decides-eqb _ _ _ c.if-eq.ensures).0 refl in
    first-none _ _ (alike a.shown.now a.wanted.now a.base a.w same)

pub returns-then-not-same_pixel : goal.returns-then-not-same_pixel
returns-then-not-same_pixel c =
    let e =
    first-is _ _ _ (record {
      below = c.loop-x-test.true;
      passes = ap not (sym c.same_pixel.ensures) ∙ ap not c.if-not-same_pixel.true;
      before = c.loop-x.invariant;
    }) in
    (c.loop-x-test.true, sym e)

pub returns : goal.returns
returns c = first-none _ _ (λ k h. c.loop-x.invariant k (omega arith))
