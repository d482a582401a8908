use mathlib.Core.Bool.{Bool}
use mathlib.Core.Path.{◌≡◌, ap, ◌∙◌}
use Prim.Native.Nat.{ℕ}
use Rattle.wire.specs.Fields.{is_on, picked, config_with}
use Rattle.wire.proofs.fields.config_with.Goals as goal

-- a switch is picked as what the word says
switched : {r b : Bool} (field is n : ℕ) (old : Bool) → r ≡ picked field is b old → b ≡ is_on n → r ≡ picked field is (is_on n) old
switched field is n old e f = e ∙ ap (λ (z : Bool). picked field is z old) f

pub returns : goal.returns
unfolding config_with
returns c =
    let f = c.args.field in
    let n = c.args.n in
    let o = c.args.c in
    λ i. record {
      maxw = c.pick.ensures i;
      maxh = c.pick-2.ensures i;
      padding = c.pick-3.ensures i;
      border = c.pick-4.ensures i;
      extrusion = c.pick-5.ensures i;
      pages = c.pick-6.ensures i;
      images = c.pick-7.ensures i;
      rotation = switched f 7 n o.rotation c.pick-8.ensures c.is_on.ensures i;
      trim = switched f 8 n o.trim c.pick-9.ensures c.is_on-2.ensures i;
      outlines = switched f 9 n o.outlines c.pick-10.ensures c.is_on-3.ensures i;
      forced = switched f 10 n o.forced c.pick-11.ensures c.is_on-4.ensures i;
    }
