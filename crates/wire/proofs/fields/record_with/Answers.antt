use Prim.Native.Nat.{ℕ}
use mathlib.Core.Path.{◌≡◌, ap, ◌∙◌}
use Rattle.wire.specs.Fields.{picked, record_with}
use Rattle.wire.proofs.fields.record_with.Goals as goal

-- what is picked is what the word says
read_as : {A : Type 0} {r a b : A} (field is : ℕ) (old : A) → r ≡ picked field is a old → a ≡ b → r ≡ picked field is b old
read_as {A} field is old e f = e ∙ ap (λ (z : A). picked field is z old) f

pub returns : goal.returns
unfolding record_with
returns c =
    let f = c.args.field in
    let r = c.args.r in
    λ i. record {
      key = record { 0 = c.pick.ensures i };
      page = record { 0 = c.pick-2.ensures i };
      frame = c.frame_with-frame.ensures i;
      turn = read_as f 22 r.turn c.pick-turn.ensures c.turn_of.ensures i;
      trimmed = read_as f 23 r.trimmed c.pick-trimmed.ensures c.is_on.ensures i;
      source = c.source_with-source.ensures i;
      store = read_as f 28 r.store c.pick-store.ensures c.store_of.ensures i;
      offset = c.pick-3.ensures i;
    }
