use Prim.Native.Nat.{◌+◌}
use native.Mathlib.Omega.{arith}
use Rattle.std.specs.Prelude.{Ok}
use mathlib.Core.Path.{◌≡◌, refl, sym, ap, ◌∙◌}
use Rattle.wire.specs.Fields.{is_field, layout_with}
use Rattle.commands.specs.Taking.{words_of}
use Rattle.script.specs.Stepping.{next_at, set_step}
use Rattle.script.proofs.steps.set_step.Goals as goal

pub returns-then-not-is_field : goal.returns-then-not-is_field
unfolding set_step
returns-then-not-is_field c =
    let a = c.args in
    let f = c.is_field.ensures ∙ ap is_field c.word-field.ensures in
    let none = sym f ∙ c.if-not-is_field.true in
    rw none refl

pub returns : goal.returns
unfolding set_step next_at words_of
returns c =
    let a = c.args in
    let f = c.is_field.ensures ∙ ap is_field c.word-field.ensures in
    let some = sym f ∙ c.if-not-is_field.false in
    let l = c.layout_with-s.ensures ∙ (λ i. layout_with a.s.now.layout (c.word-field.ensures i) (c.word-place.ensures i) (c.word-n.ensures i)) in
    let w : a.s.now.written ≡ a.s.now.written + 0 = omega arith in
    rw some (λ i. Ok (record { layout = l i; next = a.words.at + 16; written = w i }))
