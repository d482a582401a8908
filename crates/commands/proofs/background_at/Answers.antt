use mathlib.Core.Path.{sym, ap, ◌∙◌}
use borrow.Author.Tests.{eq-eqb, ne_eqb}
use Rattle.std.specs.Prelude.{Some}
use Rattle.wire.specs.Fields.{is_on}
use Rattle.commands.specs.Reading.{background_at, colour_of, threshold_of}
use Rattle.commands.proofs.background_at.Goals as goal

pub returns-then-word-eq0 : goal.returns-then-word-eq0
unfolding background_at
returns-then-word-eq0 c = rw (eq-eqb _ _ (sym c.word.ensures ∙ c.if-word-eq0.true))

pub returns : goal.returns
unfolding background_at
returns c =
    let colour = c.colour_of.ensures ∙ ap colour_of c.word-2.ensures in
    let threshold = c.threshold_of.ensures ∙ ap threshold_of c.word-3.ensures in
    let discard = c.is_on.ensures ∙ ap is_on c.word-4.ensures in
    rw (ne_eqb _ _ (λ q. c.if-word-eq0.false (c.word.ensures ∙ q))) (λ i. Some (record { pixel = colour i; threshold = threshold i; discard = discard i }))
