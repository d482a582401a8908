use mathlib.Core.Path.{◌≡◌, sym, ap, ◌∙◌}
use lib.ListN.{length, take}
use borrow.Author.Rules.{rules}
use Rattle.std.specs.Prelude.{Err}
use Rattle.art.specs.Stores.{lent}
use Rattle.commands.specs.Taking.{words_of}
use Rattle.script.specs.Stepping.{next_at, check_past, check_numbers, check_step}
use Rattle.script.specs.declared.steps.Ended.TheVariants.{PastSource}
use Rattle.script.proofs.Answers.{does_stop, does_as}
use Rattle.script.proofs.Ways.{check_stops, check_goes}
use Rattle.script.proofs.checking.check_step.Goals as goal

pub returns-in_err-a : goal.returns-in_err-a
returns-in_err-a c =
    let a = c.args in
    let script = a.words.script.now in
    let s = lent a.stores in
    let old = a.answers.now in
    let said = take a.s.now.written old in
    let result : c.from_residual.result ≡ Err c.in_err-a.field-0.0 = search rules in
    let past = ap (check_past script a.words.at) (sym c.check_source-source.ensures) ∙ c.in_err-a.ensures.0 in
    rw (result, c.in_err-a.ensures.1)
    (does_stop a.s.now.written old (check_step script s (length old) said a.words.at a.s.now.layout) PastSource (check_stops script s (length old) said a.words.at a.s.now.layout past))

pub say-requires : goal.say-requires
say-requires c = (c.in_ok-a.ensures.1.few, c.requires)

pub returns : goal.returns
unfolding next_at words_of
returns c =
    let a = c.args in
    let script = a.words.script.now in
    let s = lent a.stores in
    let old = a.answers.now in
    let said = take a.s.now.written old in
    let source = c.check_source-source.ensures in
    let none = ap (check_past script a.words.at) (sym source) ∙ c.in_ok-a.ensures.0 in
    let numbers = c.in_ok-a.ensures.1.words ∙ ap (check_numbers script s a.words.at a.s.now.layout) source in
    does_as a.s.now.written old _ (check_step script s (length old) said a.words.at a.s.now.layout) _ _
    (check_goes script s (length old) said a.words.at a.s.now.layout _ none numbers) c.say.ensures
