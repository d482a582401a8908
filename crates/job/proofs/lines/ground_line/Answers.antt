use mathlib.Core.Path.{◌≡◌, sym, ap, ◌∙◌}
use mathlib.Core.Bool.{cond}
use borrow.Author.Rules.{rules}
use Rattle.std.specs.Prelude.{Option, Some, None, option_map, Ok, Err, ok_or}
use Rattle.paint.specs.declared.background.Colour.{Colour}
use Rattle.job.specs.Words.{split}
use Rattle.job.specs.Lines.{colour_ok, colour_of, ground_line}
use Rattle.job.specs.declared.lines.Line.{Line}
use Rattle.job.specs.declared.lines.Line.TheVariants.{Ground}
use Rattle.job.specs.declared.lines.Trouble.TheVariants.{BadBackground}
use Rattle.job.proofs.Picks.{picked, passed}
use Rattle.job.proofs.WordByWord.{colour_is, told}
use Rattle.job.proofs.lines.ground_line.Goals as goal

abbrev on_colour : Colour → Line
on_colour c = Ground (Some c)

pub returns-then-clear_ok : goal.returns-then-clear_ok
unfolding ground_line
returns-then-clear_ok c =
    let ws = split c.args.line.now in
    picked (cond (colour_ok ws) (Ok (on_colour (colour_of ws))) (Err BadBackground)) (sym c.clear_ok.ensures ∙ c.if-clear_ok.true)

pub returns : goal.returns
unfolding ground_line
returns c =
    let ws = split c.args.line.now in
    let mapped : c.map.result ≡ option_map on_colour c.colour_in.result = search rules in
    c.ok_or.ensures.value
    ∙ ap (λ (o : Option Line). ok_or o BadBackground) (mapped ∙ ap (option_map on_colour) (c.colour_in.ensures ∙ colour_is ws))
    ∙ told on_colour BadBackground (colour_ok ws) (colour_of ws)
    ∙ passed (Ok (Ground None)) (sym c.clear_ok.ensures ∙ c.if-clear_ok.false)
