use mathlib.Core.Path.{◌≡◌, ap, ◌∙◌}
use borrow.Author.Rules.{rules}
use Rattle.std.specs.Prelude.{Option, option_map, ok_or}
use Rattle.job.specs.Words.{split}
use Rattle.job.specs.Lines.{config_ok, config_of, config_line}
use Rattle.job.specs.declared.lines.Line.{Line}
use Rattle.job.specs.declared.lines.Line.TheVariants.{Settings}
use Rattle.job.specs.declared.lines.Trouble.TheVariants.{BadConfig}
use Rattle.job.proofs.WordByWord.{config_is, told}
use Rattle.job.proofs.lines.config_line.Goals as goal

pub returns : goal.returns
unfolding config_line
returns c =
    let ws = split c.args.line.now in
    let mapped : c.map.result ≡ option_map Settings c.config_in.result = search rules in
    c.ok_or.ensures.value
    ∙ ap (λ (o : Option Line). ok_or o BadConfig) (mapped ∙ ap (option_map Settings) (c.config_in.ensures ∙ config_is ws))
    ∙ told Settings BadConfig (config_ok ws) (config_of ws)
