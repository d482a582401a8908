use mathlib.Core.Path.{ap, ◌∙◌}
use Rattle.wire.specs.Fields.{is_on}
use Rattle.commands.specs.Reading.{config_at}
use Rattle.commands.proofs.config_at.Goals as goal

pub returns : goal.returns
unfolding config_at
returns c =
    λ i. record {
      maxw = c.word-5.ensures i;
      maxh = c.word-6.ensures i;
      padding = c.word-7.ensures i;
      border = c.word-8.ensures i;
      extrusion = c.word-9.ensures i;
      pages = c.word-10.ensures i;
      images = c.word-11.ensures i;
      rotation = (c.is_on-rotation.ensures ∙ ap is_on c.word.ensures) i;
      trim = (c.is_on-trim.ensures ∙ ap is_on c.word-2.ensures) i;
      outlines = (c.is_on-outlines.ensures ∙ ap is_on c.word-3.ensures) i;
      forced = (c.is_on-forced.ensures ∙ ap is_on c.word-4.ensures) i;
    }
