use Prim.Native.Nat.{ℕ}
use mathlib.Core.Path.{◌≡◌, ap, ◌∙◌}
use borrow.Author.Rules.{rules}
use Rattle.std.specs.Prelude.{Option, option_map, ok_or}
use Rattle.art.specs.declared.memory_rgba8_texture.Image.{Image}
use Rattle.job.specs.Words.{split, word, to_number}
use Rattle.job.specs.Lines.{image_ok, image_of, key_of, image_line}
use Rattle.job.specs.declared.lines.Line.{Line}
use Rattle.job.specs.declared.lines.Line.TheVariants.{Picture}
use Rattle.job.specs.declared.lines.Trouble.TheVariants.{BadImage}
use Rattle.job.proofs.WordByWord.{image_is, told}
use Rattle.job.proofs.lines.image_line.Goals as goal

abbrev picture : ℕ × Image → Line
picture p = Picture (record { 0 = p.0 }) p.1

pub returns : goal.returns
unfolding image_line key_of
returns c =
    let ws = split c.args.line.now in
    let mapped : c.map.result ≡ option_map picture c.image_in.result = search rules in
    c.ok_or.ensures.value
    ∙ ap (λ (o : Option Line). ok_or o BadImage) (mapped ∙ ap (option_map picture) (c.image_in.ensures ∙ image_is ws))
    ∙ told picture BadImage (image_ok ws) (to_number (word 1 ws), image_of ws)
