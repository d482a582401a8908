use mathlib.Core.Path.{sym, ◌∙◌}
use Rattle.job.specs.Bytes.{bytes_of}
use Rattle.job.specs.Words.{split}
use Rattle.job.specs.Lines.{config_line, ground_line, image_line}
use Rattle.std.specs.Prelude.{Err}
use Rattle.job.specs.declared.lines.Trouble.TheVariants.{UnknownWord}
use Rattle.job.proofs.Picks.{picked, passed}
use Rattle.job.proofs.Sayings.{or_image, or_ground, said-none, said-some}
use Rattle.job.proofs.lines.plain_line.Goals as goal

pub returns-then-word_count-eq0 : goal.returns-then-word_count-eq0
returns-then-word_count-eq0 c = sym (said-none _ (sym c.word_count.ensures ∙ c.if-word_count-eq0.true))

pub returns-then-is_word : goal.returns-then-is_word
unfolding bytes_of
returns-then-is_word c =
    let n = said-some (split c.args.line.now) (λ e. c.if-word_count-eq0.false (c.word_count.ensures ∙ e)) in
    c.config_line.ensures ∙ picked (or_ground (split c.args.line.now)) (sym c.is_word.ensures ∙ c.if-is_word.true) ∙ sym n

pub returns-then-is_word-2 : goal.returns-then-is_word-2
unfolding bytes_of
returns-then-is_word-2 c =
    let ws = split c.args.line.now in
    let n = said-some ws (λ e. c.if-word_count-eq0.false (c.word_count.ensures ∙ e)) in
    c.ground_line.ensures
    ∙ picked (or_image ws) (sym c.is_word-2.ensures ∙ c.if-is_word-2.true)
    ∙ passed (config_line ws) (sym c.is_word.ensures ∙ c.if-is_word.false)
    ∙ sym n

pub returns-then-is_word-3 : goal.returns-then-is_word-3
unfolding bytes_of
returns-then-is_word-3 c =
    let ws = split c.args.line.now in
    let n = said-some ws (λ e. c.if-word_count-eq0.false (c.word_count.ensures ∙ e)) in
    c.image_line.ensures
    ∙ picked (Err UnknownWord) (sym c.is_word-3.ensures ∙ c.if-is_word-3.true)
    ∙ passed (ground_line ws) (sym c.is_word-2.ensures ∙ c.if-is_word-2.false)
    ∙ passed (config_line ws) (sym c.is_word.ensures ∙ c.if-is_word.false)
    ∙ sym n

pub returns : goal.returns
unfolding bytes_of
returns c =
    let ws = split c.args.line.now in
    let n = said-some ws (λ e. c.if-word_count-eq0.false (c.word_count.ensures ∙ e)) in
    passed (image_line ws) (sym c.is_word-3.ensures ∙ c.if-is_word-3.false)
    ∙ passed (ground_line ws) (sym c.is_word-2.ensures ∙ c.if-is_word-2.false)
    ∙ passed (config_line ws) (sym c.is_word.ensures ∙ c.if-is_word.false)
    ∙ sym n
