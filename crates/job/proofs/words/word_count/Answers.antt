use Rattle.std.proofs.Common.{rules, ap, ◌∙◌, length, List, ℕ}
use borrow.Author.Tests.{tests}
use Rattle.std.proofs.lemmas.Iterator.Consumers.{count_from_yields_List, YieldsList-from_filter, YieldsList-at}
use Rattle.std.proofs.lemmas.Iterator.Splits.{YieldsList-from_slice_split}
use Rattle.job.specs.Bytes.{is_blank, filled}
use Rattle.job.proofs.Splits.{split_is, told_filled}
use Rattle.job.proofs.words.word_count.Goals as goal

pub returns : goal.returns
returns c =
    count_from_yields_List c.filter.result c.count.result c.count.ensures.ran
    (YieldsList-from_filter _ filled
    (YieldsList-at c.filter.ensures.source
    (YieldsList-from_slice_split _ is_blank c.args.line.now c.split.ensures.rest c.split.ensures.done c.split.ensures.closure (λ x b q k. search (rules, tests))))
    c.filter.ensures.closure (λ x b q k. search (rules, tests, told_filled)))
    ∙ ap (λ (ws : List (List ℕ)). length ws) (split_is c.args.line.now)
