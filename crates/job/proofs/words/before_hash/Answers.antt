use Prim.Native.Nat.{ℕ}
use mathlib.Core.Path.{ap, ◌∙◌}
use borrow.Author.Rules.{rules}
use borrow.Author.Tests.{tests}
use lib.ListN.{take}
use Rattle.std.proofs.lemmas.Iterator.{YieldsList-from_slice}
use Rattle.std.proofs.lemmas.Iterator.Search.{position_from_yields_List}
use Rattle.job.specs.Bytes.{is_hash}
use Rattle.job.specs.Words.{uncommented}
use Rattle.job.proofs.Splits.{before_place}
use Rattle.job.proofs.words.before_hash.Goals as goal

pub returns : goal.returns
unfolding uncommented
returns c =
    let line = c.args.line.now in
    let place = position_from_yields_List is_hash _ _ c.position.result c.position.ensures.ran (YieldsList-from_slice line (cc)) (λ x b q k. search (rules, tests)) in
    ap (λ (n : ℕ). take n line) c.unwrap_or-end.ensures ∙ before_place is_hash line place
