use mathlib.Core.Path.{ap, ◌∙◌}
use Rattle.std.proofs.Common.{rules, tests}
use Rattle.std.proofs.lemmas.Iterator.{YieldsList-from_slice}
use Rattle.std.proofs.lemmas.Iterator.Search.{all_from_yields_List}
use Rattle.geometry.specs.Words.{all}
use Rattle.rules.specs.Faithful.{whole_if_untrimmed}
use Rattle.faithful.proofs.Trusting.{all-list}
use Rattle.faithful.proofs.trust.all_whole.Goals as goal

pub returns : goal.returns
returns c =
    let t = whole_if_untrimmed c.args.l.layout.now.config in
    all_from_yields_List t _ _ _ c.all.ensures.ran (YieldsList-from_slice c.standing.result.now cc) (λ x b q k. search (rules, tests)) ∙ all-list t _ ∙ ap (all t) c.standing.ensures
