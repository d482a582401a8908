use Rattle.std.proofs.Common.{rules, ◌≡◌, true, false}
use Rattle.std.proofs.lemmas.Iterator.{IsFirst-from_position, YieldsList-from_slice}
use borrow.Author.Tests.{tests}
use mathlib.Core.Path.{ap, ◌∙◌}
use Rattle.records.specs.Layouts.{has_key, key_place}
use Rattle.records.proofs.Keys.{place_is}
use Rattle.records.proofs.layout.WellFormed.find_key.Goals as goal

pub returns : goal.returns
unfolding has_key
returns c =
    let key = c.args.key in
    let found = IsFirst-from_position _ _ _ (λ r. has_key key r ≡ true) (λ r. has_key key r ≡ false) c.position.ensures.ran
    (YieldsList-from_slice c.standing-standing.result.now cc)
    (λ x q k. search (rules, tests))
    (λ x q k. search (rules, tests)) in
    c.unwrap_or.ensures ∙ place_is key _ _ found ∙ ap (key_place key) c.standing-standing.ensures
