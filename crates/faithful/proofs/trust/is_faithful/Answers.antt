use mathlib.Core.Path.{sym, ◌∙◌}
use Rattle.faithful.proofs.Trusting.{unlike_keys, unlike_boxes, test_none, test_all}
use Rattle.faithful.proofs.trust.is_faithful.Goals.{then-not-keys_differ-via-then-not-keys_differ, then-not-keys_differ-via-else-not-keys_differ+then-not-all_whole}
use Rattle.faithful.proofs.trust.is_faithful.Goals as goal

pub returns-then-not-keys_differ : goal.returns-then-not-keys_differ
returns-then-not-keys_differ c =
    test_none c.args.l.layout.now _
    (elim c.then-not-keys_differ.branch [
      | then-not-keys_differ-via-then-not-keys_differ w ↦ unlike_keys c.args.l.layout.now (sym c.keys_differ.ensures ∙ w.if-not-keys_differ.true)
      | then-not-keys_differ-via-else-not-keys_differ+then-not-all_whole w ↦ unlike_boxes c.args.l.layout.now (sym w.all_whole.ensures ∙ w.if-not-all_whole.true)
    ])

pub returns : goal.returns
returns c = test_all c.args.l.layout.now _ _ (sym c.keys_differ.ensures ∙ c.if-not-keys_differ.false) (sym c.all_whole.ensures ∙ c.if-not-all_whole.false) c.replay.ensures
