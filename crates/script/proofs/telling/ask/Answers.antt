use Prim.Native.Nat.{◌+◌}
use mathlib.Core.Path.{refl}
use lib.ListN.{length, take}
use Rattle.commands.specs.Taking.{words_of}
use Rattle.commands.specs.Telling.{ask_told}
use Rattle.script.specs.Stepping.{next_at}
use Rattle.script.proofs.Answers.{does_as}
use Rattle.script.proofs.Ways.{telling-is}
use Rattle.script.proofs.telling.ask.Goals as goal

pub say-requires : goal.say-requires
say-requires c = (c.ask-o.ensures.says.few, c.requires)

pub returns : goal.returns
unfolding next_at words_of ask_told
returns c =
    let a = c.args in
    let script = a.words.script.now in
    let old = a.answers.now in
    let h = c.ask-o.ensures in
    does_as a.s.now.written old _ _ _ _
    (telling-is (length old) (take a.s.now.written old) a.words.at 1 (ask_told script a.words.at a.s.now.layout) a.s.now.layout (a.words.at + 16) _ refl refl h.says.words)
    c.say.ensures
