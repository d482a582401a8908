use Prim.Native.Nat.{◌+◌}
use mathlib.Core.Path.{refl}
use lib.ListN.{length, take}
use Rattle.commands.specs.Taking.{words_of}
use Rattle.commands.specs.Telling.{open_told}
use Rattle.script.specs.Stepping.{next_at}
use Rattle.script.proofs.Answers.{does_as}
use Rattle.script.proofs.Ways.{telling-is}
use Rattle.script.proofs.telling.open.Goals as goal

pub say_with-requires : goal.say_with-requires
say_with-requires c = (c.open-o.ensures.says.few, c.requires)

pub returns : goal.returns
unfolding next_at words_of
returns c =
    let a = c.args in
    let script = a.words.script.now in
    let old = a.answers.now in
    let h = c.open-o.ensures in
    does_as a.s.now.written old _ _ _ _
    (telling-is (length old) (take a.s.now.written old) a.words.at 0 (open_told script a.words.at) c.open-o.result.layout (a.words.at + 48) _ h.layout refl h.says.words)
    c.say_with.ensures
