use Prim.Native.Nat.{◌+◌}
use mathlib.Core.Path.{refl}
use lib.ListN.{length, take}
use Rattle.commands.specs.Taking.{words_of}
use Rattle.commands.specs.Telling.{withdraw_told}
use Rattle.script.specs.Stepping.{next_at}
use Rattle.script.proofs.Answers.{does_as}
use Rattle.script.proofs.Ways.{telling-is}
use Rattle.script.proofs.telling.withdraw.Goals as goal

pub say_with-requires : goal.say_with-requires
say_with-requires c = (c.withdraw-o.ensures.says.few, c.requires)

pub returns : goal.returns
unfolding next_at words_of
returns c =
    let a = c.args in
    let old = a.answers.now in
    let h = c.withdraw-o.ensures in
    does_as a.s.now.written old _ _ _ _
    (telling-is (length old) (take a.s.now.written old) a.words.at 3 (withdraw_told a.s.now.layout) c.withdraw-o.result.layout (a.words.at + 4) _ h.layout refl h.says.words)
    c.say_with.ensures
