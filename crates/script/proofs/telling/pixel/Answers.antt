use Prim.Native.Nat.{◌+◌}
use mathlib.Core.Path.{refl}
use lib.ListN.{length, take}
use Rattle.art.specs.Stores.{lent}
use Rattle.commands.specs.Taking.{words_of}
use Rattle.commands.specs.Telling.{pixel_told}
use Rattle.script.specs.Stepping.{next_at}
use Rattle.script.proofs.Answers.{does_as}
use Rattle.script.proofs.Ways.{telling-is}
use Rattle.script.proofs.telling.pixel.Goals as goal

pub say-requires : goal.say-requires
say-requires c = (c.pixel-o.ensures.says.few, c.requires)

pub returns : goal.returns
unfolding next_at words_of pixel_told
returns c =
    let a = c.args in
    let script = a.words.script.now in
    let old = a.answers.now in
    let h = c.pixel-o.ensures in
    does_as a.s.now.written old _ _ _ _
    (telling-is (length old) (take a.s.now.written old) a.words.at 5 (pixel_told script a.words.at (lent a.stores) a.s.now.layout) a.s.now.layout (a.words.at + 16) _ refl refl h.says.words)
    c.say.ensures
