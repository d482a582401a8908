use Prim.Native.Nat.{◌≤◌}
use native.Mathlib.Omega.{arith}
use mathlib.Core.List.{[], ◌∷◌}
use mathlib.Core.Path.{sym}
use lib.ListN.{get_or-eq_default}
use Rattle.commands.specs.Reading.{word}
use Rattle.script.specs.Stepping.{check_source}
use Rattle.script.proofs.checking.check_source.Goals as goal

pub returns-in-0 : goal.returns-in-0
unfolding check_source
returns-in-0 c = rw (← c.word.ensures, c.in-0.is)

pub returns-in-1 : goal.returns-in-1
unfolding check_source
returns-in-1 c = rw (← c.word.ensures, c.in-1.is)

pub returns-in-2 : goal.returns-in-2
unfolding check_source
returns-in-2 c = rw (← c.word.ensures, c.in-2.is)

pub returns-in_default : goal.returns-in_default
unfolding check_source
returns-in_default c =
    let e = c.word.ensures in
    let above : 3 ≤ word c.args.words.script.now c.args.words.at 8 = omega arith in
    sym (get_or-eq_default (c.args.words.script.now ∷ c.args.said.now ∷ c.args.stores.symbols.now ∷ []) c.args.stores.wording.now above)
