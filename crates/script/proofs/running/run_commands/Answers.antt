use native.Mathlib.Omega.{arith}
use mathlib.Core.Path.{ap, ◌∙◌}
use lib.ListN.{length}
use Rattle.art.specs.Stores.{lent}
use Rattle.wire.specs.Bytes.{put}
use Rattle.script.specs.Stepping.{end_bytes}
use Rattle.script.proofs.Going.{going_start, going_long, ended, goes, unchanged, stops}
use Rattle.script.proofs.running.run_commands.Goals as goal

pub blank-requires : goal.blank-requires
blank-requires c = tt

pub loop-s-init : goal.loop-s-init
loop-s-init c =
    let a = c.args in
    going_start a.script.now (lent a.stores) a.answers.now c.blank.result c.blank.ensures c.requires

pub step-requires : goal.step-requires
step-requires c =
    let a = c.args in
    let s = lent a.stores in
    let k = c.loop-s in
    let n = going_long a.script.now s a.answers.now k.answers k.s.layout k.s.next k.s.written k.invariant in
    let r = k.invariant.room in
    (omega arith, omega arith)

pub finish-requires : goal.finish-requires
finish-requires c =
    let a = c.args in
    let s = lent a.stores in
    let k = c.loop-s in
    let n = going_long a.script.now s a.answers.now k.answers k.s.layout k.s.next k.s.written k.invariant in
    let m = ap length (unchanged a.script.now s a.answers.now k.answers k.s.layout k.s.next k.s.written k.invariant c.loop-s-test.true _ c.in-Err.ended c.in-Err.ensures) in
    let r = k.invariant.room in
    omega arith

pub returns-in-Err : goal.returns-in-Err
returns-in-Err c =
    let a = c.args in
    let s = lent a.stores in
    let k = c.loop-s in
    let f = c.finish.ensures in
    let code = f.1 ∙ ap (λ n. put c.step.new.answers k.s.written (end_bytes n k.s.next)) c.from.ensures in
    let e = stops a.script.now s a.answers.now k.answers k.s.layout k.s.next k.s.written k.invariant c.loop-s-test.true _ c.in-Err.ended c.in-Err.ensures code in
    record { value = f.0 ∙ e.0; answers_after = e.1 }

pub loop-s-smaller : goal.loop-s-smaller
loop-s-smaller c =
    let a = c.args in
    let s = lent a.stores in
    let k = c.loop-s in
    let o = (goes a.script.now s a.answers.now k.answers k.s.layout k.s.next k.s.written k.invariant c.loop-s-test.true _ c.step.new.s c.in-Ok.ensures).1 in
    omega arith

pub loop-s-preserved : goal.loop-s-preserved
loop-s-preserved c =
    let a = c.args in
    let s = lent a.stores in
    let k = c.loop-s in
    (goes a.script.now s a.answers.now k.answers k.s.layout k.s.next k.s.written k.invariant c.loop-s-test.true _ c.step.new.s c.in-Ok.ensures).0

pub finish-requires-2 : goal.finish-requires-2
finish-requires-2 c =
    let a = c.args in
    let s = lent a.stores in
    let k = c.loop-s in
    let n = going_long a.script.now s a.answers.now k.answers k.s.layout k.s.next k.s.written k.invariant in
    let r = k.invariant.room in
    omega arith

pub returns : goal.returns
returns c =
    let a = c.args in
    let s = lent a.stores in
    let k = c.loop-s in
    let f = c.finish-2.ensures in
    let e = ended a.script.now s a.answers.now k.answers k.s.layout k.s.next k.s.written k.invariant c.loop-s-test.false f.1 in
    record { value = f.0 ∙ e.0; answers_after = e.1 }
