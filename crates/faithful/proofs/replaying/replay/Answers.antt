use mathlib.Core.Path.{refl, sym}
use native.Mathlib.Omega.{arith}
use Rattle.records.specs.Settings.{blank_record}
use Rattle.records.proofs.Checks.{Formed, formed, good-holds}
use Rattle.faithful.proofs.Sofar.{good-at, few-earlier, sofar_none, sofar_stop, sofar_more, sofar_done, skies-as, replayed-as}
use Rattle.faithful.proofs.replaying.replay.Goals.{Start}
use Rattle.faithful.proofs.replaying.replay.Goals as goal

form : (c : Start) → Formed c.args.l.layout.now
form c = formed c.args.l.layout.now c.args.l.tested

pub fresh-requires : goal.fresh-requires
fresh-requires c = rw c.config-c.ensures (omega (arith, (form (goal.at.fresh-requires c).Start).config.wide))

pub loop-r-init : goal.loop-r-init
loop-r-init c = sofar_none c.args.l.layout.now (form (goal.at.loop-r-init c).Start) _ c.standing-r-items.ensures _ _ refl (rw (sym c.config-c.ensures) c.fresh.ensures)

pub replay_one-requires : goal.replay_one-requires
unfolding blank_record
replay_one-requires c =
    let l = c.loop-r in
    let f = form (goal.at.replay_one-requires c).Start in
    let is = c.standing-r-items.ensures in record {
      c_value = (rw c.config-c.ensures (good-holds _ _ (good-at c.args.l.layout.now f _ is l.r-index c.loop-r-test.true)), l.invariant.pages_few);
      some_skies = (_, skies-as c.config-c.ensures l.invariant.skies, few-earlier c.args.l.layout.now f _ is l.r-index c.loop-r-test.true);
    }

pub returns-then-not-replay_one : goal.returns-then-not-replay_one
unfolding blank_record
returns-then-not-replay_one c =
    let l = c.loop-r in
    sofar_stop c.args.l.layout.now (form (goal.at.returns-then-not-replay_one c).Start) _ c.standing-r-items.ensures l.r-index c.loop-r-test.true _ _ _ c.if-not-replay_one.true l.invariant
    (replayed-as c.config-c.ensures (c.replay_one.ensures _ (skies-as c.config-c.ensures l.invariant.skies)))

pub loop-r-preserved : goal.loop-r-preserved
unfolding blank_record
loop-r-preserved c =
    let l = c.loop-r in
    sofar_more c.args.l.layout.now (form (goal.at.loop-r-preserved c).Start) _ c.standing-r-items.ensures l.r-index c.loop-r-test.true l.pages _ _ _ _ c.if-not-replay_one.false l.invariant
    (replayed-as c.config-c.ensures (c.replay_one.ensures _ (skies-as c.config-c.ensures l.invariant.skies))) c.max-pages.ensures

pub returns : goal.returns
returns c = let l = c.loop-r in sofar_done c.args.l.layout.now (form (goal.at.returns c).Start) _ c.standing-r-items.ensures l.r-index l.pages _ (omega arith) l.invariant
