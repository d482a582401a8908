use mathlib.Core.Path.{◌≡◌, ap, ◌∙◌}
use mathlib.Core.List.{List}
use native.Mathlib.Omega.{arith}
use Rattle.records.specs.Records.{size_of, whole_of}
use Rattle.records.specs.declared.frame.Record.{Record}
use Rattle.records.proofs.Checks.{bounded, good}
use Rattle.rules.specs.Placing.{page_for}
use Rattle.faithful.specs.Replay.{Skies}
use Rattle.faithful.proofs.Replays.{sized_whole, sized_box, put_box, replay_elsewhere, replay_here}
use Rattle.faithful.proofs.replaying.replay_one.Goals.{After-page_for-p}
use Rattle.faithful.proofs.replaying.replay_one.Goals as goal

-- the page that the rule gives
page-of : (c : After-page_for-p) (rs : List Record) → let a = c.args in
    Skies a.c.config rs a.pages a.skies.now → c.page_for-p.result ≡ page_for a.c.config rs (whole_of a.r)
page-of c rs sk = c.page_for-p.ensures rs sk ∙ ap (page_for c.args.c.config rs) c.whole_of.ensures

pub page_for-p-requires : goal.page_for-p-requires
page_for-p-requires c =
    record { c_value = (c.requires.c_value.1, sized_whole _ _ _ c.whole_of.ensures (good _ _ c.requires.c_value.0)); some_skies = c.requires.some_skies }

pub returns-then-r-p : goal.returns-then-r-p
returns-then-r-p c rs sk =
    replay_elsewhere _ rs _ (good _ _ c.requires.c_value.0) _ c.args.pages _ (page-of (goal.at.returns-then-r-p c).After-page_for-p rs sk) c.if-r-p.true

pub pack-f-requires : goal.pack-f-requires
unfolding size_of
pack-f-requires c =
    let b = bounded _ c.args.c.tested in
    let g = good _ _ c.requires.c_value.0 in
    record { c_value = (omega (arith, b.pages_few, g.page, c.if-r-p.false), sized_box _ _ _ c.box_of.ensures g); some_skies = (_, c.requires.some_skies) }

pub same_spot-requires : goal.same_spot-requires
same_spot-requires c = c.requires.c_value.0

pub returns : goal.returns
returns c rs sk =
    replay_here _ rs _ (good _ _ c.requires.c_value.0) _ _ _ _ (page-of (goal.at.returns c).After-page_for-p rs sk) c.if-r-p.false
    (put_box c.args.c.config _ _ _ _ _ _ _ c.box_of.ensures (c.pack-f.ensures rs _ sk)) c.same_spot.ensures
