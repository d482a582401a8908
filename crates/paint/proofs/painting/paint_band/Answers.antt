use mathlib.Core.Path.{◌≡◌, sym, subst}
use mathlib.Core.Bool.{true}
use lib.ListN.{length, drop}
use Rattle.art.specs.Stores.{lent}
use Rattle.records.specs.Layouts.{standing}
use Rattle.records.specs.Records.{record_well_formed}
use Rattle.records.specs.declared.frame.Record.{Record}
use Rattle.records.specs.declared.texture_packer_config.Config.{Config}
use Rattle.records.proofs.Checks.{formed, good-holds}
use Rattle.paint.specs.Painting.{composed_among, Shows}
use Rattle.paint.proofs.Pictures.{shows_is}
use Rattle.paint.proofs.Stacks.{shows_filled, none_passed, all_left, last_next, last_left, last_below, last_is, last_stored, shows_standing, shows_records}
use Rattle.paint.proofs.painting.paint_band.Goals.{After-into_iter-r-iterator}
use Rattle.paint.proofs.painting.paint_band.Goals as goal

-- the loop begins with all that stand
begins : (c : After-into_iter-r-iterator) → c.into_iter-r-iterator.result.iter.rest.now ≡ standing c.args.l.layout.now
begins c =
    rw (c.into_iter-r-iterator.ensures.into_iter_gives, c.rev-r-items.ensures.source, c.iter.ensures.rest) c.standing.ensures

pub loop-r-init : goal.loop-r-init
loop-r-init c =
    let a = c.args in
    let l = a.l.layout.now in (
      all_left l _ (begins c),
      shows_filled c.config-c.result.config _ a.page a.g _ a.w a.first a.rows _ _ _ (none_passed l _ (begins c)) c.without_pixel-k.ensures c.requires.rows_bound.2 c.fill.ensures,
    )

pub paint_record-requires-clause-in_store : goal.paint_record-requires-clause-in_store
paint_record-requires-clause-in_store c =
    let l = c.args.l.layout.now in
    let f = formed l c.args.l.tested in
    let step = c.in-Some.ensures.steps in
    let left = c.loop-r.invariant.0 in
    let well = good-holds _ _ (f.at (length c.next.new.self.iter.rest.now) (last_below l _ _ _ step left)) in (
      last_stored l _ _ _ step left _ c.args.page c.requires.l_value,
      rw c.config-c.ensures (subst (λ (r : Record). record_well_formed l.config r ≡ true) (last_is l _ _ _ step left) well),
    )

pub loop-r-preserved : goal.loop-r-preserved
loop-r-preserved c =
    let a = c.args in
    let l = a.l.layout.now in
    let step = c.in-Some.ensures.steps in
    let left = c.loop-r.invariant.0 in (
      last_left l _ _ _ step left,
      shows_records c.config-c.result.config _ a.page a.g (sym (last_next l _ _ _ step left)) (c.paint_record.ensures _ c.loop-r.invariant.1),
    )

pub returns : goal.returns
returns c =
    let a = c.args in
    let rest = c.loop-r.r-iterator.iter.rest.now in
    let l = a.l.layout.now in
    let shown =
    subst
    (λ (d : Config). Shows (composed_among d (lent a.stores) a.page a.g (drop (length rest) (standing l))) a.w a.first a.rows c.loop-r.bytes)
    c.config-c.ensures
    c.loop-r.invariant.1 in
    shows_is (shows_standing l _ a.page a.g a.w a.first a.rows _ c.loop-r.bytes c.in-None.ensures.steps.0 shown)
