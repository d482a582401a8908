use mathlib.Core.Bool.{true}
use mathlib.Core.Path.{◌≡◌, refl, sym, ap, ◌∙◌, subst}
use mathlib.Core.List.{List, Memᴰ}
use mathlib.Core.Option.{Option, none}
use lib.ListN.{get_or}
use Rattle.std.specs.Prelude.{Option as Maybe, Some, Result, Ok}
use Rattle.art.specs.Stores.{lent}
use Rattle.art.specs.declared.memory_rgba8_texture.Pixel.{Pixel}
use Rattle.records.specs.Settings.{blank_record}
use Rattle.records.specs.Records.{record_well_formed}
use Rattle.records.specs.declared.frame.Record.{Record}
use Rattle.records.specs.declared.texture_packer_config.Config.{Config}
use Rattle.records.specs.declared.refusal.Refusal.{Refusal}
use Rattle.records.proofs.Rows.{at_in}
use Rattle.records.proofs.Checks.{good-holds, stands-good}
use Rattle.lookup.specs.Zones.{pixel_among, pixel_at}
use Rattle.lookup.specs.Looking.{look_answer}
use Rattle.lookup.proofs.Owners.{reached_on, among_stop, among_more, among_done}
use Rattle.lookup.proofs.Looking.{page_in_store}
use Rattle.lookup.proofs.texture_packer.pixel_at.Goals.{In-loop-r}
use Rattle.lookup.proofs.texture_packer.pixel_at.Goals as goal

abbrev answer : Option Pixel → Result (Maybe Pixel) Refusal
answer o = look_answer o none

pub loop-r-init : goal.loop-r-init
unfolding pixel_at
loop-r-init c =
    let a = c.args in
    ap (λ (d : Config). pixel_among d (lent a.stores) a.page c.standing-standing.result.now a.x a.y) c.config-c.ensures
    ∙ ap (λ (rs : List Record). pixel_among a.l.layout.now.config (lent a.stores) a.page rs a.x a.y) c.standing-standing.ensures

-- each record that the loop comes to is well-formed
well : (c : In-loop-r) → record_well_formed c.config-c.result.config (get_or c.standing-standing.result.now c.loop-r.r-index blank_record) ≡ true
well c =
    let holds = good-holds _ _ (stands-good _ c.args.l.tested _ c.standing-standing.ensures c.loop-r.r-index c.loop-r-test.true) in
    subst (λ (d : Config). record_well_formed d (get_or c.standing-standing.result.now c.loop-r.r-index blank_record) ≡ true) (sym c.config-c.ensures) holds

pub reaches_pixel-requires : goal.reaches_pixel-requires
unfolding blank_record
reaches_pixel-requires c = well (goal.at.reaches_pixel-requires c).In-loop-r

pub frame_pixel-requires : goal.frame_pixel-requires
unfolding blank_record
frame_pixel-requires c =
    let rs = c.standing-standing.result.now in
    let i = c.loop-r.r-index in
    let t = c.loop-r-test.true in
    let stands = subst (λ (qs : List Record). Memᴰ (get_or rs i blank_record) qs) c.standing-standing.ensures (at_in rs blank_record i t) in
    let on = reached_on _ _ _ _ _ (sym c.reaches_pixel.ensures ∙ c.if-reaches_pixel.true) in
    (page_in_store _ _ _ c.requires _ stands on, well (goal.at.frame_pixel-requires c).In-loop-r)

pub returns-then-reaches_pixel : goal.returns-then-reaches_pixel
unfolding blank_record
returns-then-reaches_pixel c =
    let l = c.loop-r in
    let rs = c.standing-standing.result.now in
    ap (λ (k : Pixel). Ok (Some k)) c.frame_pixel.ensures
    ∙ ap answer (sym (among_stop _ _ _ _ _ rs blank_record l.r-index _ _ c.loop-r-test.true refl c.reaches_pixel.ensures c.if-reaches_pixel.true) ∙ l.invariant)

pub loop-r-preserved : goal.loop-r-preserved
unfolding blank_record
loop-r-preserved c =
    let l = c.loop-r in
    let rs = c.standing-standing.result.now in
    among_more _ _ _ _ _ rs blank_record l.r-index _ _ c.loop-r-test.true refl c.reaches_pixel.ensures c.if-reaches_pixel.false ∙ l.invariant

pub returns : goal.returns
returns c =
    let l = c.loop-r in
    let rs = c.standing-standing.result.now in
    ap answer (sym (among_done _ _ _ _ _ rs blank_record l.r-index c.loop-r-test.false) ∙ l.invariant)
