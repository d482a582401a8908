use mathlib.Core.Bool.{false}
use mathlib.Core.List.{List}
use mathlib.Core.Path.{◌≡◌, sym, ◌∙◌}
use native.Mathlib.Omega.{arith}
use lib.ListN.{length}
use Rattle.geometry.specs.Placing.{is_found}
use Rattle.records.specs.declared.frame.Record.{Record}
use Rattle.rules.specs.Operations.{bad_size}
use Rattle.rules.specs.Placing.{spot_on, cells_on}
use Rattle.faithful.specs.Replay.{Skies}
use Rattle.offers.proofs.Keeping.{sized}
use Rattle.layout.proofs.Answering.{ask-found, ask-size, ask-page, ask-is}
use Rattle.faithful.proofs.Replays.{stands_as}
use Rattle.layout.proofs.multi_texture_packer.ask_on.Goals.{After-can_pack_on}
use Rattle.layout.proofs.multi_texture_packer.ask_on.Goals as goal

fine : (c : After-can_pack_on) → bad_size c.args.size.w c.args.size.h ≡ false
fine c = sym c.bad_size.ensures ∙ c.if-bad_size.false

found : (c : After-can_pack_on) (rs : List Record) → let a = c.args in
    Skies a.c.config rs a.pages a.skies.now → is_found (spot_on a.c.config (cells_on a.c.config rs a.page.0) a.size) ≡ c.can_pack_on.result
found c rs sk =
    let a = c.args in
    let ea = c.canvas_of-area.ensures in
    ask-found a.c.config rs a.page.0 a.size _ _ _ ea c.cell_size-cell.ensures.0 (c.can_pack_on.ensures (cells_on a.c.config rs) (length rs) (stands_as a.c.config _ _ _ _ ea sk.stands))

pub returns-then-bad_size : goal.returns-then-bad_size
returns-then-bad_size c rs sk = ask-size rs _ _ _ (sym c.bad_size.ensures ∙ c.if-bad_size.true)

pub returns-then-pages-p : goal.returns-then-pages-p
returns-then-pages-p c rs sk = ask-page rs _ _ _ (sym c.bad_size.ensures ∙ c.if-bad_size.false) (omega (arith, sk.count, c.if-pages-p.true))

pub cell_size-cell-requires : goal.cell_size-cell-requires
cell_size-cell-requires c = sized _ _ (sym c.bad_size.ensures ∙ c.if-bad_size.false)

pub can_pack_on-requires : goal.can_pack_on-requires
can_pack_on-requires c =
    record { by_index = (_, (_, stands_as c.args.c.config _ _ _ _ c.canvas_of-area.ensures c.requires.skies.1.stands)); p_bound = (omega (arith, c.requires.c_value, c.if-pages-p.false), c.cell_size-cell.ensures.1) }

pub returns : goal.returns
returns c rs sk =
    let b = (goal.at.returns c).After-can_pack_on in
    ask-is rs _ _ _ _ (fine b) (omega (arith, sk.count, c.if-pages-p.false)) (found b rs sk)
