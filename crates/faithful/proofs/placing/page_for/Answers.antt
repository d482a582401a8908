use lib.ListN.{length}
use Rattle.rules.specs.Placing.{cells_on}
use Rattle.faithful.proofs.Replays.{stands_as, page-is}
use Rattle.faithful.proofs.placing.page_for.Goals as goal

pub cell_size-cell-requires : goal.cell_size-cell-requires
cell_size-cell-requires c = c.requires.c_value.1

pub first_page-requires : goal.first_page-requires
first_page-requires c =
    record { by_index = (_, (_, stands_as c.args.c.config _ _ _ _ c.canvas_of-area.ensures c.requires.some_skies.1.stands)); count_bound = (c.requires.c_value.0, c.cell_size-cell.ensures.1) }

pub returns : goal.returns
returns c rs sk =
    let a = c.args in
    let ea = c.canvas_of-area.ensures in
    page-is a.c.config rs _ _ _ _ _ ea c.cell_size-cell.ensures.0 sk.count (c.first_page.ensures (cells_on a.c.config rs) (length rs) (stands_as a.c.config _ _ _ _ ea sk.stands))
