use lib.ListN.{length}
use Rattle.records.specs.Records.{size_of}
use Rattle.rules.specs.Placing.{cells_on}
use Rattle.faithful.proofs.Replays.{stands_as, put_as}
use Rattle.faithful.proofs.placing.pack.Goals as goal

pub cell_size-cell-requires : goal.cell_size-cell-requires
unfolding size_of
cell_size-cell-requires c = c.requires.c_value.1

pub pack_on-requires : goal.pack_on-requires
pack_on-requires c =
    let sk = c.requires.some_skies.1 in
    record { by_index = (_, (_, stands_as c.args.c.config _ _ _ _ c.canvas_of-area.ensures sk.1.stands), sk.2); p_bound = (c.requires.c_value.0, c.cell_size-cell.ensures.1) }

pub returns : goal.returns
unfolding size_of
returns c rs n sk =
    let a = c.args in
    let ea = c.canvas_of-area.ensures in
    put_as a.c.config (size_of a.kept) _ _ _ _ _ _ _ ea c.cell_size-cell.ensures.0 (c.pack_on.ensures (cells_on a.c.config rs) (length rs) (stands_as a.c.config _ _ _ _ ea sk.stands))
