use mathlib.Core.Path.{sym, ◌∙◌}
use Rattle.paint.proofs.Stacks.{shows_past, shows_more}
use Rattle.paint.proofs.painting.paint_record.Goals as goal

pub paint_frame-requires : goal.paint_frame-requires
paint_frame-requires c =
    record { in_store = (c.requires.in_store.0 (sym c.eq.ensures ∙ c.if-eq.true), c.requires.in_store.1); rows_bound = c.requires.rows_bound }

pub returns-then-eq : goal.returns-then-eq
returns-then-eq c =
    λ rs shown.
    shows_more c.args.c.config _ c.args.page c.args.g c.args.r rs _ _ _ _ _ (sym c.eq.ensures ∙ c.if-eq.true) shown c.paint_frame.ensures

pub returns-else-eq : goal.returns-else-eq
returns-else-eq c =
    λ rs shown.
    shows_past c.args.c.config _ c.args.page c.args.g c.args.r rs _ _ _ _ (sym c.eq.ensures ∙ c.if-eq.false) shown
