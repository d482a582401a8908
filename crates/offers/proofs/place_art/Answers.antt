use native.Mathlib.Omega.{arith}
use Rattle.records.proofs.Checks.{bounded}
use Rattle.offers.proofs.Placings.{near, step-full, step-here}
use Rattle.offers.proofs.place_art.Goals as goal

pub page_for-p-requires : goal.page_for-p-requires
page_for-p-requires c = record { c_value = (c.requires.c_value.0, c.requires.c_value.1); some_skies = c.requires.some_skies }

pub returns-then-c-p : goal.returns-then-c-p
returns-then-c-p c rs sk = step-full c.args.c.config rs c.args.a _ _ (c.page_for-p.ensures rs sk) c.if-c-p.true

pub pack-f-requires : goal.pack-f-requires
pack-f-requires c =
    let b = bounded _ c.args.c.tested in
    record { c_value = (omega (arith, b.pages_few, c.if-c-p.false), c.requires.c_value.2); some_skies = (_, c.requires.some_skies) }

pub record_for-requires : goal.record_for-requires
record_for-requires c = near c.args.c.config _ _ _ c.args.c.tested (c.pack-f.ensures _ _ c.requires.some_skies.1).found

pub returns : goal.returns
returns c rs sk =
    step-here c.args.c.config rs c.args.a _ _ (c.page_for-p.ensures rs sk) _ _ (omega (arith, c.if-c-p.false)) (c.pack-f.ensures rs _ sk) c.record_for.ensures
