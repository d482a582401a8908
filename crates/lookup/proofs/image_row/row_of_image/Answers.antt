use Prim.Native.Nat.{ℕ, ◌+◌, ◌*◌, ◌≤◌, ◌<◌}
use native.Mathlib.Omega.{arith}
use mathlib.Core.Path.{◌≡◌, refl, sym, subst}
use mathlib.Core.Bool.{false}
use mathlib.Core.List.{List}
use lib.ListN.{length}
use denote.Ref.{Bor}
use Rattle.art.specs.Stores.{lent, of_store, runs_past}
use Rattle.records.specs.Records.{image_of}
use Rattle.records.specs.declared.frame.Record.{Record}
use Rattle.records.proofs.Checks.{Good}
use Rattle.lookup.proofs.Reading.{named-good, row_start, row-few, row_inside, row_part_is, empty-handed, row-handed}
use Rattle.lookup.proofs.Answers.{Readable, readable}
use Rattle.lookup.proofs.image_row.row_of_image.Goals.{In-Ok}
use Rattle.lookup.proofs.image_row.row_of_image.Goals as goal

-- `row_of_image` hands back the row of the record that the key names, where nothing refuses it. Assumes nothing.
-- no check holds, and what is known of the record
asked : (c : In-Ok) → let a = c.args in Readable a.l (lent a.stores) a.key a.row
asked c = readable _ _ _ _ c.in-Ok.ensures.0

well : (c : In-Ok) → Good c.args.l.config c.in-Ok.r
well c = subst (Good c.args.l.config) c.in-Ok.ensures.1 (named-good _ (asked c).formed _ (asked c).stands)

row_below : (c : In-Ok) → c.args.row < c.in-Ok.r.source.h
row_below c = subst (λ (r : Record). c.args.row < r.source.h) c.in-Ok.ensures.1 (asked c).below

bytes-before : (c : In-Ok) → c.args.row * c.in-Ok.r.source.w ≤ 4194304
bytes-before c = row-few c.in-Ok.r _ (omega (arith, row_below c, (well c).whole_h_few)) (well c).whole_w_few

-- the row lies in the store that `of` gave
inside : (c : In-Ok) (store : Bor (List ℕ)) → let a = c.args in store ≡ of_store c.in-Ok.r.store a.stores.symbols a.stores.wording
    → row_start c.in-Ok.r a.row + 4 * c.in-Ok.r.source.w ≤ length store.now
inside c store e =
    let a = c.args in
    let past = subst (λ (r : Record). runs_past (lent a.stores) (image_of r) ≡ false) c.in-Ok.ensures.1 (asked c).inside in
    subst (λ (b : Bor (List ℕ)). row_start c.in-Ok.r a.row + 4 * c.in-Ok.r.source.w ≤ length b.now) (sym e) (row_inside a.stores c.in-Ok.r a.row (row_below c) past)

pub overflow_mul-a : goal.overflow_mul-a
overflow_mul-a c = omega (arith, bytes-before (goal.at.overflow_mul-a c).In-Ok)

pub overflow_mul-a-in-Ok : goal.overflow_mul-a-in-Ok
overflow_mul-a-in-Ok c = omega (arith, bytes-before (goal.at.overflow_mul-a-in-Ok c).In-Ok)

pub overflow_add-a : goal.overflow_add-a
overflow_add-a c = omega (arith, bytes-before (goal.at.overflow_add-a c).In-Ok)

pub overflow_add-result : goal.overflow_add-result
overflow_add-result c = omega (arith, inside (goal.at.overflow_add-result c).In-Ok c.of.result c.of.ensures, c.of.type_inv.0)

pub slice_bounds-result-end-in-Ok : goal.slice_bounds-result-end-in-Ok
slice_bounds-result-end-in-Ok c = omega (arith, inside (goal.at.slice_bounds-result-end-in-Ok c).In-Ok c.of.result c.of.ensures)

pub returns-in-Err : goal.returns-in-Err
returns-in-Err c = empty-handed _ _ _ _ _ _ c.in-Err.ensures (record { block = refl; place = omega arith; bytes = refl })

pub returns-in-Ok : goal.returns-in-Ok
returns-in-Ok c =
    row-handed _ _ _ _ _ _ c.in-Ok.ensures.0 c.in-Ok.r c.in-Ok.ensures.1 (row_part_is c.args.stores c.in-Ok.r c.args.row c.of.result c.of.ensures)
