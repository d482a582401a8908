use Prim.Native.Nat.{◌+◌, ◌*◌, ◌≤◌}
use native.Mathlib.Omega.{arith}
use mathlib.Core.Path.{◌≡◌, ap, ◌∙◌}
use mathlib.Core.Bool.{not}
use lib.ListN.{length}
use Rattle.art.specs.Stores.{lent, bytes_of}
use Rattle.art.specs.Search.{any_set}
use Rattle.art.proofs.Places.{bytes_now}
use Rattle.art.proofs.Lines.{row_ends, row_run, row-set}
use Rattle.art.proofs.texture.is_row_transparent.Goals.{After-of-bytes}
use Rattle.art.proofs.texture.is_row_transparent.Goals as goal

-- A row is a run of alphas, each a pixel after the one before. Assumes nothing.
-- the slice is the image's store
bytes : (c : After-of-bytes) →
    let a = c.args in
    c.of-bytes.result.now ≡ bytes_of (lent a.stores) a.image.store
bytes c = bytes_now _ _ _ c.of-bytes.ensures

-- the row ends in the store
ends : (c : After-of-bytes) →
    let a = c.args in
    a.image.offset + 4 * (a.row * a.image.w + a.image.w) ≤ length c.of-bytes.result.now
ends c =
    rw (bytes c) (row_ends _ c.args.image c.requires.0.inside c.args.row c.requires.1)

pub overflow_mul-alpha-2 : goal.overflow_mul-alpha-2
overflow_mul-alpha-2 c = omega (arith, ends (goal.at.overflow_mul-alpha-2 c).After-of-bytes)

pub overflow_add-alpha : goal.overflow_add-alpha
overflow_add-alpha c = omega (arith, ends (goal.at.overflow_add-alpha c).After-of-bytes)

pub overflow_add-alpha-2 : goal.overflow_add-alpha-2
overflow_add-alpha-2 c = omega (arith, ends (goal.at.overflow_add-alpha-2 c).After-of-bytes)

pub all_zero-requires : goal.all_zero-requires
all_zero-requires c =
    let a = c.args in
    let p = c.requires in
    rw (bytes (goal.at.all_zero-requires c).After-of-bytes) (row_run _ a.image p.0.inside a.row p.1)

pub returns : goal.returns
returns c =
    let a = c.args in
    c.all_zero.ensures
    ∙ ap (λ l. not (any_set l (a.image.offset + 4 * (a.row * a.image.w) + 3) 4 a.image.w)) (bytes (goal.at.returns c).After-of-bytes)
    ∙ ap not (row-set _ a.image a.row)
