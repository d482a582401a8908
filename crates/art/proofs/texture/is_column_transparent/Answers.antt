use borrow.Author.Rules.{rules}
use Prim.Native.Nat.{◌+◌, ◌*◌}
use mathlib.Core.Path.{◌≡◌, ap, ◌∙◌}
use mathlib.Core.Bool.{not}
use Rattle.art.specs.Stores.{lent, bytes_of}
use Rattle.art.specs.Search.{any_set}
use Rattle.art.proofs.Places.{bytes_now}
use Rattle.art.proofs.Lines.{column_run, column-set}
use Rattle.art.proofs.texture.is_column_transparent.Goals.{After-of-bytes}
use Rattle.art.proofs.texture.is_column_transparent.Goals as goal

-- A column is a run of alphas, each a row after the one before. Assumes nothing.
-- the slice is the image's store
bytes : (c : After-of-bytes) →
    let a = c.args in
    c.of-bytes.result.now ≡ bytes_of (lent a.stores) a.image.store
bytes c = bytes_now _ _ _ c.of-bytes.ensures

pub all_zero-requires : goal.all_zero-requires
all_zero-requires c =
    let a = c.args in
    let p = c.requires in
    rw (bytes (goal.at.all_zero-requires c).After-of-bytes) (column_run _ a.image p.0.inside a.col p.1 (search rules))

pub returns : goal.returns
returns c =
    let a = c.args in
    c.all_zero.ensures
    ∙ ap (λ l. not (any_set l (a.image.offset + 4 * a.col + 3) (4 * a.image.w) a.image.h)) (bytes (goal.at.returns c).After-of-bytes)
    ∙ ap not (column-set _ a.image a.col)
