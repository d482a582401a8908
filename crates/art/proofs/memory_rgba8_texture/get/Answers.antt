use Prim.Native.Nat.{◌+◌, ◌<◌}
use mathlib.Core.Path.{◌≡◌, ap, ◌∙◌}
use native.Mathlib.Omega.{arith}
use lib.ListN.{length}
use Rattle.art.specs.Stores.{lent, bytes_of, place_of, pixel_from, pixel_in}
use Rattle.art.proofs.Places.{bytes_now, pixel_in_lem}
use Rattle.art.proofs.memory_rgba8_texture.get.Goals.{After-of-bytes}
use Rattle.art.proofs.memory_rgba8_texture.get.Goals as goal

-- `get` reads where `place_of` says, and the last of the pixel's four bytes lies in the store. Assumes nothing.
-- the slice is the image's store
bytes : (c : After-of-bytes) →
    let a = c.args in
    c.of-bytes.result.now ≡ bytes_of (lent a.stores) a.image.store
bytes c = bytes_now _ _ _ c.of-bytes.ensures

-- the pixel's last byte lies in the store
ends : (c : After-of-bytes) →
    let a = c.args in
    place_of a.image a.x a.y + 3 < length c.of-bytes.result.now
ends c =
    rw (bytes c) (pixel_in_lem _ c.args.image c.args.x c.args.y c.requires.0.inside c.requires.1 c.requires.2)

pub overflow_mul-before-2 : goal.overflow_mul-before-2
unfolding place_of
overflow_mul-before-2 c = omega (arith, ends (goal.at.overflow_mul-before-2 c).After-of-bytes)

pub overflow_add-image : goal.overflow_add-image
unfolding place_of
overflow_add-image c = omega (arith, ends (goal.at.overflow_add-image c).After-of-bytes)

pub pixel_from-requires : goal.pixel_from-requires
unfolding place_of
pixel_from-requires c = ends (goal.at.pixel_from-requires c).After-of-bytes

pub returns : goal.returns
unfolding pixel_in place_of
returns c =
    let a = c.args in
    c.pixel_from.ensures ∙ ap (λ l. pixel_from l (place_of a.image a.x a.y)) (bytes (goal.at.returns c).After-of-bytes)
