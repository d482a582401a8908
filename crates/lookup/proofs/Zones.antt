-- Zones, and what a frame gives a pixel of its zone. Assumes nothing.
use Prim.Native.Nat.{ℕ, ◌+◌, ◌-◌, ◌*◌, ◌≤◌, ◌<◌}
use native.Mathlib.Omega.{arith}
use mathlib.Core.Path.{◌≡◌, refl, sym, ap, ◌∙◌}
use mathlib.Core.Bool.{Bool, true, false, ◌&&◌}
use Rattle.geometry.specs.Rects.{on_outline}
use Rattle.geometry.proofs.Words.{and_no_left}
use Rattle.geometry.specs.Placing.{lying}
use Rattle.geometry.specs.declared.rect.Rect.{Rect}
use Rattle.geometry.specs.declared.spot.Turn.{Turn}
use Rattle.geometry.specs.declared.spot.Turn.TheVariants.{Upright, Turned}
use Rattle.art.specs.Stores.{Stores, InStore, BoxIn, pixel_in, upright_pixel, turned_point, turned_pixel}
use Rattle.art.specs.declared.memory_rgba8_texture.Image.{Image}
use Rattle.art.specs.declared.memory_rgba8_texture.Pixel.{Pixel}
use Rattle.records.specs.Records.{box_of, image_of, size_of}
use Rattle.records.specs.declared.texture_packer_config.Config.{Config}
use Rattle.records.specs.declared.frame.Record.{Record}
use Rattle.lookup.specs.Zones.{zone, local, box_pixel, red, frame_pixel}

-- the zone from its corner
pub zone-is : (c : Config) (r : Record) (x y : ℕ) → x ≡ r.frame.x - c.extrusion → y ≡ r.frame.y - c.extrusion
    → record { x = x; y = y; w = r.frame.w + 2 * c.extrusion; h = r.frame.h + 2 * c.extrusion } ≡ zone c r
unfolding zone
zone-is c r x y p q = λ i. record { x = p i; y = q i; w = r.frame.w + 2 * c.extrusion; h = r.frame.h + 2 * c.extrusion }

-- ## a distance from the frame's corner

-- it is one of the frame's
pub local_in : (n x corner side : ℕ) → n ≡ local x corner side → 1 ≤ side → n < side
unfolding local
local_in n x corner side e h = omega arith

-- ## the trim box, read

module _ (s : Stores) (r : Record) (i : Image) (k : Rect) (x y : ℕ) (is-image : i ≡ image_of r) (is-box : k ≡ box_of r) where
  -- what upright and turned reading ask: the frame has the box's size, swapped if turned
  pub upright_asks : r.turn ≡ Upright → InStore s (image_of r) → BoxIn (box_of r) r.source.w r.source.h → x < r.frame.w → y < r.frame.h
      → InStore s i × (BoxIn k i.w i.h × (x < k.w) × (y < k.h))
  unfolding box_of image_of lying size_of
  upright_asks t st b p q = rw (is-image, is-box) (st, (b, rw t p, rw t q))

  pub turned_asks : r.turn ≡ Turned → InStore s (image_of r) → BoxIn (box_of r) r.source.w r.source.h → x < r.frame.w → y < r.frame.h
      → InStore s i × (BoxIn k i.w i.h × (x < k.h) × (y < k.w))
  unfolding box_of image_of lying size_of
  turned_asks t st b p q = rw (is-image, is-box) (st, (b, rw t p, rw t q))

  pub upright_is : r.turn ≡ Upright → (p : Pixel) → p ≡ upright_pixel s i k x y → p ≡ box_pixel r.turn s (image_of r) (box_of r) x y
  unfolding box_pixel
  upright_is t p e =
      e
      ∙ ap (λ (j : Image). upright_pixel s j k x y) is-image
      ∙ ap (λ (j : Rect). upright_pixel s (image_of r) j x y) is-box
      ∙ ap (λ (u : Turn). box_pixel u s (image_of r) (box_of r) x y) (sym t)

  pub turned_is : r.turn ≡ Turned → (p : Pixel) → p ≡ turned_pixel s i k x y → p ≡ box_pixel r.turn s (image_of r) (box_of r) x y
  unfolding box_pixel
  turned_is t p e =
      e
      ∙ ap (λ (j : Image). turned_pixel s j k x y) is-image
      ∙ ap (λ (j : Rect). turned_pixel s (image_of r) j x y) is-box
      ∙ ap (λ (u : Turn). box_pixel u s (image_of r) (box_of r) x y) (sym t)

-- ## the pixel that a frame gives

module _ (c : Config) (s : Stores) (r : Record) (x y : ℕ) (b : Bool) (is-outline : b ≡ on_outline r.frame x y) where
  pub frame_outlined : (c.outlines && b) ≡ true → frame_pixel c s r x y ≡ red
  unfolding frame_pixel
  frame_outlined e = rw (sym is-outline, e)

  pub frame_read : (c.outlines && b) ≡ false → (column row : ℕ) → column ≡ local x r.frame.x r.frame.w → row ≡ local y r.frame.y r.frame.h
      → frame_pixel c s r x y ≡ box_pixel r.turn s (image_of r) (box_of r) column row
  unfolding frame_pixel
  frame_read e column row p q = rw (sym is-outline, e, sym p, sym q)

-- ## the frame's own pixels, and those beside it

pub local_own : (i corner side : ℕ) → i < side → local (corner + i) corner side ≡ i
unfolding local
local_own i corner side h = omega arith

pub local-before : (x corner side : ℕ) → x ≤ corner → local x corner side ≡ 0
unfolding local
local-before x corner side h = omega arith

pub local-after : (x corner side : ℕ) → 1 ≤ side → corner + side ≤ x + 1 → local x corner side ≡ side - 1
unfolding local
local-after x corner side h g = omega arith

module _ (c : Config) (s : Stores) (r : Record) (plain : c.outlines ≡ false) where
  plain-read : (x y column row : ℕ) → column ≡ local x r.frame.x r.frame.w → row ≡ local y r.frame.y r.frame.h
      → frame_pixel c s r x y ≡ box_pixel r.turn s (image_of r) (box_of r) column row
  plain-read x y column row p q = frame_read c s r x y (on_outline r.frame x y) refl (and_no_left _ _ plain) column row p q

  module _ (i j : ℕ) (column : i < r.frame.w) (row : j < r.frame.h) where
    own_read : frame_pixel c s r (r.frame.x + i) (r.frame.y + j) ≡ box_pixel r.turn s (image_of r) (box_of r) i j
    own_read = plain-read _ _ i j (sym (local_own i r.frame.x r.frame.w column)) (sym (local_own j r.frame.y r.frame.h row))

    pub upright_own : r.turn ≡ Upright → frame_pixel c s r (r.frame.x + i) (r.frame.y + j) ≡ pixel_in s (image_of r) (r.source.x + i) (r.source.y + j)
    unfolding box_pixel upright_pixel box_of
    upright_own t = own_read ∙ ap (λ (u : Turn). box_pixel u s (image_of r) (box_of r) i j) t

    pub turned_own : r.turn ≡ Turned → frame_pixel c s r (r.frame.x + i) (r.frame.y + j) ≡ pixel_in s (image_of r) (r.source.x + j) (r.source.y + (r.frame.w - i - 1))
    unfolding box_pixel turned_pixel turned_point upright_pixel box_of lying size_of
    turned_own t =
        own_read
        ∙ ap (λ (u : Turn). box_pixel u s (image_of r) (box_of r) i j) t
        ∙ ap (λ (u : Turn). pixel_in s (image_of r) (r.source.x + j) (r.source.y + ((lying u (size_of r.frame)).h - i - 1))) t
