use mathlib.Core.Path.{◌≡◌, refl, ap, ◌∙◌}
use mathlib.Core.Bool.{Bool, true, false, ◌&&◌}
use lib.Dec.{eqb}
use Rattle.geometry.specs.Words.{all_of}
use Rattle.art.specs.declared.memory_rgba8_texture.Pixel.{Pixel}
use Rattle.compose.specs.Checking.{same_pixel}
use Rattle.compose.proofs.checking.same_pixel.Goals as goal

last : (b : Bool) → b ≡ (b && true)
last true = refl
last false = refl

-- pixels are equal where each byte agrees
each : (k j : Pixel) → (eqb k.r j.r && (eqb k.g j.g && (eqb k.b j.b && eqb k.a j.a))) ≡ same_pixel k j
unfolding same_pixel all_of
each k j = ap (λ (b : Bool). eqb k.r j.r && (eqb k.g j.g && (eqb k.b j.b && b))) (last (eqb k.a j.a))

pub returns : goal.returns
returns c = rw (← c.pixel_from.ensures, ← c.pixel_from-2.ensures) (c.eq.ensures ∙ each c.pixel_from.result c.pixel_from-2.result)
