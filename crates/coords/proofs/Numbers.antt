-- The numbers and values of an answer tell it from every other: by their bits, which tell two f32 apart. Assumes nothing.
use Rattle.std.specs.Prelude.{Err, Ok}
use mathlib.Core.Path.{◌≡◌, sym, ap, ◌∙◌}
use mathlib.Core.Option.{Option, none, some}
use lib.Dec.{T}
use lib.Ieee.{Float, binary32, add, sub, fits, of_bits, to_bits}
use lib.Ieee.Bits.{of_bits-to_bits}
use lib.Ieee.Fits.{div-fits}
use Rattle.geometry.specs.declared.rect.Rect.{Rect}
use Rattle.geometry.specs.declared.rect.Size.{Size}
use Rattle.records.specs.Refusals.{number_of}
use Rattle.records.specs.declared.frame.Key.{Key}
use Rattle.records.specs.declared.layout.Layout.{Layout}
use Rattle.records.specs.declared.refusal.Refusal.{Refusal}
use Rattle.records.proofs.Theorems.{number_tells, number-some}
use Rattle.records.specs.Layouts.{record_named}
use Rattle.coords.specs.Coordinates.{Located, num, corners, named_page_size, wanted, locate_refusal, locate_answer, located, located_numbers}
use Rattle.coords.specs.declared.locate.Corners.{Corners}
use Rattle.coords.specs.declared.locate.Request.{Request}
use Rattle.coords.specs.declared.locate.Position.TheVariants.{Pixels, Texels}
use Rattle.coords.specs.declared.locate.Request.TheVariants.{Pixels as AskPixels, Edges, Inset}

-- ## an answer's floats are f32, as every float of its type is

pub record AreF32 (c : Corners) : Type 0 where
  pub left : T (fits binary32 c.left)
  pub top : T (fits binary32 c.top)
  pub right : T (fits binary32 c.right)
  pub bottom : T (fits binary32 c.bottom)

abbrev pub HoldsF32 : Located → Type 0
HoldsF32 (Ok (Pixels f)) = Unit {0}
HoldsF32 (Ok (Texels c)) = AreF32 c
HoldsF32 (Err r) = Unit {0}

corners_f32 : (f : Rect) (s : Size) (i : Float) → AreF32 (corners f s i)
unfolding corners
corners_f32 f s i = record {
  left = div-fits binary32 (add binary32 (num f.x) i) (num s.w);
  top = div-fits binary32 (add binary32 (num f.y) i) (num s.h);
  right = div-fits binary32 (sub binary32 (num _) i) (num s.w);
  bottom = div-fits binary32 (sub binary32 (num _) i) (num s.h);
}

wanted_f32 : (q : Request) (f : Rect) (s : Size) (o : Option Refusal) → HoldsF32 (locate_answer (wanted q f s) o)
wanted_f32 q f s (some r) = tt
wanted_f32 AskPixels f s none = tt
wanted_f32 Edges f s none = corners_f32 f s _
wanted_f32 (Inset i) f s none = corners_f32 f s i

pub located_f32 : (l : Layout) (k : Key) (q : Request) → HoldsF32 (located l k q)
unfolding located
located_f32 l k q = wanted_f32 q (record_named l k).frame (named_page_size l k) (locate_refusal l k q)

-- ## one answer for each list of numbers

bits_tell : (x y : Float) → T (fits binary32 x) → T (fits binary32 y) → to_bits binary32 x ≡ to_bits binary32 y → x ≡ y
bits_tell x y p q e = sym (of_bits-to_bits binary32 x p) ∙ ap (of_bits binary32) e ∙ of_bits-to_bits binary32 y q

pub located_tells : (a b : Located) → HoldsF32 a → HoldsF32 b → located_numbers a ≡ located_numbers b → a ≡ b
located_tells (Ok (Pixels f)) (Ok (Pixels g)) p q e =
    let x : f.x ≡ g.x = cc in
    let y : f.y ≡ g.y = cc in
    let w : f.w ≡ g.w = cc in
    let h : f.h ≡ g.h = cc in
    λ i. Ok (Pixels (record { x = x i; y = y i; w = w i; h = h i }))
located_tells (Ok (Pixels f)) (Ok (Texels c)) p q e = absurd cc
located_tells (Ok (Pixels f)) (Err r) p q e = let z : number_of r ≡ 0 = cc in absurd (number-some r z)
located_tells (Ok (Texels c)) (Ok (Pixels f)) p q e = absurd cc
located_tells (Ok (Texels c)) (Ok (Texels d)) p q e =
    let left = bits_tell c.left d.left p.left q.left (cc) in
    let top = bits_tell c.top d.top p.top q.top (cc) in
    let right = bits_tell c.right d.right p.right q.right (cc) in
    let bottom = bits_tell c.bottom d.bottom p.bottom q.bottom (cc) in
    λ i. Ok (Texels (record { left = left i; top = top i; right = right i; bottom = bottom i }))
located_tells (Ok (Texels c)) (Err r) p q e = let z : number_of r ≡ 0 = cc in absurd (number-some r z)
located_tells (Err r) (Ok (Pixels f)) p q e = let z : number_of r ≡ 0 = cc in absurd (number-some r z)
located_tells (Err r) (Ok (Texels c)) p q e = let z : number_of r ≡ 0 = cc in absurd (number-some r z)
located_tells (Err r) (Err n) p q e = let z : number_of r ≡ number_of n = cc in ap Err (number_tells r n z)
