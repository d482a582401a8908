-- Coordinates: the row's checks, left to right, and the answer where none holds; and the numbers and values of each answer.
-- Assumes nothing.
use Rattle.std.specs.Prelude.{ℕ, ◌+◌, Bool, false, not, Result, Ok, ◌&&◌, ◌||◌, List, [], ◌∷◌, ltb, pos, negsuc, Float, Err, Ok}
use Rattle.std.proofs.Math.Option.{Option, none, some}
use Rattle.std.specs.Float.{fin, binary32}
use Rattle.std.specs.Float.Ieee.{add, sub, div, le, of_int, to_bits}
use Rattle.geometry.specs.Words.{any}
use Rattle.geometry.specs.declared.rect.Rect.{Rect}
use Rattle.geometry.specs.declared.rect.Size.{Size}
use Rattle.records.specs.Refusals.{number_of, Row, first_refusal}
use Rattle.records.specs.Layouts.{standing, well_formed, has_key, size_of_page, record_named}
use Rattle.records.specs.declared.frame.Key.{Key}
use Rattle.records.specs.declared.layout.Layout.{Layout}
use Rattle.records.specs.declared.refusal.Refusal.{Refusal}
use Rattle.records.specs.declared.refusal.Refusal.TheVariants.{NotWellFormed, NoSuchKey, BadInset, PastPage}
use Rattle.coords.specs.declared.locate.Corners.{Corners}
use Rattle.coords.specs.declared.locate.Request.{Request}
use Rattle.coords.specs.declared.locate.Position.{Position}
use Rattle.coords.specs.declared.locate.Position.TheVariants.{Pixels, Texels}
use Rattle.coords.specs.declared.locate.Request.TheVariants.{Pixels as AskPixels, Edges, Inset}

-- ## four f32 numbers, each operation rounded once

abbrev pub nought : Float
nought = fin false 0 (pos 0)

abbrev pub half : Float
half = fin false 1 (negsuc 0)

-- a whole number as an f32
abbrev pub num : ℕ → Float
num n = of_int binary32 (pos n)

-- left (x+i)/W, top (y+i)/H
abbrev pub low_edge : ℕ → Float → ℕ → Float
low_edge at i side = div binary32 (add binary32 (num at) i) (num side)

-- right ((x+w)-i)/W, bottom ((y+h)-i)/H: x+w and y+h are whole numbers
abbrev pub high_edge : ℕ → Float → ℕ → Float
high_edge at i side = div binary32 (sub binary32 (num at) i) (num side)

unfoldable pub corners : Rect → Size → Float → Corners
corners f s i =
    record {
      left = low_edge f.x i s.w;
      top = low_edge f.y i s.h;
      right = high_edge (f.x + f.w) i s.w;
      bottom = high_edge (f.y + f.h) i s.h;
    }

-- ## coordinates: 2 15 17 16

-- the size of the page that the named record is on
unfoldable pub named_page_size : Layout → Key → Size
named_page_size l k = size_of_page l (record_named l k).page

-- between 0 and 0.5: either end is, a NaN is not
unfoldable pub between : Float → Bool
between i = le nought i && le i half

-- 17: inset not between 0 and 0.5, NaN included
abbrev pub bad_inset : Request → Bool
bad_inset AskPixels = false
bad_inset Edges = false
bad_inset (Inset i) = not (between i)

-- 16: frame past the page's right or bottom edge (not asked for pixel answers)
unfoldable pub past_edge : Rect → Size → Bool
past_edge f s = ltb s.w (f.x + f.w) || ltb s.h (f.y + f.h)

abbrev pub out_of_page : Request → Rect → Size → Bool
out_of_page AskPixels f s = false
out_of_page Edges f s = past_edge f s
out_of_page (Inset i) f s = past_edge f s

unfoldable pub locate_row : Layout → Key → Request → Row
locate_row l k q =
    (not (well_formed l), NotWellFormed)
    ∷ (not (any (has_key k) (standing l)), NoSuchKey)
    ∷ (bad_inset q, BadInset)
    ∷ (out_of_page q (record_named l k).frame (named_page_size l k), PastPage)
    ∷ []

unfoldable pub locate_refusal : Layout → Key → Request → Option Refusal
locate_refusal l k q = first_refusal (locate_row l k q)

-- pixels answer the frame; the others four f32 numbers, with i = 0 at edges
abbrev pub wanted : Request → Rect → Size → Position
wanted AskPixels f s = Pixels f
wanted Edges f s = Texels (corners f s nought)
wanted (Inset i) f s = Texels (corners f s i)

abbrev pub Located : Type 0
Located = Result Position Refusal

abbrev pub locate_answer : Position → Option Refusal → Located
locate_answer a none = Ok a
locate_answer a (some r) = Err r

unfoldable pub located : Layout → Key → Request → Located
located l k q = locate_answer (wanted q (record_named l k).frame (named_page_size l k)) (locate_refusal l k q)

-- the four numbers by their bits
abbrev pub located_numbers : Located → List ℕ
located_numbers (Ok (Pixels f)) = 0 ∷ 0 ∷ f.x ∷ f.y ∷ f.w ∷ f.h ∷ []
located_numbers (Ok (Texels c)) =
    0
    ∷ 1
    ∷ to_bits binary32 c.left
    ∷ to_bits binary32 c.top
    ∷ to_bits binary32 c.right
    ∷ to_bits binary32 c.bottom
    ∷ []
located_numbers (Err r) = number_of r ∷ []
