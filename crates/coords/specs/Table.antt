-- Lines of our own against wrong readings of coordinates: beside each computed list stands what it must be. Insets and answers are f32, by
-- their bits.
-- Assumes nothing.
use Rattle.std.specs.Prelude.{ℕ, Bool, true, false, List, [], ◌∷◌, ◌++◌}
use Rattle.std.specs.Float.{binary32}
use Rattle.std.specs.Float.Ieee.{of_bits}
use Rattle.geometry.specs.declared.rect.Rect.{Rect}
use Rattle.geometry.specs.declared.spot.Turn.TheVariants.{Upright, Turned}
use Rattle.art.specs.declared.memory_rgba8_texture.Store.TheVariants.{Symbols}
use Rattle.records.specs.Samples.{settings, rect, source, made, laid}
use Rattle.records.specs.declared.frame.Record.{Record}
use Rattle.records.specs.declared.layout.Layout.{Layout}
use Rattle.coords.specs.Coordinates.{located, located_numbers}
use Rattle.coords.specs.declared.locate.Request.{Request}
use Rattle.coords.specs.declared.locate.Request.TheVariants.{Pixels, Edges, Inset}

-- what is computed, and what it must be
abbrev pub Line : Type 0
Line = List ℕ × List ℕ

-- ## layouts

-- a key, a page and a frame, of an image of the frame's size
unfoldable pub stands : ℕ → ℕ → Rect → Record
stands key page frame = made key page frame Upright false (source 0 0 frame.w frame.h) Symbols 0

-- one image, its key 7, on a page of 8x9 with border b, not forced or forced
unfoldable pub alone : ℕ → Bool → Rect → Layout
alone b forced frame = laid (settings 8 9 0 b 0 1 1 false false false forced) 1 (stands 7 0 frame ∷ [])

-- some images on two pages, without border
unfoldable pub several : ℕ → List Record → Layout
several count rs = laid (settings 64 64 0 0 0 2 8 false false false false) count rs

-- ## answers

unfoldable pub answer : Layout → ℕ → Request → List ℕ
answer l key q = located_numbers (located l (record { 0 = key }) q)

unfoldable pub inset : ℕ → Request
inset bits = Inset (of_bits binary32 bits)

unfoldable pub frame_is : ℕ → ℕ → ℕ → ℕ → List ℕ
frame_is x y w h = 0 ∷ 0 ∷ x ∷ y ∷ w ∷ h ∷ []

unfoldable pub numbers_are : ℕ → ℕ → ℕ → ℕ → List ℕ
numbers_are left top right bottom = 0 ∷ 1 ∷ left ∷ top ∷ right ∷ bottom ∷ []

-- ## sides of 8 and 4: nothing is rounded

unfoldable pub on_eight : Layout
on_eight = alone 0 false (rect 3 1 5 3)

unfoldable pub edge_lines : List Line
edge_lines =
    (answer on_eight 7 Pixels, frame_is 3 1 5 3)
    -- 0.375 and 1; 0.25 and 1
    ∷ (answer on_eight 7 Edges, numbers_are 1052770304 1048576000 1065353216 1065353216)
    -- inset 0.5: 0.4375 and 0.9375; 0.375 and 0.875
    ∷ (answer on_eight 7 (inset 1056964608), numbers_are 1054867456 1052770304 1064304640 1063256064)
    ∷ []

-- ## which insets pass

unfoldable pub inset_lines : List Line
inset_lines =
    -- 0, -0 and the smallest positive number: the edges
    (answer on_eight 7 (inset 0), numbers_are 1052770304 1048576000 1065353216 1065353216)
    ∷ (answer on_eight 7 (inset 2147483648), numbers_are 1052770304 1048576000 1065353216 1065353216)
    ∷ (answer on_eight 7 (inset 1), numbers_are 1052770304 1048576000 1065353216 1065353216)
    -- the smallest number above 0.5, the greatest below 0, -0.25, 1
    ∷ (answer on_eight 7 (inset 1056964609), 17 ∷ [])
    ∷ (answer on_eight 7 (inset 2147483649), 17 ∷ [])
    ∷ (answer on_eight 7 (inset 3196059648), 17 ∷ [])
    ∷ (answer on_eight 7 (inset 1065353216), 17 ∷ [])
    -- both infinities, NaN of either sign
    ∷ (answer on_eight 7 (inset 2139095040), 17 ∷ [])
    ∷ (answer on_eight 7 (inset 4286578688), 17 ∷ [])
    ∷ (answer on_eight 7 (inset 2143289344), 17 ∷ [])
    ∷ (answer on_eight 7 (inset 4290772993), 17 ∷ [])
    ∷ []

-- ## each operation rounded once, in that order; W across, H down

-- page 6x5
unfoldable pub sixth : Layout
sixth = alone 0 false (rect 2 1 4 4)

-- as far right and as far down as a frame can end, page 6271x6271
unfoldable pub furthest : Layout
furthest =
    laid (settings 4096 4096 0 64 0 1 1 false false false false) 1 (stands 7 0 (rect 4159 4159 2048 2048) ∷ [])

unfoldable pub round_lines : List Line
round_lines =
    (answer sixth 7 Edges, numbers_are 1051372203 1045220557 1065353216 1065353216)
    -- here x+(w-i) gives another right and bottom
    ∷ (answer sixth 7 (inset 1049807157), numbers_are 1052975497 1048822231 1064551569 1064391240)
    -- here one rounding for both operations, or two quotients, give four other numbers
    ∷ (answer sixth 7 (inset 1041399634), numbers_are 1052172273 1047140726 1064953180 1064873173)
    ∷ (answer furthest 7 Edges, numbers_are 1059702844 1059702844 1065181993 1065181993)
    ∷ (answer furthest 7 (inset 1056964608), numbers_are 1059704182 1059704182 1065180655 1065180655)
    ∷ []

-- ## the frame past the page, at both edges and at each alone

unfoldable pub past_maxima : Bool → Layout
past_maxima forced = alone 2 forced (rect 2 2 8 8)

unfoldable pub past_lines : List Line
past_lines =
    (answer (past_maxima false) 7 Edges, numbers_are 1042983595 1042983595 1062557013 1062557013)
    ∷ (answer (past_maxima true) 7 Edges, 16 ∷ [])
    ∷ (answer (past_maxima true) 7 (inset 1056964608), 16 ∷ [])
    -- not asked for pixel answers
    ∷ (answer (past_maxima true) 7 Pixels, frame_is 2 2 8 8)
    -- only the right edge, only the bottom edge
    ∷ (answer (alone 0 true (rect 1 0 8 9)) 7 Edges, 16 ∷ [])
    ∷ (answer (alone 0 true (rect 0 1 8 9)) 7 Edges, 16 ∷ [])
    ∷ (answer (alone 0 true (rect 1 0 8 9)) 7 (inset 1056964608), 16 ∷ [])
    ∷ (answer (alone 0 true (rect 0 1 8 9)) 7 Pixels, frame_is 0 1 8 9)
    -- a frame that ends at both edges is not past them
    ∷ (answer (alone 0 true (rect 0 0 8 9)) 7 Edges, numbers_are 0 0 1065353216 1065353216)
    ∷ (answer (alone 0 true (rect 3 4 5 5)) 7 Edges, numbers_are 1052770304 1055100473 1065353216 1065353216)
    -- the border is part of the page: 1 to 3 of 4
    ∷ (answer (alone 1 false (rect 1 1 2 2)) 7 Edges, numbers_are 1048576000 1048576000 1061158912 1061158912)
    ∷ []

-- ## the order 2 15 17 16

unfoldable pub unformed : Layout
unformed = alone 0 true (rect 1 5000 8 9)

unfoldable pub order_lines : List Line
order_lines =
    -- a layout that is not well-formed, whatever is asked
    (answer unformed 7 Pixels, 2 ∷ [])
    ∷ (answer unformed 7 Edges, 2 ∷ [])
    ∷ (answer unformed 9 (inset 2143289344), 2 ∷ [])
    -- no such key, asked before the inset
    ∷ (answer on_eight 9 Pixels, 15 ∷ [])
    ∷ (answer on_eight 9 Edges, 15 ∷ [])
    ∷ (answer on_eight 9 (inset 2143289344), 15 ∷ [])
    -- the inset, asked before the frame
    ∷ (answer (past_maxima true) 7 (inset 2143289344), 17 ∷ [])
    ∷ (answer (past_maxima true) 7 (inset 1056964609), 17 ∷ [])
    ∷ []

-- ## which record, and which page

unfoldable pub mixed : Layout
mixed =
    several 5
    (stands 7 0 (rect 0 0 2 2)
    ∷ stands 9 1 (rect 1 0 3 8)
    ∷ stands 7 0 (rect 2 0 6 2)
    ∷ stands 9 0 (rect 0 2 8 2)
    ∷ made 4 1 (rect 0 4 2 4) Turned false (source 0 0 4 2) Symbols 0
    ∷ [])

unfoldable pub key_lines : List Line
key_lines =
    -- the earliest record that has the key; page 0 is 8x4
    (answer mixed 7 Pixels, frame_is 0 0 2 2)
    ∷ (answer mixed 7 Edges, numbers_are 0 0 1048576000 1056964608)
    -- of its own page: page 1 is 4x8
    ∷ (answer mixed 9 Pixels, frame_is 1 0 3 8)
    ∷ (answer mixed 9 Edges, numbers_are 1048576000 0 1065353216 1065353216)
    -- a turned image by its frame
    ∷ (answer mixed 4 Pixels, frame_is 0 4 2 4)
    ∷ (answer mixed 4 Edges, numbers_are 0 1056964608 1056964608 1065353216)
    -- the blank record's key stands nowhere, and names a record that has it
    ∷ (answer mixed 0 Pixels, 15 ∷ [])
    ∷ (answer (several 0 []) 0 Edges, 15 ∷ [])
    ∷ (answer (several 1 (stands 0 0 (rect 0 0 2 2) ∷ [])) 0 Edges, numbers_are 0 0 1065353216 1065353216)
    ∷ []

unfoldable pub table : List Line
table = edge_lines ++ inset_lines ++ round_lines ++ past_lines ++ order_lines ++ key_lines
