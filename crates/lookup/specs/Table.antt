-- Lines of our own against wrong readings of pixel and of the row of an image: beside each list of computed answers stands what they must
-- be. Examples 7 and 8 of document 01 stand elsewhere.
-- Assumes nothing.
use Rattle.std.specs.Prelude.{ℕ, Bool, true, false, List, [], ◌∷◌, ◌++◌}
use Rattle.geometry.specs.declared.spot.Turn.TheVariants.{Upright, Turned}
use Rattle.art.specs.declared.memory_rgba8_texture.Store.TheVariants.{Symbols, Wording}
use Rattle.records.specs.Samples.{settings, limits, rect, source, made, laid}
use Rattle.records.specs.declared.frame.Record.{Record}
use Rattle.records.specs.declared.layout.Layout.{Layout}
use Rattle.lookup.specs.TableWords.{Line, counting, standing_in, whole, at, across, shown, outlined, nothing, refused, row, handed, refused_row}

-- ## two stores, and whose bytes are asked for

-- a symbol image on page 0, which ends at byte 20; on page 1 a wording image, which ends at byte 17, and a symbol image, which ends at 8
unfoldable pub both_stores : Layout
both_stores =
    standing_in (limits 16 16 0 0 0 3 4)
    (whole 7 0 0 0 2 2 Symbols 4 ∷ whole 9 1 0 0 2 2 Wording 1 ∷ whole 8 1 3 0 1 2 Symbols 0 ∷ [])

unfoldable pub store_lines : List Line
store_lines =
    (across both_stores (counting 20 17) 0 0 3, shown 4 ∷ shown 8 ∷ nothing ∷ [])
    ∷ (across both_stores (counting 20 17) 0 1 3, shown 12 ∷ shown 16 ∷ nothing ∷ [])
    ∷ (across both_stores (counting 20 17) 1 1 4, shown 109 ∷ shown 113 ∷ nothing ∷ shown 4 ∷ [])
    -- the symbol store one byte short: of no concern to page 1
    ∷ (
      at both_stores (counting 19 17) 0 0 0 ∷ at both_stores (counting 19 17) 1 0 0 ∷ [],
      refused 5 ∷ shown 101 ∷ [],
    )
    -- the wording store one byte short: page 1 answers 5 for every pixel, also that of the symbol image, and where there is none
    ∷ (
      at both_stores (counting 20 16) 0 0 0 ∷ across both_stores (counting 20 16) 1 0 4,
      shown 4 ∷ refused 5 ∷ refused 5 ∷ refused 5 ∷ refused 5 ∷ [],
    )
    -- the last image on the page is asked too
    ∷ (at both_stores (counting 7 17) 1 0 0 ∷ at both_stores (counting 8 17) 1 0 0 ∷ [], refused 5 ∷ shown 101 ∷ [])
    ∷ []

unfoldable pub row_lines : List Line
row_lines =
    (row both_stores (counting 20 17) 7 0, handed Symbols 4 8 4)
    ∷ (row both_stores (counting 20 17) 7 1, handed Symbols 12 8 12)
    ∷ (row both_stores (counting 20 17) 7 2, refused_row 13)
    ∷ (row both_stores (counting 20 17) 9 0, handed Wording 1 8 101)
    ∷ (row both_stores (counting 20 17) 9 1, handed Wording 9 8 109)
    ∷ (row both_stores (counting 20 17) 9 2, refused_row 13)
    ∷ (row both_stores (counting 20 17) 8 1, handed Symbols 4 4 4)
    ∷ (row both_stores (counting 20 17) 6 0, refused_row 15)
    -- the symbol store one byte short: 15 and 13 come before 5, 5 is asked of the whole image and of no other
    ∷ (row both_stores (counting 19 17) 7 0, refused_row 5)
    ∷ (row both_stores (counting 19 17) 7 1, refused_row 5)
    ∷ (row both_stores (counting 19 17) 7 2, refused_row 13)
    ∷ (row both_stores (counting 19 17) 6 2, refused_row 15)
    ∷ (row both_stores (counting 19 17) 9 1, handed Wording 9 8 109)
    ∷ (row both_stores (counting 19 17) 8 0, handed Symbols 0 4 0)
    -- the wording store one byte short
    ∷ (row both_stores (counting 20 16) 9 0, refused_row 5)
    ∷ (row both_stores (counting 20 16) 9 4294967295, refused_row 13)
    ∷ (row both_stores (counting 20 16) 7 1, handed Symbols 12 8 12)
    ∷ []

-- ## the trim box: 4x5 art in the wording store at byte 3, its box 2x3 at (2,1); b=e=1. The art's pixel (x, y) counts from 103+16y+4x on

unfoldable pub trimmed : Record → Layout
trimmed r = standing_in (settings 16 16 0 1 1 1 1 true true false false) (r ∷ [])

unfoldable pub turned_art : Record
turned_art = made 7 0 (rect 1 1 3 2) Turned true (source 2 1 4 5) Wording 3

unfoldable pub upright_art : Record
upright_art = made 7 0 (rect 1 1 2 3) Upright true (source 2 1 4 5) Wording 3

unfoldable pub trim_lines : List Line
trim_lines =
    (across (trimmed turned_art) (counting 0 83) 0 0 6, shown 159 ∷ shown 159 ∷ shown 143 ∷ shown 127 ∷ shown 127 ∷ nothing ∷ [])
    ∷ (across (trimmed turned_art) (counting 0 83) 0 1 6, shown 159 ∷ shown 159 ∷ shown 143 ∷ shown 127 ∷ shown 127 ∷ nothing ∷ [])
    ∷ (across (trimmed turned_art) (counting 0 83) 0 2 6, shown 163 ∷ shown 163 ∷ shown 147 ∷ shown 131 ∷ shown 131 ∷ nothing ∷ [])
    ∷ (across (trimmed turned_art) (counting 0 83) 0 3 6, shown 163 ∷ shown 163 ∷ shown 147 ∷ shown 131 ∷ shown 131 ∷ nothing ∷ [])
    ∷ (across (trimmed turned_art) (counting 0 83) 0 4 2, nothing ∷ nothing ∷ [])
    ∷ (across (trimmed upright_art) (counting 0 83) 0 1 5, shown 127 ∷ shown 127 ∷ shown 131 ∷ shown 131 ∷ nothing ∷ [])
    ∷ (across (trimmed upright_art) (counting 0 83) 0 4 5, shown 159 ∷ shown 159 ∷ shown 163 ∷ shown 163 ∷ nothing ∷ [])
    -- the whole rows, untrimmed and not turned; the frame's height is 2
    ∷ (row (trimmed turned_art) (counting 0 83) 7 0, handed Wording 3 16 103)
    ∷ (row (trimmed turned_art) (counting 0 83) 7 2, handed Wording 35 16 135)
    ∷ (row (trimmed turned_art) (counting 0 83) 7 4, handed Wording 67 16 167)
    ∷ (row (trimmed turned_art) (counting 0 83) 7 5, refused_row 13)
    -- the box lies in the store, the whole image does not
    ∷ (row (trimmed turned_art) (counting 0 82) 7 0, refused_row 5)
    ∷ (at (trimmed turned_art) (counting 0 82) 0 1 1 ∷ [], refused 5 ∷ [])
    -- read turned with rotation off too
    ∷ (
      at (standing_in (settings 16 16 0 1 1 1 1 false true false false) (turned_art ∷ [])) (counting 0 83) 0 3 2 ∷ [],
      shown 131 ∷ [],
    )
    ∷ []

-- ## outlines: 3x3 at (1,1), b=e=1; the image's pixel (x, y) counts from 12y+4x on

unfoldable pub framed : Bool → Layout
framed outlines = standing_in (settings 16 16 0 1 1 1 1 false false outlines false) (whole 7 0 1 1 3 3 Symbols 0 ∷ [])

unfoldable pub outline_lines : List Line
outline_lines =
    (across (framed true) (counting 36 0) 0 0 6, shown 0 ∷ outlined ∷ shown 4 ∷ outlined ∷ shown 8 ∷ nothing ∷ [])
    ∷ (across (framed true) (counting 36 0) 0 1 6, outlined ∷ outlined ∷ outlined ∷ outlined ∷ outlined ∷ nothing ∷ [])
    ∷ (across (framed true) (counting 36 0) 0 2 6, shown 12 ∷ outlined ∷ shown 16 ∷ outlined ∷ shown 20 ∷ nothing ∷ [])
    ∷ (across (framed true) (counting 36 0) 0 3 6, outlined ∷ outlined ∷ outlined ∷ outlined ∷ outlined ∷ nothing ∷ [])
    ∷ (across (framed true) (counting 36 0) 0 4 6, shown 24 ∷ outlined ∷ shown 28 ∷ outlined ∷ shown 32 ∷ nothing ∷ [])
    ∷ (across (framed true) (counting 36 0) 0 5 2, nothing ∷ nothing ∷ [])
    ∷ (across (framed false) (counting 36 0) 0 1 6, shown 0 ∷ shown 0 ∷ shown 4 ∷ shown 8 ∷ shown 8 ∷ nothing ∷ [])
    -- 5 comes first, also where the pixel would be red
    ∷ (at (framed true) (counting 35 0) 0 1 1 ∷ [], refused 5 ∷ [])
    ∷ []

-- ## zones: where they begin and end, which frame wins, other pages

-- e=2, b=0: 3x1 at (x, y)
unfoldable pub extruded : ℕ → ℕ → Layout
extruded x y = standing_in (limits 16 16 0 0 2 1 1) (whole 7 0 x y 3 1 Symbols 0 ∷ [])

-- two images of 3x2 on page 0 share columns 2 and 3; a third, on page 1, lies where the first does
unfoldable pub shared : Record → Record → Layout
shared r q = standing_in (limits 16 16 0 0 0 2 3) (r ∷ q ∷ whole 3 1 0 0 3 2 Symbols 48 ∷ [])

unfoldable pub left : Record
left = whole 1 0 0 0 4 2 Symbols 0

unfoldable pub right : Record
right = whole 2 0 2 0 4 2 Symbols 32

-- nothing stands on page 0
unfoldable pub empty_first : Layout
empty_first = standing_in (limits 16 16 0 0 0 8 3) (whole 7 1 0 0 2 2 Symbols 0 ∷ [])

unfoldable pub zone_lines : List Line
zone_lines =
    -- at (0,0) the page is 3x1, and its zone, of full width and height, is 7x5: past the page's edge
    (
      across (extruded 0 0) (counting 12 0) 0 0 8,
      shown 0 ∷ shown 4 ∷ shown 8 ∷ shown 8 ∷ shown 8 ∷ shown 8 ∷ shown 8 ∷ nothing ∷ [],
    )
    ∷ (across (extruded 0 0) (counting 12 0) 0 4 2, shown 0 ∷ shown 4 ∷ [])
    ∷ (at (extruded 0 0) (counting 12 0) 0 6 4 ∷ at (extruded 0 0) (counting 12 0) 0 0 5 ∷ [], shown 8 ∷ nothing ∷ [])
    ∷ (at (extruded 0 0) (counting 12 0) 0 4294967295 4294967295 ∷ [], nothing ∷ [])
    -- at (1,3) it begins at (0,1), one column late, and still is 7 wide
    ∷ (
      across (extruded 1 3) (counting 12 0) 0 1 8,
      shown 0 ∷ shown 0 ∷ shown 4 ∷ shown 8 ∷ shown 8 ∷ shown 8 ∷ shown 8 ∷ nothing ∷ [],
    )
    ∷ (at (extruded 1 3) (counting 12 0) 0 0 0 ∷ at (extruded 1 3) (counting 12 0) 0 0 5 ∷ at (extruded 1 3) (counting 12 0) 0 0 6 ∷ [], nothing ∷ shown 0 ∷ nothing ∷ [])
    -- the earliest wins
    ∷ (
      across (shared left right) (counting 72 0) 0 0 7,
      shown 0 ∷ shown 4 ∷ shown 8 ∷ shown 12 ∷ shown 40 ∷ shown 44 ∷ nothing ∷ [],
    )
    ∷ (
      across (shared right left) (counting 72 0) 0 0 7,
      shown 0 ∷ shown 4 ∷ shown 32 ∷ shown 36 ∷ shown 40 ∷ shown 44 ∷ nothing ∷ [],
    )
    -- another page's frames show nothing
    ∷ (across (shared left right) (counting 72 0) 1 0 5, shown 48 ∷ shown 52 ∷ shown 56 ∷ nothing ∷ nothing ∷ [])
    -- an empty page below the count has no pixel, and no image there runs past its store
    ∷ (
      at empty_first (counting 16 0) 0 0 0 ∷ at empty_first (counting 0 0) 0 0 0 ∷ at empty_first (counting 16 0) 1 0 0 ∷ at empty_first (counting 0 0) 1 0 0 ∷ [],
      nothing ∷ nothing ∷ shown 0 ∷ refused 5 ∷ [],
    )
    ∷ []

-- ## refusals in order

-- the image limit is passed
unfoldable pub unformed : Layout
unformed = laid (limits 16 16 0 0 0 1 1) 2 (whole 7 0 0 0 2 2 Symbols 0 ∷ whole 8 0 2 0 2 2 Symbols 0 ∷ [])

-- key 7 twice
unfoldable pub repeated : Layout
repeated = standing_in (limits 16 16 0 0 0 1 3) (whole 5 0 4 0 1 1 Symbols 0 ∷ whole 7 0 0 0 2 2 Symbols 4 ∷ whole 7 0 2 0 1 4 Symbols 20 ∷ [])

unfoldable pub order_lines : List Line
order_lines =
    -- 2 before 11, 11 before 5
    (at unformed (counting 16 0) 0 0 0 ∷ at unformed (counting 0 0) 0 0 0 ∷ at unformed (counting 0 0) 9 0 0 ∷ [], refused 2 ∷ refused 2 ∷ refused 2 ∷ [])
    ∷ (at both_stores (counting 20 17) 2 0 0 ∷ at both_stores (counting 0 0) 2 0 0 ∷ at both_stores (counting 0 0) 4294967295 0 0 ∷ [], refused 11 ∷ refused 11 ∷ refused 11 ∷ [])
    ∷ (at both_stores (counting 0 0) 1 0 0 ∷ [], refused 5 ∷ [])
    ∷ (at (standing_in (limits 16 16 0 0 0 8 3) []) (counting 20 17) 0 0 0 ∷ [], refused 11 ∷ [])
    -- 2 before 15, 13 and 5
    ∷ (row unformed (counting 16 0) 7 0, refused_row 2)
    ∷ (row unformed (counting 0 0) 6 9, refused_row 2)
    -- 13 is asked of the image that the key names, which is the earliest
    ∷ (row repeated (counting 36 0) 7 1, handed Symbols 12 8 12)
    ∷ (row repeated (counting 36 0) 7 2, refused_row 13)
    ∷ (row repeated (counting 20 0) 7 1, handed Symbols 12 8 12)
    ∷ (row repeated (counting 36 0) 5 0, handed Symbols 0 4 0)
    ∷ []

unfoldable pub table : List Line
table = store_lines ++ row_lines ++ trim_lines ++ outline_lines ++ zone_lines ++ order_lines
