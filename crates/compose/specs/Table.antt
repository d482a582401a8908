-- Lines of our own against wrong readings of compose rows and check rows: beside each list of computed answers and buffers stands what they
-- must be. Examples 7 and 9 of document 01 stand elsewhere. `limits` and `settings` give maximum width and height, p, b, e, pages, images.
-- Assumes nothing.
use Rattle.std.specs.Prelude.{ℕ, Bool, true, false, None, List, [], ◌∷◌, ◌++◌}
use Rattle.art.specs.Stores.{holding}
use Rattle.art.specs.declared.memory_rgba8_texture.Store.TheVariants.{Symbols}
use Rattle.records.specs.Samples.{settings, limits}
use Rattle.records.specs.declared.layout.Layout.{Layout}
use Rattle.lookup.specs.TableWords.{Line, counting, standing_in, whole}
use Rattle.lookup.specs.Table.{trimmed, turned_art, upright_art, framed, extruded, shared, left, right, empty_first}
use Rattle.paint.specs.Backgrounds.{Background}
use Rattle.compose.specs.TableWords.{plain, plain_discarding, at_most, at_most_discarding, counted, opaque, ground_bytes, clear, red_bytes, composing, done, asking, refused_both}
use Rattle.compose.specs.TableChecks.{holed, order_lines, check_lines}

-- ## backgrounds

-- rows 1 to 2 of a 3x3 page; its images' alphas there are 11, 15 and 19
unfoldable pub holed_rows : Background → List (List ℕ)
holed_rows g = composing holed (counting 20 0) 0 g 1 2 24

-- 2x1, the first pixel clear, the second opaque
unfoldable pub pair : Layout
pair = standing_in (limits 16 16 0 0 0 1 1) (whole 1 0 0 0 2 1 Symbols 0 ∷ [])

unfoldable pub pair_row : Background → List (List ℕ)
pair_row g = composing pair (holding (5 ∷ 6 ∷ 7 ∷ 0 ∷ 1 ∷ 2 ∷ 3 ∷ 255 ∷ []) []) 0 g 0 1 8

unfoldable pub background_lines : List Line
background_lines =
    (holed_rows None, done (counted 8 ∷ counted 12 ∷ clear ∷ clear ∷ clear ∷ counted 16 ∷ []))
    ∷ (holed_rows plain, done (counted 8 ∷ counted 12 ∷ ground_bytes ∷ ground_bytes ∷ ground_bytes ∷ counted 16 ∷ []))
    -- without a threshold the discard switch does nothing
    ∷ (holed_rows plain_discarding, done (counted 8 ∷ counted 12 ∷ ground_bytes ∷ ground_bytes ∷ ground_bytes ∷ counted 16 ∷ []))
    -- alpha at most the threshold gives the colour; above it the pixel stays, or becomes opaque with the switch on
    ∷ (holed_rows (at_most 10), done (counted 8 ∷ counted 12 ∷ ground_bytes ∷ ground_bytes ∷ ground_bytes ∷ counted 16 ∷ []))
    ∷ (holed_rows (at_most 11), done (ground_bytes ∷ counted 12 ∷ ground_bytes ∷ ground_bytes ∷ ground_bytes ∷ counted 16 ∷ []))
    ∷ (holed_rows (at_most_discarding 14), done (ground_bytes ∷ opaque 12 ∷ ground_bytes ∷ ground_bytes ∷ ground_bytes ∷ opaque 16 ∷ []))
    ∷ (holed_rows (at_most_discarding 15), done (ground_bytes ∷ ground_bytes ∷ ground_bytes ∷ ground_bytes ∷ ground_bytes ∷ opaque 16 ∷ []))
    -- all rows, and the last alone
    ∷ (
      composing holed (counting 20 0) 0 None 0 3 36,
      done (counted 0 ∷ counted 4 ∷ clear ∷ counted 8 ∷ counted 12 ∷ clear ∷ clear ∷ clear ∷ counted 16 ∷ []),
    )
    ∷ (composing holed (counting 20 0) 0 plain 2 1 12, done (ground_bytes ∷ ground_bytes ∷ counted 16 ∷ []))
    -- alpha 0 is a pixel too: only a threshold takes it away
    ∷ (pair_row None, done ((5 ∷ 6 ∷ 7 ∷ 0 ∷ []) ∷ opaque 1 ∷ []))
    ∷ (pair_row plain_discarding, done ((5 ∷ 6 ∷ 7 ∷ 0 ∷ []) ∷ opaque 1 ∷ []))
    ∷ (pair_row (at_most 0), done (ground_bytes ∷ opaque 1 ∷ []))
    ∷ (pair_row (at_most 254), done (ground_bytes ∷ opaque 1 ∷ []))
    ∷ (pair_row (at_most_discarding 255), done (ground_bytes ∷ ground_bytes ∷ []))
    ∷ []

-- ## outlines of 3x3 at (1,1), b=e=1: the page is 5x5

unfoldable pub framed_row : Bool → Background → ℕ → List (List ℕ)
framed_row outlines g y = composing (framed outlines) (counting 36 0) 0 g y 1 20

-- 4x3 at (1,2), b=e=1: the page is 6x6
unfoldable pub oblong_row : ℕ → List (List ℕ)
oblong_row y =
    composing (standing_in (settings 16 16 0 1 1 1 1 false false true false) (whole 7 0 1 2 4 3 Symbols 0 ∷ [])) (counting 48 0) 0 plain y 1 24

unfoldable pub outline_lines : List Line
outline_lines =
    (framed_row true None 0, done (counted 0 ∷ red_bytes ∷ counted 4 ∷ red_bytes ∷ counted 8 ∷ []))
    ∷ (framed_row true None 1, done (red_bytes ∷ red_bytes ∷ red_bytes ∷ red_bytes ∷ red_bytes ∷ []))
    -- a threshold of 254 leaves them, 255 turns them into the background too
    ∷ (framed_row true (at_most 254) 0, done (ground_bytes ∷ red_bytes ∷ ground_bytes ∷ red_bytes ∷ ground_bytes ∷ []))
    ∷ (framed_row true (at_most 254) 3, done (red_bytes ∷ red_bytes ∷ red_bytes ∷ red_bytes ∷ red_bytes ∷ []))
    ∷ (framed_row true (at_most 255) 0, done (ground_bytes ∷ ground_bytes ∷ ground_bytes ∷ ground_bytes ∷ ground_bytes ∷ []))
    ∷ (framed_row true (at_most 255) 1, done (ground_bytes ∷ ground_bytes ∷ ground_bytes ∷ ground_bytes ∷ ground_bytes ∷ []))
    ∷ (framed_row true (at_most_discarding 6) 0, done (ground_bytes ∷ red_bytes ∷ opaque 4 ∷ red_bytes ∷ opaque 8 ∷ []))
    ∷ (framed_row false (at_most 6) 1, done (ground_bytes ∷ ground_bytes ∷ counted 4 ∷ counted 8 ∷ counted 8 ∷ []))
    -- x is asked of the columns, y of the rows
    ∷ (oblong_row 0, done (ground_bytes ∷ ground_bytes ∷ ground_bytes ∷ ground_bytes ∷ ground_bytes ∷ ground_bytes ∷ []))
    ∷ (oblong_row 1, done (counted 0 ∷ red_bytes ∷ counted 4 ∷ counted 8 ∷ red_bytes ∷ counted 12 ∷ []))
    ∷ (oblong_row 3, done (counted 16 ∷ red_bytes ∷ counted 20 ∷ counted 24 ∷ red_bytes ∷ counted 28 ∷ []))
    ∷ (oblong_row 4, done (red_bytes ∷ red_bytes ∷ red_bytes ∷ red_bytes ∷ red_bytes ∷ red_bytes ∷ []))
    ∷ []

-- ## the trim box: 4x5 art, its box 2x3 at (2,1), b=e=1

unfoldable pub trim_lines : List Line
trim_lines =
    -- turned, the page is 5x4: rows 0 to 2, and 1 to 2 over a background
    (
      composing (trimmed turned_art) (counting 0 83) 0 None 0 3 60,
      done
          (counted 159 ∷ counted 159 ∷ counted 143 ∷ counted 127 ∷ counted 127
          ∷ counted 159 ∷ counted 159 ∷ counted 143 ∷ counted 127 ∷ counted 127
          ∷ counted 163 ∷ counted 163 ∷ counted 147 ∷ counted 131 ∷ counted 131
          ∷ []),
    )
    ∷ (
      composing (trimmed turned_art) (counting 0 83) 0 (at_most_discarding 146) 1 2 40,
      done
          (opaque 159 ∷ opaque 159 ∷ ground_bytes ∷ ground_bytes ∷ ground_bytes
          ∷ opaque 163 ∷ opaque 163 ∷ opaque 147 ∷ ground_bytes ∷ ground_bytes
          ∷ []),
    )
    -- upright it is 4x5: rows 2 to 4
    ∷ (
      composing (trimmed upright_art) (counting 0 83) 0 plain 2 3 48,
      done
          (counted 143 ∷ counted 143 ∷ counted 147 ∷ counted 147
          ∷ counted 159 ∷ counted 159 ∷ counted 163 ∷ counted 163
          ∷ counted 159 ∷ counted 159 ∷ counted 163 ∷ counted 163
          ∷ []),
    )
    ∷ []

-- ## pages, and how large they are

-- b=e=1: page 0 is 4x3, page 1 is 3x4
unfoldable pub two_pages : Layout
two_pages = standing_in (limits 16 16 0 1 1 2 2) (whole 7 0 1 1 2 1 Symbols 0 ∷ whole 8 1 1 1 1 2 Symbols 8 ∷ [])

-- b=2, e=1: 2x1 at (3,2); the page is 7x5, and the zone, 4x3 at (2,1), leaves its edges free
unfoldable pub bordered : Layout
bordered = standing_in (limits 16 16 0 2 1 1 1) (whole 7 0 3 2 2 1 Symbols 0 ∷ [])

-- the maxima 2x3, forced: nothing on page 0, 3x3 on page 1
unfoldable pub forced_pages : Layout
forced_pages = standing_in (settings 2 3 0 0 0 8 3 false false false true) (whole 7 1 0 0 3 3 Symbols 0 ∷ [])

unfoldable pub page_lines : List Line
page_lines =
    -- all of page 0, and rows 1 to 3 of page 1
    (
      composing two_pages (counting 16 0) 0 None 0 3 48,
      done
          (counted 0 ∷ counted 0 ∷ counted 4 ∷ counted 4
          ∷ counted 0 ∷ counted 0 ∷ counted 4 ∷ counted 4
          ∷ counted 0 ∷ counted 0 ∷ counted 4 ∷ counted 4
          ∷ []),
    )
    ∷ (
      composing two_pages (counting 16 0) 1 None 1 3 36,
      done
          (counted 8 ∷ counted 8 ∷ counted 8
          ∷ counted 12 ∷ counted 12 ∷ counted 12
          ∷ counted 12 ∷ counted 12 ∷ counted 12
          ∷ []),
    )
    -- one row too many, and the other page's width
    ∷ (asking two_pages (counting 16 0) 0 0 4 64, refused_both 13 64)
    ∷ (asking two_pages (counting 16 0) 0 0 3 36, refused_both 14 36)
    ∷ (asking two_pages (counting 16 0) 1 1 4 48, refused_both 13 48)
    ∷ (asking two_pages (counting 16 0) 1 0 3 48, refused_both 14 48)
    ∷ (
      composing bordered (counting 8 0) 0 plain 3 2 56,
      done
          (ground_bytes ∷ ground_bytes ∷ counted 0 ∷ counted 0 ∷ counted 4 ∷ counted 4 ∷ ground_bytes
          ∷ ground_bytes ∷ ground_bytes ∷ ground_bytes ∷ ground_bytes ∷ ground_bytes ∷ ground_bytes ∷ ground_bytes
          ∷ []),
    )
    -- an empty page below the count answers 12; forced it is background, and the image of page 1 is of no concern to it
    ∷ (asking empty_first (counting 16 0) 0 0 1 8, refused_both 12 8)
    ∷ (composing empty_first (counting 16 0) 1 None 0 1 8, done (counted 0 ∷ counted 4 ∷ []))
    ∷ (
      composing forced_pages (counting 0 0) 0 plain 0 3 24,
      done (ground_bytes ∷ ground_bytes ∷ ground_bytes ∷ ground_bytes ∷ ground_bytes ∷ ground_bytes ∷ []),
    )
    ∷ (composing forced_pages (counting 0 0) 0 None 2 1 8, done (clear ∷ clear ∷ []))
    ∷ (asking forced_pages (counting 0 0) 1 2 1 8, refused_both 5 8)
    ∷ (asking forced_pages (counting 36 0) 2 0 1 8, refused_both 11 8)
    -- what lies past a forced page's edge is cut off
    ∷ (composing forced_pages (counting 36 0) 1 None 1 2 16, done (counted 12 ∷ counted 16 ∷ counted 24 ∷ counted 28 ∷ []))
    ∷ []

-- ## zones

-- e=1, b=0: 1x1 at (2,0), 1x2 at (0,1). The page is 3x3; the first's zone passes its right edge, the second's its bottom edge
unfoldable pub passing : Layout
passing = standing_in (limits 16 16 0 0 1 1 2) (whole 1 0 2 0 1 1 Symbols 0 ∷ whole 2 0 0 1 1 2 Symbols 4 ∷ [])

-- e=2, b=0: 1x1 at (0,0) and at (5,0). The first's zone begins at 0, and still is 5 wide
unfoldable pub full_width : Layout
full_width = standing_in (limits 16 16 0 0 2 1 2) (whole 1 0 0 0 1 1 Symbols 0 ∷ whole 2 0 5 0 1 1 Symbols 4 ∷ [])

unfoldable pub zone_lines : List Line
zone_lines =
    -- cut off there, and the next row begins as if it had not been
    (
      composing passing (counting 12 0) 0 None 0 3 36,
      done
          (counted 4 ∷ counted 0 ∷ counted 0
          ∷ counted 4 ∷ counted 0 ∷ counted 0
          ∷ counted 8 ∷ counted 0 ∷ counted 0
          ∷ []),
    )
    ∷ (composing (extruded 0 0) (counting 12 0) 0 None 0 1 12, done (counted 0 ∷ counted 4 ∷ counted 8 ∷ []))
    ∷ (
      composing (extruded 1 3) (counting 12 0) 0 plain 0 2 32,
      done (ground_bytes ∷ ground_bytes ∷ ground_bytes ∷ ground_bytes ∷ counted 0 ∷ counted 0 ∷ counted 4 ∷ counted 8 ∷ []),
    )
    ∷ (
      composing full_width (counting 8 0) 0 None 0 1 24,
      done (counted 0 ∷ counted 0 ∷ counted 0 ∷ counted 0 ∷ counted 0 ∷ counted 4 ∷ []),
    )
    -- the earliest wins, also where its pixel becomes the background
    ∷ (
      composing (shared left right) (counting 72 0) 0 None 1 1 24,
      done (counted 16 ∷ counted 20 ∷ counted 24 ∷ counted 28 ∷ counted 56 ∷ counted 60 ∷ []),
    )
    ∷ (
      composing (shared right left) (counting 72 0) 0 None 1 1 24,
      done (counted 16 ∷ counted 20 ∷ counted 48 ∷ counted 52 ∷ counted 56 ∷ counted 60 ∷ []),
    )
    ∷ (
      composing (shared left right) (counting 72 0) 0 (at_most 31) 1 1 24,
      done (ground_bytes ∷ ground_bytes ∷ ground_bytes ∷ ground_bytes ∷ counted 56 ∷ counted 60 ∷ []),
    )
    -- another page's frames show nothing
    ∷ (
      composing (shared left right) (counting 72 0) 1 None 0 2 24,
      done (counted 48 ∷ counted 52 ∷ counted 56 ∷ counted 60 ∷ counted 64 ∷ counted 68 ∷ []),
    )
    ∷ []

unfoldable pub table : List Line
table = background_lines ++ outline_lines ++ trim_lines ++ page_lines ++ zone_lines ++ order_lines ++ check_lines
