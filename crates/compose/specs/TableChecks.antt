-- The table's lines about refusals in order, which compose rows and check rows share, and about what check rows answers.
-- Assumes nothing.
use Rattle.std.specs.Prelude.{ℕ, true, None, List, [], ◌∷◌}
use Rattle.art.specs.declared.memory_rgba8_texture.Store.TheVariants.{Symbols}
use Rattle.records.specs.Samples.{bit, limits}
use Rattle.records.specs.declared.layout.Layout.{Layout}
use Rattle.lookup.specs.TableWords.{Line, counting, standing_in, whole}
use Rattle.lookup.specs.Table.{both_stores, trimmed, turned_art, framed, shared, left, right, empty_first, unformed}
use Rattle.paint.specs.Backgrounds.{Background}
use Rattle.compose.specs.Composing.{empty_page}
use Rattle.compose.specs.TableWords.{plain, at_most, at_most_discarding, counted, ground_bytes, clear, pixels, composing, done, checking, checking_composed, same, off, changed, asking, refused_both}

-- ## refusals in order

-- 3x3 with holes: 2x2 at (0,0), 1x1 at (2,2). A pixel that counts from n on has alpha n+3
unfoldable pub holed : Layout
holed = standing_in (limits 16 16 0 0 0 1 2) (whole 1 0 0 0 2 2 Symbols 0 ∷ whole 2 0 2 2 1 1 Symbols 16 ∷ [])

-- start, rows, and the buffer's length
unfoldable pub ask_holed : ℕ → ℕ → ℕ → List (List ℕ)
ask_holed first n len = asking holed (counting 20 0) 0 first n len

-- 12 asked of a size
unfoldable pub empty_at : ℕ → ℕ → List ℕ
empty_at w h = bit (empty_page (record { w = w; h = h })) ∷ []

unfoldable pub order_lines : List Line
order_lines =
    -- each where all that come later in the row would hold too
    (asking unformed (counting 0 0) 9 4 0 1, refused_both 2 1)
    ∷ (asking holed (counting 0 0) 1 4 0 1, refused_both 11 1)
    ∷ (asking empty_first (counting 0 0) 0 4 0 1, refused_both 12 1)
    ∷ (asking holed (counting 0 0) 0 4 0 1, refused_both 13 1)
    ∷ (asking holed (counting 0 0) 0 1 2 23, refused_both 14 23)
    ∷ (asking holed (counting 0 0) 0 1 2 24, refused_both 5 24)
    -- 2 and 11 alone
    ∷ (asking unformed (counting 16 0) 0 0 1 16, refused_both 2 16)
    ∷ (asking holed (counting 20 0) 4294967295 0 1 12, refused_both 11 12)
    -- 12: either side; no layout has a page with one side 0
    ∷ (empty_at 0 3 ∷ empty_at 3 0 ∷ empty_at 0 0 ∷ empty_at 1 1 ∷ [], (1 ∷ []) ∷ (1 ∷ []) ∷ (1 ∷ []) ∷ (0 ∷ []) ∷ [])
    -- 13: no rows, or past the page height, also past 32 bits
    ∷ (ask_holed 1 0 0, refused_both 13 0)
    ∷ (ask_holed 3 0 0, refused_both 13 0)
    ∷ (ask_holed 3 1 12, refused_both 13 12)
    ∷ (ask_holed 1 3 36, refused_both 13 36)
    ∷ (ask_holed 0 4 48, refused_both 13 48)
    ∷ (ask_holed 4294967295 2 24, refused_both 13 24)
    ∷ (ask_holed 1 4294967295 0, refused_both 13 0)
    ∷ (ask_holed 4294967295 4294967295 12, refused_both 13 12)
    -- 14: one byte short, one too many, a byte for each pixel, two rows for one, none
    ∷ (ask_holed 1 2 23, refused_both 14 23)
    ∷ (ask_holed 1 2 25, refused_both 14 25)
    ∷ (ask_holed 1 2 6, refused_both 14 6)
    ∷ (ask_holed 1 1 24, refused_both 14 24)
    ∷ (ask_holed 1 2 0, refused_both 14 0)
    -- 5: any image on that page, also one that the rows do not touch, and in whichever store; no image on another
    ∷ (asking holed (counting 19 0) 0 0 1 12, refused_both 5 12)
    ∷ (asking both_stores (counting 19 17) 0 0 2 16, refused_both 5 16)
    ∷ (composing both_stores (counting 19 17) 1 plain 1 1 16, done (counted 109 ∷ counted 113 ∷ ground_bytes ∷ counted 4 ∷ []))
    ∷ (asking both_stores (counting 20 16) 1 0 1 16, refused_both 5 16)
    ∷ (composing both_stores (counting 20 16) 0 plain 1 1 8, done (counted 12 ∷ counted 16 ∷ []))
    ∷ (asking both_stores (counting 7 17) 1 0 1 16, refused_both 5 16)
    ∷ []

-- ## check rows

-- 5x3, not square: 4x3 at (0,0), 1x1 at (4,0). The first image's pixel (x, y) counts from 16y+4x on
unfoldable pub wide : Layout
wide = standing_in (limits 16 16 0 0 0 1 2) (whole 1 0 0 0 4 3 Symbols 0 ∷ whole 2 0 4 0 1 1 Symbols 48 ∷ [])

-- its rows 0 and 2, and rows 1 to 2, which are lent with changes
unfoldable pub wide_top : List ℕ
wide_top = pixels (counted 0 ∷ counted 4 ∷ counted 8 ∷ counted 12 ∷ counted 48 ∷ [])

unfoldable pub wide_last : List ℕ
wide_last = pixels (counted 32 ∷ counted 36 ∷ counted 40 ∷ counted 44 ∷ clear ∷ [])

unfoldable pub wide_rows : List ℕ
wide_rows =
    pixels
    (counted 16 ∷ counted 20 ∷ counted 24 ∷ counted 28 ∷ clear
    ∷ counted 32 ∷ counted 36 ∷ counted 40 ∷ counted 44 ∷ clear
    ∷ [])

unfoldable pub check_wide : Background → ℕ → ℕ → List ℕ → List ℕ
check_wide g first n bytes = checking wide (counting 52 0) 0 g first n bytes

unfoldable pub check_changed : ℕ → List ℕ
check_changed i = check_wide None 1 2 (changed i wide_rows)

unfoldable pub check_both_changed : ℕ → ℕ → List ℕ
check_both_changed i j = check_wide None 1 2 (changed i (changed j wide_rows))

-- 1x3, higher than wide
unfoldable pub check_tall : List (List ℕ) → List ℕ
check_tall ks = checking (standing_in (limits 16 16 0 0 0 1 1) (whole 1 0 0 0 1 3 Symbols 0 ∷ [])) (counting 12 0) 0 None 0 3 (pixels ks)

unfoldable pub check_lines : List Line
check_lines =
    -- one byte is another: column and page row of its pixel
    (
      check_changed 1 ∷ check_changed 6 ∷ check_changed 17 ∷ check_changed 21 ∷ check_changed 37 ∷ [],
      off 0 1 ∷ off 1 1 ∷ off 4 1 ∷ off 0 2 ∷ off 4 2 ∷ [],
    )
    -- whichever of a pixel's four it is, and the last of all
    ∷ (
      check_changed 28 ∷ check_changed 29 ∷ check_changed 30 ∷ check_changed 31 ∷ check_changed 39 ∷ [],
      off 2 2 ∷ off 2 2 ∷ off 2 2 ∷ off 2 2 ∷ off 4 2 ∷ [],
    )
    -- of two, the first in row order, not in column order
    ∷ (
      check_both_changed 13 20 ∷ check_both_changed 27 36 ∷ check_both_changed 0 39 ∷ [],
      off 3 1 ∷ off 1 2 ∷ off 0 1 ∷ [],
    )
    -- the rows that are asked for, and no others
    ∷ (
      check_wide None 1 2 wide_rows ∷ check_wide None 2 1 wide_last ∷ check_wide None 0 1 wide_top ∷ [],
      same ∷ same ∷ same ∷ [],
    )
    ∷ (
      check_wide None 0 2 wide_rows ∷ check_wide None 0 1 wide_last ∷ check_wide None 1 1 wide_top ∷ [],
      off 0 0 ∷ off 0 0 ∷ off 0 1 ∷ [],
    )
    -- and all of them
    ∷ (
      check_tall (counted 0 ∷ counted 4 ∷ counted 8 ∷ []) ∷ check_tall (counted 0 ∷ counted 4 ∷ counted 12 ∷ []) ∷ [],
      same ∷ off 0 2 ∷ [],
    )
    -- over the same background
    ∷ (
      check_wide plain 1 2 wide_rows ∷ check_wide (at_most 19) 1 2 wide_rows ∷ check_wide (at_most_discarding 18) 1 2 wide_rows ∷ [],
      off 4 1 ∷ off 0 1 ∷ off 0 1 ∷ [],
    )
    -- what was composed is the same
    ∷ (
      checking_composed holed (counting 20 0) 0 (at_most_discarding 11) 1 2 24
          ∷ checking_composed (trimmed turned_art) (counting 0 83) 0 plain 1 2 40
          ∷ checking_composed (framed true) (counting 36 0) 0 (at_most 254) 3 2 40
          ∷ checking_composed (shared left right) (counting 72 0) 1 None 1 1 12
          ∷ [],
      same ∷ same ∷ same ∷ same ∷ [],
    )
    ∷ []
