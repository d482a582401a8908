-- The computed table of open, ask, offer and withdraw: lines of our own, each against a wrong reading. Beside what is computed stands what
-- it must be: the number and the values of each answer. Maxima in front, as in document 01.
-- Assumes nothing.
use Rattle.std.specs.Prelude.{ℕ, true, false, List, [], ◌∷◌, ◌++◌, map, replicate}
use Rattle.geometry.specs.declared.spot.Turn.TheVariants.{Upright, Turned}
use Rattle.art.specs.Stores.{Stores, holding}
use Rattle.art.specs.declared.memory_rgba8_texture.Store.TheVariants.{Symbols, Wording}
use Rattle.records.specs.declared.texture_packer_config.Config.{Config}
use Rattle.rules.specs.Story.{filled, Call, Offer, Withdraw}
use Rattle.rules.specs.TableWords.{Line, config, plain, padded, bordered, limited, rotating, trimming, key, image, white, clear, shown, symbols, speck, offer_of, offer, ask, answer, answers, opens, at, turned_at, it_fits, it_does_not, gone_key, refused, made, whole, record_numbers, places_after, record_after, each, is_faithful, all_refused}

-- placing over pages
unfoldable pub placing : List Line
placing =
    -- lower start, and narrower segment, come before upright
    (answers (rotating 2 3) (offer 0 1 1 ∷ offer 1 1 2 ∷ []), at 0 0 0 1 1 ∷ turned_at 0 0 1 2 1 ∷ [])
    ∷ (
      answers (rotating 5 7) (offer 0 2 1 ∷ offer 1 2 2 ∷ offer 2 2 2 ∷ offer 3 3 4 ∷ []),
      at 0 0 0 2 1 ∷ at 0 2 0 2 2 ∷ at 0 0 1 2 2 ∷ turned_at 0 0 3 4 3 ∷ [],
    )
    -- every page is tried, the first one first
    ∷ (answers (plain 4 5) (offer 0 2 4 ∷ offer 1 4 4 ∷ offer 2 2 4 ∷ []), at 0 0 0 2 4 ∷ at 1 0 0 4 4 ∷ at 0 2 0 2 4 ∷ [])
    -- an old page that fits takes it, where no new one may be opened
    ∷ (answers (limited 4 5 1 256) (offer 0 2 4 ∷ offer 1 2 4 ∷ offer 2 1 1 ∷ []), at 0 0 0 2 4 ∷ at 0 2 0 2 4 ∷ refused 10 ∷ [])
    -- the border moves the frames and takes nothing of the canvas; e moves nothing
    ∷ (
      answers (config 6 7 0 2 1 8 256 false false false) (offer 0 1 1 ∷ offer 1 1 1 ∷ offer 2 1 1 ∷ []),
      at 0 2 2 1 1 ∷ at 0 5 2 1 1 ∷ at 0 2 5 1 1 ∷ [],
    )
    ∷ []

-- 8 of both orientations, of the canvas, of the trimmed cell
unfoldable pub too_large_lines : List Line
too_large_lines =
    (answers (rotating 4 3) (offer 0 2 4 ∷ []), turned_at 0 0 0 4 2 ∷ [])
    ∷ (answers (plain 4 3) (offer 0 2 4 ∷ []), refused 8 ∷ [])
    ∷ (answers (plain 4 5) (offer 0 4 5 ∷ offer 0 5 1 ∷ offer 0 4 4 ∷ []), refused 8 ∷ refused 8 ∷ at 0 0 0 4 4 ∷ [])
    ∷ (answers (plain 8 1) (offer 0 1 1 ∷ []), refused 8 ∷ [])
    -- p and 2e are added up, and count at the right and at the lower edge too
    ∷ (answers (config 8 9 1 0 1 8 256 false false false) (offer 0 6 1 ∷ offer 0 1 6 ∷ offer 0 5 5 ∷ []), refused 8 ∷ refused 8 ∷ at 0 0 0 5 5 ∷ [])
    -- neither a border nor a forced size changes anything of the canvas
    ∷ (answers (bordered 4 5 2 true) (offer 0 4 5 ∷ offer 0 4 4 ∷ []), refused 8 ∷ at 0 2 2 4 4 ∷ [])
    ∷ (answers (trimming 2 3) (offer_of speck 0 4 4 ∷ []), at 0 0 0 1 1 ∷ [])
    ∷ []

unfoldable pub one_page_trimming : Config
one_page_trimming = config 4 5 0 0 0 1 256 false true false

unfoldable pub rotating_trimming : Config
rotating_trimming = config 7 5 0 0 0 8 256 true true false

-- 3x1, all visible, and 2x2 with (1, 0) visible
unfoldable pub mixed : Stores
mixed = symbols (shown 3 ++ clear 1 ++ shown 1 ++ clear 2)

-- a column of three visible pixels at (1, 0) of 4x4
unfoldable pub column : Stores
column = symbols (clear 1 ++ shown 1 ++ clear 3 ++ shown 1 ++ clear 3 ++ shown 1 ++ clear 6)

-- 2x2, all clear
unfoldable pub unseen : Call
unseen = offer_of (symbols (clear 4)) 0 2 2

unfoldable pub trim_lines : List Line
trim_lines =
    -- the page is asked with the whole size, and takes the trimmed cell
    (answers one_page_trimming (offer_of speck 0 4 4 ∷ offer_of speck 1 4 4 ∷ []), at 0 0 0 1 1 ∷ refused 10 ∷ [])
    ∷ (answers (trimming 4 5) (offer_of mixed 0 3 1 ∷ Offer mixed (key 1) (image Symbols 12 2 2) ∷ []), at 0 0 0 3 1 ∷ at 0 3 0 1 1 ∷ [])
    -- turned, the record's box is swapped back: the layout stays well-formed and faithful
    ∷ (answers rotating_trimming (offer_of column 0 4 4 ∷ offer_of column 1 4 4 ∷ []), turned_at 0 0 0 3 1 ∷ turned_at 0 3 0 3 1 ∷ [])
    ∷ (record_after rotating_trimming (offer_of column 0 4 4 ∷ []) 0, record_numbers (made 0 0 0 0 3 1 Turned true 1 0 4 4) ∷ [])
    -- all clear, and placed without trim
    ∷ (answers (plain 3 4) (unseen ∷ []), at 0 0 0 2 2 ∷ [])
    ∷ (record_after (plain 3 4) (unseen ∷ []) 0, record_numbers (whole 0 0 0 0 2 2) ∷ [])
    ∷ []

unfoldable pub padded_trimming : Config
padded_trimming = config 2 3 3 0 0 8 256 false true false

unfoldable pub padded_one : Config
padded_one = config 4 5 2 0 0 1 1 false false false

-- a visible pixel, and 3x3 all clear behind it
unfoldable pub some_clear : Stores
some_clear = symbols (shown 1 ++ clear 9)

-- the order of an offer's checks, and both sides of each
unfoldable pub order_lines : List Line
order_lines =
    -- 9 before 10, 8 before 9, 6 before 8, 5 before 6, 4 before 5
    (
      answers (limited 4 5 1 1) (offer 0 4 4 ∷ offer 1 1 1 ∷ offer 1 8 1 ∷ offer 1 1 8 ∷ offer 0 8 1 ∷ offer 0 8 9 ∷ offer 0 1 2049 ∷ []),
      at 0 0 0 4 4 ∷ refused 9 ∷ refused 8 ∷ refused 8 ∷ refused 6 ∷ refused 5 ∷ refused 4 ∷ [],
    )
    -- 8 before 9 also where only the turned cell would fit, or only the image without its margin
    ∷ (answers (limited 4 3 1 1) (offer 0 4 2 ∷ offer 1 2 4 ∷ offer 1 4 2 ∷ []), at 0 0 0 4 2 ∷ refused 8 ∷ refused 9 ∷ [])
    ∷ (answers padded_one (offer 0 2 2 ∷ offer 1 3 3 ∷ offer 1 2 2 ∷ []), at 0 0 0 2 2 ∷ refused 8 ∷ refused 9 ∷ [])
    -- 6 before 7, and of every standing key
    ∷ (
      answers (trimming 2 3)
          (offer_of some_clear 0 1 1
          ∷ offer_of some_clear 3 1 1
          ∷ Offer some_clear (key 0) (image Symbols 4 3 3)
          ∷ Offer some_clear (key 3) (image Symbols 4 3 3)
          ∷ Offer some_clear (key 1) (image Symbols 4 3 3)
          ∷ []),
      at 0 0 0 1 1 ∷ at 0 1 0 1 1 ∷ refused 6 ∷ refused 6 ∷ refused 7 ∷ [],
    )
    -- 7 before 8
    ∷ (answers padded_trimming (Offer some_clear (key 0) (image Symbols 4 1 1) ∷ offer_of some_clear 0 1 1 ∷ []), refused 7 ∷ refused 8 ∷ [])
    -- the limits themselves are reached
    ∷ (answers (limited 3 4 8 2) (offer 0 1 1 ∷ offer 1 1 1 ∷ offer 2 1 1 ∷ []), at 0 0 0 1 1 ∷ at 0 1 0 1 1 ∷ refused 9 ∷ [])
    ∷ (answers (limited 3 4 2 256) (offer 0 3 3 ∷ offer 1 3 3 ∷ offer 2 3 3 ∷ []), at 0 0 0 3 3 ∷ at 1 0 0 3 3 ∷ refused 10 ∷ [])
    -- sides 0 and 2049 answer 4; 1 and 2048 pass it, and run past the store
    ∷ (
      answers (plain 3 4) (offer 0 0 1 ∷ offer 0 1 0 ∷ offer 0 2049 1 ∷ offer 0 1 2049 ∷ offer 0 2048 1 ∷ offer 0 1 2048 ∷ []),
      refused 4 ∷ refused 4 ∷ refused 4 ∷ refused 4 ∷ refused 5 ∷ refused 5 ∷ [],
    )
    -- the last byte of the store, and one past it; the other store
    ∷ (
      answers (plain 3 4) (Offer white (key 0) (image Symbols 244 1 3) ∷ Offer white (key 1) (image Symbols 245 1 3) ∷ Offer white (key 1) (image Wording 0 1 1) ∷ []),
      at 0 0 0 1 3 ∷ refused 5 ∷ refused 5 ∷ [],
    )
    ∷ (
      record_after (plain 3 4) (Offer (holding [] (clear 3)) (key 6) (image Wording 8 1 1) ∷ []) 0,
      (6 ∷ 0 ∷ 0 ∷ 0 ∷ 1 ∷ 1 ∷ 0 ∷ 0 ∷ 0 ∷ 0 ∷ 1 ∷ 1 ∷ 1 ∷ 8 ∷ []) ∷ [],
    )
    ∷ []

-- cells are one pixel wider and higher than their images: 3x3 fills page 0, 1x1 stands on page 1
unfoldable pub two_pages : List Call
two_pages = offer 0 3 3 ∷ offer 1 1 1 ∷ []

unfoldable pub ask_lines : List Line
ask_lines =
    -- no page yet
    (answers (plain 3 4) (ask 0 1 1 ∷ []), refused 11 ∷ [])
    -- each page as it stands; asking changes nothing
    ∷ (
      answers (padded 4 5 1) (two_pages ++ ask 0 1 1 ∷ ask 1 1 1 ∷ ask 1 1 3 ∷ ask 1 2 1 ∷ ask 1 2 2 ∷ ask 2 1 1 ∷ ask 2 0 1 ∷ offer 2 1 3 ∷ []),
      at 0 0 0 3 3 ∷ at 1 0 0 1 1 ∷ it_does_not ∷ it_fits ∷ it_fits ∷ it_fits ∷ it_does_not ∷ refused 11 ∷ refused 4 ∷ at 1 2 0 1 3 ∷ [],
    )
    -- turned only where that is allowed
    ∷ (answers (rotating 4 3) (offer 0 4 1 ∷ ask 0 1 4 ∷ ask 0 2 4 ∷ []), at 0 0 0 4 1 ∷ it_fits ∷ it_does_not ∷ [])
    ∷ (answers (plain 4 3) (offer 0 4 1 ∷ ask 0 1 4 ∷ ask 0 4 1 ∷ []), at 0 0 0 4 1 ∷ it_does_not ∷ it_fits ∷ [])
    -- sides 0 and 2049 answer 4; 1 and 2048 pass
    ∷ (
      answers (plain 3 4) (offer 0 1 1 ∷ ask 0 0 1 ∷ ask 0 1 0 ∷ ask 0 2049 1 ∷ ask 0 1 2049 ∷ ask 0 2048 1 ∷ ask 0 1 2048 ∷ ask 0 1 1 ∷ []),
      at 0 0 0 1 1 ∷ refused 4 ∷ refused 4 ∷ refused 4 ∷ refused 4 ∷ it_does_not ∷ it_does_not ∷ it_fits ∷ [],
    )
    ∷ []

-- one image of key 7 stands in 256 places
unfoldable pub one_stands : List (List ℕ)
one_stands = (1 ∷ []) ∷ record_numbers (whole 7 0 0 0 4 3) ∷ replicate 255 (replicate 14 0)

unfoldable pub withdraw_lines : List Line
withdraw_lines =
    -- the latest key, each time; then 18; and the keys are free again
    (
      answers (plain 5 6) (offer 7 4 3 ∷ offer 9 1 2 ∷ Withdraw ∷ Withdraw ∷ Withdraw ∷ offer 9 1 2 ∷ []),
      at 0 0 0 4 3 ∷ at 0 4 0 1 2 ∷ gone_key 9 ∷ gone_key 7 ∷ refused 18 ∷ at 0 0 0 1 2 ∷ [],
    )
    -- all places, before and after
    ∷ (places_after (plain 5 6) (offer 7 4 3 ∷ []), one_stands)
    ∷ (places_after (plain 5 6) (offer 7 4 3 ∷ offer 9 1 2 ∷ Withdraw ∷ []), one_stands)
    ∷ (places_after (plain 5 6) (offer 7 4 3 ∷ Withdraw ∷ []), (0 ∷ []) ∷ replicate 256 (replicate 14 0))
    -- a refused offer changes no place
    ∷ (places_after (plain 5 6) (offer 7 4 3 ∷ offer 7 1 1 ∷ offer 8 6 1 ∷ []), one_stands)
    -- a page whose only image is gone is no page
    ∷ (
      answers (plain 3 4) (offer 0 3 3 ∷ offer 1 3 3 ∷ ask 1 1 1 ∷ Withdraw ∷ ask 1 1 1 ∷ []),
      at 0 0 0 3 3 ∷ at 1 0 0 3 3 ∷ it_does_not ∷ gone_key 1 ∷ refused 11 ∷ [],
    )
    ∷ []

-- 3, and what is faithful beside it; the canvas is 5 by 5
unfoldable pub faithful_lines : List Line
faithful_lines =
    (each (plain 5 6) (whole 0 0 0 0 4 3 ∷ []), it_fits ∷ at 0 4 0 1 1 ∷ gone_key 0 ∷ [])
    -- moved right, moved down, an empty page 0
    ∷ (each (plain 5 6) (whole 0 0 1 0 4 3 ∷ []), all_refused 3)
    ∷ (each (plain 5 6) (whole 0 0 0 1 4 3 ∷ []), all_refused 3)
    ∷ (each (plain 5 6) (whole 0 1 0 0 4 3 ∷ []), all_refused 3)
    -- the second moved; both as the rule puts them, in another order
    ∷ (each (plain 5 6) (whole 0 0 0 0 4 3 ∷ whole 1 0 4 0 1 2 ∷ []), it_fits ∷ at 0 4 2 1 1 ∷ gone_key 1 ∷ [])
    ∷ (each (plain 5 6) (whole 0 0 0 0 4 3 ∷ whole 1 0 4 1 1 2 ∷ []), all_refused 3)
    ∷ (each (plain 5 6) (whole 1 0 4 0 1 2 ∷ whole 0 0 0 0 4 3 ∷ []), all_refused 3)
    -- a square turned; a turned one with rotation off; upright where the rule turns
    ∷ (each (rotating 5 6) (made 0 0 0 0 3 3 Turned false 0 0 3 3 ∷ []), all_refused 3)
    ∷ (each (rotating 5 6) (made 0 0 0 0 4 1 Turned false 0 0 1 4 ∷ []), it_fits ∷ at 0 4 0 1 1 ∷ gone_key 0 ∷ [])
    ∷ (each (plain 5 6) (made 0 0 0 0 4 1 Turned false 0 0 1 4 ∷ []), all_refused 3)
    ∷ (each (rotating 5 6) (whole 0 0 0 0 1 4 ∷ []), all_refused 3)
    -- a repeated key, also of records that do not follow each other
    ∷ (each (plain 5 6) (whole 5 0 0 0 1 1 ∷ whole 5 0 1 0 1 1 ∷ []), all_refused 3)
    ∷ (each (plain 5 6) (whole 5 0 0 0 1 1 ∷ whole 6 0 1 0 1 1 ∷ whole 5 0 2 0 1 1 ∷ []), all_refused 3)
    ∷ (each (plain 5 6) (whole 5 0 0 0 1 1 ∷ whole 6 0 1 0 1 1 ∷ whole 7 0 2 0 1 1 ∷ []), it_fits ∷ at 0 3 0 1 1 ∷ gone_key 7 ∷ [])
    -- a smaller box with trim off, at the left or top edge and not; with trim on any box will do
    ∷ (each (plain 5 6) (made 0 0 0 0 3 3 Upright false 0 0 4 3 ∷ []), all_refused 3)
    ∷ (each (plain 5 6) (made 0 0 0 0 3 3 Upright false 1 0 4 3 ∷ []), all_refused 3)
    ∷ (each (plain 5 6) (made 0 0 0 0 4 2 Upright false 0 0 4 3 ∷ []), all_refused 3)
    ∷ (each (plain 5 6) (made 0 0 0 0 4 2 Upright false 0 1 4 3 ∷ []), all_refused 3)
    ∷ (each (trimming 5 6) (made 0 0 0 0 3 2 Upright true 1 1 4 3 ∷ []), it_fits ∷ at 0 3 0 1 1 ∷ gone_key 0 ∷ [])
    -- also of a record the page was asked with the whole size
    ∷ (
      each (trimming 5 6) (made 0 0 0 0 1 1 Upright true 3 4 5 5 ∷ made 1 1 0 0 1 1 Upright true 3 4 5 5 ∷ []),
      it_fits ∷ at 0 1 0 1 1 ∷ gone_key 1 ∷ [],
    )
    ∷ (each (trimming 5 6) (made 0 0 0 0 1 1 Upright true 3 4 5 5 ∷ made 1 0 1 0 1 1 Upright true 3 4 5 5 ∷ []), all_refused 3)
    -- the box's corner counts by itself
    ∷ (is_faithful (plain 5 6) (whole 0 0 0 0 4 3 ∷ []), (1 ∷ []) ∷ [])
    ∷ (is_faithful (plain 5 6) (made 0 0 0 0 4 3 Upright false 1 0 4 3 ∷ []), (0 ∷ []) ∷ [])
    ∷ (is_faithful (plain 5 6) (made 0 0 0 0 4 3 Upright false 0 1 4 3 ∷ []), (0 ∷ []) ∷ [])
    -- the frame is the cell's corner plus b
    ∷ (each (bordered 5 6 2 false) (whole 0 0 2 2 4 3 ∷ []), it_fits ∷ at 0 6 2 1 1 ∷ gone_key 0 ∷ [])
    ∷ (each (bordered 5 6 2 false) (whole 0 0 3 2 4 3 ∷ []), all_refused 3)
    -- 2 before 3: page not below the limit, more images than the limit, configuration out of bounds; before 18
    ∷ (each (limited 5 6 1 256) (whole 0 1 0 0 4 3 ∷ []), all_refused 2)
    ∷ (each (limited 5 6 8 1) (whole 0 0 0 0 1 1 ∷ whole 0 0 0 0 1 1 ∷ []), all_refused 2)
    ∷ (each (plain 0 6) [], all_refused 2)
    -- a refused open: 1, and the blank layout, which is not well-formed
    ∷ (opens (plain 5 6), (0 ∷ []) ∷ [])
    ∷ (opens (plain 0 6), refused 1 ∷ [])
    ∷ (answers (plain 0 6) (ask 0 1 1 ∷ offer 9 1 1 ∷ Withdraw ∷ []), all_refused 2)
    -- 2 and 3 before 4
    ∷ (
      map (answer (filled (plain 5 6) (whole 0 0 1 0 4 3 ∷ []))) (ask 0 0 1 ∷ offer 0 0 1 ∷ [])
          ++ map (answer (filled (limited 5 6 1 256) (whole 0 1 1 0 4 3 ∷ []))) (ask 0 0 1 ∷ offer 0 0 1 ∷ []),
      refused 3 ∷ refused 3 ∷ refused 2 ∷ refused 2 ∷ [],
    )
    ∷ []

unfoldable pub table : List Line
table = placing ++ too_large_lines ++ trim_lines ++ order_lines ++ ask_lines ++ withdraw_lines ++ faithful_lines
