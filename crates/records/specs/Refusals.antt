-- The refusals with document 01's numbers and meanings, and a row of checks.
-- Assumes nothing.
use Rattle.std.specs.Prelude.{ℕ, Bool, cond, List, [], ◌∷◌, map, codes}
use Rattle.std.proofs.Math.Option.{Option, none, some}
use Rattle.records.specs.declared.refusal.Refusal.{Refusal}
use Rattle.records.specs.declared.refusal.Refusal.TheVariants.{OutOfBounds, NotWellFormed, NotFaithful, BadSize, PastStore, KeyStands, AllClear, TooLarge, ImageLimit, PageLimit, NoSuchPage, EmptyPage, BadRows, BadLength, NoSuchKey, PastPage, BadInset, NothingStands}

abbrev pub number_of : Refusal → ℕ
number_of OutOfBounds = 1
number_of NotWellFormed = 2
number_of NotFaithful = 3
number_of BadSize = 4
number_of PastStore = 5
number_of KeyStands = 6
number_of AllClear = 7
number_of TooLarge = 8
number_of ImageLimit = 9
number_of PageLimit = 10
number_of NoSuchPage = 11
number_of EmptyPage = 12
number_of BadRows = 13
number_of BadLength = 14
number_of NoSuchKey = 15
number_of PastPage = 16
number_of BadInset = 17
number_of NothingStands = 18

abbrev pub meaning_of : Refusal → List ℕ
meaning_of OutOfBounds = codes "the configuration is out of bounds"
meaning_of NotWellFormed = codes "the layout is not well-formed"
meaning_of NotFaithful = codes "the layout is not faithful"
meaning_of BadSize = codes "a width or height is outside 1 to 2048"
meaning_of PastStore = codes "an image runs past the end of its store"
meaning_of KeyStands = codes "an image with this key stands already"
meaning_of AllClear = codes "trimming leaves nothing: every pixel's alpha is 0"
meaning_of TooLarge = codes "the image is too large for an empty page"
meaning_of ImageLimit = codes "the limit of images is reached"
meaning_of PageLimit = codes "it fits on no page, and the limit of pages is reached"
meaning_of NoSuchPage = codes "there is no such page"
meaning_of EmptyPage = codes "the page's width or height is 0"
meaning_of BadRows = codes "these rows are not on the page"
meaning_of BadLength = codes "the buffer does not have the rows' length"
meaning_of NoSuchKey = codes "no image has this key"
meaning_of PastPage = codes "the frame runs past the page"
meaning_of BadInset = codes "the inset is not between 0 and 0.5"
meaning_of NothingStands = codes "no image stands"

-- each operation: its checks, from left to right, each with what it answers
abbrev pub Row : Type 0
Row = List (Bool × Refusal)

abbrev pub row_numbers : Row → List ℕ
row_numbers = map (λ c. number_of c.1)

-- a row's checks run left to right; the first that holds is answered
unfoldable pub first_refusal : Row → Option Refusal
first_refusal [] = none
first_refusal (c ∷ cs) = cond c.0 (some c.1) (first_refusal cs)
