-- Ask, offer, withdraw: each row's checks, left to right, and the answer where none holds; and the numbers and values of each answer.
-- Assumes nothing.
use Rattle.std.specs.Prelude.{ℕ, ◌+◌, ◌-◌, Bool, not, ◌&&◌, List, [], ◌∷◌, get_or, set, leb, eqb, Result, Ok, Err, true, false}
use Rattle.std.proofs.Math.Option.{Option, none, some}
use Rattle.geometry.specs.Words.{any, within}
use Rattle.geometry.specs.Placing.{lying, orientations, is_found, turn_number}
use Rattle.geometry.specs.declared.rect.Size.{Size}
use Rattle.art.specs.Stores.{Stores, runs_past}
use Rattle.art.specs.Trimming.{all_clear, trim_box}
use Rattle.art.specs.declared.memory_rgba8_texture.Image.{Image}
use Rattle.records.specs.Refusals.{number_of, Row, first_refusal}
use Rattle.records.specs.Settings.{blank_record}
use Rattle.records.specs.Records.{size_of}
use Rattle.records.specs.Layouts.{standing, has_key, well_formed, page_count}
use Rattle.records.specs.Operations.{no_such_page}
use Rattle.records.specs.declared.texture_packer_config.Config.{Config}
use Rattle.records.specs.declared.frame.Key.{Key}
use Rattle.records.specs.declared.frame.Page.{Page}
use Rattle.records.specs.declared.frame.Record.{Record}
use Rattle.records.specs.declared.layout.Layout.{Layout}
use Rattle.records.specs.declared.layout.Answered.{Answered}
use Rattle.records.specs.declared.refusal.Refusal.{Refusal}
use Rattle.records.specs.declared.refusal.Refusal.TheVariants.{NotWellFormed, NotFaithful, BadSize, PastStore, KeyStands, AllClear, TooLarge, ImageLimit, PageLimit, NoSuchPage, NothingStands}
use Rattle.rules.specs.declared.multi_texture_packer.Place.{Place}
use Rattle.rules.specs.Placing.{canvas, cell_size, spot_on, cells_on, page_for, placed}
use Rattle.rules.specs.Faithful.{faithful}
use Rattle.rules.specs.declared.placing.Art.{Art}

-- 4: width or height outside 1 to 2048
unfoldable pub bad_size : ℕ → ℕ → Bool
bad_size w h = not (within 1 2048 w && within 1 2048 h)

-- ## ask (page, size): 2 3 4 11

abbrev pub ask_row : Layout → Page → Size → Row
ask_row l p s =
    (not (well_formed l), NotWellFormed)
    ∷ (not (faithful l), NotFaithful)
    ∷ (bad_size s.w s.h, BadSize)
    ∷ (no_such_page l p, NoSuchPage)
    ∷ []

unfoldable pub ask_refusal : Layout → Page → Size → Option Refusal
ask_refusal l p s = first_refusal (ask_row l p s)

-- yes or no for one page as it stands
unfoldable pub fits_page : Layout → Page → Size → Bool
fits_page l p s = is_found (spot_on l.config (cells_on l.config (standing l) p.0) s)

abbrev pub Asked : Type 0
Asked = Result Bool Refusal

abbrev pub ask_answer : Bool → Option Refusal → Asked
ask_answer b none = Ok b
ask_answer b (some r) = Err r

unfoldable pub asked : Layout → Page → Size → Asked
asked l p s = ask_answer (fits_page l p s) (ask_refusal l p s)

abbrev pub asked_numbers : Asked → List ℕ
asked_numbers (Ok true) = 0 ∷ 1 ∷ []
asked_numbers (Ok false) = 0 ∷ 0 ∷ []
asked_numbers (Err r) = number_of r ∷ []

-- ## offer: 2 3 4 5 6 7 8 9 10

-- the image as it is placed, with its trim box
unfoldable pub art_for : Config → Stores → Key → Image → Art
art_for c s k i =
    record {
      key = k;
      store = i.store;
      offset = i.offset;
      whole = record { w = i.w; h = i.h };
      kept = trim_box c.trim s i;
    }

-- 8: the trimmed cell fits an empty canvas in no allowed orientation
unfoldable pub fits_empty : Size → Size → Bool
fits_empty area s = leb s.w area.w && leb s.h area.h

unfoldable pub too_large : Config → Size → Bool
too_large c s = not (any (λ t. fits_empty (canvas c) (lying t (cell_size c s))) (orientations c.rotation))

-- 10: no page fits the whole size and the page limit is reached
unfoldable pub pages_full : Config → List Record → Size → Bool
pages_full c rs whole = eqb (page_for c rs whole) (page_count rs) && leb c.pages (page_count rs)

abbrev pub offer_row : Layout → Stores → Key → Image → Row
offer_row l s k i =
    (not (well_formed l), NotWellFormed)
    ∷ (not (faithful l), NotFaithful)
    ∷ (bad_size i.w i.h, BadSize)
    ∷ (runs_past s i, PastStore)
    ∷ (any (has_key k) (standing l), KeyStands)
    ∷ (l.config.trim && all_clear s i, AllClear)
    ∷ (too_large l.config (size_of (art_for l.config s k i).kept), TooLarge)
    ∷ (leb l.config.images l.count, ImageLimit)
    ∷ (pages_full l.config (standing l) (art_for l.config s k i).whole, PageLimit)
    ∷ []

unfoldable pub offer_refusal : Layout → Stores → Key → Image → Option Refusal
offer_refusal l s k i = first_refusal (offer_row l s k i)

-- one record more
unfoldable pub with_record : Layout → Record → Layout
with_record l r = record { config = l.config; count = l.count + 1; records = set l.records l.count r }

-- where a record is placed
abbrev pub place_of : Record → Place
place_of r = record { page = r.page; frame = r.frame; turn = r.turn }

abbrev pub Offered : Type 0
Offered = Result Place Refusal

abbrev pub Offering : Type 0
Offering = Answered Offered

-- what nothing refuses is placed (Theorems), so the last case does not arise; it is no success
abbrev pub offer_answer : Layout → Option Record → Option Refusal → Offering
offer_answer l (some r) none = record { answer = Ok (place_of r); layout = with_record l r }
offer_answer l none none = record { answer = Err TooLarge; layout = l }
offer_answer l r (some n) = record { answer = Err n; layout = l }

unfoldable pub offered : Layout → Stores → Key → Image → Offering
offered l s k i = offer_answer l (placed l.config (standing l) (art_for l.config s k i)) (offer_refusal l s k i)

abbrev pub offered_numbers : Offered → List ℕ
offered_numbers (Ok p) = 0 ∷ p.page.0 ∷ p.frame.x ∷ p.frame.y ∷ p.frame.w ∷ p.frame.h ∷ turn_number p.turn ∷ []
offered_numbers (Err r) = number_of r ∷ []

-- ## withdraw latest: 2 3 18

abbrev pub withdraw_row : Layout → Row
withdraw_row l = (not (well_formed l), NotWellFormed) ∷ (not (faithful l), NotFaithful) ∷ (eqb l.count 0, NothingStands) ∷ []

unfoldable pub withdraw_refusal : Layout → Option Refusal
withdraw_refusal l = first_refusal (withdraw_row l)

-- the latest record gone, its place blank
unfoldable pub without_latest : Layout → Layout
without_latest l =
    record { config = l.config; count = l.count - 1; records = set l.records (l.count - 1) blank_record }

abbrev pub Withdrawn : Type 0
Withdrawn = Result Key Refusal

abbrev pub Withdrawing : Type 0
Withdrawing = Answered Withdrawn

abbrev pub withdraw_answer : Layout → Option Refusal → Withdrawing
withdraw_answer l none =
    record { answer = Ok (get_or l.records (l.count - 1) blank_record).key; layout = without_latest l }
withdraw_answer l (some r) = record { answer = Err r; layout = l }

unfoldable pub withdrawn : Layout → Withdrawing
withdrawn l = withdraw_answer l (withdraw_refusal l)

abbrev pub withdrawn_numbers : Withdrawn → List ℕ
withdrawn_numbers (Ok k) = 0 ∷ k.0 ∷ []
withdrawn_numbers (Err r) = number_of r ∷ []
