-- Words of the computed tables, here and in the crate `examples`: configurations, calls, answers and records, so that a line reads like document 01.
-- Assumes nothing.
use Rattle.std.specs.Prelude.{ℕ, zero, suc, Bool, true, false, cond, List, [], ◌∷◌, ◌++◌, map, get_or, replicate}
use Rattle.geometry.specs.Placing.{turn_number}
use Rattle.geometry.specs.declared.spot.Turn.{Turn}
use Rattle.geometry.specs.declared.spot.Turn.TheVariants.{Upright}
use Rattle.art.specs.Stores.{Stores, holding}
use Rattle.art.specs.declared.memory_rgba8_texture.Image.{Image}
use Rattle.art.specs.declared.memory_rgba8_texture.Store.{Store}
use Rattle.art.specs.declared.memory_rgba8_texture.Store.TheVariants.{Symbols}
use Rattle.records.specs.Settings.{blank_record}
use Rattle.records.specs.Records.{store_number}
use Rattle.records.specs.Layouts.{standing}
use Rattle.records.specs.Operations.{opened, opened_numbers, page_sized, sized_numbers}
use Rattle.records.specs.declared.texture_packer_config.Config.{Config}
use Rattle.records.specs.declared.frame.Key.{Key}
use Rattle.records.specs.declared.frame.Page.{Page}
use Rattle.records.specs.declared.frame.Record.{Record}
use Rattle.records.specs.declared.layout.Layout.{Layout}
use Rattle.rules.specs.Faithful.{faithful}
use Rattle.rules.specs.Operations.{asked, asked_numbers, offered, offered_numbers, withdrawn, withdrawn_numbers}
use Rattle.rules.specs.Story.{filled, Call, Offer, Withdraw, Ask, step, layout_after}

-- what is computed, and what it must be
abbrev pub Line : Type 0
Line = List (List ℕ) × List (List ℕ)

-- ## configurations

-- maxima; p, b, e; pages, images; rotation, trim, forced size
unfoldable pub config : ℕ → ℕ → ℕ → ℕ → ℕ → ℕ → ℕ → Bool → Bool → Bool → Config
config w h p b e pages images rotation trim forced =
    record {
      maxw = w;
      maxh = h;
      padding = p;
      border = b;
      extrusion = e;
      pages = pages;
      images = images;
      rotation = rotation;
      trim = trim;
      outlines = false;
      forced = forced;
    }

-- nothing else set: 8 pages, 256 images
unfoldable pub plain : ℕ → ℕ → Config
plain w h = config w h 0 0 0 8 256 false false false

unfoldable pub padded : ℕ → ℕ → ℕ → Config
padded w h p = config w h p 0 0 8 256 false false false

unfoldable pub bordered : ℕ → ℕ → ℕ → Bool → Config
bordered w h b forced = config w h 0 b 0 8 256 false false forced

unfoldable pub extruded : ℕ → ℕ → ℕ → Config
extruded w h e = config w h 0 0 e 8 256 false false false

unfoldable pub limited : ℕ → ℕ → ℕ → ℕ → Config
limited w h pages images = config w h 0 0 0 pages images false false false

unfoldable pub rotating : ℕ → ℕ → Config
rotating w h = config w h 0 0 0 8 256 true false false

unfoldable pub trimming : ℕ → ℕ → Config
trimming w h = config w h 0 0 0 8 256 false true false

-- ## calls

unfoldable pub key : ℕ → Key
key n = record { 0 = n }

unfoldable pub page : ℕ → Page
page n = record { 0 = n }

unfoldable pub image : Store → ℕ → ℕ → ℕ → Image
image store offset w h = record { store = store; offset = offset; w = w; h = h }

-- every pixel of an image at the start of the symbol store can be seen; 64 pixels are there, and none in the wording store
unfoldable pub white : Stores
white = holding (replicate 256 255) []

-- n pixels of no alpha, in white
unfoldable pub clear : ℕ → List ℕ
clear zero = []
clear (suc n) = 255 ∷ 255 ∷ 255 ∷ 0 ∷ clear n

-- n black ones that can be seen
unfoldable pub shown : ℕ → List ℕ
shown zero = []
shown (suc n) = 0 ∷ 0 ∷ 0 ∷ 255 ∷ shown n

unfoldable pub symbols : List ℕ → Stores
symbols bytes = holding bytes []

-- of 8x8 only (3, 5) is visible
unfoldable pub dot : Stores
dot = symbols (clear 43 ++ shown 1 ++ clear 20)

-- of 4x4 only (1, 2) has an alpha, the least
unfoldable pub speck : Stores
speck = symbols (clear 9 ++ (0 ∷ 0 ∷ 0 ∷ 1 ∷ []) ++ clear 6)

unfoldable pub offer_of : Stores → ℕ → ℕ → ℕ → Call
offer_of s k w h = Offer s (key k) (image Symbols 0 w h)

unfoldable pub offer : ℕ → ℕ → ℕ → Call
offer k w h = offer_of white k w h

unfoldable pub ask : ℕ → ℕ → ℕ → Call
ask p w h = Ask (page p) (record { w = w; h = h })

-- ## answers

unfoldable pub answer : Layout → Call → List ℕ
answer l (Offer s k i) = offered_numbers (offered l s k i).answer
answer l Withdraw = withdrawn_numbers (withdrawn l).answer
answer l (Ask p z) = asked_numbers (asked l p z)

unfoldable pub answers_from : Layout → List Call → List (List ℕ)
answers_from l [] = []
answers_from l (c ∷ cs) = answer l c ∷ answers_from (step c l) cs

-- the calls one after the other, from an opened layout
unfoldable pub answers : Config → List Call → List (List ℕ)
answers c calls = answers_from (opened c).layout calls

-- what opening answers
unfoldable pub opens : Config → List (List ℕ)
opens c = opened_numbers (opened c).answer ∷ []

-- the size of a page after calls
unfoldable pub page_after : Config → List Call → ℕ → List (List ℕ)
page_after c calls p = sized_numbers (page_sized (layout_after (opened c).layout calls) (page p)) ∷ []

-- an offer's answer: number 0, page, frame, turn
unfoldable pub at : ℕ → ℕ → ℕ → ℕ → ℕ → List ℕ
at p x y w h = 0 ∷ p ∷ x ∷ y ∷ w ∷ h ∷ 0 ∷ []

unfoldable pub turned_at : ℕ → ℕ → ℕ → ℕ → ℕ → List ℕ
turned_at p x y w h = 0 ∷ p ∷ x ∷ y ∷ w ∷ h ∷ 1 ∷ []

-- a question's, a withdrawal's, a page size's
unfoldable pub it_fits : List ℕ
it_fits = 0 ∷ 1 ∷ []

unfoldable pub it_does_not : List ℕ
it_does_not = 0 ∷ 0 ∷ []

unfoldable pub gone_key : ℕ → List ℕ
gone_key k = 0 ∷ k ∷ []

unfoldable pub sides : ℕ → ℕ → List ℕ
sides w h = 0 ∷ w ∷ h ∷ []

unfoldable pub refused : ℕ → List ℕ
refused n = n ∷ []

-- ## records

-- key, page; frame; turn; trimmed mark; source; an image of the symbol store
unfoldable pub made : ℕ → ℕ → ℕ → ℕ → ℕ → ℕ → Turn → Bool → ℕ → ℕ → ℕ → ℕ → Record
made k p x y w h turn trimmed sx sy sw sh =
    record {
      key = key k;
      page = page p;
      frame = record { x = x; y = y; w = w; h = h };
      turn = turn;
      trimmed = trimmed;
      source = record { x = sx; y = sy; w = sw; h = sh };
      store = Symbols;
      offset = 0;
    }

-- an upright one, whole and untrimmed
unfoldable pub whole : ℕ → ℕ → ℕ → ℕ → ℕ → ℕ → Record
whole k p x y w h = made k p x y w h Upright false 0 0 w h

unfoldable pub record_numbers : Record → List ℕ
record_numbers r =
    r.key.0
    ∷ r.page.0
    ∷ r.frame.x
    ∷ r.frame.y
    ∷ r.frame.w
    ∷ r.frame.h
    ∷ turn_number r.turn
    ∷ cond r.trimmed 1 0
    ∷ r.source.x
    ∷ r.source.y
    ∷ r.source.w
    ∷ r.source.h
    ∷ store_number r.store
    ∷ r.offset
    ∷ []

-- the count and all 256 places
unfoldable pub layout_numbers : Layout → List (List ℕ)
layout_numbers l = (l.count ∷ []) ∷ map record_numbers l.records

unfoldable pub places_after : Config → List Call → List (List ℕ)
places_after c calls = layout_numbers (layout_after (opened c).layout calls)

-- the record in place n after calls
unfoldable pub record_after : Config → List Call → ℕ → List (List ℕ)
record_after c calls n = record_numbers (get_or (standing (layout_after (opened c).layout calls)) n blank_record) ∷ []

-- a question, an offer of a new key and a withdrawal, each of the same layout, which holds just these records
unfoldable pub each : Config → List Record → List (List ℕ)
each c rs = map (answer (filled c rs)) (ask 0 1 1 ∷ offer 9 1 1 ∷ Withdraw ∷ [])

-- 1 if these records are faithful, also where they are not well-formed
unfoldable pub is_faithful : Config → List Record → List (List ℕ)
is_faithful c rs = (cond (faithful (filled c rs)) 1 0 ∷ []) ∷ []

unfoldable pub all_refused : ℕ → List (List ℕ)
all_refused n = refused n ∷ refused n ∷ refused n ∷ []
