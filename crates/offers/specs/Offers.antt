-- What an offer has left to do past 2 and 3. Words of the code, not rules of document 01.
-- Assumes nothing.
use Rattle.std.specs.Prelude.{◌≡◌, Bool, cond, ◌&&◌, List, [], ◌∷◌, ◌++◌, length, leb, ltb, Option, Some, Result, Ok, Err}
use Rattle.std.proofs.Math.Option.{Option as Maybe, none, some}
use Rattle.geometry.specs.Words.{any}
use Rattle.geometry.specs.declared.rect.Rect.{Rect}
use Rattle.pages.specs.Pages.{Stands}
use Rattle.pages.specs.declared.Pages.{Pages}
use Rattle.art.specs.Stores.{Stores, runs_past}
use Rattle.art.specs.Trimming.{all_clear, whole_box, trimmed_to}
use Rattle.art.specs.declared.memory_rgba8_texture.Image.{Image}
use Rattle.records.specs.Refusals.{Row}
use Rattle.records.specs.Records.{size_of}
use Rattle.records.specs.Layouts.{standing, has_key}
use Rattle.records.specs.declared.texture_packer_config.Config.{Config}
use Rattle.records.specs.declared.frame.Key.{Key}
use Rattle.records.specs.declared.frame.Record.{Record}
use Rattle.records.specs.declared.refusal.Refusal.{Refusal}
use Rattle.records.specs.declared.refusal.Refusal.TheVariants.{BadSize, PastStore, KeyStands, AllClear, TooLarge, ImageLimit, PageLimit}
use Rattle.records.specs.declared.layout.Layout.{Layout}
use Rattle.rules.specs.Placing.{canvas, cells_on, page_for, placed}
use Rattle.rules.specs.Operations.{bad_size, art_for, too_large, pages_full}
use Rattle.rules.specs.declared.placing.Art.{Art}
use Rattle.faithful.specs.Replay.{stood}

-- ## one step of an offer

-- no page fits the whole size and the page limit is reached, or what the rule gives
unfoldable pub outcome : Config → List Record → Art → Result Record Refusal
outcome c rs a = cond (ltb (page_for c rs a.whole) c.pages) (stood (placed c rs a)) (Err PageLimit)

pub record Stepped (c : Config) (rs : List Record) (a : Art) (o : Result Record Refusal) (sky : Pages) : Type 0 where
  pub is : o ≡ outcome c rs a
  pub after : (r : Record) → o ≡ Ok r → Stands (canvas c).w (cells_on c (rs ++ r ∷ [])) (length (rs ++ r ∷ [])) sky

-- ## what is left of its row past 7, and past 2 and 3

unfoldable pub room_rest : Layout → Art → Row
room_rest l a =
    (too_large l.config (size_of a.kept), TooLarge)
    ∷ (leb l.config.images l.count, ImageLimit)
    ∷ (pages_full l.config (standing l) a.whole, PageLimit)
    ∷ []

unfoldable pub offer_rest : Layout → Stores → Key → Image → Row
offer_rest l s k i =
    (bad_size i.w i.h, BadSize)
    ∷ (runs_past s i, PastStore)
    ∷ (any (has_key k) (standing l), KeyStands)
    ∷ (l.config.trim && all_clear s i, AllClear)
    ∷ room_rest l (art_for l.config s k i)

-- those of them that look at the image alone, and at the keys
unfoldable pub art_rest : Layout → Stores → Key → Image → Row
art_rest l s k i =
    (bad_size i.w i.h, BadSize)
    ∷ (runs_past s i, PastStore)
    ∷ (any (has_key k) (standing l), KeyStands)
    ∷ (l.config.trim && all_clear s i, AllClear)
    ∷ []

-- what trimming keeps: with trim off the whole image
unfoldable pub kept_of : Bool → Stores → Image → Option Rect
kept_of trim s i = cond trim (trimmed_to s i) (Some (whole_box i))

-- ## what is answered

-- what there is, unless it is refused
abbrev pub unless : {A : Type 0} → A → Maybe Refusal → Result A Refusal
unless x none = Ok x
unless x (some n) = Err n

-- the record that an offer adds
abbrev pub record_answer : Maybe Record → Maybe Refusal → Result Record Refusal
record_answer (some r) none = Ok r
record_answer none none = Err TooLarge
record_answer r (some n) = Err n
