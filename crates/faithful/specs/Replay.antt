-- What the replay of the records leaves: the skylines of the pages as they stand. Words of the code, not rules of document 01.
-- Assumes nothing.
use Rattle.std.specs.Prelude.{ℕ, ◌≤◌, ◌<◌, ◌≡◌, Bool, true, cond, not, ◌&&◌, List, [], ◌∷◌, ◌++◌, length, eqb, Option, Some, None, Result, Ok, Err}
use Rattle.std.proofs.Math.Option.{Option as Maybe, none, some}
use Rattle.geometry.specs.Words.{any}
use Rattle.geometry.specs.declared.rect.Size.{Size}
use Rattle.geometry.specs.declared.spot.Spot.{Spot}
use Rattle.pages.specs.declared.Pages.{Pages}
use Rattle.pages.specs.Pages.{Stands}
use Rattle.records.specs.Layouts.{standing, well_formed, page_count}
use Rattle.records.specs.declared.texture_packer_config.Config.{Config}
use Rattle.records.specs.declared.frame.Record.{Record}
use Rattle.records.specs.declared.layout.Layout.{Layout}
use Rattle.records.specs.declared.refusal.Refusal.{Refusal}
use Rattle.records.specs.declared.refusal.Refusal.TheVariants.{NotWellFormed, NotFaithful, TooLarge}
use Rattle.rules.specs.Placing.{canvas, cells_on, placed}
use Rattle.rules.specs.Faithful.{art_of, same_spot, placed_so, faithful}

-- a size that is 1 to 2048 on each side
pub record Sized (s : Size) : Type 0 where
  pub some_w : 1 ≤ s.w
  pub some_h : 1 ≤ s.h
  pub few_w : s.w ≤ 2048
  pub few_h : s.h ≤ 2048

-- a spot's corner is small enough to add a border
abbrev pub Near : Option Spot → Type 0
Near f = (k : Spot) → f ≡ Some k → (k.at.x ≤ 4096) × (k.at.y ≤ 4096)

-- the skylines of the pages on which some records stand, and how many pages there are
pub record Skies (c : Config) (rs : List Record) (pages : ℕ) (sky : Pages) : Type 0 where
  pub stands : Stands (canvas c).w (cells_on c rs) (length rs) sky
  pub count : pages ≡ page_count rs

-- they are those of fewer than 256 records
abbrev pub SomeSkies : Config → ℕ → Pages → Type 0
SomeSkies c pages sky = (rs : List Record) × Skies c rs pages sky × (length rs < 256)

-- whether the rule puts the next record where it is, and if so the skylines with it
pub record Replayed (c : Config) (rs : List Record) (r : Record) (so : Bool) (sky : Pages) : Type 0 where
  pub same : so ≡ same_spot r (placed c rs (art_of r))
  pub after : so ≡ true → Stands (canvas c).w (cells_on c (rs ++ r ∷ [])) (length (rs ++ r ∷ [])) sky

-- ## the whole replay

-- the number of the pages, if the records stand so
abbrev pub pages_if : Bool → Layout → Option ℕ
pages_if so l = cond so (Some (page_count (standing l))) None

pub record Ran (l : Layout) (r : Option ℕ) (sky : Pages) : Type 0 where
  pub is : r ≡ pages_if (placed_so l.config [] (standing l)) l
  pub skies : (pages : ℕ) → r ≡ Some pages → Skies l.config (standing l) pages sky

-- the answer is whether the layout is faithful, and if it is, the skylines are those of its records
pub record Tested (l : Layout) (r : Option ℕ) (sky : Pages) : Type 0 where
  pub is : r ≡ pages_if (faithful l) l
  pub skies : (pages : ℕ) → r ≡ Some pages → Skies l.config (standing l) pages sky

-- ## the record of an image at a spot; without a spot it is too large

abbrev pub stood : Maybe Record → Result Record Refusal
stood none = Err TooLarge
stood (some r) = Ok r

-- ## keys, as numbers

-- each differs from all later ones
unfoldable pub distinct : List ℕ → Bool
distinct [] = true
distinct (k ∷ ks) = not (any (λ j. eqb j k) ks) && distinct ks

abbrev pub key_of : Record → ℕ
key_of r = r.key.0

-- ## 2 and 3, for every layout; past them, the skylines of its records

unfoldable pub trust : Layout → Result ℕ Refusal
trust l = cond (well_formed l) (cond (faithful l) (Ok (page_count (standing l))) (Err NotFaithful)) (Err NotWellFormed)

pub record Trusted (l : Layout) (t : Result ℕ Refusal) (sky : Pages) : Type 0 where
  pub is : t ≡ trust l
  pub skies : (pages : ℕ) → t ≡ Ok pages → Skies l.config (standing l) pages sky
