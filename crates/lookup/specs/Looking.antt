-- Pixel: its row of checks, left to right, the answer where none holds, and the answer's numbers and values.
-- Assumes nothing.
use Rattle.std.specs.Prelude.{ℕ, Bool, not, Option as Maybe, Some, None, Result, Ok, Err, List, [], ◌∷◌}
use Rattle.std.proofs.Math.Option.{Option, none, some}
use Rattle.geometry.specs.Words.{any}
use Rattle.art.specs.Stores.{Stores, runs_past}
use Rattle.art.specs.declared.memory_rgba8_texture.Pixel.{Pixel}
use Rattle.records.specs.Refusals.{number_of, Row, first_refusal}
use Rattle.records.specs.Records.{image_of}
use Rattle.records.specs.Layouts.{standing, well_formed, on_page}
use Rattle.records.specs.Operations.{no_such_page}
use Rattle.records.specs.declared.frame.Page.{Page}
use Rattle.records.specs.declared.frame.Record.{Record}
use Rattle.records.specs.declared.layout.Layout.{Layout}
use Rattle.records.specs.declared.refusal.Refusal.{Refusal}
use Rattle.records.specs.declared.refusal.Refusal.TheVariants.{NotWellFormed, NoSuchPage, PastStore}
use Rattle.lookup.specs.Zones.{pixel_at}

-- 5: any image on that page runs past its store
unfoldable pub page_past : Stores → Page → List Record → Bool
page_past s p rs = any (λ r. runs_past s (image_of r)) (on_page p.0 rs)

-- ## pixel: 2 11 5

abbrev pub look_row : Layout → Stores → Page → Row
look_row l s p =
    (not (well_formed l), NotWellFormed)
    ∷ (no_such_page l p, NoSuchPage)
    ∷ (page_past s p (standing l), PastStore)
    ∷ []

unfoldable pub look_refusal : Layout → Stores → Page → Option Refusal
look_refusal l s p = first_refusal (look_row l s p)

abbrev pub look_answer : Option Pixel → Option Refusal → Result (Maybe Pixel) Refusal
look_answer none none = Ok None
look_answer (some k) none = Ok (Some k)
look_answer k (some r) = Err r

unfoldable pub looked : Layout → Stores → Page → ℕ → ℕ → Result (Maybe Pixel) Refusal
looked l s p x y = look_answer (pixel_at l s p x y) (look_refusal l s p)

abbrev pub looked_numbers : Result (Maybe Pixel) Refusal → List ℕ
looked_numbers (Ok None) = 0 ∷ 0 ∷ []
looked_numbers (Ok (Some k)) = 0 ∷ 1 ∷ k.r ∷ k.g ∷ k.b ∷ k.a ∷ []
looked_numbers (Err r) = number_of r ∷ []
