-- Open and page size: each row's checks, left to right, and the answer where none holds; and the numbers and values of each answer.
-- Assumes nothing.
use Rattle.std.specs.Prelude.{ℕ, ⊤, Bool, not, Result, Ok, Err, List, [], ◌∷◌, leb}
use Rattle.std.proofs.Math.Option.{Option, none, some}
use Rattle.geometry.specs.declared.rect.Size.{Size}
use Rattle.records.specs.Refusals.{number_of, Row, first_refusal}
use Rattle.records.specs.Settings.{in_bounds, blank_config, empty_layout}
use Rattle.records.specs.Layouts.{standing, well_formed, page_count, size_of_page}
use Rattle.records.specs.declared.texture_packer_config.Config.{Config}
use Rattle.records.specs.declared.frame.Page.{Page}
use Rattle.records.specs.declared.layout.Layout.{Layout}
use Rattle.records.specs.declared.layout.Answered.{Answered}
use Rattle.records.specs.declared.refusal.Refusal.{Refusal}
use Rattle.records.specs.declared.refusal.Refusal.TheVariants.{OutOfBounds, NotWellFormed, NoSuchPage}

-- ## open: 1

unfoldable pub open_row : Config → Row
open_row c = (not (in_bounds c), OutOfBounds) ∷ []

unfoldable pub open_refusal : Config → Option Refusal
open_refusal c = first_refusal (open_row c)

abbrev pub Opening : Type 0
Opening = Answered (Result ⊤ Refusal)

-- a refused open gives the blank layout
abbrev pub open_answer : Config → Option Refusal → Opening
open_answer c none = record { answer = Ok tt; layout = empty_layout c }
open_answer c (some r) = record { answer = Err r; layout = empty_layout blank_config }

unfoldable pub opened : Config → Opening
opened c = open_answer c (open_refusal c)

abbrev pub opened_numbers : Result ⊤ Refusal → List ℕ
opened_numbers (Ok done) = 0 ∷ []
opened_numbers (Err r) = number_of r ∷ []

-- ## page size: 2 11

-- 11: page not below the page count
unfoldable pub no_such_page : Layout → Page → Bool
no_such_page l p = leb (page_count (standing l)) p.0

unfoldable pub size_row : Layout → Page → Row
size_row l p = (not (well_formed l), NotWellFormed) ∷ (no_such_page l p, NoSuchPage) ∷ []

unfoldable pub size_refusal : Layout → Page → Option Refusal
size_refusal l p = first_refusal (size_row l p)

abbrev pub size_answer : Size → Option Refusal → Result Size Refusal
size_answer s none = Ok s
size_answer s (some r) = Err r

unfoldable pub page_sized : Layout → Page → Result Size Refusal
page_sized l p = size_answer (size_of_page l p) (size_refusal l p)

abbrev pub sized_numbers : Result Size Refusal → List ℕ
sized_numbers (Ok s) = 0 ∷ s.w ∷ s.h ∷ []
sized_numbers (Err r) = number_of r ∷ []
