-- What open and page size answer, from the tests and the values made. Assumes nothing.
use Prim.Native.Nat.{ℕ, ◌≤◌, ◌<◌}
use mathlib.Core.Path.{◌≡◌, ap, ◌∙◌}
use mathlib.Core.Bool.{true, false, not}
use mathlib.Core.List.{List, []}
use mathlib.Core.Option.{none, some}
use borrow.Author.Tests.{le-leb, lt-leb}
use Rattle.records.specs.Settings.{in_bounds, blank_config, empty_layout}
use Rattle.records.specs.Layouts.{standing, well_formed, page_count, size_of_page}
use Rattle.std.specs.Prelude.{Ok, Err}
use Rattle.records.specs.Operations.{open_row, open_refusal, open_answer, opened, no_such_page, size_row, size_refusal, size_answer, page_sized}
use Rattle.records.specs.declared.texture_packer_config.Config.{Config}
use Rattle.records.specs.declared.frame.Page.{Page}
use Rattle.records.specs.declared.layout.Layout.{Layout}
use Rattle.records.specs.declared.refusal.Refusal.{Refusal}
use Rattle.records.specs.declared.refusal.Refusal.TheVariants.{OutOfBounds, NotWellFormed, NoSuchPage}
use Rattle.records.proofs.Rows.{hit, skipped, none_left}

-- a promise is kept: the answer, and its numbers and values
pub says : {A : Type 0} (numbers : A → List ℕ) {r q : A} → r ≡ q → (r ≡ q) × (numbers r ≡ numbers q)
says numbers e = (e, ap numbers e)

-- ## open

module _ (c : Config) where
  open_passes : in_bounds c ≡ true → open_refusal c ≡ none
  unfolding open_refusal open_row
  open_passes e = skipped (not (in_bounds c)) OutOfBounds [] (ap not e) ∙ none_left

  open_refuses : in_bounds c ≡ false → open_refusal c ≡ some OutOfBounds
  unfolding open_refusal open_row
  open_refuses e = hit (not (in_bounds c)) OutOfBounds [] (ap not e)

  pub opened-done : in_bounds c ≡ true → opened c ≡ record { answer = Ok tt; layout = empty_layout c }
  unfolding opened
  opened-done e = ap (open_answer c) (open_passes e)

  pub opened-refused : in_bounds c ≡ false → opened c ≡ record { answer = Err OutOfBounds; layout = empty_layout blank_config }
  unfolding opened
  opened-refused e = ap (open_answer c) (open_refuses e)

-- ## page size

module _ (l : Layout) (p : Page) where
  pub size-unformed : well_formed l ≡ false → size_refusal l p ≡ some NotWellFormed
  unfolding size_refusal size_row
  size-unformed e = hit (not (well_formed l)) NotWellFormed _ (ap not e)

  pub size_no_page : well_formed l ≡ true → page_count (standing l) ≤ p.0 → size_refusal l p ≡ some NoSuchPage
  unfolding size_refusal size_row no_such_page
  size_no_page e h =
      skipped (not (well_formed l)) NotWellFormed _ (ap not e) ∙ hit _ NoSuchPage [] (le-leb (page_count (standing l)) p.0 h)

  pub size-passes : well_formed l ≡ true → p.0 < page_count (standing l) → size_refusal l p ≡ none
  unfolding size_refusal size_row no_such_page
  size-passes e h =
      skipped (not (well_formed l)) NotWellFormed _ (ap not e) ∙ skipped _ NoSuchPage [] (lt-leb (page_count (standing l)) p.0 h) ∙ none_left

  pub sized_refused : {r : Refusal} → size_refusal l p ≡ some r → page_sized l p ≡ Err r
  unfolding page_sized
  sized_refused e = ap (size_answer (size_of_page l p)) e

  pub sized_is : size_refusal l p ≡ none → page_sized l p ≡ Ok (size_of_page l p)
  unfolding page_sized
  sized_is e = ap (size_answer (size_of_page l p)) e
