use Prim.Native.Nat.{ℕ, ◌<◌}
use mathlib.Core.Path.{◌≡◌}
use mathlib.Core.Bool.{false}
use mathlib.Core.List.{List}
use Rattle.geometry.specs.declared.rect.Rect.{Rect}
use Rattle.geometry.specs.Placing.{height, spot_for, is_found}
use Rattle.pages.specs.Pages.{Stands}
use Rattle.pages.proofs.Pages.first_page.Given as goal

abbrev pub invariant-loop-p : goal.invariant-loop-p
invariant-loop-p l =
    (cells : ℕ → List Rect) (m : ℕ) → Stands l.area.w cells m l.self → (k : ℕ) → k < l.p → is_found (spot_for (height (cells k)) l.area l.rotation l.cell) ≡ false
