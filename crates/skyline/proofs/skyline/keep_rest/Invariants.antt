use Prim.Native.Nat.{ℕ}
use mathlib.Core.Path.{◌≡◌}
use lib.ListN.{length}
use Rattle.skyline.specs.Skyline.{Outline, outline, Walked}
use Rattle.skyline.proofs.skyline.keep_rest.Given as goal

abbrev pub invariant-loop-j : goal.invariant-loop-j
invariant-loop-j l =
    (length l.xs ≡ length l.initial.xs) × (length l.ys ≡ length l.initial.ys)
    × ((w : ℕ) (old : Outline) (s t : ℕ) → old.n ≡ l.n → Walked w old s l.e t l.from l.height l.end (outline l.initial.xs l.initial.ys l.count)
    → Walked w old s l.e t l.j l.y l.x (outline l.xs l.ys l.k))
