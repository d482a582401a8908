-- A line by the count of its words, and by its first. Assumes nothing.
use Prim.Native.Nat.{ℕ}
use native.Mathlib.Omega.{arith}
use mathlib.Core.Bool.{cond}
use mathlib.Core.Path.{◌≡◌, refl}
use mathlib.Core.List.{List, [], ◌∷◌}
use lib.ListN.{length}
use Rattle.job.specs.Bytes.{says}
use Rattle.job.specs.Words.{word}
use Rattle.job.specs.Lines.{config_line, ground_line, image_line, said}
use Rattle.job.specs.declared.lines.Line.{Line}
use Rattle.job.specs.declared.lines.Line.TheVariants.{Empty}
use Rattle.job.specs.declared.lines.Trouble.{Trouble}
use Rattle.job.specs.declared.lines.Trouble.TheVariants.{UnknownWord}
use Rattle.std.specs.Prelude.{Result, Ok, Err}

-- what is left when the line is no configuration; no background
abbrev pub or_image : List (List ℕ) → Result Line Trouble
or_image ws = cond (says "image" (word 0 ws)) (image_line ws) (Err UnknownWord)

abbrev pub or_ground : List (List ℕ) → Result Line Trouble
or_ground ws = cond (says "background" (word 0 ws)) (ground_line ws) (or_image ws)

pub said-none : (ws : List (List ℕ)) → length ws ≡ 0 → said ws ≡ Ok Empty
unfolding said
said-none [] h = refl
said-none (w ∷ ws) h = absurd (omega arith)

pub said-some : (ws : List (List ℕ)) → (length ws ≡ 0 → ⊥) → said ws ≡ cond (says "config" (word 0 ws)) (config_line ws) (or_ground ws)
unfolding said
said-some [] h = absurd (h refl)
said-some (w ∷ ws) h = refl
