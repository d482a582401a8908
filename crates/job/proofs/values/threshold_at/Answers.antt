use Prim.Native.Nat.{ℕ}
use mathlib.Core.Bool.{Bool, true, false, cond, ◌||◌}
use mathlib.Core.Path.{◌≡◌, refl, sym, ap₂, ◌∙◌}
use mathlib.Core.List.{List}
use borrow.Author.Rules.{rules}
use Rattle.std.specs.Prelude.{Option, Some, None, option_map}
use Rattle.job.specs.Bytes.{bytes_of, says}
use Rattle.job.specs.Words.{split, word, is_part, to_part, is_threshold, to_threshold}
use Rattle.job.specs.Steps.{where_so, part_in, threshold_in}
use Rattle.job.proofs.values.threshold_at.Goals as goal

abbrev threshold_of : Bool → Option ℕ → Option (Option ℕ)
threshold_of unset part = cond unset (Some None) (option_map (λ n. Some n) part)

threshold_is : (w : List ℕ) → threshold_in w ≡ threshold_of (says "none" w) (part_in w)
unfolding threshold_in is_threshold to_threshold part_in
threshold_is w = go (says "none" w) (is_part w)
  where
    go : (a b : Bool) → where_so (a || b) (cond a None (Some (to_part w))) ≡ threshold_of a (where_so b (to_part w))
    go true b = refl
    go false true = refl
    go false false = refl

pub returns : goal.returns
unfolding bytes_of
returns c =
    let mapped : c.map.result ≡ option_map (λ (n : ℕ). Some n) c.part_at.result = search rules in
    mapped
    ∙ sym (threshold_is (word c.args.n (split c.args.line.now)) ∙ ap₂ threshold_of (sym c.is_word.ensures ∙ c.if-is_word.false) (sym c.part_at.ensures))
