use mathlib.Core.Path.{◌∙◌, ap, refl}
use mathlib.Core.List.{List}
use Prim.Native.Nat.{ℕ}
use Rattle.job.specs.Bytes.{same}
use Rattle.job.specs.Words.{split}
use Rattle.job.proofs.Sames.{same_is}
use Rattle.job.proofs.Picked.{picked_or}
use Rattle.job.proofs.values.is_word.Goals as goal

pub returns : goal.returns
returns c =
    c.eq.ensures
    ∙ same_is c.unwrap_or.result.now c.args.wanted.now
    ∙ ap (λ (w : List ℕ). same w c.args.wanted.now) (ap (λ (w : _). w.now) c.unwrap_or.ensures ∙ picked_or (split c.args.line.now) c.args.n c.word_at.result _ c.word_at.ensures refl)
