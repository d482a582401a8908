-- The word that `word_at` picks. Assumes nothing.
use Prim.Native.Nat.{ℕ}
use mathlib.Core.Path.{◌≡◌, refl, sym, ap, ◌∙◌}
use mathlib.Core.List.{List, []}
use lib.ListN.{get_or}
use denote.Ref.{Bor}
use Rattle.std.specs.Prelude.{Option, Some, None, unwrap_or, option_copied, slice_get}
use Rattle.std.proofs.lemmas.Option.{unwrap_or-slice_get}
use Rattle.job.specs.Words.{word}

read_or : (r : Option (Bor (List ℕ))) (d : Bor (List ℕ)) → (unwrap_or r d).now ≡ unwrap_or (option_copied r) d.now
read_or None d = refl
read_or (Some w) d = refl

module _ (ws : List (List ℕ)) (n : ℕ) where
  pub picked_or : (r : Option (Bor (List ℕ))) (d : Bor (List ℕ)) → option_copied r ≡ slice_get ws n → d.now ≡ [] → (unwrap_or r d).now ≡ word n ws
  picked_or r d e z = read_or r d ∙ ap (λ (o : Option (List ℕ)). unwrap_or o d.now) e ∙ unwrap_or-slice_get ws n d.now ∙ ap (λ (l : List ℕ). get_or ws n l) z

  pub picked : {r : Option (Bor (List ℕ))} (w : Bor (List ℕ)) → option_copied r ≡ slice_get ws n → r ≡ Some w → w.now ≡ word n ws
  picked w e q = ap (λ (o : Option (List ℕ)). unwrap_or o []) (sym (ap option_copied q) ∙ e) ∙ unwrap_or-slice_get ws n []

  pub past : {r : Option (Bor (List ℕ))} → option_copied r ≡ slice_get ws n → r ≡ None → [] ≡ word n ws
  past e q = ap (λ (o : Option (List ℕ)). unwrap_or o []) (sym (ap option_copied q) ∙ e) ∙ unwrap_or-slice_get ws n []
