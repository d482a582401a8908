-- The rows of checks of ask, offer and withdraw, as document 01 has them, and one law for every row: a refusal is answered exactly when
-- its check holds and none before it does. Assumes nothing.
use Prim.Native.Nat.{ℕ, suc, ◌<◌}
use mathlib.Core.Path.{◌≡◌, refl, sym, ◌∙◌, ap}
use mathlib.Core.Bool.{Bool, true, false}
use mathlib.Core.List.{[], ◌∷◌, Memᴰ}
use mathlib.Core.Logic.{◌↔◌}
use mathlib.Core.Option.{none, some}
use lib.ListN.{length, take, drop, get_or}
use lib.Seq.{split_at}
use Rattle.geometry.specs.declared.rect.Size.{Size}
use Rattle.art.specs.Stores.{Stores}
use Rattle.art.specs.declared.memory_rgba8_texture.Image.{Image}
use Rattle.records.specs.Refusals.{number_of, first_refusal, Row, row_numbers}
use Rattle.records.specs.declared.frame.Key.{Key}
use Rattle.records.specs.declared.frame.Page.{Page}
use Rattle.records.specs.declared.layout.Layout.{Layout}
use Rattle.records.specs.declared.refusal.Refusal.{Refusal}
use Rattle.records.specs.declared.refusal.Refusal.TheVariants.{OutOfBounds}
use Rattle.rules.specs.Operations.{ask_refusal, offer_refusal, withdraw_refusal, ask_row, offer_row, withdraw_row}
use Rattle.records.proofs.Rows.{skipped, Nones, lacks, exactly}

-- ## the rows

pub ask-row : (l : Layout) (p : Page) (s : Size) → ask_refusal l p s ≡ first_refusal (ask_row l p s)
unfolding ask_refusal
ask-row l p s = refl

pub offer-row : (l : Layout) (s : Stores) (k : Key) (i : Image) → offer_refusal l s k i ≡ first_refusal (offer_row l s k i)
unfolding offer_refusal
offer-row l s k i = refl

pub withdraw_row_lem : (l : Layout) → withdraw_refusal l ≡ first_refusal (withdraw_row l)
unfolding withdraw_refusal
withdraw_row_lem l = refl

-- ## one law for every row

-- the check in place n of a row, and its refusal
abbrev pub test_at : ℕ → Row → Bool
test_at n row = (get_or row n (false, OutOfBounds)).0

abbrev pub refusal_at : ℕ → Row → Refusal
refusal_at n row = (get_or row n (false, OutOfBounds)).1

-- none of the first n checks holds
abbrev pub Passed : ℕ → Row → Type 0
Passed n row = Nones (take n row)

-- the refusal in place n stands nowhere else
abbrev pub Once : ℕ → Row → Type 0
Once n row = (lacks (refusal_at n row) (take n row) ≡ true) × (lacks (refusal_at n row) (drop (suc n) row) ≡ true)

-- "Each row's checks run left to right; the first that holds is answered. Each is given exactly when its condition holds."
pub exactly_at : (row : Row) (n : ℕ) → n < length row → Once n row → first_refusal row ≡ some (refusal_at n row) ↔ (Passed n row × (test_at n row ≡ true))
exactly_at row n h o =
    let s = ap first_refusal (split_at row n (false, OutOfBounds) h) in
    let x = exactly (take n row) (test_at n row) (refusal_at n row) (drop (suc n) row) o.0 o.1 in
    (λ e. x.0 (sym s ∙ e), λ t. s ∙ x.1 t)

-- and no other number is
pub answer_in : (row : Row) (r : Refusal) → first_refusal row ≡ some r → Memᴰ (number_of r) (row_numbers row)
unfolding first_refusal
answer_in [] r e = absurd cc
answer_in ((true, q) ∷ cs) r e = let z : r ≡ q = cc in Memᴰ.head (ap number_of z)
answer_in ((false, q) ∷ cs) r e = Memᴰ.tail (answer_in cs r e)

-- nothing is answered exactly when no check holds
pub none-holds : (row : Row) → first_refusal row ≡ none → Nones row
unfolding first_refusal
none-holds [] e = tt
none-holds ((true, r) ∷ cs) e = absurd cc
none-holds ((false, r) ∷ cs) e = (refl, none-holds cs e)

pub holds-none : (row : Row) → Nones row → first_refusal row ≡ none
unfolding first_refusal
holds-none [] p = refl
holds-none (c ∷ cs) p = skipped c.0 c.1 cs p.0 ∙ holds-none cs p.1
