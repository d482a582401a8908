-- Offers one after the other, as the loop over a job's images makes them. Assumes nothing.
use Prim.Native.Nat.{ℕ, suc, ◌+◌, ◌≤◌, ◌<◌}
use native.Mathlib.Omega.{arith}
use native.Mathlib.Numerals.{add-one}
use mathlib.Core.Path.{◌≡◌, sym, ap, ◌∙◌}
use mathlib.Core.Bool.{Bool, cond}
use mathlib.Core.List.{List, ◌∷◌}
use lib.ListN.{length, take, get_or, drop, drop_of_length-le}
use lib.Seq.{drop-cons}
use Rattle.std.specs.Prelude.{Ok, is_ok}
use Rattle.std.specs.List.{enumerate_from}
use Rattle.std.proofs.lemmas.List.FromFn.{length-enumerate_from, get_or-enumerate_from}
use Rattle.art.specs.Stores.{Stores}
use Rattle.records.specs.declared.layout.Layout.{Layout}
use Rattle.job.specs.declared.reading.Entry.{Entry}
use Rattle.job.specs.declared.reading.Job.{Job}
use Rattle.laying.specs.Laying.{Laid, wanted, offered_one, offering}

-- the numbered images of a job
abbrev pub numbered : Job → List (ℕ × Entry)
numbered j = enumerate_from 0 (take j.count j.entries)

-- image k, of which n stand before it, is offered to l
module _ (s : Stores) (j : Job) (l : Layout) (n k : ℕ) (e : Entry) (h : n < length (numbered j)) (q : ◌≡◌ {A = ℕ × Entry} (k, e) (get_or (numbered j) n (k, e))) where
  there : n < length (take j.count j.entries)
  there = omega (arith, length-enumerate_from 0 (take j.count j.entries))

  read : ◌≡◌ {A = ℕ × Entry} (k, e) (0 + n, get_or (take j.count j.entries) n e)
  read = q ∙ get_or-enumerate_from 0 (take j.count j.entries) n (k, e) there

  place : k ≡ n
  place = let p : k ≡ 0 + n = ap (λ (p : ℕ × Entry). p.0) read in omega arith

  here : drop n (wanted j) ≡ e ∷ drop (suc n) (wanted j)
  unfolding wanted
  here = drop-cons (take j.count j.entries) n e there ∙ ap (λ (x : Entry). x ∷ drop (suc n) (wanted j)) (sym (ap (λ (p : ℕ × Entry). p.1) read))

  pub offers : {r : Laid} {go : Bool} → r ≡ offered_one s k l e → is_ok r.answer ≡ go
      → offering s n l (drop n (wanted j)) ≡ cond go (offering s (n + 1) r.layout (drop (n + 1) (wanted j))) r
  unfolding offering
  offers {r} {go} a g =
      ap (offering s n l) here
      ∙ ap (λ (o : Laid). cond (is_ok o.answer) (offering s (suc n) o.layout (drop (suc n) (wanted j))) o) (ap (λ (m : ℕ). offered_one s m l e) (sym place) ∙ sym a)
      ∙ ap (λ (m : ℕ). cond (is_ok r.answer) (offering s m r.layout (drop m (wanted j))) r) (sym (add-one n))
      ∙ ap (λ (b : Bool). cond b (offering s (n + 1) r.layout (drop (n + 1) (wanted j))) r) g

-- none is left
pub all_offered : (s : Stores) (j : Job) (l : Layout) (n : ℕ) → n ≡ length (numbered j) → offering s n l (drop n (wanted j)) ≡ record { answer = Ok tt; layout = l }
unfolding offering wanted
all_offered s j l n e =
    let m = length-enumerate_from 0 (take j.count j.entries) in
    let past : length (take j.count j.entries) ≤ n = omega arith in
    ap (offering s n l) (drop_of_length-le (take j.count j.entries) past)
