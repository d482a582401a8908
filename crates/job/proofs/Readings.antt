-- A job's lines, as the loop over its text finds them. Assumes nothing.
use Prim.Native.Nat.{ℕ, suc, ◌+◌, ◌≤◌, ◌<◌}
use native.Mathlib.Omega.{arith}
use native.Mathlib.Numerals.{add-one}
use mathlib.Core.Path.{◌≡◌, sym, ap, ◌∙◌}
use mathlib.Core.List.{List, ◌∷◌}
use lib.ListN.{length, drop, get_or, drop_of_length-le}
use lib.Seq.{drop-cons}
use Rattle.std.specs.Prelude.{Result, Ok}
use Rattle.std.specs.List.{slice_split, enumerate_from}
use Rattle.std.proofs.lemmas.List.FromFn.{length-enumerate_from, get_or-enumerate_from}
use Rattle.job.specs.Bytes.{is_feed}
use Rattle.job.specs.Lines.{line_in}
use Rattle.job.specs.Jobs.{taken, unless_malformed, after, lines_in}
use Rattle.job.specs.declared.reading.Malformed.{Malformed}
use Rattle.job.specs.declared.reading.State.{State}
use Rattle.job.proofs.Splits.{pieces_is}

lines_are : (text : List ℕ) → slice_split is_feed text ≡ lines_in text
unfolding lines_in
lines_are text = pieces_is is_feed text

-- the numbered lines of a text
abbrev pub numbered : List ℕ → List (ℕ × List ℕ)
numbered text = enumerate_from 0 (slice_split is_feed text)

-- line i, of which k stand before it
module _ (text : List ℕ) (k i : ℕ) (l : List ℕ) (h : k < length (numbered text)) (e : ◌≡◌ {A = ℕ × List ℕ} (i, l) (get_or (numbered text) k (i, l))) where
  there : k < length (slice_split is_feed text)
  there = omega (arith, length-enumerate_from 0 (slice_split is_feed text))

  read : ◌≡◌ {A = ℕ × List ℕ} (i, l) (0 + k, get_or (slice_split is_feed text) k l)
  read = e ∙ get_or-enumerate_from 0 (slice_split is_feed text) k (i, l) there

  pub place : i ≡ k
  place = let p : i ≡ 0 + k = ap (λ (p : ℕ × List ℕ). p.0) read in omega arith

  pub here : drop k (lines_in text) ≡ l ∷ drop (k + 1) (lines_in text)
  here =
      let q : l ≡ get_or (slice_split is_feed text) k l = ap (λ (p : ℕ × List ℕ). p.1) read in
      ap (drop k) (sym (lines_are text))
      ∙ drop-cons (slice_split is_feed text) k l there
      ∙ ap (λ (w : List ℕ). w ∷ drop (suc k) (slice_split is_feed text)) (sym q)
      ∙ ap (λ (ls : List (List ℕ)). l ∷ drop (suc k) ls) (lines_are text)
      ∙ ap (λ (n : ℕ). l ∷ drop n (lines_in text)) (sym (add-one k))

  pub taken_here : (s : State) {r : Result State Malformed} → r ≡ taken (i + 1) (line_in l) s → after (k + 1) (drop k (lines_in text)) s ≡ unless_malformed (after (k + 1 + 1) (drop (k + 1) (lines_in text))) r
  unfolding after
  taken_here s q =
      ap (λ (ls : List (List ℕ)). after (k + 1) ls s) here
      ∙ ap (λ (n : ℕ). unless_malformed (after (k + 1 + 1) (drop (k + 1) (lines_in text))) (taken (n + 1) (line_in l) s)) (sym place)
      ∙ ap (unless_malformed (after (k + 1 + 1) (drop (k + 1) (lines_in text)))) (sym q)

pub none_left : (text : List ℕ) (k : ℕ) (s : State) → k ≡ length (numbered text) → after (k + 1) (drop k (lines_in text)) s ≡ Ok s
unfolding after
none_left text k s e =
    let n = length-enumerate_from 0 (slice_split is_feed text) in
    let past : length (slice_split is_feed text) ≤ k = omega arith in
    ap (λ (ls : List (List ℕ)). after (k + 1) ls s) (ap (drop k) (sym (lines_are text)) ∙ drop_of_length-le (slice_split is_feed text) past)
