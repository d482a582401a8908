-- Compose rows into a part of the answers that is lent: what it answers and writes hangs on the part's length alone. Assumes nothing.
use Prim.Native.Nat.{ℕ, ◌+◌, ◌-◌, ◌≤◌}
use native.Mathlib.Omega.{arith}
use mathlib.Core.List.{List}
use mathlib.Core.Option.{Option, none, some}
use mathlib.Core.Path.{◌≡◌, refl, sym, ap, ◌∙◌}
use Rattle.std.specs.Prelude.{Result, Ok, Err, ⊤}
use lib.ListN.{length, replicate, length-replicate}
use borrow.Rule.Slice.PartMut.{put_mid, mid_of, mid_len, put_same}
use Rattle.art.specs.Stores.{Stores}
use Rattle.records.specs.declared.frame.Page.{Page}
use Rattle.records.specs.declared.layout.Layout.{Layout}
use Rattle.records.specs.declared.refusal.Refusal.{Refusal}
use Rattle.paint.specs.Pictures.{band}
use Rattle.paint.specs.Backgrounds.{Background}
use Rattle.compose.specs.Composing.{compose_answer, compose_buffer, band_refusal, composed_answer, composed_buffer, composed_numbers}
use Rattle.compose.proofs.Theorems.{compose_long}
use Rattle.wire.specs.Bytes.{put}
use Rattle.wire.proofs.Putting.{put-none, lent-put}
use Rattle.script.specs.Doing.{composed_size}
use Rattle.script.specs.Stepping.{composed_bytes}

pub one_number : (o : Result ⊤ Refusal) → length (composed_numbers o) ≡ 1
one_number (Ok done) = refl
one_number (Err r) = refl

pub size-at_most : (o : Result ⊤ Refusal) (n : ℕ) → composed_size o n ≤ n
size-at_most (Ok done) n = omega arith
size-at_most (Err r) n = omega arith

module _ (l : Layout) (s : Stores) (p : Page) (k : Background) (first rows size : ℕ) where
  long_by : (o : Result ⊤ Refusal) → composed_answer l s p first rows (replicate size 0) ≡ o
      → length (composed_bytes o (composed_buffer l s p k first rows (replicate size 0))) ≡ composed_size o size
  long_by (Ok done) e = compose_long l s p k first rows (replicate size 0) e ∙ length-replicate size 0
  long_by (Err r) e = refl

  pub composed-long : length (composed_bytes (composed_answer l s p first rows (replicate size 0)) (composed_buffer l s p k first rows (replicate size 0)))
      ≡ composed_size (composed_answer l s p first rows (replicate size 0)) size
  composed-long = long_by (composed_answer l s p first rows (replicate size 0)) refl

  module _ (a e : ℕ) (old v : List ℕ) (is : e ≡ a + size) (g : e ≤ length old) (n : length v ≡ e - a) where
    lent-long : length (mid_of a (e - a) old) ≡ length {A = ℕ} (replicate size 0)
    lent-long = let m = mid_len a e old g in let k = length-replicate {A = ℕ} size 0 in omega arith

    pub lent-answer : composed_answer l s p first rows (mid_of a (e - a) old) ≡ composed_answer l s p first rows (replicate size 0)
    unfolding composed_answer
    lent-answer = ap (λ (m : ℕ). compose_answer (band_refusal l s p first rows m)) lent-long

    by_refusal : (o : Option Refusal) (b z : List ℕ) → v ≡ compose_buffer (mid_of a (e - a) old) b o
        → put_mid a (e - a) old v ≡ put old a (composed_bytes (compose_answer o) (compose_buffer z b o))
    by_refusal none b z q = lent-put a e old v (omega arith) g n ∙ ap (put old a) q
    by_refusal (some x) b z q = ap (put_mid a (e - a) old) q ∙ put_same a (e - a) old ∙ sym (put-none old a)

    pub lent-bytes : v ≡ composed_buffer l s p k first rows (mid_of a (e - a) old)
        → put_mid a (e - a) old v ≡ put old a (composed_bytes (composed_answer l s p first rows (replicate size 0)) (composed_buffer l s p k first rows (replicate size 0)))
    unfolding composed_answer composed_buffer
    lent-bytes q =
        by_refusal (band_refusal l s p first rows (length {A = ℕ} (replicate size 0))) (band l s p k first rows) (replicate size 0)
        (q ∙ ap (λ (m : ℕ). compose_buffer (mid_of a (e - a) old) (band l s p k first rows) (band_refusal l s p first rows m)) lent-long)
