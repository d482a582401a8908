-- The bytes of an answer and of the end, and when an answer fits. Assumes nothing.
use Prim.Native.Nat.{ℕ, ◌+◌, ◌*◌, ◌/◌, ◌≤◌, ◌<◌}
use native.Mathlib.Omega.{arith}
use mathlib.Core.Bool.{Bool, cond}
use mathlib.Core.List.{List, [], ◌∷◌, ◌++◌, append-nil}
use mathlib.Core.Path.{◌≡◌, refl, sym, ap, ◌∙◌, subst}
use Rattle.std.specs.Prelude.{Result, Ok, Err}
use lib.ListN.{length, length-append}
use borrow.Author.Tests.{le-leb, lt-leb}
use Rattle.records.specs.declared.layout.Layout.{Layout}
use Rattle.wire.specs.Bytes.{words_bytes, put}
use Rattle.wire.proofs.Putting.{words_long, put-none, put_front, put-behind}
use Rattle.script.specs.Doing.{code_of, Leaves, said_by, Does}
use Rattle.script.specs.Stepping.{Stepped, GoesOn, Stops, answer_bytes, end_bytes, saying}
use Rattle.script.specs.declared.steps.Ended.{Ended}
use Rattle.script.specs.declared.steps.Step.{Step}

pub answer-plain : (ns : List ℕ) → answer_bytes ns [] ≡ words_bytes (length ns ∷ ns)
unfolding answer_bytes
answer-plain ns =
    let e : length ns + 0 ≡ length ns = omega arith in
    append-nil (words_bytes ((length ns + 0) ∷ ns)) ∙ ap (λ (n : ℕ). words_bytes (n ∷ ns)) e

pub answer-long : (ns bytes : List ℕ) → length (answer_bytes ns bytes) ≡ 4 + 4 * length ns + length bytes
unfolding answer_bytes
answer-long ns bytes =
    let e = length-append (words_bytes ((length ns + length bytes / 4) ∷ ns)) bytes in
    let f = words_long ((length ns + length bytes / 4) ∷ ns) in
    omega arith

pub end_long : (code at : ℕ) → length (end_bytes code at) ≡ 12
unfolding end_bytes
end_long code at = words_long _

module _ (room : ℕ) (said : List ℕ) (l : Layout) (next : ℕ) (bytes : List ℕ) where
  pub say_fits : length said + length bytes + 12 ≤ room → saying room said l next bytes ≡ GoesOn l next bytes
  unfolding saying
  say_fits h = ap (λ (b : Bool). cond b (GoesOn l next bytes) (Stops 3)) (le-leb (length said + length bytes + 12) room h)

  pub say_stops : room < length said + length bytes + 12 → saying room said l next bytes ≡ Stops 3
  unfolding saying
  say_stops h = ap (λ (b : Bool). cond b (GoesOn l next bytes) (Stops 3)) (lt-leb (length said + length bytes + 12) room h)

-- nothing is said where a command ends the run
pub does_stop : (written : ℕ) (old : List ℕ) (p : Stepped) (e : Ended) → p ≡ Stops (code_of e) → Does p written old old (Err e)
does_stop written old p e q =
    subst (λ (z : Stepped). Does z written old old (Err e)) (sym q) (record { leaves = refl; answers = sym (put-none old written) })

module _ (written : ℕ) (old : List ℕ) (r : Result Step Ended) where
  pub does_go : (p : Stepped) (new : List ℕ) (l : Layout) (next : ℕ) (bytes : List ℕ) → p ≡ GoesOn l next bytes
      → r ≡ Ok (record { layout = l; next = next; written = written + length bytes }) → new ≡ put old written bytes → Does p written old new r
  does_go p new l next bytes e h n = subst (λ (q : Stepped). Does q written old new r) (sym e) (record { leaves = h; answers = n })

  pub does_quiet : (p : Stepped) → said_by p ≡ [] → Leaves written p r → Does p written old old r
  does_quiet p e h = record { leaves = h; answers = sym (put-none old written) ∙ ap (put old written) (sym e) }

  pub does_as : (p q : Stepped) (new : List ℕ) → p ≡ q → Does q written old new r → Does p written old new r
  does_as p q new e h = subst (λ (z : Stepped). Does z written old new r) (sym e) h

-- an answer of one number whose bytes are there already, or follow
module _ (old : List ℕ) (w : ℕ) (numbers bytes : List ℕ) (n more : ℕ) (is : numbers ≡ n ∷ []) (counted : more ≡ length bytes / 4) (h : w + 8 + length bytes ≤ length old) where
  words_are : words_bytes ((1 + more) ∷ n ∷ []) ≡ words_bytes ((length numbers + length bytes / 4) ∷ numbers)
  words_are =
      let one : length numbers ≡ 1 = ap length is in
      let e : 1 + more ≡ length numbers + length bytes / 4 = omega arith in
      let back = sym is in
      λ i. words_bytes (e i ∷ back i)

  eight : w + length (words_bytes ((1 + more) ∷ n ∷ [])) ≡ w + 8
  eight = let e = words_long ((1 + more) ∷ n ∷ []) in omega arith

  pub front_answer : {y z : List ℕ} → y ≡ put old (w + 8) bytes → z ≡ put y w (words_bytes ((1 + more) ∷ n ∷ [])) → z ≡ put old w (answer_bytes numbers bytes)
  unfolding answer_bytes
  front_answer {y} {z} p q =
      let a = words_bytes ((1 + more) ∷ n ∷ []) in
      let long = eight in
      q
      ∙ ap (λ (l : List ℕ). put l w a) (p ∙ ap (λ (k : ℕ). put old k bytes) (sym eight))
      ∙ put_front old w a bytes (omega arith)
      ∙ ap (λ (l : List ℕ). put old w (l ++ bytes)) words_are

  pub behind-answer : {y z : List ℕ} → y ≡ put old w (words_bytes ((1 + more) ∷ n ∷ [])) → z ≡ put y (w + 8) bytes → z ≡ put old w (answer_bytes numbers bytes)
  unfolding answer_bytes
  behind-answer {y} {z} p q =
      let a = words_bytes ((1 + more) ∷ n ∷ []) in
      let long = eight in
      q
      ∙ ap (λ (l : List ℕ). put l (w + 8) bytes) p
      ∙ ap (λ (k : ℕ). put (put old w a) k bytes) (sym eight)
      ∙ put-behind old w a bytes (omega arith)
      ∙ ap (λ (l : List ℕ). put old w (l ++ bytes)) words_are
