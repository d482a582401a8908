use Prim.Native.Nat.{◌+◌}
use native.Mathlib.Omega.{arith}
use mathlib.Core.List.{[], ◌∷◌}
use mathlib.Core.Path.{◌≡◌, sym, ap, ◌∙◌}
use lib.ListN.{length, take}
use lib.Seq.{length-take-le}
use borrow.Author.Rules.{rules}
use Rattle.wire.specs.Bytes.{put, words_bytes}
use Rattle.wire.proofs.Putting.{first_word, words-behind}
use Rattle.script.proofs.Answers.{answer-plain, answer-long}
use Rattle.script.proofs.steps.write_answer.Goals as goal

pub returns : goal.returns
returns c =
    let a = c.args in
    let old = a.answers.now in
    let w = a.written in
    let ns = take a.a.count a.a.words in
    let n : length a.a.words ≡ 8 = search rules in
    let few : length ns ≡ a.a.count = length-take-le a.a.count a.a.words (omega arith) in
    let long = answer-long ns [] in
    let first = first_word old w a.a.count c.put_word.ensures in record {
      value = omega arith;
      answers_after = c.put_words.ensures
          ∙ ap (λ z. put z (w + 4) (words_bytes ns)) first
          ∙ words-behind old w (w + 4) (a.a.count ∷ []) ns (omega arith) (omega arith)
          ∙ ap (λ k. put old w (words_bytes (k ∷ ns))) (sym few)
          ∙ ap (put old w) (sym (answer-plain ns));
    }
