-- Laws of bytes that are written over others. Assumes nothing.
use Prim.Native.Nat.{ℕ, ◌+◌, ◌-◌, ◌*◌, ◌/◌, ◌%◌, ◌≤◌, ◌<◌}
use native.Mathlib.Numerals.{add-one}
use native.Mathlib.Omega.{arith}
use mathlib.Core.List.{List, [], ◌∷◌, ◌++◌, append_assoc, append-nil}
use mathlib.Core.Path.{◌≡◌, refl, sym, ap, ◌∙◌}
use lib.ListN.{length, get_or, take, drop, length-append, length-drop, take-append-drop}
use lib.Seq.{paste, take-suc, take_at, drop_at, take-length, take-take, take-append-le, length-take-le, drop-drop}
use Rattle.std.specs.Int.{w32, to_le_bytes}
use borrow.Rule.Slice.PartMut.{put_mid}
use Rattle.wire.specs.Bytes.{word_bytes, words_bytes, put}

-- the language's bytes of a word: the highest needs no remainder
pub le-bytes : (n : ℕ) → n < 4294967296 → to_le_bytes w32 n ≡ word_bytes n
unfolding word_bytes
le-bytes n h =
    let highest : n / 16777216 % 256 ≡ n / 16777216 = omega arith in
    ap (λ (b : ℕ). n % 256 ∷ n / 256 % 256 ∷ n / 65536 % 256 ∷ b ∷ []) highest

pub word-long : (n : ℕ) → length (word_bytes n) ≡ 4
unfolding word_bytes
word-long n = refl

pub words_long : (ns : List ℕ) → length (words_bytes ns) ≡ 4 * length ns
unfolding words_bytes
words_long [] = refl
words_long (n ∷ ns) =
    let e = length-append (word_bytes n) (words_bytes ns) in
    let f = word-long n in
    let g = words_long ns in
    omega arith

pub words_append : (ms ns : List ℕ) → words_bytes (ms ++ ns) ≡ words_bytes ms ++ words_bytes ns
unfolding words_bytes
words_append [] ns = refl
words_append (m ∷ ms) ns = ap (λ (z : List ℕ). word_bytes m ++ z) (words_append ms ns) ∙ sym (append_assoc (word_bytes m) (words_bytes ms) (words_bytes ns))

pub words_one : (n : ℕ) → words_bytes (n ∷ []) ≡ word_bytes n
unfolding words_bytes
words_one n = append-nil (word_bytes n)

-- one word more of a list
pub words_more : (ns : List ℕ) (i : ℕ) → i < length ns → words_bytes (take (i + 1) ns) ≡ words_bytes (take i ns) ++ word_bytes (get_or ns i 0)
words_more ns i h =
    ap (λ (k : ℕ). words_bytes (take k ns)) (add-one i)
    ∙ ap words_bytes (take-suc ns i 0 h)
    ∙ words_append (take i ns) (get_or ns i 0 ∷ [])
    ∙ ap (λ (z : List ℕ). words_bytes (take i ns) ++ z) (words_one (get_or ns i 0))

pub put-none : (old : List ℕ) (at : ℕ) → put old at [] ≡ old
unfolding put
put-none old at =
    let e : at + 0 ≡ at = omega arith in
    ap (λ (k : ℕ). take at old ++ [] ++ drop k old) e
    ∙ ap (λ (z : List ℕ). z ++ drop at old) (append-nil (take at old))
    ∙ take-append-drop at old

module _ (old : List ℕ) (at : ℕ) (a : List ℕ) (h : at + length a ≤ length old) where
  head_long : length (take at old ++ a) ≡ at + length a
  head_long =
      let e = length-append (take at old) a in
      let f = length-take-le at old (omega arith) in
      omega arith

  pub put-long : length (put old at a) ≡ length old
  unfolding put
  put-long =
      let f = length-append (take at old ++ a) (drop (at + length a) old) in
      let g = head_long in
      let d = length-drop (at + length a) old in
      omega arith

  -- what then stands up to the end of the part
  pub put-take : take (at + length a) (put old at a) ≡ take at old ++ a
  unfolding put
  put-take = take_at (take at old ++ a) (drop (at + length a) old) (at + length a) head_long

  pub put-drop : drop (at + length a) (put old at a) ≡ drop (at + length a) old
  unfolding put
  put-drop = drop_at (take at old ++ a) (drop (at + length a) old) (at + length a) head_long

-- one part behind the other
pub put-behind : (old : List ℕ) (at : ℕ) (a b : List ℕ) → at + length a + length b ≤ length old
    → put (put old at a) (at + length a) b ≡ put old at (a ++ b)
unfolding put
put-behind old at a b h =
    let before = put old at a in
    let m : length (a ++ b) ≡ length a + length b = length-append a b in
    let e : at + length a + length b ≡ at + length (a ++ b) = omega arith in
    let rest : drop (at + length a + length b) before ≡ drop (at + length (a ++ b)) old =
    sym (drop-drop (length b) (at + length a) before)
    ∙ ap (drop (length b)) (put-drop old at a (omega arith))
    ∙ drop-drop (length b) (at + length a) old
    ∙ ap (λ (k : ℕ). drop k old) e
    in
    ap (λ (z : List ℕ). z ++ b ++ drop (at + length a + length b) before) (put-take old at a (omega arith))
    ∙ ap (λ (z : List ℕ). take at old ++ a ++ b ++ z) rest
    ∙ ap (λ (z : List ℕ). z ++ drop (at + length (a ++ b)) old) (append_assoc (take at old) a b)

-- the part in front of another, which is there already
pub put_front : (old : List ℕ) (at : ℕ) (a b : List ℕ) → at + length a + length b ≤ length old
    → put (put old (at + length a) b) at a ≡ put old at (a ++ b)
unfolding put
put_front old at a b h =
    let to = at + length a in
    let rest = drop (to + length b) old in
    let before = put old to b in
    let m : length (a ++ b) ≡ length a + length b = length-append a b in
    let e : to + length b ≡ at + length (a ++ b) = omega arith in
    let long = length-take-le to old (omega arith) in
    let split : before ≡ take to old ++ (b ++ rest) = append_assoc (take to old) b rest in
    let left : take at before ≡ take at old =
    ap (take at) split ∙ take-append-le at (take to old) (b ++ rest) (omega arith) ∙ take-take at to old (omega arith)
    in
    let right : drop to before ≡ b ++ rest = ap (drop to) split ∙ drop_at (take to old) (b ++ rest) to long in
    ap (λ (z : List ℕ). z ++ a ++ drop to before) left
    ∙ ap (λ (z : List ℕ). take at old ++ a ++ z) right
    ∙ sym (append_assoc (take at old ++ a) b rest)
    ∙ ap (λ (z : List ℕ). z ++ rest) (append_assoc (take at old) a b)
    ∙ ap (λ (k : ℕ). take at old ++ (a ++ b) ++ drop k old) e

-- a copy of a whole list
pub paste-put : (old : List ℕ) (at : ℕ) (a : List ℕ) → paste old at a (length a) ≡ put old at a
unfolding put
paste-put old at a = ap (λ (z : List ℕ). take at old ++ z ++ drop (at + length a) old) (take-length a)

-- a part that is lent and comes back
pub lent-put : (a e : ℕ) (l v : List ℕ) → a ≤ e → e ≤ length l → length v ≡ e - a → put_mid a (e - a) l v ≡ put l a v
unfolding put
lent-put a e l v h g n =
    let k : a + (e - a) ≡ a + length v = omega arith in
    ap (λ (z : List ℕ). take a l ++ (v ++ z)) (drop-drop (e - a) a l ∙ ap (λ (m : ℕ). drop m l) k)
    ∙ sym (append_assoc (take a l) v (drop (a + length v) l))

-- words behind words
pub words-behind : (old : List ℕ) (w at : ℕ) (ms ns : List ℕ) → at ≡ w + 4 * length ms → w + 4 * (length ms + length ns) ≤ length old
    → put (put old w (words_bytes ms)) at (words_bytes ns) ≡ put old w (words_bytes (ms ++ ns))
words-behind old w at ms ns e h =
    let m = words_long ms in
    let n = words_long ns in
    let here : at ≡ w + length (words_bytes ms) = omega arith in
    ap (λ (k : ℕ). put (put old w (words_bytes ms)) k (words_bytes ns)) here
    ∙ put-behind old w (words_bytes ms) (words_bytes ns) (omega arith)
    ∙ ap (put old w) (sym (words_append ms ns))

pub first_word : {z : List ℕ} (old : List ℕ) (w n : ℕ) → z ≡ put old w (word_bytes n) → z ≡ put old w (words_bytes (n ∷ []))
first_word old w n e = e ∙ ap (put old w) (sym (words_one n))

-- one word more behind those that are written
pub one_word_more : {y z : List ℕ} (old : List ℕ) (w at : ℕ) (ms : List ℕ) (n : ℕ) → y ≡ put old w (words_bytes ms) → z ≡ put y at (word_bytes n)
    → at ≡ w + 4 * length ms → w + 4 * length ms + 4 ≤ length old → z ≡ put old w (words_bytes (ms ++ n ∷ []))
one_word_more {y} {z} old w at ms n p q e h =
    q
    ∙ ap (λ (l : List ℕ). put l at (word_bytes n)) p
    ∙ ap (put (put old w (words_bytes ms)) at) (sym (words_one n))
    ∙ words-behind old w at ms (n ∷ []) e (omega arith)
