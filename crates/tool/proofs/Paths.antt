-- Bytes put behind each other in a buffer, as far as there is room. Assumes nothing.
use Prim.Native.Nat.{ℕ, ◌+◌, ◌-◌, ◌/◌, ◌%◌, ◌^◌, ◌≤◌, ◌<◌, min}
use native.Mathlib.Omega.{arith}
use native.Mathlib.Decide.{dec_lt}
use mathlib.Core.Path.{◌≡◌, sym, ap, ◌∙◌}
use mathlib.Core.List.{List, [], ◌∷◌, ◌++◌, append_assoc}
use mathlib.Core.Logic.{◌⊎◌, inl, inr}
use lib.ListN.{length, take, drop}
use lib.Seq.{take_all, take-take, take-append-le, length-take-le}
use Rattle.std.proofs.Math.Seq.{take-append-add, take-append_seam}
use Rattle.std.specs.Prelude.{codes}
use Rattle.std.specs.Fmt.{decimal}
use Rattle.std.proofs.lemmas.Fmt.{decimal_digit, decimal_step}
use borrow.Rule.Slice.PartMut.{put_mid}
use Rattle.tool.specs.Paths.{page_name}

-- the front of a list, whichever of two bounds it is cut at
take-least : (n r : ℕ) (l : List ℕ) → n ≡ min (length l) r → take n l ≡ take r l
take-least n r l e = go (dec_lt (length l) r)
  where
    go : Dec (length l < r) → take n l ≡ take r l
    go (yes h) = take_all n l (omega arith) ∙ sym (take_all r l (omega arith))
    go (no h) = ap (λ (k : ℕ). take k l) (omega arith)

-- n bytes of a part in a place of the buffer
pub put_part : (old part : List ℕ) (at n : ℕ) → at ≤ length old → n ≡ min (length part) (length old - at)
    → take (at + n) (put_mid at (at + n - at) old (take n part)) ≡ take (length old) (take at old ++ part)
put_part old part at n h e =
    let front = take at old in
    let long : length front ≡ at = length-take-le at old h in
    let some : length (take n part) ≡ n = length-take-le n part (omega arith) in
    let rest = drop (at + n - at) (drop at old) in
    let one : at + n ≡ length front + n = omega arith in
    let two : length old ≡ length front + (length old - at) = omega arith in
    ap (λ (k : ℕ). take k (front ++ (take n part ++ rest))) one
    ∙ take-append-add front (take n part ++ rest) n
    ∙ ap (λ (k : ℕ). front ++ take k (take n part ++ rest)) (sym some)
    ∙ ap (λ (l : List ℕ). front ++ l) (take-append_seam (take n part) rest ∙ take-least n (length old - at) part e)
    ∙ sym (take-append-add front part (length old - at))
    ∙ ap (λ (k : ℕ). take k (front ++ part)) (sym two)

-- what is behind a front that is cut already
pub put_behind : (k : ℕ) (a b : List ℕ) → take k (take k a ++ b) ≡ take k (a ++ b)
put_behind k a b = go (dec_lt (length a) k)
  where
    go : Dec (length a < k) → take k (take k a ++ b) ≡ take k (a ++ b)
    go (yes h) = ap (λ (l : List ℕ). take k (l ++ b)) (take_all k a (omega arith))
    go (no h) =
        let long : length (take k a) ≡ k = length-take-le k a (omega arith) in
        take-append-le k (take k a) b (omega arith) ∙ take-take k k a (omega arith) ∙ sym (take-append-le k a b (omega arith))

-- a number's last digit behind its others, of which there may be none
pub put_last : {x : List ℕ} (k : ℕ) (front before : List ℕ) (n : ℕ) → n < 2 ^ 64
    → ((10 ≤ n) × (before ≡ take k (front ++ decimal (n / 10)))) ⊎ ((n < 10) × (before ≡ front))
    → x ≡ take k (before ++ ((48 + n % 10) ∷ [])) → x ≡ take k (front ++ decimal n)
put_last k front before n b (inl h) e =
    let last = (48 + n % 10) ∷ [] in
    e
    ∙ ap (λ (l : List ℕ). take k (l ++ last)) h.1
    ∙ put_behind k (front ++ decimal (n / 10)) last
    ∙ ap (take k) (append_assoc front (decimal (n / 10)) last)
    ∙ ap (λ (l : List ℕ). take k (front ++ l)) (sym (decimal_step n h.0 b))
put_last k front before n b (inr h) e =
    e
    ∙ ap (λ (l : List ℕ). take k (l ++ ((48 + n % 10) ∷ []))) h.1
    ∙ ap (λ (m : ℕ). take k (front ++ ((48 + m) ∷ []))) (omega (arith, h.0))
    ∙ ap (λ (l : List ℕ). take k (front ++ l)) (sym (decimal_digit n h.0))

-- a folder, what stands between, a number and an ending, each behind what is there, in a buffer that keeps its length
pub put_path : {x a b c : List ℕ} {i j k : ℕ} (room : ℕ) (folder : List ℕ) (n : ℕ) (ending : List ℕ) → i ≡ room → j ≡ room → k ≡ room
    → a ≡ take room folder → b ≡ take i (a ++ codes "/page-") → c ≡ take j (b ++ decimal n) → x ≡ take k (c ++ ending)
    → x ≡ take room (page_name folder n ending)
unfolding page_name
put_path {x} {a} {b} {c} room folder n ending ei ej ek ea eb ec ex =
    let slash = codes "/page-" in
    let fb = eb ∙ ap (λ (m : ℕ). take m (a ++ slash)) ei ∙ ap (λ (l : List ℕ). take room (l ++ slash)) ea ∙ put_behind room folder slash in
    let fc =
    ec
    ∙ ap (λ (m : ℕ). take m (b ++ decimal n)) ej
    ∙ ap (λ (l : List ℕ). take room (l ++ decimal n)) fb
    ∙ put_behind room (folder ++ slash) (decimal n)
    in
    ex
    ∙ ap (λ (m : ℕ). take m (c ++ ending)) ek
    ∙ ap (λ (l : List ℕ). take room (l ++ ending)) fc
    ∙ put_behind room (folder ++ slash ++ decimal n) ending
