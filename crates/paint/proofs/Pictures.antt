-- A band of which each pixel is the picture's is the picture. Assumes nothing.
use Prim.Native.Nat.{ℕ, zero, suc, ◌+◌, ◌*◌, ◌≤◌, ◌<◌}
use native.Mathlib.Omega.{arith}
use native.Mathlib.Nat.{suc-mul, mul-suc, mul-zero, zero-mul, mul_assoc}
use mathlib.Core.Path.{◌≡◌, refl, sym, ap, ap₂, ◌∙◌}
use mathlib.Core.List.{List, [], ◌∷◌, ◌++◌}
use lib.ListN.{length, get_or, take, drop, length-append, length-drop, take-append-drop}
use lib.Seq.{get_or-take, get_or-drop, length-take-le, take_at, drop_at}
use Rattle.geometry.specs.Words.{from, flat}
use Rattle.art.specs.Stores.{pixel_from}
use Rattle.art.specs.declared.memory_rgba8_texture.Pixel.{Pixel}
use Rattle.paint.specs.Pictures.{bytes, line, picture}
use Rattle.paint.specs.Painting.{pixel_no, Shows}

-- ## four bytes are a pixel's

empty : {A : Type 0} (l : List A) → length l ≡ 0 → l ≡ []
empty [] h = refl
empty (x ∷ l) h = absurd (omega arith)

first-pixel : (l : List ℕ) → 4 ≤ length l → l ≡ bytes (pixel_no l 0) ++ drop 4 l
unfolding bytes pixel_from
first-pixel [] h = absurd (omega arith)
first-pixel (a ∷ []) h = absurd (omega arith)
first-pixel (a ∷ b ∷ []) h = absurd (omega arith)
first-pixel (a ∷ b ∷ c ∷ []) h = absurd (omega arith)
first-pixel (a ∷ b ∷ c ∷ d ∷ l) h = refl

-- pixels further on, by what was dropped or taken
pub pixel-drop : (n : ℕ) (l : List ℕ) (i : ℕ) → pixel_no (drop (4 * n) l) i ≡ pixel_no l (n + i)
unfolding pixel_from
pixel-drop n l i =
    let e0 : 4 * n + 4 * i ≡ 4 * (n + i) = omega arith in
    let e1 : 4 * n + (4 * i + 1) ≡ 4 * (n + i) + 1 = omega arith in
    let e2 : 4 * n + (4 * i + 2) ≡ 4 * (n + i) + 2 = omega arith in
    let e3 : 4 * n + (4 * i + 3) ≡ 4 * (n + i) + 3 = omega arith in
    let p0 = get_or-drop (4 * n) l (4 * i) 0 ∙ ap (λ (k : ℕ). get_or l k 0) e0 in
    let p1 = get_or-drop (4 * n) l (4 * i + 1) 0 ∙ ap (λ (k : ℕ). get_or l k 0) e1 in
    let p2 = get_or-drop (4 * n) l (4 * i + 2) 0 ∙ ap (λ (k : ℕ). get_or l k 0) e2 in
    let p3 = get_or-drop (4 * n) l (4 * i + 3) 0 ∙ ap (λ (k : ℕ). get_or l k 0) e3 in
    λ t. record { r = p0 t; g = p1 t; b = p2 t; a = p3 t }

pub pixel-take : (n : ℕ) (l : List ℕ) (i : ℕ) → i < n → pixel_no (take (4 * n) l) i ≡ pixel_no l i
unfolding pixel_from
pixel-take n l i h =
    let p0 = get_or-take (4 * n) l (4 * i) 0 (omega arith) in
    let p1 = get_or-take (4 * n) l (4 * i + 1) 0 (omega arith) in
    let p2 = get_or-take (4 * n) l (4 * i + 2) 0 (omega arith) in
    let p3 = get_or-take (4 * n) l (4 * i + 3) 0 (omega arith) in
    λ t. record { r = p0 t; g = p1 t; b = p2 t; a = p3 t }

-- ## a row

pixels_are : (g : ℕ → Pixel) (n a : ℕ) (l : List ℕ) → length l ≡ 4 * n → ((i : ℕ) → i < n → pixel_no l i ≡ g (a + i))
    → l ≡ flat (λ x. bytes (g x)) (from a n)
unfolding flat from
pixels_are g zero a l h e = empty l (omega arith)
pixels_are g (suc n) a l h e =
    let z : a + 0 ≡ a = omega arith in
    first-pixel l (omega arith)
    ∙ ap₂ (λ (k : Pixel) (m : List ℕ). bytes k ++ m) (e 0 (omega arith) ∙ ap g z)
    (pixels_are g n (suc a) (drop 4 l) (length-drop 4 l ∙ omega arith) (λ i p. pixel-drop 1 l i ∙ e (1 + i) (omega arith) ∙ ap g (next a i)))
  where
    next : (a i : ℕ) → a + (1 + i) ≡ suc a + i
    next a i = omega arith

pub line-is : (f : ℕ → ℕ → Pixel) (w y : ℕ) (l : List ℕ) → length l ≡ 4 * w → ((x : ℕ) → x < w → pixel_no l x ≡ f x y) → l ≡ line f w y
unfolding line
line-is f w y l h e = pixels_are (λ x. f x y) w 0 l h (λ x p. e x p ∙ ap (λ (k : ℕ). f k y) (from_zero x))
  where
    from_zero : (x : ℕ) → x ≡ 0 + x
    from_zero x = omega arith

-- ## rows

rows_are : (f : ℕ → ℕ → Pixel) (w n first : ℕ) (l : List ℕ) → length l ≡ 4 * (w * n)
    → ((x v : ℕ) → x < w → v < n → pixel_no l (v * w + x) ≡ f x (first + v)) → l ≡ flat (line f w) (from first n)
unfolding flat from
rows_are f w zero first l h e = empty l (let z = mul-zero w in omega arith)
rows_are f w (suc n) first l h e =
    let m = mul-suc w n in
    let z : first + 0 ≡ first = omega arith in
    sym (take-append-drop (4 * w) l)
    ∙ ap₂ ◌++◌
    (line-is f w first (take (4 * w) l) (length-take-le (4 * w) l (omega arith)) (λ x p. pixel-take w l x p ∙ ap (λ (k : ℕ). pixel_no l k) (start x) ∙ e x 0 p (omega arith) ∙ ap (f x) z))
    (rows_are f w n (suc first) (drop (4 * w) l) (length-drop (4 * w) l ∙ omega arith)
    (λ x v p q. pixel-drop w l (v * w + x) ∙ ap (λ (k : ℕ). pixel_no l k) (up v x) ∙ e x (suc v) p (omega arith) ∙ ap (f x) (next v)))
  where
    start : (x : ℕ) → x ≡ 0 * w + x
    start x = let z = zero-mul w in omega arith

    up : (v x : ℕ) → w + (v * w + x) ≡ suc v * w + x
    up v x = let z = suc-mul v w in omega arith

    next : (v : ℕ) → first + suc v ≡ suc first + v
    next v = omega arith

pub shows_is : {f : ℕ → ℕ → Pixel} {w first n : ℕ} {l : List ℕ} → Shows f w first n l → l ≡ picture f w first n
unfolding picture
shows_is {f} {w} {first} {n} {l} s = rows_are f w n first l s.long s.each

-- ## and the picture's pixels are its own

bytes-long : (k : Pixel) → length (bytes k) ≡ 4
unfolding bytes
bytes-long k = refl

bytes-pixel : (k : Pixel) (l : List ℕ) → pixel_no (bytes k ++ l) 0 ≡ k
unfolding bytes pixel_from
bytes-pixel k l = refl

flat-long : (g : ℕ → List ℕ) (q a n : ℕ) → ((x : ℕ) → length (g x) ≡ q) → length (flat g (from a n)) ≡ q * n
unfolding flat from
flat-long g q a zero h = sym (mul-zero q)
flat-long g q a (suc n) h =
    length-append (g a) (flat g (from (suc a) n)) ∙ (let e = h a in let r = flat-long g q (suc a) n h in let m = mul-suc q n in omega arith)

-- the pixels after those of a first list
pixel-after : (n : ℕ) (k l : List ℕ) (i : ℕ) → length k ≡ 4 * n → pixel_no (k ++ l) (n + i) ≡ pixel_no l i
pixel-after n k l i h = sym (pixel-drop n (k ++ l) i) ∙ ap (λ (m : List ℕ). pixel_no m i) (drop_at k l (4 * n) h)

pixel-within : (n : ℕ) (k l : List ℕ) (i : ℕ) → length k ≡ 4 * n → i < n → pixel_no (k ++ l) i ≡ pixel_no k i
pixel-within n k l i h p = sym (pixel-take n (k ++ l) i p) ∙ ap (λ (m : List ℕ). pixel_no m i) (take_at k l (4 * n) h)

are_pixels : (g : ℕ → Pixel) (n a i : ℕ) → i < n → pixel_no (flat (λ x. bytes (g x)) (from a n)) i ≡ g (a + i)
unfolding flat from
are_pixels g zero a i h = absurd (omega arith)
are_pixels g (suc n) a zero h = bytes-pixel (g a) (flat (λ x. bytes (g x)) (from (suc a) n)) ∙ ap g (plus_zero a)
  where
    plus_zero : (a : ℕ) → a ≡ a + 0
    plus_zero a = omega arith
are_pixels g (suc n) a (suc i) h =
    ap (λ (j : ℕ). pixel_no (bytes (g a) ++ flat (λ x. bytes (g x)) (from (suc a) n)) j) (one_more i)
    ∙ pixel-after 1 (bytes (g a)) (flat (λ x. bytes (g x)) (from (suc a) n)) i (bytes-long (g a))
    ∙ are_pixels g n (suc a) i (omega arith)
    ∙ ap g (next a i)
  where
    one_more : (i : ℕ) → suc i ≡ 1 + i
    one_more i = omega arith

    next : (a i : ℕ) → suc a + i ≡ a + suc i
    next a i = omega arith

line-long : (f : ℕ → ℕ → Pixel) (w y : ℕ) → length (line f w y) ≡ 4 * w
unfolding line
line-long f w y = flat-long (λ x. bytes (f x y)) 4 0 w (λ x. bytes-long (f x y))

line-pixel : (f : ℕ → ℕ → Pixel) (w y x : ℕ) → x < w → pixel_no (line f w y) x ≡ f x y
unfolding line
line-pixel f w y x h = are_pixels (λ x. f x y) w 0 x h ∙ ap (λ (k : ℕ). f k y) (plain x)
  where
    plain : (x : ℕ) → 0 + x ≡ x
    plain x = omega arith

are_rows : (f : ℕ → ℕ → Pixel) (w n first x v : ℕ) → x < w → v < n → pixel_no (flat (line f w) (from first n)) (v * w + x) ≡ f x (first + v)
unfolding flat from
are_rows f w zero first x v p q = absurd (omega arith)
are_rows f w (suc n) first x zero p q =
    ap (λ (j : ℕ). pixel_no (line f w first ++ flat (line f w) (from (suc first) n)) j) (start x)
    ∙ pixel-within w (line f w first) (flat (line f w) (from (suc first) n)) x (line-long f w first) p
    ∙ line-pixel f w first x p
    ∙ ap (f x) (plus_zero first)
  where
    start : (x : ℕ) → 0 * w + x ≡ x
    start x = let z = zero-mul w in omega arith

    plus_zero : (a : ℕ) → a ≡ a + 0
    plus_zero a = omega arith
are_rows f w (suc n) first x (suc v) p q =
    ap (λ (j : ℕ). pixel_no (line f w first ++ flat (line f w) (from (suc first) n)) j) (up v x)
    ∙ pixel-after w (line f w first) (flat (line f w) (from (suc first) n)) (v * w + x) (line-long f w first)
    ∙ are_rows f w n (suc first) x v p (omega arith)
    ∙ ap (f x) (next v)
  where
    up : (v x : ℕ) → suc v * w + x ≡ w + (v * w + x)
    up v x = let z = suc-mul v w in omega arith

    next : (v : ℕ) → suc first + v ≡ first + suc v
    next v = omega arith

pub picture_shows : (f : ℕ → ℕ → Pixel) (w first n : ℕ) → Shows f w first n (picture f w first n)
unfolding picture
picture_shows f w first n = record {
  long = flat-long (line f w) (4 * w) first n (line-long f w) ∙ mul_assoc 4 w n;
  each = λ x v p q. are_rows f w n first x v p q;
}
