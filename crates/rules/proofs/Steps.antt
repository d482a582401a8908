-- Faithful, one record more and one less: keys, places, boxes; and the rule run over the records' own images gives the records.
-- Assumes nothing.
use Prim.Native.Nat.{ℕ, ◌+◌}
use native.Mathlib.Omega.{arith}
use mathlib.Core.Path.{◌≡◌, refl, sym, ◌∙◌, ap, subst}
use mathlib.Core.Bool.{Bool, true, false, not, ◌||◌}
use mathlib.Core.List.{List, [], ◌∷◌, ◌++◌, map, append-nil}
use mathlib.Core.Option.{Option, none, some}
use lib.Dec.{eqb}
use lib.Seq.{append_snoc}
use borrow.Author.Tests.{eqb-true, eqb-false, eq-eqb, ne_eqb, not-true}
use Rattle.geometry.specs.Words.{all_of, all, any}
use Rattle.geometry.specs.Placing.{lying, turn_number}
use Rattle.geometry.specs.declared.rect.Rect.{Rect}
use Rattle.geometry.specs.declared.rect.Size.{Size}
use Rattle.geometry.specs.declared.spot.Spot.{Spot}
use Rattle.geometry.specs.declared.spot.Turn.{Turn}
use Rattle.geometry.specs.declared.spot.Turn.TheVariants.{Upright, Turned}
use Rattle.art.specs.Stores.{Stores}
use Rattle.art.specs.Trimming.{whole_box, trim_box}
use Rattle.art.specs.declared.memory_rgba8_texture.Image.{Image}
use Rattle.records.specs.Records.{size_of, whole_of, box_of, record_well_formed}
use Rattle.records.specs.Layouts.{has_key}
use Rattle.records.specs.declared.texture_packer_config.Config.{Config}
use Rattle.records.specs.declared.frame.Key.{Key}
use Rattle.records.specs.declared.frame.Record.{Record}
use Rattle.rules.specs.Placing.{page_for, record_at, placed}
use Rattle.rules.specs.Faithful.{keys_differ, art_of, same_spot, placed_so, whole_if_untrimmed}
use Rattle.rules.specs.Operations.{art_for}
use Rattle.rules.specs.Story.{laid_from}
use Rattle.rules.specs.declared.placing.Art.{Art}
use Rattle.geometry.proofs.Words.{not_both, and_left, and_right, both, or_no_left, or_no_right}
use Rattle.records.proofs.Rows.{all_of_lem, of_all}
use Rattle.records.proofs.Checks.{good}
use Rattle.rules.proofs.Pages.{placed_at}

-- ## tests over a list with one more at its end

module _ {A : Type 0} (t : A → Bool) where
  pub all_snoc : (l : List A) (z : A) → all t l ≡ true → t z ≡ true → all t (l ++ z ∷ []) ≡ true
  unfolding all
  all_snoc [] z h e = rw e
  all_snoc (x ∷ xs) z h e = both (and_left (t x) (all t xs) h) (all_snoc xs z (and_right (t x) (all t xs) h) e)

  pub all_front : (l m : List A) → all t (l ++ m) ≡ true → all t l ≡ true
  unfolding all
  all_front [] m h = refl
  all_front (x ∷ xs) m h = both (and_left (t x) (all t (xs ++ m)) h) (all_front xs m (and_right (t x) (all t (xs ++ m)) h))

  neither : {a b : Bool} → a ≡ false → b ≡ false → (a || b) ≡ false
  neither p q = rw (p, q)

  pub any_snoc : (l : List A) (z : A) → any t l ≡ false → t z ≡ false → any t (l ++ z ∷ []) ≡ false
  unfolding any
  any_snoc [] z h e = rw e
  any_snoc (x ∷ xs) z h e = neither (or_no_left (t x) (any t xs) h) (any_snoc xs z (or_no_right (t x) (any t xs) h) e)

  pub any_front : (l m : List A) → any t (l ++ m) ≡ false → any t l ≡ false
  unfolding any
  any_front [] m h = refl
  any_front (x ∷ xs) m h =
      neither (or_no_left (t x) (any t (xs ++ m)) h) (any_front xs m (or_no_right (t x) (any t (xs ++ m)) h))

-- ## keys

pub keys_more : (rs : List Record) (r : Record) → keys_differ rs ≡ true → any (has_key r.key) rs ≡ false → keys_differ (rs ++ r ∷ []) ≡ true
unfolding keys_differ has_key any
keys_more [] r h e = refl
keys_more (q ∷ qs) r h e =
    let a = not-true _ (and_left (not (any (has_key q.key) qs)) (keys_differ qs) h) in
    let d : eqb q.key.0 r.key.0 ≡ false = or_no_left (has_key r.key q) (any (has_key r.key) qs) e in
    let n : has_key q.key r ≡ false = ne_eqb r.key.0 q.key.0 (λ z. eqb-false q.key.0 r.key.0 d (sym z)) in
    both (ap not (any_snoc (has_key q.key) qs r a n))
    (keys_more qs r (and_right (not (any (has_key q.key) qs)) (keys_differ qs) h) (or_no_right (has_key r.key q) (any (has_key r.key) qs) e))

pub keys_front : (rs m : List Record) → keys_differ (rs ++ m) ≡ true → keys_differ rs ≡ true
unfolding keys_differ
keys_front [] m h = refl
keys_front (r ∷ rs) m h =
    both
    (ap not (any_front (has_key r.key) rs m (not-true _ (and_left (not (any (has_key r.key) (rs ++ m))) (keys_differ (rs ++ m)) h))))
    (keys_front rs m (and_right (not (any (has_key r.key) (rs ++ m))) (keys_differ (rs ++ m)) h))

-- ## places

module _ (c : Config) where
  pub so_more : (earlier rs : List Record) (r : Record) → placed_so c earlier rs ≡ true → same_spot r (placed c (earlier ++ rs) (art_of r)) ≡ true
      → placed_so c earlier (rs ++ r ∷ []) ≡ true
  unfolding placed_so
  so_more earlier [] r h e =
      both (subst (λ (m : List Record). same_spot r (placed c m (art_of r)) ≡ true) (append-nil earlier) e) refl
  so_more earlier (q ∷ qs) r h e =
      both (and_left (same_spot q (placed c earlier (art_of q))) (placed_so c (earlier ++ q ∷ []) qs) h)
      (so_more (earlier ++ q ∷ []) qs r (and_right (same_spot q (placed c earlier (art_of q))) (placed_so c (earlier ++ q ∷ []) qs) h)
      (rw append_snoc e))

  pub so_front : (earlier rs m : List Record) → placed_so c earlier (rs ++ m) ≡ true → placed_so c earlier rs ≡ true
  unfolding placed_so
  so_front earlier [] m h = refl
  so_front earlier (r ∷ rs) m h =
      both (and_left (same_spot r (placed c earlier (art_of r))) (placed_so c (earlier ++ r ∷ []) (rs ++ m)) h)
      (so_front (earlier ++ r ∷ []) rs m (and_right (same_spot r (placed c earlier (art_of r))) (placed_so c (earlier ++ r ∷ []) (rs ++ m)) h))

-- ## what the rule is told of a record

-- turned twice is upright
back_w : (t : Turn) (s : Size) → (lying t (record { w = (lying t s).w; h = (lying t s).h })).w ≡ s.w
unfolding lying
back_w Upright s = refl
back_w Turned s = refl

back_h : (t : Turn) (s : Size) → (lying t (record { w = (lying t s).w; h = (lying t s).h })).h ≡ s.h
unfolding lying
back_h Upright s = refl
back_h Turned s = refl

-- of a record that it gave it is told what it was told
pub art_back : (c : Config) (a : Art) (p : ℕ) (k : Spot) → art_of (record_at c a p k) ≡ a
unfolding art_of record_at whole_of box_of size_of
art_back c a p k =
    λ i. record {
      key = a.key;
      store = a.store;
      offset = a.offset;
      whole = a.whole;
      kept =
          record {
            x = a.kept.x;
            y = a.kept.y;
            w = back_w k.turn (size_of a.kept) i;
            h = back_h k.turn (size_of a.kept) i;
          };
    }

pub art_placed : (c : Config) (rs : List Record) (a : Art) (r : Record) → placed c rs a ≡ some r → art_of r ≡ a
art_placed c rs a r e = let u = placed_at c rs a e in ap art_of u.is ∙ art_back c a (page_for c rs a.whole) u.spot

same_self : (r : Record) → same_spot r (some r) ≡ true
unfolding same_spot
same_self r =
    let same : (n : ℕ) → eqb n n ≡ true = λ n. eq-eqb n n refl in
    of_all _ (same r.page.0, (same r.frame.x, (same r.frame.y, (same (turn_number r.turn), tt))))

-- so a record that it gave is where it puts it
pub placed_same : (c : Config) (rs : List Record) (a : Art) (r : Record) → placed c rs a ≡ some r → same_spot r (placed c rs (art_of r)) ≡ true
placed_same c rs a r e = ap (same_spot r) (ap (placed c rs) (art_placed c rs a r e) ∙ e) ∙ same_self r

-- ## and the other way round

pub turn-same : (t u : Turn) → turn_number t ≡ turn_number u → t ≡ u
turn-same Upright Upright e = refl
turn-same Turned Turned e = refl
turn-same Upright Turned e = absurd (omega arith)
turn-same Turned Upright e = absurd (omega arith)

-- a record is made again from what the rule is told of it, and its page, place and turn
record_again : (c : Config) (r : Record) (p : ℕ) (k : Spot) → p ≡ r.page.0 → k.at.x + c.border ≡ r.frame.x → k.at.y + c.border ≡ r.frame.y
    → k.turn ≡ r.turn → c.trim ≡ r.trimmed → record_at c (art_of r) p k ≡ r
unfolding record_at art_of whole_of box_of size_of
record_again c r p k ep ex ey et em =
    let ew : (lying k.turn (size_of (box_of r))).w ≡ r.frame.w = ap (λ (t : Turn). (lying t (size_of (box_of r))).w) et ∙ back_w r.turn (size_of r.frame) in
    let eh : (lying k.turn (size_of (box_of r))).h ≡ r.frame.h = ap (λ (t : Turn). (lying t (size_of (box_of r))).h) et ∙ back_h r.turn (size_of r.frame) in
    λ i. record {
      key = r.key;
      page = record { 0 = ep i };
      frame = record { x = ex i; y = ey i; w = ew i; h = eh i };
      turn = et i;
      trimmed = em i;
      source = r.source;
      store = r.store;
      offset = r.offset;
    }

-- the rule gives a record that is where it puts it
pub same-placed : (c : Config) (earlier : List Record) (r : Record) → record_well_formed c r ≡ true → same_spot r (placed c earlier (art_of r)) ≡ true
    → placed c earlier (art_of r) ≡ some r
unfolding same_spot record_at
same-placed c earlier r ok e = go (placed c earlier (art_of r)) refl e
  where
    go : (o : Option Record) → placed c earlier (art_of r) ≡ o → same_spot r o ≡ true → o ≡ some r
    go none p h = absurd (not_both h refl)
    go (some q) p h =
        let u = placed_at c earlier (art_of r) p in
        let s = all_of_lem _ h in
        let pg : r.page.0 ≡ q.page.0 = eqb-true _ _ s.0 in
        let fx : r.frame.x ≡ q.frame.x = eqb-true _ _ s.1.0 in
        let fy : r.frame.y ≡ q.frame.y = eqb-true _ _ s.1.1.0 in
        let tn : r.turn ≡ q.turn = turn-same _ _ (eqb-true _ _ s.1.1.1.0) in
        ap some
        (u.is
        ∙ record_again c r (page_for c earlier (art_of r).whole) u.spot
        (sym (pg ∙ ap (λ (m : Record). m.page.0) u.is))
        (sym (fx ∙ ap (λ (m : Record). m.frame.x) u.is))
        (sym (fy ∙ ap (λ (m : Record). m.frame.y) u.is))
        (sym (tn ∙ ap (λ (m : Record). m.turn) u.is))
        (sym (good c r ok).trimmed))

-- run over the records' images it gives the records
pub laid_again : (c : Config) (earlier rs : List Record) → all (record_well_formed c) rs ≡ true → placed_so c earlier rs ≡ true
    → laid_from c earlier (map art_of rs) ≡ some (earlier ++ rs)
unfolding placed_so laid_from all
laid_again c earlier [] w e = ap some (sym (append-nil earlier))
laid_again c earlier (r ∷ rs) w e =
    let s = same-placed c earlier r (and_left (record_well_formed c r) (all (record_well_formed c) rs) w)
    (and_left (same_spot r (placed c earlier (art_of r))) (placed_so c (earlier ++ r ∷ []) rs) e) in
    rw s
    (laid_again c (earlier ++ r ∷ []) rs (and_right (record_well_formed c r) (all (record_well_formed c) rs) w)
    (and_right (same_spot r (placed c earlier (art_of r))) (placed_so c (earlier ++ r ∷ []) rs) e)
    ∙ ap some (append_snoc earlier r rs))

-- ## with trim off the box is the whole image

pub whole-placed : (c : Config) (rs : List Record) (s : Stores) (k : Key) (i : Image) (r : Record) → placed c rs (art_for c s k i) ≡ some r
    → whole_if_untrimmed c r ≡ true
unfolding whole_if_untrimmed art_for art_of whole_of trim_box whole_box
whole-placed c rs s k i r e = go c.trim refl
  where
    art : art_of r ≡ art_for c s k i
    art = art_placed c rs (art_for c s k i) r e

    go : (t : Bool) → c.trim ≡ t
        → (t || all_of (eqb (box_of r).x 0 ∷ eqb (box_of r).y 0 ∷ eqb (box_of r).w r.source.w ∷ eqb (box_of r).h r.source.h ∷ [])) ≡ true
    go true q = refl
    go false q =
        let b : box_of r ≡ whole_box i = ap (λ (a : Art). a.kept) art ∙ ap (λ (t : Bool). trim_box t s i) q in
        let w : r.source.w ≡ i.w = ap (λ (a : Art). a.whole.w) art in
        let h : r.source.h ≡ i.h = ap (λ (a : Art). a.whole.h) art in
        of_all _ (
          eq-eqb _ _ (ap (λ (k : Rect). k.x) b),
          (
            eq-eqb _ _ (ap (λ (k : Rect). k.y) b),
            (eq-eqb _ _ (ap (λ (k : Rect). k.w) b ∙ sym w), (eq-eqb _ _ (ap (λ (k : Rect). k.h) b ∙ sym h), tt)),
          ),
        )
