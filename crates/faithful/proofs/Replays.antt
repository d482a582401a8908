-- A record against the spot that the rule gives it, and one step of the replay. Assumes nothing.
use Prim.Native.Nat.{ℕ, ◌+◌, ◌-◌, ◌≤◌}
use mathlib.Core.Path.{◌≡◌, refl, sym, ap, ◌∙◌, subst}
use mathlib.Core.Bool.{Bool, true, false, ◌&&◌}
use mathlib.Core.List.{List, [], ◌∷◌, ◌++◌}
use native.Mathlib.Omega.{arith}
use native.Mathlib.Decide.{ℕ_discrete}
use lib.ListN.{length, length-append}
use lib.Dec.{eqb}
use denote.Enum.Bare.{sameb}
use Rattle.geometry.specs.contracts.spot.Turn as Turn
use borrow.Author.Tests.{eqb-true, eq-eqb, ne_eqb}
use Rattle.geometry.specs.declared.rect.Rect.{Rect}
use Rattle.geometry.specs.declared.rect.Size.{Size}
use Rattle.geometry.specs.declared.spot.Spot.{Spot}
use Rattle.std.specs.Prelude.{Option, Some, None}
use Rattle.geometry.specs.declared.spot.Turn.{Turn}
use Rattle.geometry.specs.declared.spot.Turn.TheVariants.{Upright, Turned}
use Rattle.records.specs.declared.texture_packer_config.Config.{Config}
use Rattle.records.specs.declared.frame.Record.{Record}
use Rattle.geometry.specs.Words.{all_of}
use Rattle.geometry.specs.Placing.{height, lying, cell_at, spot_at, turn_number, grown}
use Rattle.geometry.specs.Fits.{Fits}
use Rattle.geometry.proofs.Theorems.{chosen_fits}
use Rattle.pages.specs.declared.Pages.{Pages}
use Rattle.pages.specs.Pages.{first_fitting, Stands, PutOn}
use Rattle.records.specs.Records.{size_of, whole_of, box_of}
use Rattle.records.specs.Layouts.{page_count}
use Rattle.records.proofs.Rows.{all_of_lem}
use Rattle.records.proofs.Checks.{Good}
use Rattle.rules.specs.Placing.{canvas, margin, cell_size, spot_on, cell_of, cells_on, first_page, page_for, record_at, record_for, placed}
use Rattle.rules.specs.Faithful.{art_of, same_spot}
use Rattle.faithful.specs.Replay.{Sized, Replayed}
use Rattle.rules.proofs.Pages.{cells-here, cells_other}

pub length_snoc : (rs : List Record) (r : Record) → length (rs ++ r ∷ []) ≡ length rs + 1
length_snoc rs r = simp length-append (omega arith)

-- a number less b is y exactly if it is y plus b
eqb_shift : (x b y : ℕ) → b ≤ x → eqb (x - b) y ≡ eqb x (y + b)
eqb_shift x b y l = go (ℕ_discrete (x - b) y)
  where
    go : Dec (x - b ≡ y) → eqb (x - b) y ≡ eqb x (y + b)
    go (yes e) = eq-eqb (x - b) y e ∙ sym (eq-eqb x (y + b) (omega arith))
    go (no n) = ne_eqb (x - b) y n ∙ sym (ne_eqb x (y + b) (λ q. n (omega arith)))

-- ## a record's cell is the spot it was given

-- turns are the same as their numbers are
same-turn : (t u : Turn) → sameb Turn.the_type t u ≡ eqb (turn_number t) (turn_number u)
same-turn Upright Upright = refl
same-turn Turned Turned = refl
same-turn Upright Turned = refl
same-turn Turned Upright = refl

turn-same : (t u : Turn) → turn_number t ≡ turn_number u → t ≡ u
turn-same Upright Upright e = refl
turn-same Turned Turned e = refl
turn-same Upright Turned e = absurd (omega arith)
turn-same Turned Upright e = absurd (omega arith)

lying_back_w : (c : Config) (t : Turn) (s : Size) → (lying t (cell_size c (lying t s))).w ≡ s.w + margin c
unfolding lying cell_size
lying_back_w c Upright s = refl
lying_back_w c Turned s = refl

lying_back_h : (c : Config) (t : Turn) (s : Size) → (lying t (cell_size c (lying t s))).h ≡ s.h + margin c
unfolding lying cell_size
lying_back_h c Upright s = refl
lying_back_h c Turned s = refl

box_lying : (r : Record) → size_of (box_of r) ≡ lying r.turn (size_of r.frame)
unfolding box_of size_of
box_lying r = refl

-- the record's cell, where the spot has its corner and its turn
pub cell_back : (c : Config) (r : Record) (k : Spot) (f : ℕ → ℕ) → Fits f (canvas c) c.rotation (cell_size c (size_of (box_of r))) k
    → r.frame.x ≡ k.at.x + c.border → r.frame.y ≡ k.at.y + c.border → turn_number r.turn ≡ turn_number k.turn
    → cell_of c r ≡ k.at
unfolding cell_of spot_at cell_at size_of
cell_back c r k f h ex ey et =
    let t : r.turn ≡ k.turn = turn-same r.turn k.turn et in
    let u : k.turn ≡ h.turn = ap (λ (j : Spot). j.turn) h.is in
    let w : k.at.w ≡ (lying h.turn (cell_size c (size_of (box_of r)))).w = ap (λ (j : Spot). j.at.w) h.is in
    let g : k.at.h ≡ (lying h.turn (cell_size c (size_of (box_of r)))).h = ap (λ (j : Spot). j.at.h) h.is in
    let s : size_of (box_of r) ≡ lying h.turn (size_of r.frame) = box_lying r ∙ ap (λ (z : Turn). lying z (size_of r.frame)) (t ∙ u) in
    let w2 : r.frame.w + margin c ≡ k.at.w =
    sym (lying_back_w c h.turn (size_of r.frame)) ∙ sym (w ∙ ap (λ (z : Size). (lying h.turn (cell_size c z)).w) s) in
    let h2 : r.frame.h + margin c ≡ k.at.h =
    sym (lying_back_h c h.turn (size_of r.frame)) ∙ sym (g ∙ ap (λ (z : Size). (lying h.turn (cell_size c z)).h) s) in
    let x2 : r.frame.x - c.border ≡ k.at.x = omega arith in
    let y2 : r.frame.y - c.border ≡ k.at.y = omega arith in
    λ i. record { x = x2 i; y = y2 i; w = w2 i; h = h2 i }

-- ## the tests of one record

and_row : (a b t : Bool) → ((a && b) && t) ≡ (a && (b && (t && true)))
and_row true true true = refl
and_row true true false = refl
and_row true false t = refl
and_row false b t = refl

pub same_at : (c : Config) (r : Record) (k : Spot) → Good c r
    → ((eqb (r.frame.x - c.border) k.at.x && eqb (r.frame.y - c.border) k.at.y) && eqb (turn_number r.turn) (turn_number k.turn))
    ≡ same_spot r (record_for c (art_of r) r.page.0 (Some k))
unfolding same_spot record_for record_at all_of
same_at c r k g =
    and_row (eqb (r.frame.x - c.border) k.at.x) (eqb (r.frame.y - c.border) k.at.y) (eqb (turn_number r.turn) (turn_number k.turn))
    ∙ ap (λ (z : Bool). z && (eqb (r.frame.y - c.border) k.at.y && (eqb (turn_number r.turn) (turn_number k.turn) && true))) (eqb_shift r.frame.x c.border k.at.x g.left)
    ∙ ap (λ (z : Bool). eqb r.frame.x (k.at.x + c.border) && (z && (eqb (turn_number r.turn) (turn_number k.turn) && true))) (eqb_shift r.frame.y c.border k.at.y g.top)
    ∙ sym (ap (λ (z : Bool). z && (eqb r.frame.x (k.at.x + c.border) && (eqb r.frame.y (k.at.y + c.border) && (eqb (turn_number r.turn) (turn_number k.turn) && true)))) (eq-eqb r.page.0 r.page.0 refl))

pub same-found : (c : Config) (r : Record) (f : Option Spot) (k : Spot) → f ≡ Some k → Good c r
    → ((eqb (r.frame.x - c.border) k.at.x && eqb (r.frame.y - c.border) k.at.y) && sameb Turn.the_type r.turn k.turn)
    ≡ same_spot r (record_for c (art_of r) r.page.0 f)
same-found c r f k ef g =
    ap (λ (z : Bool). (eqb (r.frame.x - c.border) k.at.x && eqb (r.frame.y - c.border) k.at.y) && z) (same-turn r.turn k.turn)
    ∙ rw ef (same_at c r k g)

pub same_none : (c : Config) (r : Record) (p : ℕ) → false ≡ same_spot r (record_for c (art_of r) p None)
unfolding same_spot record_for
same_none c r p = refl

pub same-nothing : (c : Config) (r : Record) (p : ℕ) (f : Option Spot) → f ≡ None → false ≡ same_spot r (record_for c (art_of r) p f)
same-nothing c r p f e = rw e (same_none c r p)

pub same_elsewhere : (c : Config) (r : Record) (p : ℕ) (f : Option Spot) → (r.page.0 ≡ p → ⊥) → false ≡ same_spot r (record_for c (art_of r) p f)
unfolding same_spot record_for record_at all_of
same_elsewhere c r p None n = refl
same_elsewhere c r p (Some k) n = rw (ne_eqb r.page.0 p n)

-- ## the code's numbers are the rule's

pub sized_whole : (c : Config) (r : Record) (s : Size) → s ≡ whole_of r → Good c r → Sized s
unfolding whole_of
sized_whole c r s e g =
    let w : s.w ≡ r.source.w = ap (λ (z : Size). z.w) e in
    let h : s.h ≡ r.source.h = ap (λ (z : Size). z.h) e in
    record { some_w = omega (arith, g.whole_w); some_h = omega (arith, g.whole_h); few_w = omega (arith, g.whole_w_few); few_h = omega (arith, g.whole_h_few) }

pub sized_box : (c : Config) (r : Record) (k : Rect) → k ≡ box_of r → Good c r → Sized (record { w = k.w; h = k.h })
sized_box c r k e g =
    let w : k.w ≡ (box_of r).w = ap (λ (z : Rect). z.w) e in
    let h : k.h ≡ (box_of r).h = ap (λ (z : Rect). z.h) e in
    let i = g.inside in
    record {
      some_w = omega (arith, i.some_w);
      some_h = omega (arith, i.some_h);
      few_w = omega (arith, i.in_w, g.whole_w_few);
      few_h = omega (arith, i.in_h, g.whole_h_few);
    }

pub stands_as : (c : Config) (area : Size) (cells : ℕ → List Rect) (m : ℕ) (sky : Pages) → area ≡ canvas c
    → Stands (canvas c).w cells m sky → Stands area.w cells m sky
stands_as c area cells m sky e st = rw e st

-- the page that the code finds is the rule's
pub page-is : (c : Config) (rs : List Record) (whole area cell : Size) (p pages : ℕ) → area ≡ canvas c → cell ≡ cell_size c whole → pages ≡ page_count rs
    → p ≡ first_fitting (cells_on c rs) area c.rotation cell pages → p ≡ page_for c rs whole
unfolding page_for first_page spot_on first_fitting
page-is c rs whole area cell p pages ea ec ep h =
    h ∙ ap (λ (z : Size). first_fitting (cells_on c rs) z c.rotation cell pages) ea
    ∙ ap (λ (z : Size). first_fitting (cells_on c rs) (canvas c) c.rotation z pages) ec
    ∙ ap (λ (z : ℕ). first_fitting (cells_on c rs) (canvas c) c.rotation (cell_size c whole) z) ep

pub put_as : (c : Config) (size area cell : Size) (p m : ℕ) (cells : ℕ → List Rect) (f : Option Spot) (sky : Pages) → area ≡ canvas c → cell ≡ cell_size c size
    → PutOn area c.rotation cell p m cells f sky → PutOn (canvas c) c.rotation (cell_size c size) p m cells f sky
put_as c size area cell p m cells f sky ea ec h =
    subst (λ (z : Size). PutOn z c.rotation (cell_size c size) p m cells f sky) ea
    (subst (λ (z : Size). PutOn area c.rotation z p m cells f sky) ec h)

pub put_box : (c : Config) (j k : Rect) (p m : ℕ) (cells : ℕ → List Rect) (f : Option Spot) (sky : Pages) → j ≡ k
    → PutOn (canvas c) c.rotation (cell_size c (size_of j)) p m cells f sky → PutOn (canvas c) c.rotation (cell_size c (size_of k)) p m cells f sky
put_box c j k p m cells f sky e = subst (λ (z : Rect). PutOn (canvas c) c.rotation (cell_size c (size_of z)) p m cells f sky) e

-- ## one step of the replay

module _ (c : Config) (rs : List Record) (r : Record) (g : Good c r) where
  pub replay_elsewhere : (p pages : ℕ) (sky : Pages) → p ≡ page_for c rs (whole_of r) → (r.page.0 ≡ p → ⊥) → Replayed c rs r false sky
  unfolding placed art_of
  replay_elsewhere p pages sky e n = record {
    same = same_elsewhere c r (page_for c rs (whole_of r)) (spot_on c (cells_on c rs (page_for c rs (whole_of r))) (size_of (box_of r))) (λ q. n (q ∙ sym e));
    after = λ q. absurd (cc);
  }

  grown-here : (k : Spot) → spot_on c (cells_on c rs r.page.0) (size_of (box_of r)) ≡ Some k → same_spot r (record_for c (art_of r) r.page.0 (Some k)) ≡ true
      → cells_on c (rs ++ r ∷ []) r.page.0 ≡ grown (cells_on c rs r.page.0) (Some k)
  unfolding spot_on grown same_spot record_for record_at
  grown-here k e s =
      let a = all_of_lem _ s in
      cells-here c rs r r.page.0 refl
      ∙ ap (λ (z : Rect). cells_on c rs r.page.0 ++ z ∷ [])
      (cell_back c r k (height (cells_on c rs r.page.0)) (chosen_fits _ _ _ _ k e) (eqb-true _ _ a.1.0) (eqb-true _ _ a.1.1.0) (eqb-true _ _ a.1.1.1.0))

  after-all : (f : Option Spot) → f ≡ spot_on c (cells_on c rs r.page.0) (size_of (box_of r)) → same_spot r (record_for c (art_of r) r.page.0 f) ≡ true
      → cells_on c (rs ++ r ∷ []) r.page.0 ≡ grown (cells_on c rs r.page.0) f
  after-all None e s = let n = same_none c r r.page.0 in absurd (cc)
  after-all (Some k) e s = grown-here k (sym e) s

  pub replay_here : (p : ℕ) (f : Option Spot) (so : Bool) (sky : Pages) → p ≡ page_for c rs (whole_of r) → r.page.0 ≡ p
      → PutOn (canvas c) c.rotation (cell_size c (size_of (box_of r))) p (length rs) (cells_on c rs) f sky
      → so ≡ same_spot r (record_for c (art_of r) r.page.0 f) → Replayed c rs r so sky
  unfolding placed art_of spot_on
  replay_here p f so sky e pe put s = record {
    same = s ∙ ap (λ (z : ℕ). same_spot r (record_for c (art_of r) z f)) (pe ∙ e)
        ∙ ap (λ (z : Option Spot). same_spot r (record_for c (art_of r) (page_for c rs (whole_of r)) z)) (here ∙ ap (λ (z : ℕ). spot_on c (cells_on c rs z) (size_of (box_of r))) (pe ∙ e));
    after = λ t.
        subst (λ (m : ℕ). Stands (canvas c).w (cells_on c (rs ++ r ∷ [])) m sky) (sym (length_snoc rs r))
        (put.stands (cells_on c (rs ++ r ∷ []))
        (subst (λ (q : ℕ). cells_on c (rs ++ r ∷ []) q ≡ grown (cells_on c rs q) f) pe (after-all f here (sym s ∙ t)))
        (λ q n. cells_other c rs r q (λ z. n (sym z ∙ pe))));
  }
    where
      here : f ≡ spot_on c (cells_on c rs r.page.0) (size_of (box_of r))
      here = put.found ∙ ap (λ (z : ℕ). spot_on c (cells_on c rs z) (size_of (box_of r))) (sym pe)
