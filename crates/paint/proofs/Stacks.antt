-- Records one after the other, each painted over those accepted after it. Assumes nothing.
use Prim.Native.Nat.{ℕ, ◌+◌, ◌*◌, ◌<◌}
use native.Mathlib.Omega.{arith}
use native.Mathlib.Nat.{mul_comm}
use mathlib.Core.Path.{◌≡◌, refl, sym, ap, ◌∙◌, subst}
use mathlib.Core.Bool.{Bool, true, false}
use mathlib.Core.List.{List, [], ◌∷◌, ◌++◌, Memᴰ}
use mathlib.Core.Option.{none}
use lib.ListN.{length, get_or, drop, drop_of_length-le, length-drop}
use lib.Seq.{drop_at, get_or-drop}
use Rattle.std.proofs.Common.{append_assoc, append-nil}
use lib.Dec.{eqb}
use Rattle.geometry.specs.Words.{earliest}
use Rattle.geometry.specs.Rects.{holds_point}
use Rattle.art.specs.Stores.{Stores, InStore}
use Rattle.art.specs.declared.memory_rgba8_texture.Pixel.{Pixel}
use Rattle.records.specs.Settings.{blank_record}
use Rattle.records.specs.Records.{image_of}
use Rattle.records.specs.Layouts.{standing}
use Rattle.records.specs.declared.texture_packer_config.Config.{Config}
use Rattle.records.specs.declared.frame.Page.{Page}
use Rattle.records.specs.declared.frame.Record.{Record}
use Rattle.records.specs.declared.layout.Layout.{Layout}
use Rattle.records.proofs.Rows.{at_in}
use Rattle.lookup.specs.Zones.{zone, reaches, owner, pixel_of, pixel_among, pixel_at}
use Rattle.lookup.specs.Looking.{page_past}
use Rattle.lookup.proofs.Looking.{page_in_store}
use Rattle.paint.specs.Backgrounds.{Background, composed}
use Rattle.paint.specs.Pictures.{composed_at}
use Rattle.paint.specs.Painting.{composed_among, composed_frame, pixel_no, SpanPainted, ZonePainted, Shows}
use Rattle.paint.proofs.Frames.{row_ends}

module _ (c : Config) (s : Stores) (p : Page) (g : Background) where
  pub among_none : (x y : ℕ) → composed_among c s p g [] x y ≡ composed g none
  unfolding pixel_among pixel_of owner earliest
  among_none x y = refl

  module _ (r : Record) (rs : List Record) (x y : ℕ) where
    pub among_here : reaches c p x y r ≡ true → composed_among c s p g (r ∷ rs) x y ≡ composed_frame c s g r x y
    unfolding pixel_among pixel_of owner earliest
    among_here h = rw h

    pub among_past : reaches c p x y r ≡ false → composed_among c s p g (r ∷ rs) x y ≡ composed_among c s p g rs x y
    unfolding pixel_among pixel_of owner earliest
    among_past h = rw h

  module _ (r : Record) (rs : List Record) (w first n : ℕ) (old : List ℕ) where
    -- a record of another page
    pub shows_past : eqb r.page.0 p.0 ≡ false → Shows (composed_among c s p g rs) w first n old → Shows (composed_among c s p g (r ∷ rs)) w first n old
    unfolding reaches
    shows_past h q = record { long = q.long; each = λ x v a b. q.each x v a b ∙ sym (among_past r rs x (first + v) (rw h)) }

    -- a record of this page
    pub shows_more : (new : List ℕ) → eqb r.page.0 p.0 ≡ true → Shows (composed_among c s p g rs) w first n old
        → ZonePainted (composed_frame c s g r) (zone c r) w first n old new → Shows (composed_among c s p g (r ∷ rs)) w first n new
    unfolding reaches
    shows_more new h q z = record { long = z.long ∙ q.long; each = λ x v a b. go x v a b (holds_point (zone c r) x (first + v)) refl }
      where
        go : (x v : ℕ) → x < w → v < n → (t : Bool) → holds_point (zone c r) x (first + v) ≡ t
            → pixel_no new (v * w + x) ≡ composed_among c s p g (r ∷ rs) x (first + v)
        go x v a b true e = z.inside x v a b e ∙ sym (among_here r rs x (first + v) (rw (h, e)))
        go x v a b false e = z.outside x v a b e ∙ q.each x v a b ∙ sym (among_past r rs x (first + v) (rw (h, e)))

-- ## from the last record to the first

-- the background alone, before any record
pub shows_filled : (c : Config) (s : Stores) (p : Page) (g : Background) (rs : List Record) (w first n : ℕ) (old new : List ℕ) (k : Pixel) → rs ≡ []
    → k ≡ composed g none → length old ≡ 4 * (w * n) → SpanPainted (λ i. k) 0 (w * n) old new → Shows (composed_among c s p g rs) w first n new
shows_filled c s p g rs w first n old new k none_left is long f = record {
  long = f.long ∙ long;
  each = λ x v a b.
      f.inside (v * w + x) (omega arith) (let m = mul_comm w n in omega (arith, row_ends w v n b))
      ∙ is
      ∙ sym (ap (λ (qs : List Record). composed_among c s p g qs x (first + v)) none_left ∙ among_none c s p g x (first + v));
}

-- what is left of the records, with those that were passed, are all of them; the last of what is left is the next
module _ (l : Layout) (rest : List Record) where
  abbrev pub Left : Type 0
  Left = rest ++ drop (length rest) (standing l) ≡ standing l

  -- all of them, before any is passed
  pub none_passed : rest ≡ standing l → drop (length rest) (standing l) ≡ []
  none_passed e = drop_of_length-le (standing l) (let n = ap length e in omega arith)

  pub all_left : rest ≡ standing l → Left
  all_left e = ap (λ (qs : List Record). rest ++ qs) (none_passed e) ∙ append-nil rest ∙ e

  module _ (before : List Record) (r : Record) (is-last : rest ≡ before ++ r ∷ []) (left : Left) where
    split : before ++ r ∷ drop (length rest) (standing l) ≡ standing l
    split = sym (append_assoc before (r ∷ []) (drop (length rest) (standing l))) ∙ ap (λ (qs : List Record). qs ++ drop (length rest) (standing l)) (sym is-last) ∙ left

    -- that record, and those that were passed
    pub last_next : drop (length before) (standing l) ≡ r ∷ drop (length rest) (standing l)
    last_next = ap (drop (length before)) (sym split) ∙ drop_at before (r ∷ drop (length rest) (standing l)) (length before) refl

    pub last_left : before ++ drop (length before) (standing l) ≡ standing l
    last_left = ap (λ (qs : List Record). before ++ qs) last_next ∙ split

    pub last_below : length before < length (standing l)
    last_below = let n = ap length last_next in let m = length-drop (length before) (standing l) in omega arith

    pub last_is : get_or (standing l) (length before) blank_record ≡ r
    last_is =
        ap (λ (i : ℕ). get_or (standing l) i blank_record) (plus_zero (length before))
        ∙ sym (get_or-drop (length before) (standing l) 0 blank_record)
        ∙ ap (λ (qs : List Record). get_or qs 0 blank_record) last_next
      where
        plus_zero : (i : ℕ) → i ≡ i + 0
        plus_zero i = omega arith

    -- where no image of the page runs past its store, that record's does not
    pub last_stored : (s : Stores) (p : Page) → page_past s p (standing l) ≡ false → eqb r.page.0 p.0 ≡ true → InStore s (image_of r)
    last_stored s p none-past on =
        page_in_store s p (standing l) none-past r
        (subst (λ (q : Record). Memᴰ q (standing l)) last_is (at_in (standing l) blank_record (length before) last_below)) on

-- the records given another way
pub shows_records : (c : Config) (s : Stores) (p : Page) (g : Background) {rs qs : List Record} {w first n : ℕ} {l : List ℕ} → rs ≡ qs
    → Shows (composed_among c s p g rs) w first n l → Shows (composed_among c s p g qs) w first n l
shows_records c s p g {rs} {qs} {w} {first} {n} {l} e h = subst (λ (z : List Record). Shows (composed_among c s p g z) w first n l) e h

-- all of them: what composing gives the page
pub shows_standing : (l : Layout) (s : Stores) (p : Page) (g : Background) (w first n i : ℕ) (b : List ℕ) → i ≡ 0
    → Shows (composed_among l.config s p g (drop i (standing l))) w first n b → Shows (composed_at l s p g) w first n b
unfolding composed_at pixel_at
shows_standing l s p g w first n i b e h = subst (λ (k : ℕ). Shows (composed_among l.config s p g (drop k (standing l))) w first n b) e h
