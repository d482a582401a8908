-- The code's rows of tests are the definitions'. Assumes nothing.
use Prim.Native.Nat.{ℕ, ◌+◌, ◌≤◌, ◌<◌}
use mathlib.Core.Path.{◌≡◌, refl, sym, ap, ◌∙◌}
use mathlib.Core.Bool.{Bool, true, false, not, ◌&&◌, beq}
use mathlib.Core.List.{[], ◌∷◌}
use lib.Dec.{leb, ltb, eqb}
use borrow.Author.Tests.{le-leb, lt-leb}
use Rattle.geometry.specs.Words.{all_of, all, within}
use Rattle.geometry.specs.Placing.{turn_number}
use Rattle.geometry.specs.declared.rect.Rect.{Rect}
use Rattle.geometry.specs.declared.rect.Size.{Size}
use Rattle.geometry.proofs.Words.{and_no_left, and_no_right}
use Rattle.art.specs.contracts.memory_rgba8_texture.Store.{the_type as stores}
use Rattle.art.specs.declared.memory_rgba8_texture.Store.{Store}
use Rattle.art.specs.declared.memory_rgba8_texture.Store.TheVariants.{Symbols, Wording}
use Rattle.geometry.specs.contracts.spot.Turn.{the_type as turns}
use Rattle.geometry.specs.declared.spot.Turn.{Turn}
use Rattle.geometry.specs.declared.spot.Turn.TheVariants.{Upright, Turned}
use denote.Enum.Bare.{sameb}
use Rattle.records.specs.Settings.{in_bounds, blank_record}
use Rattle.records.specs.Records.{store_number, all_zero, is_blank, whole_of, box_of, box_inside, record_well_formed}
use Rattle.records.specs.Layouts.{standing, unused, well_formed}
use Rattle.records.specs.declared.texture_packer_config.Config.{Config}
use Rattle.records.specs.declared.frame.Record.{Record}
use Rattle.records.specs.declared.layout.Layout.{Layout}
use Rattle.records.proofs.Rows.{joined, each_joined}

is_upright : (t : Turn) → sameb turns t Upright ≡ eqb (turn_number t) 0
is_upright Upright = refl
is_upright Turned = refl

is_symbols : (s : Store) → sameb stores s Symbols ≡ eqb (store_number s) 0
is_symbols Symbols = refl
is_symbols Wording = refl

is_off : (b : Bool) → beq b false ≡ not b
is_off true = refl
is_off false = refl

zero_row : (x y w h : ℕ) → (eqb x 0 && (eqb y 0 && (eqb w 0 && eqb h 0))) ≡ all_zero x y w h
unfolding all_zero
zero_row x y w h = each_joined (eqb x 0) (eqb y 0 ∷ eqb w 0 ∷ eqb h 0 ∷ []) _ (refl, (refl, (refl, (refl, tt))))

-- a record compared with the blank one, as the derived `==` does it
pub blank_row : (r b : Record) → b ≡ blank_record
    → (eqb r.key.0 b.key.0
    && (eqb r.page.0 b.page.0
    && ((eqb r.frame.x b.frame.x && (eqb r.frame.y b.frame.y && (eqb r.frame.w b.frame.w && eqb r.frame.h b.frame.h)))
    && (sameb turns r.turn b.turn
    && (beq r.trimmed b.trimmed
    && ((eqb r.source.x b.source.x && (eqb r.source.y b.source.y && (eqb r.source.w b.source.w && eqb r.source.h b.source.h)))
    && (sameb stores r.store b.store && eqb r.offset b.offset)))))))
    ≡ is_blank r
unfolding is_blank blank_record
blank_row r b e =
    rw e
    (each_joined
    (eqb r.key.0 0)
    (eqb r.page.0 0
    ∷ (eqb r.frame.x 0 && (eqb r.frame.y 0 && (eqb r.frame.w 0 && eqb r.frame.h 0)))
    ∷ sameb turns r.turn Upright
    ∷ beq r.trimmed false
    ∷ (eqb r.source.x 0 && (eqb r.source.y 0 && (eqb r.source.w 0 && eqb r.source.h 0)))
    ∷ sameb stores r.store Symbols
    ∷ eqb r.offset 0
    ∷ []) _ (
      refl,
      (
        refl,
        (
          zero_row r.frame.x r.frame.y r.frame.w r.frame.h,
          (
            is_upright r.turn,
            (is_off r.trimmed, (zero_row r.source.x r.source.y r.source.w r.source.h, (is_symbols r.store, (refl, tt)))),
          ),
        ),
      ),
    ))

-- ## a record

pub record_row : (c : Config) (r : Record) (k : Rect) (whole : Size) (w h x y i : Bool) → k ≡ box_of r → whole ≡ whole_of r
    → w ≡ within 1 2048 whole.w → h ≡ within 1 2048 whole.h
    → x ≡ within c.border (c.border + 4095) r.frame.x → y ≡ within c.border (c.border + 4095) r.frame.y
    → i ≡ box_inside k whole
    → ((((((ltb r.page.0 c.pages && w) && h) && x) && y) && beq r.trimmed c.trim) && i) ≡ record_well_formed c r
unfolding record_well_formed whole_of
record_row c r k whole w h x y i ek es ew eh ex ey ei =
    joined (ltb r.page.0 c.pages) (w ∷ h ∷ x ∷ y ∷ beq r.trimmed c.trim ∷ i ∷ []) _ (
      refl,
      (
        ew ∙ ap (λ (s : Size). within 1 2048 s.w) es,
        (
          eh ∙ ap (λ (s : Size). within 1 2048 s.h) es,
          (ex, (ey, (refl, (ei ∙ ap (λ (q : Rect). box_inside q whole) ek ∙ ap (box_inside (box_of r)) es, tt)))),
        ),
      ),
    )

-- ## a layout

module _ (l : Layout) where
  pub formed_config : (b : Bool) → b ≡ in_bounds l.config → b ≡ false → false ≡ well_formed l
  unfolding well_formed all_of
  formed_config b e f = sym (and_no_left (in_bounds l.config) _ (sym e ∙ f))

  pub formed_count : l.config.images < l.count → false ≡ well_formed l
  unfolding well_formed all_of
  formed_count h =
      sym (and_no_right (in_bounds l.config) _ (and_no_left (leb l.count l.config.images) _ (lt-leb _ _ h)))

  pub formed_unused : (b : Bool) → b ≡ all is_blank (unused l) → b ≡ false → false ≡ well_formed l
  unfolding well_formed all_of
  formed_unused b e f =
      sym (and_no_right (in_bounds l.config) _ (and_no_right (leb l.count l.config.images) _ (and_no_left (all is_blank (unused l)) _ (sym e ∙ f))))

  pub formed_all : (a b r : Bool) → a ≡ in_bounds l.config → a ≡ true → l.count ≤ l.config.images → b ≡ all is_blank (unused l) → b ≡ true
      → r ≡ all (record_well_formed l.config) (standing l) → r ≡ well_formed l
  unfolding well_formed
  formed_all a b r ea ta h eb tb er =
      joined true (true ∷ true ∷ r ∷ []) _
      (sym ta ∙ ea, (sym (le-leb l.count l.config.images h), (sym tb ∙ eb, (er, tt))))
