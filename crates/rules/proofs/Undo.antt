-- A withdrawal takes back just what the latest offer added. Assumes nothing.
use Rattle.std.specs.Prelude.{Ok}
use Prim.Native.Nat.{◌<◌}
use native.Mathlib.Omega.{arith}
use mathlib.Core.Path.{◌≡◌, refl, sym, ◌∙◌, ap}
use mathlib.Core.Bool.{true, not}
use mathlib.Core.List.{List, [], ◌∷◌, ◌++◌}
use mathlib.Core.Option.{Option, none, some}
use lib.ListN.{length}
use borrow.Author.Tests.{ne_eqb}
use Rattle.art.specs.Stores.{Stores}
use Rattle.art.specs.declared.memory_rgba8_texture.Image.{Image}
use Rattle.records.specs.Layouts.{standing, well_formed}
use Rattle.records.specs.declared.texture_packer_config.Config.{Config}
use Rattle.records.specs.declared.frame.Key.{Key}
use Rattle.records.specs.declared.frame.Record.{Record}
use Rattle.records.specs.declared.layout.Layout.{Layout}
use Rattle.records.specs.declared.refusal.Refusal.{Refusal}
use Rattle.rules.specs.declared.multi_texture_packer.Place.{Place}
use Rattle.rules.specs.Placing.{record_at, placed}
use Rattle.rules.specs.Faithful.{faithful}
use Rattle.rules.specs.Operations.{art_for, offer_refusal, offer_answer, offered, withdraw_refusal, withdraw_answer, withdrawn, withdraw_row, Withdrawing}
use Rattle.rules.specs.Story.{filled}
use Rattle.rules.proofs.Rows.{withdraw_row_lem, holds-none}
use Rattle.rules.proofs.Pages.{placed_at}
use Rattle.rules.proofs.Standing.{length_snoc, with_filled, without_filled, latest_filled}
use Rattle.rules.proofs.Sound.{Sound, sound_formed, sound_faithful}
use Rattle.rules.proofs.Story.{layout-stands, offer_sound, offer-room, offer-places}

abbrev pub gone : Key → Layout → Withdrawing
gone k l = record { answer = Ok k; layout = l }

-- a sound layout with a record gives it back
pub latest_gone_lem : (c : Config) (rs : List Record) (r : Record) → length rs < 256 → Sound c (rs ++ r ∷ [])
    → withdrawn (filled c (rs ++ r ∷ [])) ≡ gone r.key (filled c rs)
unfolding withdrawn
latest_gone_lem c rs r room h =
    let l = filled c (rs ++ r ∷ []) in
    let e : withdraw_refusal l ≡ none =
    withdraw_row_lem l
    ∙ holds-none (withdraw_row l)
    (ap not (sound_formed c (rs ++ r ∷ []) h), (ap not (sound_faithful c (rs ++ r ∷ []) h), (ne_eqb l.count 0 some-stand, tt))) in
    ap (withdraw_answer l) e
    ∙ (λ i. record { answer = Ok (latest_filled c rs r room i).key; layout = without_filled c rs r room i })
  where
    some-stand : (filled c (rs ++ r ∷ [])).count ≡ 0 → ⊥
    some-stand q = let n = length_snoc rs r in let z : length (rs ++ r ∷ []) ≡ 0 = unfold filled in q in omega arith

-- the rule gives a record the key that it was told
placed-key : (c : Config) (rs : List Record) (s : Stores) (k : Key) (i : Image) (r : Record) → placed c rs (art_for c s k i) ≡ some r → r.key ≡ k
unfolding record_at art_for
placed-key c rs s k i r e = ap (λ (q : Record). q.key) (placed_at c rs (art_for c s k i) e).is

filled_undone : (c : Config) (rs : List Record) → Sound c rs → (s : Stores) (k : Key) (i : Image) (p : Place)
    → (offered (filled c rs) s k i).answer ≡ Ok p → withdrawn (offered (filled c rs) s k i).layout ≡ gone k (filled c rs)
unfolding offered
filled_undone c rs h s k i p e =
    go (offer_refusal (filled c rs) s k i) refl (placed (filled c rs).config (standing (filled c rs)) (art_for (filled c rs).config s k i)) refl e
  where
    go : (o : Option Refusal) → offer_refusal (filled c rs) s k i ≡ o
        → (q : Option Record) → placed (filled c rs).config (standing (filled c rs)) (art_for (filled c rs).config s k i) ≡ q
        → (offer_answer (filled c rs) q o).answer ≡ Ok p → withdrawn (offer_answer (filled c rs) q o).layout ≡ gone k (filled c rs)
    go (some n) a q b w = absurd cc
    go none a none b w = absurd cc
    go none a (some r) b w =
        let pl = offer-places c rs h s k i b in
        let room = offer-room c rs h s k i a in
        ap withdrawn (with_filled c rs r room)
        ∙ latest_gone_lem c rs r room (offer_sound c rs h s k i r a pl)
        ∙ ap (λ (j : Key). gone j (filled c rs)) (placed-key c rs s k i r pl)

pub undone : (l : Layout) → well_formed l ≡ true → faithful l ≡ true → length l.records ≡ 256
    → (s : Stores) (k : Key) (i : Image) (p : Place)
    → (offered l s k i).answer ≡ Ok p → withdrawn (offered l s k i).layout ≡ gone k l
undone l w g n s k i p e =
    let h = layout-stands l w g n in
    let to = h.layout in
    ap (λ (m : Layout). withdrawn (offered m s k i).layout) to
    ∙ filled_undone l.config h.records h.sound s k i p (ap (λ (m : Layout). (offered m s k i).answer) (sym to) ∙ e)
    ∙ ap (gone k) (sym to)
