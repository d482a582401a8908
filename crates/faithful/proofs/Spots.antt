-- The record of an image at a spot, as the code makes it. Assumes nothing.
use Prim.Native.Nat.{ℕ, ◌+◌}
use mathlib.Core.Path.{◌≡◌, ap}
use Rattle.geometry.specs.declared.rect.Size.{Size}
use Rattle.geometry.specs.declared.spot.Spot.{Spot}
use Rattle.std.specs.Prelude.{Option, Some, None, Ok, Err}
use Rattle.records.specs.declared.texture_packer_config.Config.{Config}
use Rattle.geometry.specs.Placing.{lying}
use Rattle.records.specs.Records.{size_of}
use Rattle.rules.specs.Placing.{record_at, record_for}
use Rattle.faithful.specs.Replay.{stood}
use Rattle.rules.specs.declared.placing.Art.{Art}
use Rattle.records.specs.declared.refusal.Refusal.TheVariants.{TooLarge}

pub stood-none : (c : Config) (a : Art) (p : ℕ) (f : Option Spot) → f ≡ None → Err TooLarge ≡ stood (record_for c a p f)
unfolding record_for
stood-none c a p f e = rw e

pub stood-at : (c : Config) (a : Art) (p : ℕ) (f : Option Spot) (k : Spot) (lies : Size) → f ≡ Some k → lies ≡ lying k.turn (record { w = a.kept.w; h = a.kept.h })
    → Ok (record {
      key = a.key;
      page = record { 0 = p };
      frame = record { x = k.at.x + c.border; y = k.at.y + c.border; w = lies.w; h = lies.h };
      turn = k.turn;
      trimmed = c.trim;
      source = record { x = a.kept.x; y = a.kept.y; w = a.whole.w; h = a.whole.h };
      store = a.store;
      offset = a.offset;
    }) ≡ stood (record_for c a p f)
unfolding record_for record_at size_of
stood-at c a p f k lies e l =
    let w : lies.w ≡ (lying k.turn (record { w = a.kept.w; h = a.kept.h })).w = ap (λ (z : Size). z.w) l in
    let h : lies.h ≡ (lying k.turn (record { w = a.kept.w; h = a.kept.h })).h = ap (λ (z : Size). z.h) l in
    rw e (λ i. Ok (record {
      key = a.key;
      page = record { 0 = p };
      frame = record { x = k.at.x + c.border; y = k.at.y + c.border; w = w i; h = h i };
      turn = k.turn;
      trimmed = c.trim;
      source = record { x = a.kept.x; y = a.kept.y; w = a.whole.w; h = a.whole.h };
      store = a.store;
      offset = a.offset;
    }))
