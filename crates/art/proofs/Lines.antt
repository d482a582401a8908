-- A column and a row of an image as bytes one step apart. Assumes nothing.
use Prim.Native.Nat.{ℕ, ◌+◌, ◌*◌, ◌^◌, ◌≤◌, ◌<◌}
use native.Mathlib.Nat.{mul_comm, mul_left_comm}
use native.Mathlib.Omega.{arith}
use mathlib.Core.Path.{◌≡◌, ap}
use mathlib.Core.Bool.{Bool, false, not}
use lib.ListN.{length, get_or}
use lib.Dec.{eqb}
use Rattle.geometry.specs.Words.{from, any}
use Rattle.art.specs.Stores.{Stores, bytes_of, runs_past, place_of, pixel_from, pixel_in}
use Rattle.art.specs.Trimming.{visible, column_visible, row_visible}
use Rattle.art.specs.Search.{is_set, any_set, HasRun}
use Rattle.art.specs.declared.memory_rgba8_texture.Image.{Image}
use Rattle.art.proofs.Places.{in_store, row_in}

-- the alphas lie in the store
module _ (s : Stores) (i : Image) (e : runs_past s i ≡ false) where
  pub row_ends : (y : ℕ) → y < i.h → i.offset + 4 * (y * i.w + i.w) ≤ length (bytes_of s i.store)
  row_ends y h = omega (arith, in_store s i e, row_in i.w i.h y h)

  pub row_run : (y : ℕ) → y < i.h → HasRun (bytes_of s i.store) (i.offset + 4 * (y * i.w) + 3) 4 i.w
  row_run y h = record { ends = omega (arith, row_ends y h); step_fits = omega arith }

  pub column_run : (x : ℕ) → x < i.w → i.w < 2 ^ 32 → HasRun (bytes_of s i.store) (i.offset + 4 * x + 3) (4 * i.w) i.h
  column_run x h g =
      record {
        ends = omega (arith, in_store s i e, mul_left_comm i.h 4 i.w, mul_comm i.h i.w);
        step_fits = omega arith;
      }

-- one of them is not 0 if a pixel of the line is visible
module _ (s : Stores) (i : Image) where
  same_line : (t : ℕ → Bool) (first step n : ℕ) → ((k : ℕ) → is_set (bytes_of s i.store) first step k ≡ t k)
      → any_set (bytes_of s i.store) first step n ≡ any t (from 0 n)
  unfolding any_set
  same_line t first step n h = ap (λ u. any u (from 0 n)) (λ j k. h k j)

  set_at : (x y first step k : ℕ) → first + k * step ≡ place_of i x y + 3 → is_set (bytes_of s i.store) first step k ≡ visible s i x y
  unfolding is_set visible pixel_in pixel_from
  set_at x y first step k p = ap (λ n. not (eqb (get_or (bytes_of s i.store) n 0) 0)) p

  pub row-set : (y : ℕ) → any_set (bytes_of s i.store) (i.offset + 4 * (y * i.w) + 3) 4 i.w ≡ row_visible s i y
  unfolding row_visible place_of
  row-set y = same_line (λ x. visible s i x y) _ _ _ (λ x. set_at x y _ _ _ (omega arith))

  pub column-set : (x : ℕ) → any_set (bytes_of s i.store) (i.offset + 4 * x + 3) (4 * i.w) i.h ≡ column_visible s i x
  unfolding column_visible place_of
  column-set x = same_line (λ y. visible s i x y) _ _ _ (λ y. set_at x y _ _ _ (omega (arith, mul_left_comm y 4 i.w)))
