-- A line read word by word is what its words are, where all are of their kind. Assumes nothing.
use Prim.Native.Nat.{ℕ}
use mathlib.Core.Bool.{Bool, true, false, cond, ◌&&◌}
use mathlib.Core.Path.{◌≡◌, refl, ap, ◌∙◌}
use mathlib.Core.List.{List}
use lib.Dec.{eqb}
use lib.ListN.{length}
use Rattle.std.specs.Prelude.{Option, Some, None, is_some, unwrap_or, option_and_then, option_map, Ok, Err, ok_or}
use Rattle.geometry.specs.Words.{all_of}
use Rattle.job.specs.Numbers.{number_in}
use Rattle.job.specs.Words.{word, is_number, to_number, is_part, to_part, is_switch, to_switch, is_store, to_store, is_threshold, to_threshold}
use Rattle.job.specs.Steps.{where_so, counted, part_in, switch_in, store_in, threshold_in, config_in, colour_in, image_in}
use Rattle.job.specs.declared.lines.Line.{Line}
use Rattle.job.specs.declared.lines.Trouble.{Trouble}
use Rattle.job.specs.Lines.{config_ok, config_of, colour_ok, pixel_of, colour_of, image_ok, image_of}

-- ## one word

some_is : (o : Option ℕ) → o ≡ where_so (is_some o) (unwrap_or o 0)
some_is None = refl
some_is (Some n) = refl

number_is : (w : List ℕ) → number_in w ≡ where_so (is_number w) (to_number w)
unfolding is_number to_number
number_is w = some_is (number_in w)

part_is : (w : List ℕ) → part_in w ≡ where_so (is_part w) (to_part w)
unfolding part_in
part_is w = refl

switch_is : (w : List ℕ) → switch_in w ≡ where_so (is_switch w) (to_switch w)
unfolding switch_in
switch_is w = refl

store_is : (w : List ℕ) → store_in w ≡ where_so (is_store w) (to_store w)
unfolding store_in
store_is w = refl

threshold_is : (w : List ℕ) → threshold_in w ≡ where_so (is_threshold w) (to_threshold w)
unfolding threshold_in
threshold_is w = refl

-- ## one word after the other

module _ {A B : Type 0} where
  step : (f : A → Option B) (a r : Bool) {o : Option A} {x : A} (y : B) → o ≡ where_so a x → f x ≡ where_so r y → option_and_then f o ≡ where_so (a && r) y
  step f a r {x = x} y e h = ap (option_and_then f) e ∙ go a
    where
      go : (m : Bool) → option_and_then f (where_so m x) ≡ where_so (m && r) y
      go true = h
      go false = refl

counts : {B : Type 0} (n : ℕ) (ws : List (List ℕ)) (r : Bool) {o : Option B} (y : B) → o ≡ where_so r y → counted n ws o ≡ where_so (eqb (length ws) n && r) y
counts n ws r y h = ap (counted n ws) h ∙ go (eqb (length ws) n)
  where
    go : (m : Bool) → cond m (where_so r y) None ≡ where_so (m && r) y
    go true = refl
    go false = refl

pub config_is : (ws : List (List ℕ)) → config_in ws ≡ where_so (config_ok ws) (config_of ws)
unfolding config_in config_ok config_of all_of
config_is ws =
    counts 12 ws _ _
    (step _ _ _ _ (number_is (word 1 ws))
    (step _ _ _ _ (number_is (word 2 ws))
    (step _ _ _ _ (number_is (word 3 ws))
    (step _ _ _ _ (number_is (word 4 ws))
    (step _ _ _ _ (number_is (word 5 ws))
    (step _ _ _ _ (number_is (word 6 ws))
    (step _ _ _ _ (number_is (word 7 ws))
    (step _ _ _ _ (switch_is (word 8 ws))
    (step _ _ _ _ (switch_is (word 9 ws))
    (step _ _ _ _ (switch_is (word 10 ws))
    (step _ _ _ _ (switch_is (word 11 ws)) refl)))))))))))

pub colour_is : (ws : List (List ℕ)) → colour_in ws ≡ where_so (colour_ok ws) (colour_of ws)
unfolding colour_in colour_ok colour_of pixel_of all_of
colour_is ws =
    counts 7 ws _ _
    (step _ _ _ _ (part_is (word 1 ws))
    (step _ _ _ _ (part_is (word 2 ws))
    (step _ _ _ _ (part_is (word 3 ws))
    (step _ _ _ _ (part_is (word 4 ws))
    (step _ _ _ _ (threshold_is (word 5 ws))
    (step _ _ _ _ (switch_is (word 6 ws)) refl))))))

pub image_is : (ws : List (List ℕ)) → image_in ws ≡ where_so (image_ok ws) (to_number (word 1 ws), image_of ws)
unfolding image_in image_ok image_of all_of
image_is ws =
    counts 6 ws _ _
    (step _ _ _ _ (number_is (word 1 ws))
    (step _ _ _ _ (store_is (word 2 ws))
    (step _ _ _ _ (number_is (word 3 ws))
    (step _ _ _ _ (number_is (word 4 ws))
    (step _ _ _ _ (number_is (word 5 ws)) refl)))))

-- ## a line of its kind

pub told : {A : Type 0} (g : A → Line) (t : Trouble) (b : Bool) (x : A) → ok_or (option_map g (where_so b x)) t ≡ cond b (Ok (g x)) (Err t)
told g t true x = refl
told g t false x = refl
