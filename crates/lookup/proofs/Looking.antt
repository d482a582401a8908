-- 5: whether any image on a page runs past its store, over what is left of a list; and that each lies in it where none does. Assumes nothing.
use mathlib.Core.Path.{◌≡◌, refl, sym, ap, ◌∙◌}
use mathlib.Core.Bool.{Bool, true, false, cond, ◌&&◌, ◌||◌}
use mathlib.Core.List.{List, [], ◌∷◌, Memᴰ}
use Rattle.std.specs.List.{list_any}
use Rattle.std.proofs.lemmas.List.Recursion.{same_from_clauses}
use lib.Dec.{eqb}
use Rattle.geometry.specs.Words.{any, only}
use Rattle.geometry.proofs.Words.{not_both, or_no_left, or_no_right}
use Rattle.art.specs.Stores.{Stores, runs_past, InStore}
use Rattle.records.specs.Records.{image_of}
use Rattle.records.specs.Layouts.{on_page}
use Rattle.records.specs.declared.frame.Page.{Page}
use Rattle.records.specs.declared.frame.Record.{Record}
use Rattle.lookup.specs.Looking.{page_past}

and_second : (a b : Bool) → (a && b) ≡ false → a ≡ true → b ≡ false
and_second true b e h = e
and_second false b e h = absurd (not_both h refl)

module _ (s : Stores) (p : Page) where
  -- this image is on that page and runs past its store
  abbrev pub past_here : Record → Bool
  past_here r = eqb r.page.0 p.0 && runs_past s (image_of r)

  past_cons : (r : Record) (rs : List Record) → page_past s p (r ∷ rs) ≡ (past_here r || page_past s p rs)
  unfolding page_past on_page only any
  past_cons r rs = go (eqb r.page.0 p.0)
    where
      go : (b : Bool) → any (λ q. runs_past s (image_of q)) (cond b (r ∷ on_page p.0 rs) (on_page p.0 rs)) ≡ ((b && runs_past s (image_of r)) || page_past s p rs)
      go true = refl
      go false = refl

  past_none : page_past s p [] ≡ false
  unfolding page_past on_page only any
  past_none = refl

  -- one of them runs past
  pub past_any : (rs : List Record) → list_any past_here rs ≡ page_past s p rs
  past_any = same_from_clauses (list_any past_here) (page_past s p) (λ r b. past_here r || b) (sym past_none) (λ r rs. refl) past_cons

  -- no image on the page runs past its store: each lies in it
  pub page_in_store : (rs : List Record) → page_past s p rs ≡ false → (r : Record) → Memᴰ r rs → eqb r.page.0 p.0 ≡ true → InStore s (image_of r)
  page_in_store [] e r x3 on = elim x3 [ ]
  page_in_store (q ∷ rs) e r (Memᴰ.head same) on =
      let here : past_here q ≡ false = or_no_left (past_here q) (page_past s p rs) (sym (past_cons q rs) ∙ e) in
      record { inside = and_second _ _ (ap past_here same ∙ here) on }
  page_in_store (q ∷ rs) e r (Memᴰ.tail m) on = page_in_store rs (or_no_right (past_here q) (page_past s p rs) (sym (past_cons q rs) ∙ e)) r m on
