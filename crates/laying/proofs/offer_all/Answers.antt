use Prim.Native.Nat.{ℕ, ◌+◌, ◌<◌}
use native.Mathlib.Omega.{arith}
use mathlib.Core.Path.{◌≡◌, sym, ap, ◌∙◌}
use mathlib.Core.Bool.{true, false, not}
use mathlib.Core.List.{List, [], ◌∷◌, ◌++◌}
use lib.ListN.{length, drop, get_or, length-append}
use borrow.Author.Rules.{rules}
use Rattle.std.specs.Prelude.{is_ok}
use Rattle.std.proofs.lemmas.Iterator.{YieldsList-from_slice, YieldsList-from_take}
use Rattle.std.proofs.lemmas.Iterator.Consumers.{YieldsList-from_enumerate, YieldsList-at, YieldsList-turn, YieldsList-end}
use Rattle.art.specs.Stores.{lent}
use Rattle.job.specs.declared.reading.Entry.{Entry}
use Rattle.laying.specs.Laying.{wanted, offering}
use Rattle.laying.proofs.Offers.{numbered, offers, all_offered}
use Rattle.laying.proofs.offer_all.Goals.{In-Some, In-None}
use Rattle.laying.proofs.offer_all.Goals as goal

-- the image of this turn
turn : (c : In-Some)
    → (length c.loop-k.yielded < length (numbered c.args.j))
    × ◌≡◌ {A = ℕ × Entry} (c.in-Some.k, c.in-Some.entry.now) (get_or (numbered c.args.j) (length c.loop-k.yielded) (c.in-Some.k, c.in-Some.entry.now))
turn c =
    YieldsList-turn
    (YieldsList-at c.into_iter-k-iterator.ensures.into_iter_gives
    (YieldsList-from_enumerate
    (YieldsList-at c.enumerate-k-items.ensures.source (YieldsList-from_take c.args.j.count (YieldsList-at c.take.ensures.source (YieldsList-from_slice c.args.j.entries c.iter.ensures.rest)) c.take.ensures.count))
    c.enumerate-k-items.ensures.count))
    c.loop-k.yielded c.loop-k.k-iterator c.loop-k.yielded_by c.next.result c.next.new.self (c.in-Some.k, c.in-Some.entry) c.in-Some.is c.next.ensures.steps

pub returns-then-is_err : goal.returns-then-is_err
returns-then-is_err c =
    let t = turn (goal.at.returns-then-is_err c).In-Some in
    let stops : is_ok c.offer_one-next.result.answer ≡ false = c.is_err.ensures.negation ∙ ap not c.if-is_err.true in
    sym (c.loop-k.invariant.2 ∙ offers (lent c.args.stores) c.args.j c.loop-k.layout (length c.loop-k.yielded) c.in-Some.k c.in-Some.entry.now t.0 t.1 c.offer_one-next.ensures stops)

grown : {A : Type 0} (xs : List A) (x : A) → length (xs ++ x ∷ []) ≡ length xs + 1
grown xs x = omega (arith, length-append xs (x ∷ []))

pub loop-k-preserved : goal.loop-k-preserved
loop-k-preserved c =
    let t = turn (goal.at.loop-k-preserved c).In-Some in
    let goes_on : is_ok c.offer_one-next.result.answer ≡ true = c.is_err.ensures.negation ∙ ap not c.if-is_err.false in
    let one = grown c.loop-k.yielded (c.in-Some.k, c.in-Some.entry) in (
      search rules,
      search rules,
      c.loop-k.invariant.2
          ∙ offers (lent c.args.stores) c.args.j c.loop-k.layout (length c.loop-k.yielded) c.in-Some.k c.in-Some.entry.now t.0 t.1 c.offer_one-next.ensures goes_on
          ∙ ap (λ (n : ℕ). offering (lent c.args.stores) n c.offer_one-next.result.layout (drop n (wanted c.args.j))) (sym one),
    )

pub returns : goal.returns
returns c =
    let last =
    YieldsList-end
    (YieldsList-at c.into_iter-k-iterator.ensures.into_iter_gives
    (YieldsList-from_enumerate
    (YieldsList-at c.enumerate-k-items.ensures.source (YieldsList-from_take c.args.j.count (YieldsList-at c.take.ensures.source (YieldsList-from_slice c.args.j.entries c.iter.ensures.rest)) c.take.ensures.count))
    c.enumerate-k-items.ensures.count))
    c.loop-k.yielded c.loop-k.k-iterator c.loop-k.yielded_by c.next.result c.next.new.self c.in-None.is c.next.ensures.steps in
    sym (c.loop-k.invariant.2 ∙ all_offered (lent c.args.stores) c.args.j c.loop-k.layout (length c.loop-k.yielded) last.1)
