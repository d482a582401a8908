use mathlib.Core.Path.{◌≡◌}
use lib.ListN.{length, drop}
use Rattle.art.specs.Stores.{lent}
use Rattle.laying.specs.Laying.{wanted, offering}
use Rattle.laying.proofs.offer_all.Given as goal

-- `offer_all` offers image after image: what the rest of them leads to is what all of them lead to. Assumes nothing.
abbrev pub invariant-loop-k : goal.invariant-loop-k
invariant-loop-k l =
    (goal.iterator-loop-k).can_next l.k-iterator × (goal.iterator-loop-k).is_finite l.k-iterator
    × (offering (lent l.stores) 0 l.initial.layout (wanted l.fn.j) ≡ offering (lent l.stores) (length l.yielded) l.layout (drop (length l.yielded) (wanted l.fn.j)))
