use Rattle.std.proofs.Common.{◌≡◌}
use native.Mathlib.Omega.{arith}
use mathlib.Core.Path.{sym, ap, ◌∙◌}
use mathlib.Core.Bool.{not}
use borrow.Author.Tests.{eq-eqb, ne_eqb}
use lib.ListN.{get_or}
use Rattle.art.specs.Search.{is_set, any_set}
use Rattle.art.proofs.Seen.{seen, none_seen}
use Rattle.art.proofs.texture.all_zero.Goals as goal

pub returns-then-bytes-at-ne0 : goal.returns-then-bytes-at-ne0
unfolding is_set any_set
returns-then-bytes-at-ne0 c =
    let a = c.args in
    let l = c.loop-k in
    let here = ap (λ n. get_or a.bytes.now n 0) l.invariant.0 in
    ap not (sym (seen (is_set a.bytes.now a.first a.step) a.count l.k (omega arith) (ap not (ne_eqb _ _ (λ e. c.if-bytes-at-ne0.true (here ∙ e))))))

pub returns : goal.returns
unfolding is_set any_set
returns c =
    let a = c.args in
    let l = c.loop-k in
    let e : a.count ≡ l.k = omega arith in
    ap not (sym (none_seen (is_set a.bytes.now a.first a.step) a.count (λ k h. ap not (eq-eqb _ _ (l.invariant.1 k (omega arith))))))
