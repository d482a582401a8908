use native.Mathlib.Omega.{arith}
use Rattle.pages.proofs.Laws.{put_page}
use Rattle.pages.proofs.Pages.pack_on.Goals as goal

pub pack-requires-clause-holds : goal.pack-requires-clause-holds
pack-requires-clause-holds c =
    let p = c.args.p in
    let st = c.requires.by_index.1.1 in
    let few = st.few p c.requires.p_bound.0 in
    let more = c.requires.by_index.2 in
    (_, st.holds p c.requires.p_bound.0, omega arith)

pub returns : goal.returns
returns c cells m st =
    let p = c.args.p in
    let on = c.requires.p_bound.0 in
    put_page _ _ _ p m cells c.args.self.now c.pack.new.self _ on st c.pack.ensures.whole (c.pack.ensures.put (cells p) (st.holds p on))
