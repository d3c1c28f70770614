-- Four puts, each behind the last (`header-put`). No loop. Assumes nothing.
use Rattle.mending.proofs.Outcomes.{header-put}
use Rattle.mending.proofs.put_header.Goals as goal

pub returns : goal.returns
returns c =
    let a = c.args in
    header-put a.mended.now a.n c.put_u32.ensures c.put_u32-2.ensures c.put_u32-3.ensures c.put_u32-4.ensures
