-- Seven puts, each behind the last (`header-put`). Assumes nothing.
use Rattle.le.proofs.Header.{header-put}
use Rattle.le.proofs.put_header.Goals as goal

pub returns : goal.returns
returns c =
    header-put _ _ _ _ _ _ _ c.args.s.now
    c.put_u16.ensures c.put_u16-2.ensures c.put_u16-3.ensures c.put_u16-4.ensures
    c.put_u16-5.ensures c.put_u16-6.ensures c.put_u32.ensures
