-- Two puts, one behind the other (`record-put`). No loop. Assumes nothing.
use Prim.Native.Nat.{◌*◌}
use native.Mathlib.Omega.{arith}
use Rattle.recordings.specs.Recording.{record_length}
use Rattle.sifting.proofs.Turning.{record-put}
use Rattle.sifting.proofs.put_record.Goals as goal

pub returns : goal.returns
returns c =
    let a = c.args in let room = c.requires in
    record-put a.out.now (record_length * a.k) a.counter a.event (omega arith) c.put_u32.ensures c.put_u64.ensures
