-- The front is written, and the network into what is behind it, as far as it goes or as anything stood there: the limits leave room for
-- both. Assumes nothing.
use Prim.Native.Nat.{◌+◌, ◌-◌, ◌≤◌}
use mathlib.Core.Logic.{⊎_elim}
use mathlib.Core.Path.{◌≡◌}
use lib.ListN.{length, drop, length-drop}
use lib.Seq.{length-take-le}
use Rattle.state.specs.Form.{slot_rows}
use Rattle.storing.proofs.Asked.{front-within, network-ask, state-stored}
use native.Mathlib.Omega.{arith}
use Rattle.storing.proofs.put_state.Goals as goal

pub overflow_add-at : goal.overflow_add-at
overflow_add-at c =
    let room : let a = c.args in (c.put_front-at.result + (c.rows.result + a.nodes) ≤ length c.put_front-at.new.s) × (c.rows.result ≡ slot_rows a.slots) × (length c.put_front-at.new.s ≡ length a.state.now) = let w = front-within c.requires in let e = c.put_front-at.ensures.0 in let k = c.put_front-at.auto.s in let r = c.rows.ensures in (omega arith, r, k) in
    let r = (room).0 in omega arith

pub overflow_add-at-2 : goal.overflow_add-at-2
overflow_add-at-2 c =
    let room : let a = c.args in (c.put_front-at.result + (c.rows.result + a.nodes) ≤ length c.put_front-at.new.s) × (c.rows.result ≡ slot_rows a.slots) × (length c.put_front-at.new.s ≡ length a.state.now) = let w = front-within c.requires in let e = c.put_front-at.ensures.0 in let k = c.put_front-at.auto.s in let r = c.rows.ensures in (omega arith, r, k) in
    let r = (room).0 in omega arith

pub slice_bounds-put_network-end : goal.slice_bounds-put_network-end
slice_bounds-put_network-end c =
    let room : let a = c.args in (c.put_front-at.result + (c.rows.result + a.nodes) ≤ length c.put_front-at.new.s) × (c.rows.result ≡ slot_rows a.slots) × (length c.put_front-at.new.s ≡ length a.state.now) = let w = front-within c.requires in let e = c.put_front-at.ensures.0 in let k = c.put_front-at.auto.s in let r = c.rows.ensures in (omega arith, r, k) in
    let ends : (c.farther-end.result ≤ length c.put_front-at.new.s) × (c.put_front-at.result + (slot_rows c.args.slots + c.args.nodes) ≤ c.farther-end.result) = let r = room in let a = r.0 in let b = r.1 in let d = r.2 in let i = c.requires.clean.inside in let x = c.farther-end.ensures in let y = x.0 in (⊎_elim (λ e. omega arith) (λ e. omega arith) x.2, omega arith) in
    let e = ends in omega arith

pub put_network-requires : goal.put_network-requires
put_network-requires c =
    let room : let a = c.args in (c.put_front-at.result + (c.rows.result + a.nodes) ≤ length c.put_front-at.new.s) × (c.rows.result ≡ slot_rows a.slots) × (length c.put_front-at.new.s ≡ length a.state.now) = let w = front-within c.requires in let e = c.put_front-at.ensures.0 in let k = c.put_front-at.auto.s in let r = c.rows.ensures in (omega arith, r, k) in
    let ends : (c.farther-end.result ≤ length c.put_front-at.new.s) × (c.put_front-at.result + (slot_rows c.args.slots + c.args.nodes) ≤ c.farther-end.result) = let r = room in let a = r.0 in let b = r.1 in let d = r.2 in let i = c.requires.clean.inside in let x = c.farther-end.ensures in let y = x.0 in (⊎_elim (λ e. omega arith) (λ e. omega arith) x.2, omega arith) in
    let p = c.requires in let e = ends in let n = p.counts.few-slots in
    let t = length-take-le (c.farther-end.result - c.put_front-at.result) (drop c.put_front-at.result c.put_front-at.new.s) (omega (arith, length-drop c.put_front-at.result c.put_front-at.new.s)) in
    network-ask p _ _ (omega arith) (omega arith)

pub returns : goal.returns
returns c =
    let room : let a = c.args in (c.put_front-at.result + (c.rows.result + a.nodes) ≤ length c.put_front-at.new.s) × (c.rows.result ≡ slot_rows a.slots) × (length c.put_front-at.new.s ≡ length a.state.now) = let w = front-within c.requires in let e = c.put_front-at.ensures.0 in let k = c.put_front-at.auto.s in let r = c.rows.ensures in (omega arith, r, k) in
    let ends : (c.farther-end.result ≤ length c.put_front-at.new.s) × (c.put_front-at.result + (slot_rows c.args.slots + c.args.nodes) ≤ c.farther-end.result) = let r = room in let a = r.0 in let b = r.1 in let d = r.2 in let i = c.requires.clean.inside in let x = c.farther-end.ensures in let y = x.0 in (⊎_elim (λ e. omega arith) (λ e. omega arith) x.2, omega arith) in
    let e = ends in
    state-stored c.requires c.args.ticks c.put_front-at.ensures.0 e.1 c.farther-end.ensures.1 (let l = (room).2 in omega arith) c.put_front-at.ensures.1 (room).2
    c.put_network.ensures
