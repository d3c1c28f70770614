-- What is asked of the functions that write a network and a state (`root-ask`, `network-ask`), and what they have written
-- (`network-stored`, `state-stored`). Assumes nothing.
use mathlib.Core.Path.{◌≡◌, sym, ap, subst, ◌∙◌}
use mathlib.Core.List.{List, ◌++◌}
use Prim.Native.Nat.{ℕ, ◌+◌, ◌-◌, ◌≤◌}
use native.Mathlib.Omega.{arith}
use lib.ListN.{length, take, drop, replicate, length-drop}
use lib.Seq.{length-take-le}
use Rattle.lists.specs.Runs.{tail, tail_as}
use Rattle.lists.proofs.Parts.{tail-length}
use Rattle.network.specs.Layout.{rooted, laid}
use Rattle.state.specs.Form.{form_in, slot_rows, slots_at}
use Rattle.state.specs.Bytes.{nodes_of, state_header, board_records, slot_records, node_bytes}
use Rattle.state.proofs.Forms.{form-room}
use Rattle.laying.specs.Lays.{RootAsk, LaysRoot}
use Rattle.storing.specs.Stores.{NetworkAsk, StoresNetwork, StateAsk, Stores}
use Rattle.storing.proofs.Zeros.{zero-later}
use Rattle.storing.proofs.Written.{network-put, state-put}

-- ---- the network
module _ {out rows : List ℕ} {slots nodes : ℕ} {u tags : List ℕ} (ask : NetworkAsk out rows slots nodes u tags) where
  pub root-ask : RootAsk u tags (tail (slot_rows slots) out) rows
  root-ask =
      let l = ask.laid_out in
      let c = ask.counts in
      let e = ap length l.network-is in
      let f = ap nodes_of l.network-is in
      let t = tail-length (slot_rows slots) out in
      record {
        choose = l.choose;
        hold = l.hold;
        formula = l.formula;
        rest = l.rest;
        board = l.board;
        source = l.source;
        stands = l.stands;
        slots = omega arith;
        numbers = omega arith;
        nodes = omega arith;
        records = omega arith;
      }

  pub network-stored : {q r o z : List ℕ} → LaysRoot u tags (tail (slot_rows slots) out) rows q r
      → o ≡ take (slot_rows slots) r ++ drop (length (take (slot_rows slots) r)) (tail_as (slot_rows slots) out q)
      → z ≡ replicate (length (tail (slot_rows slots + nodes) o)) 0
      → StoresNetwork slots nodes u tags out (tail_as (slot_rows slots + nodes) o z)
  network-stored {q} {r} {o} {z} h f g network l c =
      let a = ap length l.network-is in
      let b = ap nodes_of l.network-is in
      let t = tail-length (slot_rows slots) out in
      let x = h l.choose l.hold l.formula l.rest l.board l.source l.stands (omega arith) (omega arith) in
      let n = rooted l.board (laid l.choose l.hold l.formula l.board 1) in
      rw l.network-is (network-put n slots nodes (c.slots-are ∙ a) (c.nodes-are ∙ b) out (drop (slot_rows (length n)) rows) q r o z ask.room x.0 x.1 f g)

  -- the same, with the length of the records as the code has found it
  pub root-ask-at : {n : ℕ} → n ≡ slot_rows slots → RootAsk u tags (tail n out) rows
  root-ask-at e = subst (λ (k : ℕ). RootAsk u tags (tail k out) rows) (sym e) root-ask

  pub network-stored-at : {n : ℕ} {q r o z : List ℕ} → n ≡ slot_rows slots → LaysRoot u tags (tail n out) rows q r
      → o ≡ take n r ++ drop (length (take n r)) (tail_as n out q)
      → z ≡ replicate (length (tail (n + nodes) o)) 0
      → StoresNetwork slots nodes u tags out (tail_as (n + nodes) o z)
  network-stored-at {q = q} {r = r} {o = o} {z = z} e =
      subst
      (λ (k : ℕ). LaysRoot u tags (tail k out) rows q r → o ≡ take k r ++ drop (length (take k r)) (tail_as k out q) → z ≡ replicate (length (tail (k + nodes) o)) 0 → StoresNetwork slots nodes u tags out (tail_as (k + nodes) o z))
      (sym e)
      network-stored

-- ---- the state
module _ {state : List ℕ} {used : ℕ} {masks : List ℕ} {slots nodes : ℕ} {u tags : List ℕ} (ask : StateAsk state used masks slots nodes u tags) where
  pub network-ask : (out rows : List ℕ) → slot_rows slots + nodes ≤ length out → slot_rows slots ≤ length rows → NetworkAsk out rows slots nodes u tags
  network-ask out rows l m = record { network = ask.network; laid_out = ask.laid_out; counts = ask.counts; room = l; rows-room = m }

  -- the slots' records begin, and all parts end, within the state
  pub front-within : slots_at (form_in state) (length masks) + (slot_rows slots + nodes) ≤ length state
  front-within =
      let f = form-room (form_in state) (length masks) slots nodes ask.few-boards ask.form-slots ask.form-nodes in
      let l = ask.long in
      omega arith

  pub state-stored : (ticks : ℕ) {s y : List ℕ} {at end : ℕ} → at ≡ slots_at (form_in state) (length masks) → at + (slot_rows slots + nodes) ≤ end → used ≤ end → end ≤ length state
      → s ≡ (state_header (form_in state) (length masks) slots nodes ticks ++ board_records (form_in state) masks) ++ drop (slots_at (form_in state) (length masks)) state
      → length s ≡ length state
      → StoresNetwork slots nodes u tags (take (end - at) (drop at s)) y
      → Stores (form_in state) masks slots nodes ticks u tags (take at s ++ (y ++ drop (end - at) (drop at s)))
  state-stored ticks {s} {y} {at} {end} p room l m e k g network x c =
      let long = ask.long in
      let part : length (take (end - at) (drop at s)) ≡ end - at = length-take-le (end - at) (drop at s) (omega (arith, length-drop at s)) in
      let h = g network x c ∙ ap (λ (i : ℕ). slot_records 0 network ++ (node_bytes network ++ replicate {A = ℕ} (i - (slot_rows slots + nodes)) 0)) part in
      ap (λ (i : ℕ). take i s ++ (y ++ drop (end - i) (drop i s))) p
      ∙ state-put (form_in state) masks network ticks state s y end long (rw (p, c.slots-are, c.nodes-are) at room) (omega arith) ((zero-later ask.clean end l m).zeros ∙ ap (λ (i : ℕ). replicate {A = ℕ} (i - end) 0) long)
      (rw (c.slots-are, c.nodes-are) at e) (rw (p, c.slots-are, c.nodes-are) at h)
