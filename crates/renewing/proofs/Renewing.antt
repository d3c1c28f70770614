-- What putting the next state asks of spreading and storing, and what they have put: `next-put`. Assumes nothing.
use mathlib.Core.Path.{◌≡◌, sym, ap, ◌∙◌, subst}
use mathlib.Core.List.{List}
use Prim.Native.Nat.{ℕ, ◌+◌, ◌≤◌}
use native.Mathlib.Omega.{arith}
use lib.ListN.{length, take}
use Rattle.state.specs.declared.Counts.{Counts}
use Rattle.state.specs.declared.Form.{Form}
use Rattle.state.specs.Form.{form_in, state_length, slots_most, nodes_most}
use Rattle.state.specs.Fields.{ticks_in}
use Rattle.state.specs.Bytes.{state_of}
use Rattle.state.specs.Calls.{next_in}
use Rattle.state.proofs.Forms.{form-at}
use Rattle.state.proofs.Listed.{masks-length}
use Rattle.storing.specs.Stores.{StateAsk, Stores}
use Rattle.checked.proofs.Passing.{passing}
use Rattle.spreading.specs.Spreads.{SpreadAsk, Spreads}
use Rattle.renewing.specs.Renew.{next_state, NextAsk}

module _ {s second masks owner u tags : List ℕ} {used : ℕ} {c : Counts} {next-slots next-nodes : ℕ}
    (ask : NextAsk s second used c masks owner next-slots next-nodes u tags) where
  pub spread-ask : SpreadAsk s c owner u tags
  spread-ask =
      let n = ask.counts.few-nodes in
      let e = ask.counts.nodes-are in
      record { known = ask.known; few = omega arith; u-long = ask.u-long; tags-long = ask.tags-long }

  -- the second buffer has the state's form
  form-same : form_in second ≡ form_in s
  form-same = form-at (form_in s) second ask.long

  module _ {u' tags' : List ℕ} {n : ℕ} (h : Spreads s u' tags' n) where
    pub state-ask : StateAsk second used masks next-slots next-nodes (take n u') tags'
    state-ask =
        record {
          clean = ask.clean;
          network = next_in s;
          laid_out = h.laid_out;
          counts = ask.counts;
          long = ask.long ∙ ap state_length (sym form-same);
          few-boards = let e = ap length ask.masks-are ∙ masks-length s in let f = (passing s ask.known.opened.passes).header.few-boards in omega arith;
          form-slots = subst (λ (φ : Form). next-slots ≤ slots_most φ) (sym form-same) ask.form-slots;
          form-nodes = subst (λ (φ : Form). next-nodes ≤ nodes_most φ) (sym form-same) ask.form-nodes;
        }

    pub next-put : {ticks : ℕ} {second' : List ℕ} → ticks ≡ ticks_in s + 1 → Stores (form_in second) masks next-slots next-nodes ticks (take n u') tags' second' → second' ≡ next_state s
    next-put {ticks} {second'} e x =
        subst (λ (m : List ℕ). second' ≡ state_of (form_in s) m (next_in s) (ticks_in s + 1)) ask.masks-are
        (subst (λ (t : ℕ). second' ≡ state_of (form_in s) masks (next_in s) t) e
        (subst (λ (φ : Form). second' ≡ state_of φ masks (next_in s) ticks) form-same (x (next_in s) h.laid_out ask.counts)))
