-- A watch's state at load and after each close: it passes its check, no board has sampled and no slot is stepped, its network is that
-- of a watch over formulas, and one whose root is a constant has no other slot (`Started`). `written-started`: so is every network of
-- a watch that is written, and it reads back (`written-network`); `started-laid`: its slots are as laying leaves them. Assumes nothing.
use mathlib.Core.Path.{◌≡◌, sym, ap, ◌∙◌, subst}
use mathlib.Core.Bool.{Bool, true}
use mathlib.Core.List.{List}
use Prim.Native.Nat.{ℕ, ◌^◌, ◌<◌, ◌≤◌}
use native.Mathlib.Nat.{lt_of_lt_of_le}
use native.Mathlib.Omega.{arith}
use lib.ListN.{length}
use lib.Pow.{pow_mono}
use Rattle.ltl.specs.Decode.{some_formula}
use Rattle.limits.specs.Limits.{propositions_most, holder_codes}
use Rattle.ltl.specs.Formula.{Formula, constant, Coded}
use Rattle.ltl.specs.Meaning.{Event}
use Rattle.ltl.proofs.Decoding.{wider}
use Rattle.masks.proofs.Exact.{rule-less}
use Rattle.network.specs.Scores.{chosen, sample_of}
use Rattle.network.specs.Layout.{Slot, slot_at}
use Rattle.network.specs.Tick.{Watch}
use Rattle.network.proofs.Holding.{holds-map}
use Rattle.network.proofs.Layouts.{each-slot}
use Rattle.network.proofs.Relaying.{SlotOk, AllOk}
use Rattle.network.proofs.Watched.{watch-sound}
use Rattle.network.proofs.Choosing.{masks-choice, masks-own, masks-free}
use Rattle.state.specs.declared.Form.{Form}
use Rattle.state.specs.Form.{form_in, slots_most, nodes_most}
use Rattle.state.specs.Fields.{boards_in, slots_in, nodes_in, ticks_in, sampled_in, masks_in, stepped_in}
use Rattle.state.specs.Clauses.{state_ok}
use Rattle.state.specs.Bytes.{nodes_of, state_of, formula_at, network_of}
use Rattle.state.proofs.Forms.{slots-coded}
use Rattle.state.proofs.Parts.{reads-form}
use Rattle.state.proofs.Reading.{reads-boards, reads-slots, reads-nodes, reads-mark, reads-formula, network-reads}
use Rattle.state.proofs.Fresh.{reads-sampled, reads-masks, reads-ticks}
use Rattle.checked.proofs.Passing.{passing}
use Rattle.watching.specs.Watch.{Loads}
use Rattle.watching.proofs.Formulas.{plain-clean, clean-within}

module _ (p : ℕ) (masks : List ℕ) (rule : Formula) where
  pub record Started (us : List Event) (s : List ℕ) : Type 0 where
    pub loads : Loads (form_in s) p masks rule
    pub passes : state_ok s ≡ true
    pub masks-are : masks_in s ≡ masks
    pub nodes-are : nodes_in s ≡ nodes_of (network_of s)
    pub ticks-are : ticks_in s ≡ length us
    pub unsampled : (b : ℕ) → b < boards_in s → sampled_in s b ≡ 0
    pub unstepped : (k : ℕ) → k < slots_in s → stepped_in s k ≡ 0
    pub network : Watch (chosen masks) (sample_of masks) rule us (network_of s)
    pub single : (v : Bool) → formula_at s 0 ≡ constant v → slots_in s ≡ 1

  -- the slots of a watch are as laying leaves them
  watch-laid : {φ : Form} → Loads φ p masks rule → (us : List Event) (slots : List Slot) → Watch (chosen masks) (sample_of masks) rule us slots
      → AllOk (chosen masks) (masks-choice masks) (length slots) 0 slots
  watch-laid l us slots w =
      (watch-sound (chosen masks) (masks-choice masks) (sample_of masks) (masks-own p masks l.few-propositions l.follow) rule (masks-free p masks l.few-propositions l.follow rule l.within) w).ok

  pub started-laid : (us : List Event) (s : List ℕ) → Started us s → AllOk (chosen (masks_in s)) (masks-choice (masks_in s)) (length (network_of s)) 0 (network_of s)
  started-laid us s x =
      subst (λ (ms : List ℕ). AllOk (chosen ms) (masks-choice ms) (length (network_of s)) 0 (network_of s)) (sym x.masks-are) (watch-laid x.loads us (network_of s) x.network)

  module _ {φ : Form} (l : Loads φ p masks rule) (us : List Event) (slots : List Slot) (w : Watch (chosen masks) (sample_of masks) rule us slots) (ticks : ℕ) (many-ticks : ticks ≡ length us) (few-ticks : ticks < 2 ^ 32)
      (few-slots : length slots ≤ slots_most φ) (few-nodes : nodes_of slots ≤ nodes_most φ) where
    coded : (k : ℕ) → k < length slots → Coded (slot_at slots k).formula
    coded k h =
        let o = each-slot (SlotOk (chosen masks) (masks-choice masks) (length slots)) slots (watch-laid l us slots w) k h in
        let f = (slot_at slots k).formula in
        wider p (length slots) propositions_most holder_codes l.few-propositions (omega (arith, slots-coded φ)) f
        (clean-within p masks l.few-propositions l.follow (length slots) f (plain-clean (chosen masks) (slot_at slots k).board f o.plain)
        (holds-map (λ m. (k < m) × (m < length slots)) (λ m. m < length slots) (λ m q. q.1) f o.holds))

    -- the network that was written is the one that is read
    pub written-network : network_of (state_of φ masks slots ticks) ≡ slots
    written-network = network-reads φ masks slots ticks l.few-boards few-slots few-nodes coded

    pub written-started : state_ok (state_of φ masks slots ticks) ≡ true → ((v : Bool) → (slot_at slots 0).formula ≡ constant v → length slots ≡ 1) → Started us (state_of φ masks slots ticks)
    written-started ok single =
        let s = state_of φ masks slots ticks in
        let boards = reads-boards φ masks slots ticks l.few-boards few-slots few-nodes coded in
        let many = reads-slots φ masks slots ticks l.few-boards few-slots few-nodes coded in
        record {
          loads = subst (λ (ψ : Form). Loads ψ p masks rule) (sym (reads-form φ masks slots ticks l.few-boards few-slots few-nodes coded)) l;
          passes = ok;
          masks-are = reads-masks φ masks slots ticks l.few-boards few-slots few-nodes coded
              (λ i h. lt_of_lt_of_le (rule-less p masks l.follow i h) (pow_mono l.few-propositions));
          nodes-are = reads-nodes φ masks slots ticks l.few-boards few-slots few-nodes coded ∙ ap nodes_of (sym written-network);
          ticks-are = reads-ticks φ masks slots ticks l.few-boards few-slots few-nodes coded few-ticks ∙ many-ticks;
          unsampled = λ b h. reads-sampled φ masks slots ticks l.few-boards few-slots few-nodes coded b (omega arith);
          unstepped = λ k h. reads-mark φ masks slots ticks l.few-boards few-slots few-nodes coded k (omega arith);
          network = subst (λ (ss : List Slot). Watch (chosen masks) (sample_of masks) rule us ss) (sym written-network) w;
          single = λ v e. many ∙ single v (sym (ap some_formula (reads-formula φ masks slots ticks l.few-boards few-slots few-nodes coded 0 (omega (arith, (passing s ok).header.some-slots)))) ∙ e);
        }
