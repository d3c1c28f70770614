-- What an accepted load of a rule file tells, by its promise alone: the file's counts, masks and folded rule are those of a watch, its
-- formula's bytes are the rule's, and the state is the folded rule's first layout, in the form of the buffer that was lent (`load-accepted`). Assumes
-- nothing.
use Rattle.std.specs.Prelude.{Ok, Err}
use mathlib.Core.Path.{◌≡◌, refl, sym, ap, ◌∙◌}
use mathlib.Core.Bool.{true}
use mathlib.Core.List.{List, []}
use Prim.Native.Nat.{ℕ, ◌≤◌}
use native.Mathlib.Omega.{arith}
use lib.ListN.{length}
use borrow.Author.Tests.{leb-true}
use Rattle.lists.proofs.Tests.{both-1, both_true}
use Rattle.answers.specs.Said.{Said, accepted, left}
use Rattle.answers.proofs.Answers.{left-accepted, order-passed}
use Rattle.limits.specs.Limits.{boards_most, rule_nodes_most}
use Rattle.folded.proofs.Lengths.{folded-within}
use Rattle.nodes.specs.Begins.{Front}
use Rattle.rules.specs.RuleFile.{boards_in_file, propositions_in_file, nodes_in_file, mask_in_file, masks_in_file, formula_in_file}
use Rattle.rules.specs.Read as read
use Rattle.lists.proofs.Listed.{listed-length}
use Rattle.rules.proofs.Passed.{counts-passed}
use Rattle.rules.proofs.ReadOutcomes.{ReadPassed}
use Rattle.state.specs.declared.Form.{Form}
use Rattle.state.specs.Form.{form_of, form_in, slots_most, nodes_most}
use Rattle.state.specs.Bytes.{nodes_of}
use Rattle.state.specs.Calls.{first_of, loaded_state}
use Rattle.loading.specs.Load.{rule_in, start_in, load_lengths_ok, load_says, LoadsRule}
use Rattle.loading.proofs.Outcomes.{read-within, read-ruled}
use Rattle.watching.specs.Watch.{Loads}

-- the lengths that loading checks are those that reading checks, with outputs of their lengths
lengths_read : (file : List ℕ) (room : ℕ) → load_lengths_ok file room ≡ true → read.read_lengths_ok file boards_most rule_nodes_most ≡ true
unfolding load_lengths_ok read.read_lengths_ok
lengths_read file room e = both_true _ _ refl (both_true _ _ refl (both-1 _ _ e))

-- what an accepted load's checks told, for a state of this form
record LoadPassed (φ : Form) (file : List ℕ) : Type 0 where
  file-passed : ReadPassed file boards_most rule_nodes_most
  few-slots : length (first_of (masks_in_file file) (start_in file)) ≤ slots_most φ
  few-nodes : nodes_of (first_of (masks_in_file file) (start_in file)) ≤ nodes_most φ

load-passed : (file : List ℕ) (room : ℕ) → load_says file room ≡ accepted [] → LoadPassed (form_of room) file
unfolding load_says
load-passed file room e =
    let q = order-passed _ (accepted []) (omega arith, (omega arith, (omega arith, (omega arith, (omega arith, (omega arith, (omega arith, (omega arith, tt)))))))) (ap (λ (a : Said). a.number) e) in
    record {
      file-passed = record { lengths = lengths_read file room q.0; version = q.1.0; counts = q.1.1.0; offsets = q.1.1.1.0; masks = q.1.1.1.1.0; formula = q.1.1.1.1.1.0 };
      few-slots = leb-true _ _ q.1.1.1.1.1.1.0;
      few-nodes = leb-true _ _ q.1.1.1.1.1.1.1.0;
    }

loads-of : {φ : Form} (file : List ℕ) → LoadPassed φ file → Loads φ (propositions_in_file file) (masks_in_file file) (start_in file)
loads-of file x =
    let c = counts-passed (boards_in_file file) (propositions_in_file file) (nodes_in_file file) x.file-passed.counts in
    let n = listed-length (mask_in_file file) (boards_in_file file) in
    let a = c.boards-some in
    let b = c.boards-few in
    record {
      some-propositions = c.propositions-some;
      few-propositions = c.propositions-few;
      some-boards = omega arith;
      few-boards = omega arith;
      follow = x.file-passed.masks;
      within = folded-within (propositions_in_file file) 0 (rule_in file) (read-within file x.file-passed);
      few-slots = x.few-slots;
      few-nodes = x.few-nodes;
    }

pub record LoadAccepted (φ : Form) (file s : List ℕ) : Type 0 where
  pub loads : Loads φ (propositions_in_file file) (masks_in_file file) (start_in file)
  pub spelt : Front (formula_in_file file) (rule_in file) []
  pub state-is : s ≡ loaded_state φ (masks_in_file file) (start_in file)

pub load-accepted : (file before s : List ℕ) → LoadsRule file before s (Ok tt) → LoadAccepted (form_in before) file s
load-accepted file before s l =
    let e = sym l.says in
    let x = load-passed file (length before) e in
    let next = loaded_state (form_in before) (masks_in_file file) (start_in file) in
    record {
      loads = loads-of file x;
      spelt = (read-ruled file x.file-passed).front;
      state-is = l.leaves ∙ ap (λ (a : Said). left a next before) e ∙ left-accepted [] next before;
    }
