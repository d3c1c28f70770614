-- What `load` answers and leaves, one law for each outcome, over plain lists. Assumes nothing.
use Rattle.std.specs.Prelude.{Result, Ok, Err, ⊤}
use mathlib.Core.Path.{◌≡◌, refl, sym, ap, ap₂, ◌∙◌, subst}
use mathlib.Core.Bool.{Bool, true, false}
use mathlib.Core.List.{List, [], ◌∷◌, ◌++◌, append-nil}
use Prim.Native.Nat.{ℕ, ◌-◌, ◌<◌, ◌≤◌}
use native.Mathlib.Omega.{arith}
use lib.ListN.{length, get_or, take, replicate, length-drop}
use lib.Seq.{take_at}
use lib.Dec.{leb, eqb}
use borrow.Author.Tests.{eq-eqb, ne_eqb}
use Rattle.lists.specs.Tests.{pick, both}
use Rattle.lists.specs.Runs.{padded}
use Rattle.answers.specs.declared.Refusal.{Refusal}
use Rattle.answers.specs.declared.Refusal.TheVariants.{Length}
use Rattle.answers.specs.Said.{Said, accepted, refused, left, number_of, Check, check, in_order, said_outcome}
use Rattle.answers.proofs.Answers.{number-some, left-refused, left-accepted, Passed, order-ok, order-refused, order-done}
use Rattle.ltl.specs.Formula.{Formula, encode, Within, Coded}
use Rattle.state.specs.Form.{form_in, state_length, slots_most, nodes_most, Formed}
use Rattle.state.specs.Bytes.{nodes_of}
use Rattle.state.specs.Calls.{first_of, loaded_state}
use Rattle.limits.specs.Limits.{boards_most, propositions_most, holder_codes, rule_nodes_most}
use Rattle.masks.specs.Masks.{masks_rule}
use Rattle.ltl.specs.Decode.{decoded, is_rule, some_formula}
use Rattle.ltl.proofs.Decoding.{RuleText, rule-is, decoded-of, wider}
use Rattle.rules.specs.declared.RuleCounts.{RuleCounts}
use Rattle.lists.proofs.Listed.{listed-length}
use Rattle.rules.proofs.Passed.{lengths-passed, counts-passed, offsets-passed}
use Rattle.rules.proofs.ReadOutcomes.{ReadPassed, read-passed}
use Rattle.rules.specs.RuleFile.{version, file_formula_at, counts_ok, version_in_file, boards_in_file, propositions_in_file, nodes_in_file, mask_in_file, masks_in_file, formula_in_file}
use Rattle.rules.specs.Read.{offsets_ok, read_says, Reads}
use Rattle.rules.specs.Read as read
use Rattle.starting.specs.Starting.{RuleGiven}
use Rattle.beginning.specs.Beginning.{begin_says, BeginAsk}
use Rattle.loading.specs.Begin.{BegunFolded}
use Rattle.loading.specs.Load.{rule_in, start_in, load_lengths_ok, load_says, LoadsRule}

-- a list of checks that refuses, with more checks behind it
order-more : (cs ds : List Check) (vs : List ℕ) (t : Said) (n : ℕ) → 0 < n → in_order cs (accepted vs) ≡ refused n → in_order (cs ++ ds) t ≡ refused n
unfolding in_order pick
order-more [] ds vs t n l e = absurd (let z = ap (λ (s : Said). s.number) e in omega arith)
order-more (c ∷ cs) ds vs t n l e = go c.ok e (order-more cs ds vs t n l)
  where
    go : (b : Bool) → pick b (in_order cs (accepted vs)) (refused c.number) ≡ refused n → (in_order cs (accepted vs) ≡ refused n → in_order (cs ++ ds) t ≡ refused n)
        → pick b (in_order (cs ++ ds) t) (refused c.number) ≡ refused n
    go true q h = h q
    go false q h = q

-- and one that passes
order-after : (cs ds : List Check) (t : Said) → Passed cs → in_order (cs ++ ds) t ≡ in_order ds t
unfolding in_order pick
order-after [] ds t p = refl
order-after (c ∷ cs) ds t p = ap (λ b. pick b (in_order (cs ++ ds) t) (refused c.number)) p.0 ∙ order-after cs ds t p.1

module _ (file state : List ℕ) where
  load-refusal : (why : Refusal) → load_says file (length state) ≡ refused (number_of why) → LoadsRule file state state (Err why)
  load-refusal why e =
      let o = loaded_state (form_in state) (masks_in_file file) (start_in file) in
      record { says = sym e; leaves = sym (ap (λ (s : Said). left s o state) e ∙ left-refused why o state) }

  pub load-length : (Formed state → ⊥) → LoadsRule file state state (Err Length)
  unfolding load_says load_lengths_ok both
  load-length n = load-refusal Length (order-refused 1 _ _ _ (rw (ne_eqb (length state) (state_length (form_in state)) n)))

  module _ (long : Formed state) where
    -- the checks of the file are those of reading
    abbrev layout-checks : List Check
    layout-checks =
        check 7 (leb (length (first_of (masks_in_file file) (start_in file))) (slots_most (form_in state))) ∷ check 8 (leb (nodes_of (first_of (masks_in_file file) (start_in file))) (nodes_most (form_in state))) ∷ []

    abbrev file-checks : List Check
    file-checks =
        check 1 (read.read_lengths_ok file boards_most rule_nodes_most)
        ∷ check 2 (eqb (version_in_file file) version)
        ∷ check 3 (counts_ok (boards_in_file file) (propositions_in_file file) (nodes_in_file file))
        ∷ check 4 (offsets_ok file)
        ∷ check 5 (masks_rule (propositions_in_file file) (masks_in_file file))
        ∷ check 6 (is_rule (propositions_in_file file) (formula_in_file file))
        ∷ []

    says_is : load_says file (length state) ≡ in_order (file-checks ++ layout-checks) (accepted [])
    unfolding load_says load_lengths_ok both read.read_lengths_ok
    says_is = rw (eq-eqb (length state) (state_length (form_in state)) long)

    pub load_read : (why : Refusal) → refused (number_of why) ≡ read_says file boards_most rule_nodes_most → LoadsRule file state state (Err why)
    unfolding read_says
    load_read why e = load-refusal why (says_is ∙ order-more file-checks layout-checks (boards_in_file file ∷ propositions_in_file file ∷ nodes_in_file file ∷ []) (accepted []) (number_of why) (number-some why) (sym e))

    -- the file was read
    module _ (passed : ReadPassed file boards_most rule_nodes_most) where
      pub load-begun : (state' : List ℕ) (answer : Result ⊤ Refusal) → said_outcome answer ≡ begin_says (form_in state) (masks_in_file file) (start_in file)
          → state' ≡ left (begin_says (form_in state) (masks_in_file file) (start_in file)) (loaded_state (form_in state) (masks_in_file file) (start_in file)) state → LoadsRule file state state' answer
      load-begun state' answer e f =
          let says : load_says file (length state) ≡ begin_says (form_in state) (masks_in_file file) (start_in file) =
          says_is ∙ order-after file-checks layout-checks (accepted []) (passed.lengths, (passed.version, (passed.counts, (passed.offsets, (passed.masks, (passed.formula, tt)))))) in
          record { says = e ∙ sym says; leaves = f ∙ ap (λ (s : Said). left s (loaded_state (form_in state) (masks_in_file file) (start_in file)) state) (sym says) }

-- ---- what was read
module _ (file : List ℕ) (passed : ReadPassed file boards_most rule_nodes_most) where
  told : RuleText (propositions_in_file file) (formula_in_file file)
  told = rule-is (propositions_in_file file) (formula_in_file file) passed.formula

  coded : (f : Formula) → Within (propositions_in_file file) 0 f → Coded f
  coded f = let c = counts-passed (boards_in_file file) (propositions_in_file file) (nodes_in_file file) passed.counts in wider (propositions_in_file file) 0 propositions_most holder_codes c.propositions-few (omega arith) f

  same : rule_in file ≡ told.formula
  same = ap some_formula (ap decoded told.bytes ∙ decoded-of told.formula (coded told.formula told.within))

  -- the rule is one of the file's propositions
  pub read-within : Within (propositions_in_file file) 0 (rule_in file)
  read-within = subst (Within (propositions_in_file file) 0) (sym same) told.within

  pub read-ruled : RuleGiven (masks_in_file file) (formula_in_file file) (rule_in file)
  read-ruled =
      let z = lengths-passed file boards_most rule_nodes_most passed.lengths in
      let c = counts-passed (boards_in_file file) (propositions_in_file file) (nodes_in_file file) passed.counts in
      let o = offsets-passed file passed.offsets in
      let d = length-drop (file_formula_at (boards_in_file file)) file in
      let l = listed-length (mask_in_file file) (boards_in_file file) in
      record {
        propositions = propositions_in_file file;
        few-propositions = c.propositions-few;
        few-boards = omega arith;
        follow = passed.masks;
        within = read-within;
        front = record { coded = coded (rule_in file) read-within; bytes = told.bytes ∙ ap encode (sym same) ∙ sym (append-nil (encode (rule_in file))) };
        few-nodes = omega arith;
      }

-- ---- a rule was read into outputs of their lengths: all that the call needs of it
pub record RuleRead (file masks' formula' : List ℕ) (c : RuleCounts) : Type 0 where
  pub passed : ReadPassed file boards_most rule_nodes_most
  pub boards-few : c.boards ≤ boards_most
  pub nodes-few : c.nodes ≤ rule_nodes_most
  pub masks-are : take c.boards masks' ≡ masks_in_file file
  pub formula-is : take c.nodes formula' ≡ formula_in_file file

module _ {file masks formula masks' formula' : List ℕ} {c : RuleCounts} (m : length masks ≡ boards_most) (f : length formula ≡ rule_nodes_most) (r : Reads file masks formula masks' formula' (Ok c)) where
  passed : ReadPassed file boards_most rule_nodes_most
  passed = read-passed file boards_most rule_nodes_most (ap (λ (s : Said). s.number) (sym (r.says ∙ ap₂ (read_says file) m f)))

  says-read : read_says file (length masks) (length formula) ≡ accepted (boards_in_file file ∷ propositions_in_file file ∷ nodes_in_file file ∷ [])
  unfolding read_says
  says-read =
      ap₂ (read_says file) m f
      ∙ order-ok 1 _ _ _ passed.lengths
      ∙ order-ok 2 _ _ _ passed.version
      ∙ order-ok 3 _ _ _ passed.counts
      ∙ order-ok 4 _ _ _ passed.offsets
      ∙ order-ok 5 _ _ _ passed.masks
      ∙ order-ok 6 _ _ _ passed.formula
      ∙ order-done _

  -- the answer's counts
  boards-are : c.boards ≡ boards_in_file file
  boards-are = ap (λ (s : Said). get_or s.values 0 0) (r.says ∙ says-read)

  nodes-are : c.nodes ≡ nodes_in_file file
  nodes-are = ap (λ (s : Said). get_or s.values 2 0) (r.says ∙ says-read)

  -- the front of a lent output
  output-front : (l l₀ l' : List ℕ) (n room : ℕ) → l' ≡ left (read_says file (length masks) (length formula)) (padded room l) l₀ → length l ≡ n → take n l' ≡ l
  output-front l l₀ l' n room e k =
      ap (take n) (e ∙ ap (λ (s : Said). left s (padded room l) l₀) says-read ∙ left-accepted _ (padded room l) l₀) ∙ take_at l (replicate (room - length l) 0) n k

  pub read_whole : RuleRead file masks' formula' c
  read_whole =
      let n = counts-passed (boards_in_file file) (propositions_in_file file) (nodes_in_file file) passed.counts in
      let z = lengths-passed file boards_most rule_nodes_most passed.lengths in
      let o = offsets-passed file passed.offsets in
      let d = length-drop (file_formula_at (boards_in_file file)) file in
      let b = boards-are in
      let k = nodes-are in
      record {
        passed = passed;
        boards-few = omega arith;
        nodes-few = omega arith;
        masks-are = output-front (masks_in_file file) masks masks' c.boards boards_most r.leaves-masks (listed-length (mask_in_file file) (boards_in_file file) ∙ sym b);
        formula-is = output-front (formula_in_file file) formula formula' c.nodes rule_nodes_most r.leaves-formula (omega arith);
      }

module _ {file masks' formula' : List ℕ} {c : RuleCounts} {state : List ℕ} (long : Formed state) (r : RuleRead file masks' formula' c) where
  pub read-begins : BeginAsk (take c.boards masks') (take c.nodes formula') state
  read-begins = record { rule = rule_in file; ruled = rw (r.masks-are, r.formula-is) (read-ruled file r.passed); long = long }

  pub read-begun : {state' : List ℕ} {answer : Result ⊤ Refusal} → BegunFolded (take c.boards masks') (take c.nodes formula') state state' answer → LoadsRule file state state' answer
  read-begun h =
      let x = rw (r.masks-are, r.formula-is) at (h (rule_in file)) (read-ruled file r.passed) in
      load-begun file state long r.passed _ _ x.says x.leaves
