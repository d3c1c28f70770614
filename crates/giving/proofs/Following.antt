-- Calls made one after the other: an accepted one is followed by the rest, a refused one is the last. From that, one turn and the end
-- of each loop, and each way out of `give`. Assumes nothing.
use Rattle.std.specs.Prelude.{Result, Ok, Err, ⊤}
use mathlib.Core.Path.{◌≡◌, refl, sym, ap, ap₂, ◌∙◌}
use mathlib.Core.Bool.{true, false}
use mathlib.Core.List.{List, []}
use Prim.Native.Nat.{ℕ, zero, suc, ◌+◌, ◌-◌, ◌<◌, ◌≤◌}
use native.Mathlib.Omega.{arith}
use native.Mathlib.Numerals.{add-one}
use lib.Bits.{bit_and, bit_or}
use lib.ListN.{length, get_or, drop, drop_of_length-le}
use lib.Seq.{drop-cons}
use borrow.Author.Tests.{ne_eqb, eq-eqb}
use Rattle.lists.specs.Listed.{listed}
use Rattle.answers.specs.declared.Refusal.{Refusal}
use Rattle.answers.specs.declared.Refusal.TheVariants.{State, Outside}
use Rattle.answers.specs.Said.{accepted, refused, number_of, said_outcome}
use Rattle.answers.proofs.Answers.{number-some, order-ok, order-refused, order-done}
use Rattle.masks.specs.Masks.{union_with}
use Rattle.state.specs.Fields.{boards_in, slots_in, mask_in, masks_in}
use Rattle.state.specs.Clauses.{in_mask, state_ok}
use Rattle.state.specs.Calls.{sample_says, sample_leaves, step_says, step_leaves}
use Rattle.taking.specs.Sample.{Samples}
use Rattle.settling.specs.Step.{StepsSlot}
use Rattle.course.specs.Given.{After, after, follow, sampled_from, stepped_below, taken_by, given_under}
use Rattle.keeping.proofs.Refused.{refused-leaves}
use Rattle.course.proofs.Following.{follow-accepted, follow-refused}
use Rattle.giving.specs.Give.{passing, given_passing, Comes}

-- ---- what follows a call
follow-done : (s : List ℕ) (next : List ℕ → After) → follow (after (accepted []) s) next ≡ next s
follow-done s next = follow-accepted (after (accepted []) s) next refl

-- what the last call has answered and left, as it was answered
comes-as : (a : After) (s : List ℕ) (x y : Result ⊤ Refusal) → x ≡ y → Comes a s x → a ≡ after (said_outcome y) s
comes-as a s x y e c = sym (ap₂ after c.says c.leaves) ∙ ap (λ (z : Result ⊤ Refusal). after (said_outcome z) s) e

pub comes-on : (a : After) (s : List ℕ) (next : List ℕ → After) (x : Result ⊤ Refusal) → x ≡ Ok tt → Comes a s x → follow a next ≡ next s
comes-on a s next x e c = ap (λ (b : After). follow b next) (comes-as a s x (Ok tt) e c) ∙ follow-done s next

pub comes-ends : (a : After) (s : List ℕ) (next : List ℕ → After) (x : Result ⊤ Refusal) (why : Refusal) → x ≡ Err why → Comes a s x
    → Comes (follow a next) s x
comes-ends a s next x why e c =
    let q = comes-as a s x (Err why) e c in
    let n = number-some why in
    let z : a.says.number ≡ number_of why = ap (λ (b : After). b.says.number) q in
    let f : follow a next ≡ a = follow-refused a next (omega arith) in
    record { says = c.says ∙ sym (ap (λ (b : After). b.says) f); leaves = c.leaves ∙ sym (ap (λ (b : After). b.leaves) f) }

pub comes-by : (a b : After) (s : List ℕ) (x : Result ⊤ Refusal) → a ≡ b → Comes a s x → Comes b s x
comes-by a b s x e c = record { says = c.says ∙ ap (λ (y : After). y.says) e; leaves = c.leaves ∙ ap (λ (y : After). y.leaves) e }

-- ---- the boards
-- one turn: board i of n, with bits that are its part of the event
module _ (s t : List ℕ) (n i event bits : ℕ) (l : i < n) (is : bits ≡ bit_and event (mask_in s i)) where
  sampled-here : (x : Result ⊤ Refusal) → Samples s i bits t x
      → Comes (after (sample_says s i (bit_and event (mask_in s i))) (sample_leaves s i (bit_and event (mask_in s i)))) t x
  sampled-here x c = record { says = c.says ∙ ap (sample_says s i) is; leaves = c.leaves ∙ ap (sample_leaves s i) is }

  sampled-left : sampled_from (n - i) event i s
      ≡ follow (after (sample_says s i (bit_and event (mask_in s i))) (sample_leaves s i (bit_and event (mask_in s i)))) (sampled_from (n - (i + 1)) event (i + 1))
  unfolding sampled_from
  sampled-left = let e : n - i ≡ suc (n - (i + 1)) = omega arith in rw e

  pub sampled-more : (x : Result ⊤ Refusal) → x ≡ Ok tt → Samples s i bits t x → sampled_from (n - i) event i s ≡ sampled_from (n - (i + 1)) event (i + 1) t
  sampled-more x e c = sampled-left ∙ comes-on _ t (sampled_from (n - (i + 1)) event (i + 1)) x e (sampled-here x c)

  pub sampled-ends : (x : Result ⊤ Refusal) (why : Refusal) → x ≡ Err why → Samples s i bits t x → Comes (sampled_from (n - i) event i s) t x
  sampled-ends x why e c = comes-by _ _ t x (sym sampled-left) (comes-ends _ t (sampled_from (n - (i + 1)) event (i + 1)) x why e (sampled-here x c))

pub sampled-all : (s : List ℕ) (n i event : ℕ) → n ≤ i → Comes (sampled_from (n - i) event i s) s (Ok tt)
unfolding sampled_from
sampled-all s n i event h = let e : n - i ≡ 0 = omega arith in rw e (record { says = refl; leaves = refl })

-- ---- the slots
-- one turn: slot k
module _ (s t : List ℕ) (n k : ℕ) (more : n ≡ suc k) where
  stepped-left : stepped_below n s ≡ follow (after (step_says s k) (step_leaves s k)) (stepped_below k)
  unfolding stepped_below
  stepped-left = rw more

  pub stepped-more : (x : Result ⊤ Refusal) → x ≡ Ok tt → StepsSlot s k t x → stepped_below n s ≡ stepped_below k t
  stepped-more x e c = stepped-left ∙ comes-on _ t (stepped_below k) x e (record { says = c.says; leaves = c.leaves })

  pub stepped-ends : (x : Result ⊤ Refusal) (why : Refusal) → x ≡ Err why → StepsSlot s k t x → Comes (stepped_below n s) t x
  stepped-ends x why e c = comes-by _ _ t x (sym stepped-left) (comes-ends _ t (stepped_below k) x why e (record { says = c.says; leaves = c.leaves }))

pub stepped-all : (s : List ℕ) (n : ℕ) → n ≡ 0 → Comes (stepped_below n s) s (Ok tt)
unfolding stepped_below
stepped-all s n e = rw e (record { says = refl; leaves = refl })

-- ---- the masks' union
-- the masks from i on are joined to those before
pub union_more : (masks : List ℕ) (i all : ℕ) → i < length masks → union_with all (drop i masks) ≡ union_with (bit_or all (get_or masks i 0)) (drop (i + 1) masks)
unfolding union_with
union_more masks i all l = rw (drop-cons masks i 0 l, add-one)

pub union-all : (masks : List ℕ) (i all : ℕ) → length masks ≤ i → union_with all (drop i masks) ≡ all
unfolding union_with
union-all masks i all h = rw (drop_of_length-le masks {i = i} h)

-- ---- the slots and what the last step has left
-- a state that fails its check: the next call says so, a step or what follows all of them
pub broken : (n : ℕ) (s : List ℕ) → state_ok s ≡ false → Comes (follow (stepped_below n s) passing) s (Err State)
unfolding stepped_below step_says
broken zero s e =
    comes-by _ _ s (Err State) (sym (follow-done s passing)) (record { says = sym (order-refused 9 (state_ok s) _ _ e); leaves = refl })
broken (suc k) s e =
    let says : step_says s k ≡ refused 9 = order-refused 9 (state_ok s) _ _ e in
    let first : Comes (after (step_says s k) (step_leaves s k)) s (Err State) = record { says = sym says; leaves = sym (refused-leaves State (step_says s k) _ s (sym says)) } in
    comes-ends _ s passing (Err State) State refl (comes-ends _ s (stepped_below k) (Err State) State refl first)

-- one that passes
pub passes_on : (n : ℕ) (s : List ℕ) → n ≡ 0 → state_ok s ≡ true → Comes (follow (stepped_below n s) passing) s (Ok tt)
unfolding stepped_below
passes_on n s e ok =
    rw e
    (comes-by _ _ s (Ok _) (sym (follow-done s passing)) (record { says = sym (order-ok 9 (state_ok s) _ _ ok ∙ order-done _); leaves = refl }))

-- ---- the ways out
module _ (s : List ℕ) (event : ℕ) (ok : state_ok s ≡ true) (b : ℕ) (boards : b ≡ boards_in s) (u : ℕ) (q : u ≡ union_with 0 (listed (mask_in s) b)) where
  -- the event's check, by the union that was found
  union-is : u ≡ union_with 0 (masks_in s)
  union-is = q ∙ ap (λ (x : ℕ). union_with 0 (listed (mask_in s) x)) boards

  pub given-outside : (bit_and event u ≡ event → ⊥) → Comes (given_passing s event) s (Err Outside)
  unfolding given_passing given_under taken_by
  given-outside n =
      comes-ends _ s passing (Err Outside) Outside refl
      (comes-ends _ s (stepped_below (slots_in s)) (Err Outside) Outside refl
      (comes-ends _ s (sampled_from (boards_in s) event 0) (Err Outside) Outside refl
      (record {
        says =
            sym (order-ok 9 (state_ok s) _ _ ok
            ∙ order-refused 12 (in_mask event (union_with 0 (masks_in s))) _ _ (ne_eqb _ _ (λ e. n (ap (bit_and event) union-is ∙ e))));
        leaves = refl;
      })))

  module _ (e : bit_and event u ≡ event) where
    taken : Comes (after (taken_by s event) s) s (Ok tt)
    unfolding taken_by
    taken =
        record {
          says =
              sym (order-ok 9 (state_ok s) _ _ ok
              ∙ order-ok 12 (in_mask event (union_with 0 (masks_in s))) _ _ (eq-eqb _ _ (sym (ap (bit_and event) union-is) ∙ e))
              ∙ order-done _);
          leaves = refl;
        }

    -- the boards come next
    boards-next : follow (after (taken_by s event) s) (sampled_from (boards_in s) event 0) ≡ sampled_from b event 0 s
    boards-next = comes-on _ s (sampled_from (boards_in s) event 0) (Ok tt) refl taken ∙ ap (λ (x : ℕ). sampled_from x event 0 s) (sym boards)

    -- the boards' calls end with a refusal
    pub given-sampled : (t : List ℕ) (x : Result ⊤ Refusal) (why : Refusal) → x ≡ Err why → Comes (sampled_from b event 0 s) t x → Comes (given_passing s event) t x
    unfolding given_passing given_under
    given-sampled t x why f c =
        comes-ends _ t passing x why f (comes-ends _ t (stepped_below (slots_in s)) x why f (comes-by _ _ t x (sym boards-next) c))

    -- or the slots' calls follow
    pub given-stepped : (t v : List ℕ) (n : ℕ) (x y : Result ⊤ Refusal) → n ≡ slots_in s → x ≡ Ok tt → Comes (sampled_from b event 0 s) t x
        → Comes (follow (stepped_below n t) passing) v y → Comes (given_passing s event) v y
    unfolding given_passing given_under
    given-stepped t v n x y slots f c d =
        comes-by _ _ v y
        (ap (λ (a : After). follow a passing)
        (ap (λ (k : ℕ). stepped_below k t) slots ∙ sym (comes-on _ t (stepped_below (slots_in s)) x f (comes-by _ _ t x (sym boards-next) c))))
        d
