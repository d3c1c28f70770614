-- What the functions of the cycle ask of each other: a part that is looked at stays or is cut by its tag (`looked-stays`,
-- `looked-cut`), and there is room for the parts where there is room for the whole (`fits-..`). Assumes nothing.
use mathlib.Core.Path.{◌≡◌, refl, sym, ap, ◌∙◌, subst}
use mathlib.Core.Bool.{true, false}
use mathlib.Core.List.{List}
use mathlib.Core.Logic.{inl, inr}
use mathlib.Core.Option.{Option, none, some}
use Prim.Native.Nat.{ℕ, ◌+◌, ◌-◌}
use native.Mathlib.Omega.{arith}
use lib.ListN.{length, get_or, length-append}
use borrow.Author.Tests.{eqb-true}
use Rattle.state.specs.Form.{slot_row, slot_rows}
use Rattle.lists.specs.Tests.{pick}
use Rattle.lists.proofs.Tests.{no_true}
use Rattle.kinds.specs.declared.Unary.TheVariants.{Not}
use Rattle.kinds.specs.declared.Join.{Join}
use Rattle.kinds.specs.declared.Binary.TheVariants.{Joined}
use Rattle.limits.specs.Limits.{boards_most}
use Rattle.ltl.specs.Formula.{Formula, one, two, size}
use Rattle.network.specs.Layout.{Laid, cut, looked, laid}
use Rattle.nodes.specs.Begins.{Front}
use Rattle.scores.specs.Choice.{code_of, stays_on}
use Rattle.cutting.specs.Cuts.{Rests}
use Rattle.cutting.proofs.Looking.{stays-none, stays-board}
use Rattle.tagging.specs.Packed.{board_in}
use Rattle.tagging.specs.Tags.{Tags, Tagged}
use Rattle.laying.specs.declared.Place.{Place}
use Rattle.laying.specs.declared.Lain.{Lain}
use Rattle.laying.specs.Lays.{OnBoard, Source, Fits, Lays}
use Rattle.laying.proofs.Places.{inner, behind, owned}
use Rattle.laying.proofs.Appending.{nodes-both}

-- ---- stays or is cut
-- the board that an operand of a slot on board b is cut to
pub record CutTo (choose : Formula → Option ℕ) (hold : ℕ → ℕ → Laid) (u tags : List ℕ) (f : Formula) (rest : List ℕ) (b k : ℕ) : Type 0 where
  pub board : ℕ
  pub laid-is : looked (choose f) b k (laid choose hold f) ≡ cut board k (laid choose hold f board (k + 1))
  pub stands : OnBoard choose u tags f rest board

module _ {choose : Formula → Option ℕ} {hold : ℕ → ℕ → Laid} {u tags : List ℕ} {f : Formula} {rest : List ℕ} (s : Source choose hold u tags) (front : Front u f rest)
    (m : Tags choose f boards_most (get_or tags 0 0)) (tagged : Tagged choose f tags) (b k : ℕ) where
  choice-is : board_in (get_or tags 0 0) ≡ code_of (choose f)
  unfolding pick
  choice-is = m.board-is

  pub looked-stays : stays_on (board_in (get_or tags 0 0)) b ≡ true → looked (choose f) b k (laid choose hold f) ≡ laid choose hold f b k
  unfolding looked pick
  looked-stays e = go (choose f) refl (ap (λ (i : ℕ). stays_on i b) (sym choice-is) ∙ e)
    where
      go : (o : Option ℕ) → choose f ≡ o → stays_on (code_of o) b ≡ true → looked o b k (laid choose hold f) ≡ laid choose hold f b k
      go none z q = refl
      go (some c) z q = let l = s.boards f c z in let t = sym (stays-board c b (λ w. omega arith)) ∙ q in rw t

  -- the board is one that it may stay on
  pub looked-rests : stays_on (board_in (get_or tags 0 0)) b ≡ true → Rests choose f b
  looked-rests e = go (choose f) refl (ap (λ (i : ℕ). stays_on i b) (sym choice-is) ∙ e)
    where
      go : (o : Option ℕ) → choose f ≡ o → stays_on (code_of o) b ≡ true → Rests choose f b
      go none z q = inl z
      go (some c) z q = let l = s.boards f c z in let t = eqb-true c b (sym (stays-board c b (λ w. omega arith)) ∙ q) in inr (z ∙ ap some t)

  pub looked-cut : stays_on (board_in (get_or tags 0 0)) b ≡ false → CutTo choose hold u tags f rest b k
  unfolding looked pick
  looked-cut e = go (choose f) refl (ap (λ (i : ℕ). stays_on i b) (sym choice-is) ∙ e)
    where
      go : (o : Option ℕ) → choose f ≡ o → stays_on (code_of o) b ≡ false → CutTo choose hold u tags f rest b k
      go none z q = absurd (no_true (sym q ∙ stays-none b))
      go (some c) z q =
          let l = s.boards f c z in
          let t = sym (stays-board c b (λ w. omega arith)) ∙ q in
          record {
            board = c;
            laid-is = ap (λ (o : Option ℕ). looked o b k (laid choose hold f)) z ∙ rw t;
            stands = record { front = front; board-is = choice-is ∙ ap code_of z; here-is = m.here-is c (inl (refl, inr z)); tagged = tagged };
          }

-- ---- room
-- the same numbers
pub fits-as : {x : Laid} {at : Place} {p q r s : ℕ} → Fits x at p r → q ≡ p → s ≡ r → Fits x at q s
fits-as h e f = record { here = h.here; nodes = omega arith; records = omega arith; slots = h.slots; numbers = h.numbers }

module _ (choose : Formula → Option ℕ) (hold : ℕ → ℕ → Laid) {at : Place} {p r : ℕ} where
  -- the operand of not
  pub fits_one : (f : Formula) → Fits (laid choose hold (one Not f) at.board at.slot) at p r → Fits (looked (choose f) at.board at.slot (laid choose hold f)) (inner at) (p - 1) r
  unfolding laid
  fits_one f h = record { here = omega arith; nodes = omega arith; records = h.records; slots = h.slots; numbers = h.numbers }

  -- the left one of two, and the right one where the left one was laid
  module _ (j : Join) (f g : Formula) (h : Fits (laid choose hold (two (Joined j) f g) at.board at.slot) at p r) where
    abbrev X : Laid
    X = looked (choose f) at.board at.slot (laid choose hold f)

    abbrev Y : ℕ → Laid
    Y n = looked (choose g) at.board (at.slot + n) (laid choose hold g)

    pub fits-left : Fits X (inner at) (p - 1) r
    unfolding laid
    fits-left =
        let n = nodes-both X.slots (Y (length X.slots)).slots in
        let l = length-append X.slots (Y (length X.slots)).slots in
        record { here = omega arith; nodes = omega arith; records = omega arith; slots = omega arith; numbers = omega arith }

    pub fits-right : {q s q' s' : List ℕ} {x : Lain} → Lays X (inner at) q s q' s' x → Fits (Y x.slots) (behind at x) (p - (1 + x.here)) (r - slot_rows x.slots)
    unfolding laid
    fits-right {x = x} y =
        let n = nodes-both X.slots (Y (length X.slots)).slots in
        let l = length-append X.slots (Y (length X.slots)).slots in
        subst (λ (n : ℕ). Fits (Y n) (behind at x) (p - (1 + x.here)) (r - slot_rows x.slots)) (sym y.slots-are)
        (record { here = omega arith; nodes = omega arith; records = omega arith; slots = omega arith; numbers = omega arith })

pub fits-slot : {X : Laid} {at : Place} {p r : ℕ} (board n : ℕ) → n ≡ size X.here → Fits (cut board at.slot X) at p r → Fits X (owned at board n) (p - at.gap) (r - slot_row)
fits-slot board n e h = record { here = omega arith; nodes = omega arith; records = omega arith; slots = omega arith; numbers = omega arith }
