-- What is asked where a part is looked at, laid as a slot, or is a place holder whose slot is laid: `..-asks`. Assumes nothing.
use mathlib.Core.Path.{◌≡◌, refl, sym, ap, ◌∙◌, subst}
use mathlib.Core.Bool.{true, false}
use mathlib.Core.List.{List}
use mathlib.Core.Logic.{inl}
use mathlib.Core.Option.{Option}
use Prim.Native.Nat.{ℕ, ◌+◌, ◌-◌}
use native.Mathlib.Omega.{arith}
use lib.ListN.{length, get_or}
use Rattle.state.specs.Form.{slot_row}
use Rattle.lists.specs.Runs.{tail}
use Rattle.lists.proofs.Parts.{tail-is}
use Rattle.kinds.specs.declared.Leaf.TheVariants.{Hold}
use Rattle.kinds.specs.declared.Kind.TheVariants.{Zero}
use Rattle.kinds.specs.Kinds.{kind_of}
use Rattle.ltl.specs.Formula.{Formula, size}
use Rattle.network.specs.Layout.{Laid, cut, laid}
use Rattle.scores.specs.Choice.{stays_on}
use Rattle.nodes.proofs.Fronts.{Parts, is_zero, parts-as}
use Rattle.tagging.specs.Packed.{board_in, here_in, ahead_in}
use Rattle.tagging.specs.Tags.{here_on}
use Rattle.tagging.proofs.Packing.{Has}
use Rattle.laying.specs.declared.Place.{Place}
use Rattle.laying.specs.Lays.{OnBoard, HeldAt, Source, Fits, CutAsk, LookAsk, SlotAsk}
use Rattle.laying.proofs.Places.{owned}
use Rattle.laying.proofs.Sizes.{here-size}
use Rattle.laying.proofs.Sources.{source-tail}
use Rattle.laying.proofs.Asking.{looked-stays, looked-rests, looked-cut, fits-as, fits-slot}

-- ---- a part that is looked at
module _ {u tags p r : List ℕ} {at : Place} (ask : LookAsk u tags at p r) where
  pub stay-asks : stays_on (board_in (get_or tags 0 0)) at.board ≡ true → CutAsk u tags at p r
  stay-asks e =
      record {
        choose = ask.choose;
        hold = ask.hold;
        formula = ask.formula;
        rest = ask.rest;
        source = ask.source;
        front = ask.front;
        here-is = ask.tag.here-is at.board (inl (refl, looked-rests ask.source ask.front ask.tag ask.tagged at.board at.slot e));
        tagged = ask.tagged;
        fits = subst (λ (x : Laid). Fits x at (length p) (length r)) (looked-stays ask.source ask.front ask.tag ask.tagged at.board at.slot e) ask.fits;
      }

  pub cut-asks : stays_on (board_in (get_or tags 0 0)) at.board ≡ false → SlotAsk u tags at p r
  cut-asks e =
      let c = looked-cut ask.source ask.front ask.tag ask.tagged at.board at.slot e in
      record {
        choose = ask.choose;
        hold = ask.hold;
        formula = ask.formula;
        rest = ask.rest;
        board = c.board;
        source = ask.source;
        stands = c.stands;
        fits = subst (λ (x : Laid). Fits x at (length p) (length r)) c.laid-is ask.fits;
      }

-- ---- a slot of its own, with n nodes on board c by its tag
pub slot-size : {u tags : List ℕ} {n c : ℕ} {choose : Formula → Option ℕ} {hold : ℕ → ℕ → Laid} {f : Formula} {rest : List ℕ} {board : ℕ} → Has (get_or tags 0 0) n c → Source choose hold u tags
    → OnBoard choose u tags f rest board → (k : ℕ) → n ≡ size (laid choose hold f board k).here
slot-size {choose = choose} {hold = hold} {f = f} {board = board} has s o k = sym has.here-is ∙ o.here-is ∙ sym (here-size choose hold s.single f board k)

pub slot-board : {u tags : List ℕ} {n c : ℕ} {choose : Formula → Option ℕ} {f : Formula} {rest : List ℕ} {board : ℕ} → Has (get_or tags 0 0) n c → OnBoard choose u tags f rest board → board ≡ c
slot-board has o = sym o.board-is ∙ has.board-is

pub slot-here : {u tags : List ℕ} {n c : ℕ} {choose : Formula → Option ℕ} {f : Formula} {rest : List ℕ} {board : ℕ} → Has (get_or tags 0 0) n c → OnBoard choose u tags f rest board
    → here_in (get_or tags 0 0) ≡ here_on choose f c
slot-here {choose = choose} {f = f} has o = o.here-is ∙ ap (here_on choose f) (slot-board has o)

pub slot-asks : {u tags p r : List ℕ} {at : Place} {n c : ℕ} → Has (get_or tags 0 0) n c → (ask : SlotAsk u tags at p r) (q t : List ℕ) → length q ≡ length p - at.gap → length t ≡ length r - slot_row
    → CutAsk u tags (owned at c n) q t
slot-asks {at = at} {n = n} has ask q t e g =
    let room = fits-slot ask.board n (slot-size has ask.source ask.stands (at.slot + 1)) ask.fits in
    record {
      choose = ask.choose;
      hold = ask.hold;
      formula = ask.formula;
      rest = ask.rest;
      source = ask.source;
      front = ask.stands.front;
      here-is = slot-here has ask.stands;
      tagged = ask.stands.tagged;
      fits =
          subst (λ (c : ℕ). Fits (laid ask.choose ask.hold ask.formula c (at.slot + 1)) (owned at c n) (length q) (length t)) (slot-board has ask.stands) (fits-as room e g);
    }

-- ---- a place holder in front
module _ {choose : Formula → Option ℕ} {hold : ℕ → ℕ → Laid} {u tags rest : List ℕ} {f : Formula} {m : ℕ} (s : Source choose hold u tags) (x : Parts u rest f (Zero (Hold m))) where
  -- its slot
  pub held : HeldAt choose hold u tags m
  held = go x
    where
      go : {g : Formula} → Parts u rest g (Zero (Hold m)) → HeldAt choose hold u tags m
      go (is_zero w e) = s.held 0 m (let l = ap length e in omega arith) w (ap (λ (y : List ℕ). get_or y 0 0) e)

  pub held-stands : let d = ahead_in (get_or tags 0 0) in OnBoard choose (tail d u) (tail d tags) held.formula held.rest held.board
  held-stands = rw (tail-is (ahead_in (get_or tags 0 0)) u, tail-is (ahead_in (get_or tags 0 0)) tags) held.stands

  pub held-laid : (b k : ℕ) → laid choose hold f b k ≡ cut held.board k (laid choose hold held.formula held.board (k + 1))
  unfolding laid
  held-laid b k = go x ∙ held.lays k
    where
      go : {g : Formula} → Parts u rest g (Zero (Hold m)) → laid choose hold g b k ≡ hold m k
      go (is_zero w e) = refl

pub hold-asks : {u tags p r : List ℕ} {at : Place} {m ahead : ℕ} → CutAsk u tags at p r → kind_of (get_or u 0 0) ≡ Zero (Hold m) → ahead ≡ ahead_in (get_or tags 0 0)
    → SlotAsk (tail ahead u) (tail ahead tags) at p r
hold-asks {u} {tags} {p} {r} {at} ask kind far =
    rw far
    (let x = parts-as u ask.formula ask.rest ask.front refl kind in
    let h = held ask.source x in
    record {
      choose = ask.choose;
      hold = ask.hold;
      formula = h.formula;
      rest = h.rest;
      board = h.board;
      source = source-tail (ahead_in (get_or tags 0 0)) u tags h.inside ask.source;
      stands = held-stands ask.source x;
      fits = subst (λ (y : Laid). Fits y at (length p) (length r)) (held-laid ask.source x at.board at.slot) ask.fits;
    })
