-- The operands of a node that are looked at: where each stands, with its tags (`tops`); what is asked of the first one (`first-asks`)
-- and of the one behind it (`right-asks`). Assumes nothing.
use mathlib.Core.Path.{◌≡◌, refl, sym, ap, subst}
use mathlib.Core.List.{List, ◌++◌}
use mathlib.Core.Option.{Option}
use Prim.Native.Nat.{ℕ, ◌+◌, ◌-◌, ◌≤◌}
use native.Mathlib.Omega.{arith}
use lib.ListN.{length, get_or, drop}
use Rattle.state.specs.Form.{slot_rows}
use Rattle.lists.specs.Runs.{tail}
use Rattle.lists.proofs.Parts.{tail-is}
use Rattle.kinds.specs.declared.Unary.TheVariants.{Not}
use Rattle.kinds.specs.declared.Join.{Join}
use Rattle.kinds.specs.declared.Binary.TheVariants.{Joined}
use Rattle.kinds.specs.declared.Kind.{Kind}
use Rattle.kinds.specs.declared.Kind.TheVariants.{One, Two}
use Rattle.kinds.specs.Kinds.{kind_of, join_code}
use Rattle.limits.specs.Limits.{boards_most}
use Rattle.ltl.specs.Formula.{Formula, one, two, size, encode}
use Rattle.network.specs.Layout.{Laid, looked, laid}
use Rattle.tagging.specs.Tags.{Tags, Tagged}
use Rattle.nodes.specs.Begins.{Front}
use Rattle.nodes.proofs.Fronts.{Parts, is_one, is_two, parts-as, front_length}
use Rattle.laying.specs.declared.Place.{Place}
use Rattle.laying.specs.declared.Lain.{Lain}
use Rattle.laying.specs.Lays.{Source, Fits, Lays, CutAsk, LookAsk, Looks}
use Rattle.laying.proofs.Places.{inner, behind}
use Rattle.laying.proofs.Sources.{source-tail}
use Rattle.laying.proofs.Asking.{fits-as, fits_one, fits-left, fits-right}

-- ---- an operand
-- it stands a bytes on, and so do its tags
pub record OperandAt (choose : Formula → Option ℕ) (u tags : List ℕ) (g : Formula) (rest : List ℕ) (a : ℕ) : Type 0 where
  pub inside : a ≤ length u
  pub front : Front (tail a u) g rest
  pub tag : Tags choose g boards_most (get_or (tail a tags) 0 0)
  pub tagged : Tagged choose g (tail a tags)

operand : {choose : Formula → Option ℕ} {u tags rest : List ℕ} {g : Formula} (a : ℕ) → a ≤ length u → Front (drop a u) g rest
    → Tags choose g boards_most (get_or (drop a tags) 0 0) × Tagged choose g (drop a tags) → OperandAt choose u tags g rest a
operand {choose} {u} {tags} {rest} {g} a l y m =
    let k : Tags choose g boards_most (get_or (tail a tags) 0 0) × Tagged choose g (tail a tags) = rw (tail-is a tags) m in
    record { inside = l; front = rw (tail-is a u) y; tag = k.0; tagged = k.1 }

-- what is asked of it, and what it then has laid
module _ {choose : Formula → Option ℕ} {hold : ℕ → ℕ → Laid} {u tags rest : List ℕ} {g : Formula} {a : ℕ} (s : Source choose hold u tags) (o : OperandAt choose u tags g rest a) {at : Place} where
  operand-asks : {p r : ℕ} (q t : List ℕ) → Fits (looked (choose g) at.board at.slot (laid choose hold g)) at p r → length q ≡ p → length t ≡ r
      → LookAsk (tail a u) (tail a tags) at q t
  operand-asks q t room e f =
      record {
        choose = choose;
        hold = hold;
        formula = g;
        rest = rest;
        source = source-tail a u tags o.inside s;
        front = o.front;
        tag = o.tag;
        tagged = o.tagged;
        fits = fits-as room e f;
      }

  pub operand-laid : {p r p' r' : List ℕ} {x : Lain} → Looks (tail a u) (tail a tags) at p r p' r' x
      → (x.read ≡ size g) × Lays (looked (choose g) at.board at.slot (laid choose hold g)) at p r p' r' x
  operand-laid h = h choose hold g rest (source-tail a u tags o.inside s) o.front o.tag o.tagged

-- ---- a node by its kind
-- the nodes whose operands are looked at
pub data Opens : Kind → Type 0 where
  not : Opens (One Not)
  pair : {j : Join} → Opens (Two (Joined j))

-- such a node in front, with its operands
pub data Top (choose : Formula → Option ℕ) (u tags rest : List ℕ) : Formula → Kind → Type 0 where
  over_one : {g : Formula} → OperandAt choose u tags g rest 1 → Top choose u tags rest (one Not g) (One Not)
  over_two : {j : Join} {g h : Formula} → get_or u 0 0 ≡ join_code j → OperandAt choose u tags g (encode h ++ rest) 1 → OperandAt choose u tags h rest (1 + size g)
      → Top choose u tags rest (two (Joined j) g h) (Two (Joined j))

pub tops : {choose : Formula → Option ℕ} {u tags rest : List ℕ} {f : Formula} {k : Kind} → Opens k → kind_of (get_or u 0 0) ≡ k → Front u f rest → Tagged choose f tags
    → Top choose u tags rest f k
tops {choose} {u} {tags} {rest} {f} {k} o kind front m = go o (parts-as u f rest front refl kind) m
  where
    go : {g : Formula} {i : Kind} → Opens i → Parts u rest g i → Tagged choose g tags → Top choose u tags rest g i
    go not (is_one e y) m = over_one (operand 1 (let l = ap length e in omega arith) y m)
    go pair (is_two {f = g} e y z) m =
        let l = ap length e in
        let n = front_length (drop 1 u) g _ y in
        over_two (ap (λ (x : List ℕ). get_or x 0 0) e) (operand 1 (omega arith) y m.0) (operand (1 + size g) (omega arith) z m.1)

-- ---- what is asked
module _ {u tags p r : List ℕ} {at : Place} (ask : CutAsk u tags at p r) where
  -- the operand of not, or the left one of two
  pub first-asks : {k : Kind} → Opens k → kind_of (get_or u 0 0) ≡ k → (q : List ℕ) → length q ≡ length p - 1 → LookAsk (tail 1 u) (tail 1 tags) (inner at) q r
  first-asks o kind q e = go (tops o kind ask.front ask.tagged) ask.fits
    where
      go : {f : Formula} {i : Kind} → Top ask.choose u tags ask.rest f i → Fits (laid ask.choose ask.hold f at.board at.slot) at (length p) (length r)
          → LookAsk (tail 1 u) (tail 1 tags) (inner at) q r
      go (over_one {g} x) room = operand-asks ask.source x q r (fits_one ask.choose ask.hold g room) e refl
      go (over_two {j} {g} {h} b x y) room = operand-asks ask.source x q r (fits-left ask.choose ask.hold j g h room) e refl

  -- the right one, the left one being laid
  pub right-asks : {j : Join} {p1 p' r' : List ℕ} {x : Lain} → kind_of (get_or u 0 0) ≡ Two (Joined j) → Looks (tail 1 u) (tail 1 tags) (inner at) p1 r p' r' x
      → (q s : List ℕ) → length q ≡ length p - (1 + x.here) → length s ≡ length r - slot_rows x.slots
      → LookAsk (tail (1 + x.read) u) (tail (1 + x.read) tags) (behind at x) q s
  right-asks {j} {x = x} kind h q s e t = go (tops pair kind ask.front ask.tagged) ask.fits
    where
      go : {f : Formula} → Top ask.choose u tags ask.rest f (Two (Joined j)) → Fits (laid ask.choose ask.hold f at.board at.slot) at (length p) (length r)
          → LookAsk (tail (1 + x.read) u) (tail (1 + x.read) tags) (behind at x) q s
      go (over_two {g = f} {h = g} b y z) room =
          let l = operand-laid ask.source y h in
          operand-asks ask.source (subst (λ (n : ℕ). OperandAt ask.choose u tags g ask.rest (1 + n)) (sym l.0) z) q s (fits-right ask.choose ask.hold j f g room l.1) e t
