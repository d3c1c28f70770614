-- An entry holds earlier entries alone, and what stands in a slot holds entries that are there: `laid-earlier`, `noted-earlier`,
-- `looked-earlier`. No tree is needed for that, only that `held` gives entries that are there. Assumes nothing.
use mathlib.Core.Path.{refl}
use mathlib.Core.Bool.{Bool, true, false}
use mathlib.Core.List.{List, [], ◌∷◌, ◌++◌}
use mathlib.Core.Option.{Option, none, some}
use Prim.Native.Nat.{ℕ, ◌+◌, ◌<◌}
use native.Mathlib.Omega.{arith}
use lib.ListN.{length, length-append}
use lib.Dec.{eqb}
use Rattle.lists.specs.Tests.{pick}
use Rattle.kinds.specs.declared.Leaf.TheVariants.{Const, Prop, Hold}
use Rattle.kinds.specs.declared.Unary.TheVariants.{Not, Next, Ever}
use Rattle.kinds.specs.declared.Binary.TheVariants.{Joined, Until}
use Rattle.ltl.specs.Formula.{Formula, leaf, one, two}
use Rattle.network.specs.Layout.{Slot, slot_at}
use Rattle.network.proofs.Laying.{HoldsIn}
use Rattle.network.proofs.Holding.{holds-map}
use Rattle.registers.specs.Register.{Noted, enter, noted, looked_noted, laid_noted}
use Rattle.registers.specs.Relaying.{holds_of}
use Rattle.registers.specs.Numbers.{holds_at}
use Rattle.registers.proofs.Entering.{Enters, known, new, enters}
use Rattle.registers.proofs.Growing.{Longer, longer-same, longer-on, longer-length}
use Rattle.registers.proofs.Expanding.{Registered}
use Rattle.registers.proofs.Carrying.{registered-new}
use Rattle.registers.proofs.Members.{OneOf, holds-each}

-- the register is in order, and what stands in the slot holds entries of it
pub record Earlier (reg : List Slot) (x : Noted) : Type 0 where
  pub longer : Longer reg x.register
  pub registered : Registered x.register
  pub below : HoldsIn (λ m. m < length x.register) x.here

-- by numbers: what entry k holds is before it, and what the slot holds is there
pub earlier-entry : (reg : List Slot) → Registered reg → (k : ℕ) → k < length reg → (m : ℕ) → OneOf m (holds_at reg k) → m < k
earlier-entry reg r k l m a = holds-each (λ i. i < k) (slot_at reg k).formula (r.earlier k l) m a

pub earlier-here : (reg : List Slot) (x : Noted) → Earlier reg x → (m : ℕ) → OneOf m (holds_of x.here) → m < length x.register
earlier-here reg x e m a = holds-each (λ i. i < length x.register) x.here e.below m a

pub enter-earlier : (reg r : List Slot) (b : ℕ) (f : Formula) → Earlier reg (record { here = f; register = r }) → Earlier reg (enter (record { board = b; formula = f }) r)
enter-earlier reg r b f c = go (enters (record { board = b; formula = f }) r)
  where
    go : {k : ℕ} {after : List Slot} → Enters (record { board = b; formula = f }) r k after → Earlier reg (record { here = leaf (Hold k); register = after })
    go (known l e) = record { longer = c.longer; registered = c.registered; below = l }
    go (new h) =
        let s : Slot = record { board = b; formula = f } in
        let n = length-append r (s ∷ []) in
        record {
          longer = longer-on reg r (r ++ (s ∷ [])) c.longer (record { more = s ∷ []; is = refl });
          registered = registered-new s r h c.below c.registered;
          below = omega arith;
        }

pub noted-earlier : (reg r : List Slot) (b : ℕ) (f : Formula) → Earlier reg (record { here = f; register = r }) → Earlier reg (noted b f r)
noted-earlier reg r b (leaf (Const v)) c = enter-earlier reg r b (leaf (Const v)) c
noted-earlier reg r b (leaf (Prop i)) c = enter-earlier reg r b (leaf (Prop i)) c
noted-earlier reg r b (leaf (Hold k)) c = c
noted-earlier reg r b (one o f) c = enter-earlier reg r b (one o f) c
noted-earlier reg r b (two o f g) c = enter-earlier reg r b (two o f g) c

pub looked-earlier : (o : Option ℕ) (b : ℕ) (reg : List Slot) (lay : ℕ → List Slot → Noted) → ((c : ℕ) → Earlier reg (lay c reg)) → Earlier reg (looked_noted o b reg lay)
unfolding looked_noted pick
looked-earlier none b reg lay h = h b
looked-earlier (some c) b reg lay h = go (eqb c b)
  where
    go : (t : Bool) → Earlier reg (pick t (lay b reg) (noted c (lay c reg).here (lay c reg).register))
    go true = h b
    go false = noted-earlier reg (lay c reg).register c (lay c reg).here (h c)

still-earlier : (reg : List Slot) (f : Formula) → Registered reg → HoldsIn (λ m. m < length reg) f → Earlier reg (record { here = f; register = reg })
still-earlier reg f r h = record { longer = longer-same reg; registered = r; below = h }

module _ (choose : Formula → Option ℕ) (held : ℕ → ℕ) where
  pub laid-earlier : (f : Formula) (b : ℕ) (reg : List Slot) → Registered reg → HoldsIn (λ m. held m < length reg) f → Earlier reg (laid_noted choose held f b reg)
  unfolding laid_noted
  laid-earlier (leaf (Const v)) b reg r h = still-earlier reg (leaf (Const v)) r tt
  laid-earlier (leaf (Prop i)) b reg r h = still-earlier reg (leaf (Prop i)) r tt
  laid-earlier (leaf (Hold m)) b reg r h = still-earlier reg (leaf (Hold (held m))) r h
  laid-earlier (one Not f) b reg r h =
      let c = looked-earlier (choose f) b reg (laid_noted choose held f) (λ c. laid-earlier f c reg r h) in
      record { longer = c.longer; registered = c.registered; below = c.below }
  laid-earlier (one Next f) b reg r h = still-earlier reg (one Next f) r tt
  laid-earlier (one (Ever j) f) b reg r h = still-earlier reg (one (Ever j) f) r tt
  laid-earlier (two (Joined j) f g) b reg r h =
      let x = looked_noted (choose f) b reg (laid_noted choose held f) in
      let y = looked_noted (choose g) b x.register (laid_noted choose held g) in
      let c = looked-earlier (choose f) b reg (laid_noted choose held f) (λ c. laid-earlier f c reg r h.0) in
      let n = longer-length reg x.register c.longer in
      let d = looked-earlier (choose g) b x.register (laid_noted choose held g)
      (λ e. laid-earlier g e x.register c.registered (holds-map (λ m. held m < length reg) (λ m. held m < length x.register) (λ m q. omega arith) g h.1)) in
      let k = longer-length x.register y.register d.longer in
      record {
        longer = longer-on reg x.register y.register c.longer d.longer;
        registered = d.registered;
        below = (holds-map (λ m. m < length x.register) (λ m. m < length y.register) (λ m q. omega arith) x.here c.below, d.below);
      }
  laid-earlier (two Until f g) b reg r h = still-earlier reg (two Until f g) r tt
