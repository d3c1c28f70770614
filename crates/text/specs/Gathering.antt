-- What is gathered of a text from its end: infix signs that wait for their left operand, with the brackets that stand open there, and the
-- formula's bytes, the last ones first. proofs/ shows that it comes to the formula's bytes. Assumes nothing: these are definitions.
use Rattle.std.specs.Prelude.{List, [], ◌∷◌, ℕ, suc, ◌+◌, ◌-◌, ◌*◌, ◌%◌, ltb, eqb}
use Rattle.lists.specs.Tests.{pick, both}
use Rattle.limits.specs.Limits.{propositions_most}
use Rattle.kinds.specs.declared.Leaf.TheVariants.{Const, Prop}
use Rattle.kinds.specs.declared.Binary.{Binary}
use Rattle.kinds.specs.Kinds.{leaf_code, unary_code, binary_code}
use Rattle.text.specs.declared.Sign.{Sign}
use Rattle.text.specs.declared.Sign.TheVariants.{Blank, Prefix, Infix, Open, Close, Word, Letter, Digit, Other}
use Rattle.text.specs.Signs.{sign_of, level, loosest}

-- an infix sign that waits for its left operand, and the brackets that are open there
pub record Waiting : Type 0 where
  pub depth : ℕ
  pub sign : Binary

-- signs that wait, the latest first; brackets that are open; the digits as a number, and what the next one counts; bytes. Of digits that
-- are no number of a text only a remainder is kept, so that any bytes can be gathered
pub record Gathered : Type 0 where
  pub waits : List Waiting
  pub depth : ℕ
  pub number : ℕ
  pub scale : ℕ
  pub bytes : List ℕ

pub record Popped : Type 0 where
  pub waits : List Waiting
  pub bytes : List ℕ

-- signs at this depth that bind tighter than level k have both operands: they go in front of the bytes
abbrev pub pops : List Waiting → ℕ → ℕ → List ℕ → Popped
pops [] d k b = record { waits = []; bytes = b }
pops (w ∷ ws) d k b =
    pick (both (eqb w.depth d) (ltb (level w.sign) k)) (pops ws d k (binary_code w.sign ∷ b)) (record { waits = w ∷ ws; bytes = b })

abbrev pub waiting : Binary → ℕ → ℕ → ℕ → Popped → Gathered
waiting o d n s p = record { waits = record { depth = d; sign = o } ∷ p.waits; depth = d; number = n; scale = s; bytes = p.bytes }

abbrev pub opened : ℕ → ℕ → ℕ → Popped → Gathered
opened d n s p = record { waits = p.waits; depth = d - 1; number = n; scale = s; bytes = p.bytes }

abbrev pub front : ℕ → Gathered → Gathered
front c x = record { waits = x.waits; depth = x.depth; number = x.number; scale = x.scale; bytes = c ∷ x.bytes }

-- one byte more, towards the front
abbrev pub gathers : Sign → Gathered → Gathered
gathers Blank x = x
gathers (Prefix o) x = front (unary_code o) x
gathers (Infix o) x = waiting o x.depth x.number x.scale (pops x.waits x.depth (suc (level o)) x.bytes)
gathers Open x = opened x.depth x.number x.scale (pops x.waits x.depth loosest x.bytes)
gathers Close x = record { waits = x.waits; depth = suc x.depth; number = x.number; scale = x.scale; bytes = x.bytes }
gathers (Word v) x = front (leaf_code (Const v)) x
gathers Letter x = record { waits = x.waits; depth = x.depth; number = 0; scale = 1; bytes = leaf_code (Prop (x.number % propositions_most)) ∷ x.bytes }
gathers (Digit n) x =
    record { waits = x.waits; depth = x.depth; number = (n * x.scale + x.number) % 256; scale = 10 * x.scale % 256; bytes = x.bytes }
gathers Other x = x

abbrev pub gathered : List ℕ → Gathered
gathered [] = record { waits = []; depth = 0; number = 0; scale = 1; bytes = [] }
gathered (c ∷ t) = gathers (sign_of c) (gathered t)

-- the bytes of the formula that the text is
abbrev pub built : List ℕ → List ℕ
built t = (pops (gathered t).waits 0 loosest (gathered t).bytes).bytes
