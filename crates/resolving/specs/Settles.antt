-- What is seen at a tick, and what is made of a formula by it. Assumes nothing: these are definitions.
use Rattle.std.specs.Prelude.{ℕ}
use Rattle.lists.specs.Tests.{pick, bit}
use Rattle.kinds.specs.declared.Leaf.{Leaf}
use Rattle.kinds.specs.declared.Leaf.TheVariants.{Const, Prop, Hold}
use Rattle.answers.specs.declared.Verdict.{Verdict}
use Rattle.answers.specs.declared.Verdict.TheVariants.{False, True, Pending}
use Rattle.ltl.specs.Formula.{Formula}
use Rattle.ltl.specs.Progression.{resolved, filled_by, filled}
use Rattle.slot_sets.specs.SlotSets.{no_slots, has_slot}
use Rattle.resolving.specs.declared.Seen.{Seen}

-- the verdict of slot k, by the set of the slots that are true and the set of those that are false
abbrev pub held_by : Seen → ℕ → Verdict
held_by seen k = pick (has_slot seen.yes k) True (pick (has_slot seen.no k) False Pending)

-- an event, and no slot that is seen to be true or false
abbrev pub event_alone : ℕ → Seen
event_alone event = record { event = event; yes = no_slots; no = no_slots }

-- constant held slots replaced by their values, then resolved under the event
abbrev pub settled : Seen → Formula → Formula
settled seen f = resolved seen.event (filled (held_by seen) f)

-- the same of a node without operands
abbrev pub settled_leaf : Seen → Leaf → Leaf
settled_leaf seen (Const v) = Const v
settled_leaf seen (Prop i) = Const (bit seen.event i)
settled_leaf seen (Hold k) = filled_by (held_by seen k) k
