-- A tick that is done, closed: what is asked, and what is answered and left. Assumes nothing: these are definitions.
use Rattle.answers.specs.declared.Refusal.{Refusal}
use Rattle.std.specs.Prelude.{◌≡◌, ℕ, ◌+◌, ◌<◌, ◌≤◌, ◌^◌, List, [], ◌∷◌, length, leb, Result, Ok, Err, ⊤}
use Rattle.answers.specs.Said.{Said, accepted, refused, number_of, left, check, in_order, said_outcome}
use Rattle.limits.specs.Limits.{nodes_room}
use Rattle.masks.specs.Masks.{sum_ones}
use Rattle.scores.specs.Owned.{Table, Owned}
use Rattle.state.specs.declared.Counts.{Counts}
use Rattle.state.specs.Form.{form_in, state_length, slots_most, nodes_most}
use Rattle.state.specs.Fields.{ticks_in, masks_in}
use Rattle.state.specs.Bytes.{nodes_of}
use Rattle.state.specs.Calls.{next_in}
use Rattle.state.specs.Opened.{Opened}
use Rattle.storing.specs.Stores.{LaidCounts, ZeroFrom}
use Rattle.counting.specs.declared.Totals.{Totals}
use Rattle.renewing.specs.Renew.{next_state}

-- a state that passes, whose ticks can be counted on, and a second buffer of its length
pub record AdvanceAsk (s second : List ℕ) (c : Counts) : Type 0 where
  pub opened : Opened s c
  pub counted : ticks_in s + 1 < 2 ^ 32
  pub long : length second ≡ state_length (form_in s)

-- the checks of the new layout, and what is left of the second buffer
abbrev pub advance_says : List ℕ → Said
advance_says s =
    in_order
    (check 7 (leb (length (next_in s)) (slots_most (form_in s))) ∷ check 8 (leb (nodes_of (next_in s)) (nodes_most (form_in s))) ∷ [])
    (accepted [])

-- what the new layout is found to be: a refusal, or its counts, which are within the limits
pub record NextCounts (s : List ℕ) (t : Totals) : Type 0 where
  pub counts : LaidCounts (next_in s) t.slots t.nodes
  pub form-slots : t.slots ≤ slots_most (form_in s)
  pub form-nodes : t.nodes ≤ nodes_most (form_in s)

abbrev pub NextFound : List ℕ → Result Totals Refusal → Type 0
NextFound s (Err why) = refused (number_of why) ≡ advance_says s
NextFound s (Ok t) = NextCounts s t

pub record Advances (s second second' : List ℕ) (answer : Result ⊤ Refusal) : Type 0 where
  pub says : said_outcome answer ≡ advance_says s
  pub leaves : second' ≡ left (advance_says s) (next_state s) second

-- what is lent to each tick of many: the state's masks and their table of owners, and room for the layout
pub record Lent (s masks owner u tags : List ℕ) : Type 0 where
  pub masks-are : masks ≡ masks_in s
  pub table : Table owner
  pub owned : Owned (sum_ones (masks_in s)) (masks_in s) owner
  pub u-long : length u ≡ nodes_room
  pub tags-long : length tags ≡ nodes_room

-- a close with that, into a second buffer that is zero from a place on
pub record LentAsk (s second : List ℕ) (c : Counts) (used : ℕ) (masks owner u tags : List ℕ) : Type 0 where
  pub ask : AdvanceAsk s second c
  pub lent : Lent s masks owner u tags
  pub clean : ZeroFrom used second
