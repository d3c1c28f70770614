-- How a list of propositions is read, byte by byte. That this reads the boards as they are typed is proved; nobody has to believe it.
-- Assumes nothing: these are definitions.
use Rattle.std.specs.Prelude.{Option, Some, None, Bool, List, [], ◌∷◌, ℕ, ◌+◌, ◌*◌, ◌-◌, ◌^◌, length, get_or, ltb, eqb}
use Rattle.std.specs.Int.Bits.{bit_or}
use Rattle.lists.specs.Tests.{pick, both, in_range}
use Rattle.limits.specs.Limits.{propositions_most}
use Rattle.spelling.specs.declared.typed.NameStage.{NameStage}
use Rattle.spelling.specs.declared.typed.NameStage.TheVariants.{Name, First, Second, Full, Wrong}
use Rattle.spelling.specs.declared.typed.ListRead.{ListRead}

-- a digit's value, and 10 of a byte that is none
unfoldable pub digit_of : ℕ → ℕ
digit_of c = pick (ltb c 48) 10 (pick (ltb 57 c) 10 (c - 48))

-- the mask with a proposition more, where there is one of this number
unfoldable pub with_name : ℕ → ℕ → Option ℕ
with_name mask n = pick (ltb n propositions_most) (Some (bit_or mask (2 ^ n))) None

abbrev pub list_read : NameStage → ℕ → ListRead
list_read stage mask = record { stage = stage; mask = mask }

-- behind the comma that follows a name
abbrev pub behind : ℕ → Option ℕ → ListRead
behind mask (Some more) = list_read Name more
behind mask None = list_read Wrong mask

-- ---- a byte more
abbrev pub at_name : ℕ → ℕ → ListRead
at_name c mask = list_read (pick (eqb c 112) First Wrong) mask

abbrev pub at_first : ℕ → ℕ → ListRead
at_first c mask = list_read (pick (ltb (digit_of c) 10) (Second (digit_of c)) Wrong) mask

-- a number of two digits begins with 1 to 9
abbrev pub second_digit : ℕ → ℕ → NameStage
second_digit c n = pick (both (in_range 9 n) (ltb (digit_of c) 10)) (Full (10 * n + digit_of c)) Wrong

abbrev pub at_second : ℕ → ℕ → ℕ → ListRead
at_second c n mask = pick (eqb c 44) (behind mask (with_name mask n)) (list_read (second_digit c n) mask)

abbrev pub at_full : ℕ → ℕ → ℕ → ListRead
at_full c n mask = pick (eqb c 44) (behind mask (with_name mask n)) (list_read Wrong mask)

abbrev pub turned : ℕ → NameStage → ℕ → ListRead
turned c Name mask = at_name c mask
turned c First mask = at_first c mask
turned c (Second n) mask = at_second c n mask
turned c (Full n) mask = at_full c n mask
turned c Wrong mask = list_read Wrong mask

-- ---- the end of the text
abbrev pub ended : NameStage → ℕ → Option ℕ
ended Name mask = None
ended First mask = None
ended (Second n) mask = with_name mask n
ended (Full n) mask = with_name mask n
ended Wrong mask = None

-- ---- all bytes that are left
abbrev pub spelled : List ℕ → ListRead → Option ℕ
spelled [] s = ended s.stage s.mask
spelled (c ∷ t) s = spelled t (turned c s.stage s.mask)

-- where a list begins
abbrev pub at_start : ListRead
at_start = list_read Name 0

-- a text that is a dash alone
unfoldable pub is_dash : List ℕ → Bool
is_dash t = both (eqb (length t) 1) (eqb (get_or t 0 0) 45)
