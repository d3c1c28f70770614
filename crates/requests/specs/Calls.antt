-- The calls by their numbers, and what is given and lent to each. Assumes nothing: these are definitions.
use Rattle.std.specs.Prelude.{◌≡◌, ◌⊎◌, ℕ, ◌<◌, Bool, true, false, Result, MatchResult}
use Rattle.requests.specs.declared.header.Call.{Call}
use Rattle.requests.specs.declared.header.Call.TheVariants.{Read, Write, Central, Load, Sample, Step, Close, Ask, Poke, Capture, Parse, Print, Report, Add, Mend, Stretch}
use Rattle.requests.specs.declared.header.NoCall.{NoCall}

-- the number that stands for a call in a request
abbrev pub number_of : Call → ℕ
number_of Read = 1
number_of Write = 2
number_of Central = 3
number_of Load = 4
number_of Sample = 5
number_of Step = 6
number_of Close = 7
number_of Ask = 8
number_of Poke = 9
number_of Capture = 10
number_of Parse = 11
number_of Print = 12
number_of Report = 13
number_of Add = 14
number_of Mend = 15
number_of Stretch = 16

-- the result is the call with this number, or the number, which is then no call's
abbrev pub Numbers : ℕ → Result Call NoCall → Type 0
Numbers n r = MatchResult r (λ call. number_of call ≡ n) (λ e. (e.0 ≡ n) × ((n ≡ 0) ⊎ (number_of Stretch < n)))

-- ---- what is given and lent to a call
-- whether numbers are given to the call
abbrev pub is_given_numbers : Call → Bool
is_given_numbers Write = true
is_given_numbers Capture = true
is_given_numbers _ = false

-- whether numbers are lent to it
abbrev pub lends_numbers : Call → Bool
lends_numbers Read = true
lends_numbers Stretch = true
lends_numbers _ = false

-- whether of the kept state bytes are lent to it
abbrev pub lends_kept : Call → Bool
lends_kept Sample = true
lends_kept Step = true
lends_kept Close = true
lends_kept Ask = true
lends_kept Capture = true
lends_kept Add = true
lends_kept _ = false

-- whether bytes are lent to it afresh
abbrev pub lends_fresh : Call → Bool
lends_fresh Read = true
lends_fresh Write = true
lends_fresh Central = true
lends_fresh Load = true
lends_fresh Close = true
lends_fresh Capture = true
lends_fresh Parse = true
lends_fresh Print = true
lends_fresh Report = true
lends_fresh Mend = true
lends_fresh _ = false

-- whether marks are lent to it
abbrev pub lends_marks : Call → Bool
lends_marks Mend = true
lends_marks _ = false

-- whether what is lent afresh becomes the kept state
abbrev pub keeps : Call → Bool
keeps Load = true
keeps Close = true
keeps Report = true
keeps _ = false

-- the result is what f says of the call with this number, and false where none has it
pub record ByNumber (f : Call → Bool) (n : ℕ) (result : Bool) : Type 0 where
  pub some : (call : Call) → number_of call ≡ n → result ≡ f call
  pub none : (n ≡ 0) ⊎ (number_of Stretch < n) → result ≡ false
