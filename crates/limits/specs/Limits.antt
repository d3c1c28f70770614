-- The limits, each with one name and one sense. Assumes nothing: these are definitions.
use Rattle.std.specs.Prelude.{ℕ}

-- the boards
abbrev pub boards_most : ℕ
boards_most = 16

-- the propositions; each has a code
abbrev pub propositions_most : ℕ
propositions_most = 64

-- the codes of place holders
abbrev pub holder_codes : ℕ
holder_codes = 64

-- the nodes of a rule's formula
abbrev pub rule_nodes_most : ℕ
rule_nodes_most = 1024

-- the bytes of a buffer for a rule's text
abbrev pub text_length : ℕ
text_length = 8192

-- the nodes of a formula that is progressed in one place, and of what it unfolds to
abbrev pub central_nodes_most : ℕ
central_nodes_most = 4096

-- the slots and the nodes of a network, whatever the form of its state
abbrev pub slots_room : ℕ
slots_room = 64

abbrev pub nodes_room : ℕ
nodes_room = 4096

-- the runs of a list, and of the reports of two lists together
abbrev pub runs_most : ℕ
runs_most = 65536

-- the rules that a list of runs may tell of
abbrev pub rules_most : ℕ
rules_most = 256
