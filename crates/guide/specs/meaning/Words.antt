-- The numbers that stand for words in a book, by name. 01, "The guide book".
use Rattle.std.specs.Prelude.{ℕ}

-- a line: "kind (1 segment, 2 group)"
abbrev pub segment_kind : ℕ
segment_kind = 1

abbrev pub group_kind : ℕ
group_kind = 2

-- a field: "presence (0 must be empty, 1 must have bytes, 2 may, 3 must if any component of its element has bytes)"
abbrev pub empty_presence : ℕ
empty_presence = 0

abbrev pub must_presence : ℕ
must_presence = 1

abbrev pub may_presence : ℕ
may_presence = 2

abbrev pub with_element_presence : ℕ
with_element_presence = 3

-- "form (1 an, 2 n)"
abbrev pub text_form : ℕ
text_form = 1

abbrev pub number_form : ℕ
number_form = 2

-- a row: "Modes: 0 never, 1 must, 2 may, 3 must if the expression holds and otherwise never, 4 may if it holds and otherwise never."
abbrev pub never_mode : ℕ
never_mode = 0

abbrev pub must_mode : ℕ
must_mode = 1

abbrev pub may_mode : ℕ
may_mode = 2

abbrev pub must_if_mode : ℕ
must_if_mode = 3

abbrev pub may_if_mode : ℕ
may_if_mode = 4

-- "Joint 1 is all, 2 is any"
abbrev pub all_joint : ℕ
all_joint = 1

abbrev pub any_joint : ℕ
any_joint = 2
