-- The counts and limits of the papers, each said once. `NameLaws` ties the two counts to the operators and to the predefined names.
-- Assumes nothing.
use Rattle.std.specs.Prelude.{ℕ, ◌+◌, ◌*◌}

-- ---- names (01, House rules and Tokens)

abbrev pub operator_count : ℕ
operator_count = 61

-- The operators, and [, true, false and null.
abbrev pub name_count : ℕ
name_count = operator_count + 4

-- The names of errors (01, Order within a step; 02, W4 and W7).
abbrev pub error_count : ℕ
error_count = 17

-- The bytes of a name.
abbrev pub name_most : ℕ
name_most = 31

-- ---- words (01, Setup): 2 for a stack slot, 8 for an execution slot, 12 for a dictionary slot, 4 for a cell

abbrev pub stack_width : ℕ
stack_width = 2

abbrev pub exec_width : ℕ
exec_width = 8

abbrev pub dictionary_width : ℕ
dictionary_width = 12

abbrev pub cell_width : ℕ
cell_width = 4

-- ---- what setup accepts (01, Setup)

abbrev pub script_most : ℕ
script_most = 32768

abbrev pub fuel_most : ℕ
fuel_most = 1000000

abbrev pub stack_least : ℕ
stack_least = 8

abbrev pub stack_most : ℕ
stack_most = 256

abbrev pub exec_least : ℕ
exec_least = 4

abbrev pub exec_most : ℕ
exec_most = 128

abbrev pub dictionary_most : ℕ
dictionary_most = 512

abbrev pub cells_least : ℕ
cells_least = 1

abbrev pub cells_most : ℕ
cells_most = 32768

abbrev pub log_most : ℕ
log_most = 65536

-- The outcome's room: its head, and an item for each stack slot.
abbrev pub head_room : ℕ
head_room = 256

abbrev pub item_room : ℕ
item_room = 136

-- ---- the same in words

abbrev pub stack_words_most : ℕ
stack_words_most = stack_width * stack_most

abbrev pub exec_words_most : ℕ
exec_words_most = exec_width * exec_most

-- Those of the predefined names, which every dictionary has.
abbrev pub name_words : ℕ
name_words = dictionary_width * name_count

abbrev pub dictionary_words_most : ℕ
dictionary_words_most = dictionary_width * dictionary_most
