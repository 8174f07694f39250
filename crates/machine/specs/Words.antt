-- The words of slots by their names: of a stack item, of an execution slot, of a dictionary slot's binding, of an error's handler. Items and slots are counted from the bottom.
-- Assumes nothing.
use Rattle.std.specs.Prelude.{List, ℕ, ◌+◌, ◌*◌, get_or}
use Rattle.semantics.specs.Sizes.{stack_width, exec_width, dictionary_width}

-- ---- a stack item

abbrev pub item_tag : List ℕ → ℕ → ℕ
item_tag words k = get_or words (stack_width * k) 0

abbrev pub item_payload : List ℕ → ℕ → ℕ
item_payload words k = get_or words (stack_width * k + 1) 0

-- ---- an execution slot: its kind and its value

abbrev pub frame_kind : List ℕ → ℕ → ℕ
frame_kind words k = get_or words (exec_width * k) 0

abbrev pub frame_tag : List ℕ → ℕ → ℕ
frame_tag words k = get_or words (exec_width * k + 1) 0

abbrev pub frame_payload : List ℕ → ℕ → ℕ
frame_payload words k = get_or words (exec_width * k + 2) 0

-- Of a running procedure, the cell of its next element and how many are left.
abbrev pub frame_cell : List ℕ → ℕ → ℕ
frame_cell words k = get_or words (exec_width * k + 3) 0

abbrev pub frame_left : List ℕ → ℕ → ℕ
frame_left words k = get_or words (exec_width * k + 4) 0

-- Of a loop in the same words, the next number or the repetitions left, the increment, and the final number.
abbrev pub frame_next : List ℕ → ℕ → ℕ
frame_next words k = frame_cell words k

abbrev pub frame_increment : List ℕ → ℕ → ℕ
frame_increment words k = frame_left words k

abbrev pub frame_final : List ℕ → ℕ → ℕ
frame_final words k = get_or words (exec_width * k + 5) 0

-- ---- the binding in a dictionary slot

abbrev pub binding_tag : List ℕ → ℕ → ℕ
binding_tag words k = get_or words (dictionary_width * k + 9) 0

abbrev pub binding_payload : List ℕ → ℕ → ℕ
binding_payload words k = get_or words (dictionary_width * k + 10) 0

-- ---- a handler (02, W1)

-- The last words of dictionary slots serve no name. Those of three slots are the row of an error, by its place among the errors' names: the handler's
-- value, and the slot of the error's name.
abbrev pub handler_width : ℕ
handler_width = 36

abbrev pub handler_tag : List ℕ → ℕ → ℕ
handler_tag words j = get_or words (handler_width * j + 11) 0

abbrev pub handler_payload : List ℕ → ℕ → ℕ
handler_payload words j = get_or words (handler_width * j + 23) 0

abbrev pub handler_name : List ℕ → ℕ → ℕ
handler_name words j = get_or words (handler_width * j + 35) 0

-- The names of the latest error and of its command: 0 for none, else one more than the name's slot.
abbrev pub latest_error : List ℕ → ℕ
latest_error words = get_or words 623 0

abbrev pub latest_command : List ℕ → ℕ
latest_command words = get_or words 635 0
