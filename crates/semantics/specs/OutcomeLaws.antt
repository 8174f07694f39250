-- How long an outcome is: where names are short its head has at most 256 bytes, and an item at most 136 (01, Setup 9; R12).
-- Assumes nothing.
use Rattle.std.specs.Prelude.{Bool, true, false, not, ◌&&◌, List, [], ◌∷◌, ℕ, suc, ◌+◌, ◌*◌, ◌≤◌, ℤ, pos, negsuc, length, T, leb, eqb}
use Rattle.std.proofs.Common.{arith, length-append, leb→le}
use Rattle.std.proofs.lemmas.List.{length-reverse}
use Rattle.semantics.specs.Sizes.{name_most, head_room, item_room}
use Rattle.semantics.specs.Text.{bytes, decimal, octal}
use Rattle.semantics.specs.Words.{signed, decimal_z}
use Rattle.semantics.specs.Values.{Value, integer, boolean, null, mark, operator, name, string, array, current}
use Rattle.semantics.specs.Machine.{Machine, object, elements_of, bytes_of}
use Rattle.semantics.specs.Printing.{truth, escaped, name_byte, name_text, item}
use Rattle.semantics.specs.Held.{held_cells}
use Rattle.semantics.specs.Tokens.{within}
use Rattle.semantics.specs.Steps.{Ending, finished, stopped, out_of_fuel, failed, misread, Run}
use Rattle.semantics.specs.Errors.{error_text, fault_text, where_text}
use Rattle.semantics.specs.Outcome.{line, ending_lines, where_of, items, outcome}
use Rattle.semantics.specs.TextLaws.{decimal_length}
use Rattle.semantics.specs.ListLaws.{All, nil, cons, all_reverse}
use Rattle.semantics.specs.ResultLaws.{choose_cond}
use Rattle.semantics.specs.declared.Error.{Error}
use Rattle.semantics.specs.declared.Fault.{Fault}
use Rattle.semantics.specs.declared.Fault.TheVariants.{BadNumber, BadEscape, OpenString, BadBrace, BadByte, OverLimit}
use Rattle.semantics.specs.declared.Error.TheVariants.{LimitCheck, Undefined, StackUnderflow, TypeCheck, InvalidAccess, RangeCheck, UndefinedResult, UnmatchedMark, ExecStackOverflow, StackOverflow, VmError, IoError}

-- ---- names

-- The bytes of a name or an operator.
abbrev pub spelling : Value → List ℕ
spelling (integer w) = []
spelling (boolean b) = []
spelling null = []
spelling mark = []
spelling (operator o) = o
spelling (name x n) = n
spelling (string i) = []
spelling (array x i) = []

-- A name of at most 31 bytes, or a value without a name.
pub record Short (v : Value) : Type 0 where
  pub brief : length (spelling v) ≤ name_most

pub plain : {v : Value} → T (leb (length (spelling v)) name_most) → Short v
plain t = record { brief = leb→le _ name_most t }

name_byte_length : (b : ℕ) → length (name_byte b) ≤ 4
unfolding name_byte octal
name_byte_length b = choose_cond (λ t. length t ≤ 4) (within 33 126 b && not (eqb b 92)) (b ∷ []) (octal b) (λ t. omega arith) (λ t. omega arith)

escaped_length : (n : List ℕ) → length (escaped name_byte n) ≤ 4 * length n
unfolding escaped
escaped_length [] = omega arith
escaped_length (b ∷ n) =
    omega (arith, length-append (name_byte b) (escaped name_byte n), name_byte_length b, escaped_length n)

pub name_text_length : (x : Bool) (n : List ℕ) → length (name_text x n) ≤ 1 + 4 * length n
unfolding name_text bytes
name_text_length true n = omega (arith, escaped_length n)
name_text_length false n = omega (arith, escaped_length n)

-- ---- items and lines

pub decimal_z_length : (z : ℤ) → length (decimal_z z) ≤ 11
unfolding decimal_z
decimal_z_length (pos n) = omega (arith, decimal_length n)
decimal_z_length (negsuc n) = omega (arith, decimal_length (suc n))

truth_length : (b : Bool) → length (truth b) ≤ 5
unfolding truth bytes
truth_length true = omega arith
truth_length false = omega arith

pub item_length : (m : Machine) (v : Value) → Short v → length (item m v) ≤ 130
unfolding item bytes
item_length m (integer w) h = omega (arith, decimal_z_length (signed w))
item_length m (boolean b) h = omega (arith, truth_length b)
item_length m null h = omega arith
item_length m mark h = omega arith
item_length m (operator o) h = omega arith
item_length m (name x n) h = omega (arith, name_text_length x n)
item_length m (string i) h =
    let bs = bytes_of (object m i) in
    simp length-append (omega (arith, decimal_length (length (current bs)), decimal_length (length bs)))
item_length m (array true i) h = omega (arith, decimal_length (length (elements_of (object m i))))
item_length m (array false i) h = omega (arith, decimal_length (length (elements_of (object m i))))

pub line_length : (k v : List ℕ) → length (line k v) ≤ length k + length v + 2
unfolding line bytes
line_length k v = simp (line, length-append) (omega arith)

items_length : (m : Machine) {vs : List Value} → All Short vs → length (items m vs) ≤ item_room * length vs
unfolding items bytes
items_length m nil = omega arith
items_length m (cons {a = v} {l = vs} p ps) =
    omega (arith, length-append (line (bytes "item") (item m v)) (items m vs), line_length (bytes "item") (item m v), item_length m v p, items_length m ps)

pub error_length : (e : Error) → length (error_text e) ≤ 17
unfolding error_text bytes
error_length LimitCheck = omega arith
error_length Undefined = omega arith
error_length StackUnderflow = omega arith
error_length TypeCheck = omega arith
error_length InvalidAccess = omega arith
error_length RangeCheck = omega arith
error_length UndefinedResult = omega arith
error_length UnmatchedMark = omega arith
error_length ExecStackOverflow = omega arith
error_length StackOverflow = omega arith
error_length VmError = omega arith
error_length IoError = omega arith

pub fault_length : (f : Fault) → length (fault_text f) ≤ 10
unfolding fault_text bytes
fault_length (BadNumber at) = omega arith
fault_length (BadEscape at) = omega arith
fault_length (OpenString at) = omega arith
fault_length (BadBrace at) = omega arith
fault_length (BadByte at) = omega arith
fault_length OverLimit = omega arith

where_length : (f : Fault) → length (where_text f) ≤ 10
unfolding where_text
where_length (BadNumber at) = decimal_length at
where_length (BadEscape at) = decimal_length at
where_length (OpenString at) = decimal_length at
where_length (BadBrace at) = decimal_length at
where_length (BadByte at) = decimal_length at
where_length OverLimit = omega arith

-- The command of an ending.
abbrev pub command_in : Ending → List ℕ
command_in finished = []
command_in stopped = []
command_in out_of_fuel = []
command_in (failed e c) = c
command_in (misread f) = []

-- How the run ended, and where its token is wrong: a token fault has no command.
pub ending_length : (e : Ending) → length (command_in e) ≤ name_most → length (ending_lines e) + length (where_of e) ≤ 170
unfolding ending_lines where_of name_text bytes
ending_length finished h = omega arith
ending_length stopped h = omega arith
ending_length out_of_fuel h = omega arith
ending_length (failed e c) h =
    simp length-append (omega (arith, line_length (bytes "error") (error_text e), line_length (bytes "command") (name_text true c), escaped_length c, error_length e))
ending_length (misread f) h = simp length-append (omega (arith, line_length (bytes "error") (fault_text f), fault_length f, where_length f))

-- What a run whose names are short comes to.
pub outcome_length : (slots : ℕ) (r : Run)
    → length (command_in r.ending) ≤ name_most
    → All Short r.final.machine.stack
    → length r.final.machine.stack ≤ slots
    → length (outcome r) ≤ head_room + item_room * slots
unfolding outcome bytes
outcome_length slots r command short fits =
    let σ = r.final in
    let m = σ.machine in
    simp (outcome, length-append)
    (omega (
      arith,
      ending_length r.ending command,
      line_length (bytes "at") (decimal σ.at),
      decimal_length σ.at,
      line_length (bytes "where") (where_of r.ending),
      line_length (bytes "steps") (decimal σ.steps),
      decimal_length σ.steps,
      line_length (bytes "depth") (decimal (length m.stack)),
      decimal_length (length m.stack),
      line_length (bytes "held") (decimal (held_cells m)),
      decimal_length (held_cells m),
      line_length (bytes "log") (decimal (length m.log)),
      decimal_length (length m.log),
      items_length m (all_reverse short),
      length-reverse m.stack,
      fits,
    ))
