-- The outcome is ASCII where the names that it shows are made of bytes: its words and digits are, and escapes write every other byte in octal digits.
-- Assumes nothing.
use Rattle.std.specs.Prelude.{Bool, true, false, not, ◌&&◌, List, [], ◌∷◌, ℕ, suc, ◌+◌, ◌/◌, ◌%◌, ◌<◌, ℤ, pos, negsuc, length, T, leb, ltb, eqb}
use Rattle.std.proofs.Common.{arith, ltb→lt, leb→le}
use Rattle.semantics.specs.Text.{bytes, decimal, octal}
use Rattle.semantics.specs.Words.{signed, decimal_z}
use Rattle.semantics.specs.Tokens.{within}
use Rattle.semantics.specs.Values.{Value, integer, boolean, null, mark, operator, name, string, array, current}
use Rattle.semantics.specs.Machine.{Machine, object, elements_of, bytes_of}
use Rattle.semantics.specs.Printing.{truth, escaped, name_byte, name_text, item}
use Rattle.semantics.specs.Held.{held_cells}
use Rattle.semantics.specs.Steps.{Ending, finished, stopped, out_of_fuel, failed, misread, Run}
use Rattle.semantics.specs.Errors.{error_text, fault_text, where_text}
use Rattle.semantics.specs.Outcome.{line, ending_lines, where_of, items, outcome}
use Rattle.semantics.specs.TextLaws.{decimal_all}
use Rattle.semantics.specs.ResultLaws.{choose_cond}
use Rattle.semantics.specs.ListLaws.{All, nil, cons, every, both, all_append, all_reverse}
use Rattle.semantics.specs.declared.Error.{Error}
use Rattle.semantics.specs.declared.Fault.{Fault}
use Rattle.semantics.specs.declared.Fault.TheVariants.{BadNumber, BadEscape, OpenString, BadBrace, BadByte, OverLimit}
use Rattle.semantics.specs.declared.Error.TheVariants.{LimitCheck, Undefined, StackUnderflow, TypeCheck, InvalidAccess, RangeCheck, UndefinedResult, UnmatchedMark, ExecStackOverflow, StackOverflow, VmError, IoError}

abbrev pub Ascii : List ℕ → Type 0
Ascii t = All (λ b. b < 128) t

abbrev pub Bytes : List ℕ → Type 0
Bytes t = All (λ b. b < 256) t

-- A text that is written out.
pub words_ascii : (t : List ℕ) → T (every (λ b. ltb b 128) t) → Ascii t
words_ascii [] h = nil
words_ascii (b ∷ t) h = let q = both (ltb b 128) (every (λ c. ltb c 128) t) h in cons (ltb→lt b 128 q.0) (words_ascii t q.1)

-- ---- numbers

decimal_ascii : (n : ℕ) → Ascii (decimal n)
decimal_ascii n = decimal_all (λ d h. omega arith) n

pub decimal_z_ascii : (z : ℤ) → Ascii (decimal_z z)
unfolding decimal_z
decimal_z_ascii (pos n) = decimal_ascii n
decimal_z_ascii (negsuc n) = cons {a = 45} (omega arith) (decimal_ascii (suc n))

pub truth_ascii : (b : Bool) → Ascii (truth b)
unfolding truth bytes
truth_ascii true = words_ascii _ tt
truth_ascii false = words_ascii _ tt

-- ---- names

octal_ascii : (b : ℕ) → b < 256 → Ascii (octal b)
unfolding octal
octal_ascii b h = cons {a = 92} (omega arith) (cons {a = 48 + b / 64} (omega arith) (cons {a = 48 + b / 8 % 8} (omega arith) (cons {a = 48 + b % 8} (omega arith) nil)))

byte_ascii : (b : ℕ) → b < 256 → Ascii (name_byte b)
unfolding name_byte
byte_ascii b h =
    choose_cond Ascii (within 33 126 b && not (eqb b 92)) (b ∷ []) (octal b)
    (λ t. cons {a = b} (omega (arith, leb→le b 126 (both (leb 33 b) (leb b 126) (both (within 33 126 b) (not (eqb b 92)) t).0).1)) nil)
    (λ t. octal_ascii b h)

escaped_ascii : {n : List ℕ} → Bytes n → Ascii (escaped name_byte n)
unfolding escaped
escaped_ascii nil = nil
escaped_ascii (cons {a = b} p ps) = all_append (byte_ascii b p) (escaped_ascii ps)

pub name_ascii : (x : Bool) {n : List ℕ} → Bytes n → Ascii (name_text x n)
unfolding name_text bytes
name_ascii true h = escaped_ascii h
name_ascii false h = cons {a = 47} (omega arith) (escaped_ascii h)

-- ---- items

-- A name of bytes, an operator whose name is ASCII, or a value without a name.
abbrev pub Plain : Value → Type 0
Plain (integer w) = Unit {0}
Plain (boolean b) = Unit {0}
Plain null = Unit {0}
Plain mark = Unit {0}
Plain (operator o) = Ascii o
Plain (name x n) = Bytes n
Plain (string i) = Unit {0}
Plain (array x i) = Unit {0}

item_ascii : (m : Machine) (v : Value) → Plain v → Ascii (item m v)
unfolding item bytes
item_ascii m (integer w) h = all_append (words_ascii (bytes "integer:") tt) (decimal_z_ascii (signed w))
item_ascii m (boolean b) h = all_append (words_ascii (bytes "boolean:") tt) (truth_ascii b)
item_ascii m null h = words_ascii _ tt
item_ascii m mark h = words_ascii _ tt
item_ascii m (operator o) h = all_append (words_ascii (bytes "operator:") tt) h
item_ascii m (name x n) h = all_append (words_ascii (bytes "name:") tt) (name_ascii x h)
item_ascii m (string i) h =
    let bs = bytes_of (object m i) in
    all_append (all_append (all_append (words_ascii (bytes "string:") tt) (decimal_ascii (length (current bs)))) (words_ascii (bytes "/") tt)) (decimal_ascii (length bs))
item_ascii m (array true i) h = all_append (words_ascii (bytes "procedure:") tt) (decimal_ascii (length (elements_of (object m i))))
item_ascii m (array false i) h = all_append (words_ascii (bytes "array:") tt) (decimal_ascii (length (elements_of (object m i))))

-- ---- lines

line_ascii : {k v : List ℕ} → Ascii k → Ascii v → Ascii (line k v)
unfolding line bytes
line_ascii h g = all_append (all_append (all_append h (words_ascii (bytes "=") tt)) g) (words_ascii (bytes "\n") tt)

items_ascii : (m : Machine) {vs : List Value} → All Plain vs → Ascii (items m vs)
unfolding items bytes
items_ascii m nil = nil
items_ascii m (cons {a = v} p ps) = all_append (line_ascii (words_ascii (bytes "item") tt) (item_ascii m v p)) (items_ascii m ps)

error_ascii : (e : Error) → Ascii (error_text e)
unfolding error_text bytes
error_ascii LimitCheck = words_ascii _ tt
error_ascii Undefined = words_ascii _ tt
error_ascii StackUnderflow = words_ascii _ tt
error_ascii TypeCheck = words_ascii _ tt
error_ascii InvalidAccess = words_ascii _ tt
error_ascii RangeCheck = words_ascii _ tt
error_ascii UndefinedResult = words_ascii _ tt
error_ascii UnmatchedMark = words_ascii _ tt
error_ascii ExecStackOverflow = words_ascii _ tt
error_ascii StackOverflow = words_ascii _ tt
error_ascii VmError = words_ascii _ tt
error_ascii IoError = words_ascii _ tt

fault_ascii : (f : Fault) → Ascii (fault_text f)
unfolding fault_text bytes
fault_ascii (BadNumber at) = words_ascii _ tt
fault_ascii (BadEscape at) = words_ascii _ tt
fault_ascii (OpenString at) = words_ascii _ tt
fault_ascii (BadBrace at) = words_ascii _ tt
fault_ascii (BadByte at) = words_ascii _ tt
fault_ascii OverLimit = words_ascii _ tt

where_ascii : (f : Fault) → Ascii (where_text f)
unfolding where_text
where_ascii (BadNumber at) = decimal_ascii at
where_ascii (BadEscape at) = decimal_ascii at
where_ascii (OpenString at) = decimal_ascii at
where_ascii (BadBrace at) = decimal_ascii at
where_ascii (BadByte at) = decimal_ascii at
where_ascii OverLimit = nil

place_ascii : (e : Ending) → Ascii (where_of e)
unfolding where_of
place_ascii finished = nil
place_ascii stopped = nil
place_ascii out_of_fuel = nil
place_ascii (failed e c) = nil
place_ascii (misread f) = where_ascii f

-- The command of an error consists of bytes.
abbrev pub PlainEnding : Ending → Type 0
PlainEnding finished = Unit {0}
PlainEnding stopped = Unit {0}
PlainEnding out_of_fuel = Unit {0}
PlainEnding (failed e c) = Bytes c
PlainEnding (misread f) = Unit {0}

ending_ascii : (e : Ending) → PlainEnding e → Ascii (ending_lines e)
unfolding ending_lines bytes
ending_ascii finished h = words_ascii _ tt
ending_ascii stopped h = words_ascii _ tt
ending_ascii out_of_fuel h = words_ascii _ tt
ending_ascii (failed e c) h =
    all_append (all_append (words_ascii (bytes "ending=error\n") tt) (line_ascii (words_ascii (bytes "error") tt) (error_ascii e)))
    (line_ascii (words_ascii (bytes "command") tt) (name_ascii true h))
ending_ascii (misread f) h =
    all_append (all_append (words_ascii (bytes "ending=error\n") tt) (line_ascii (words_ascii (bytes "error") tt) (fault_ascii f)))
    (words_ascii (bytes "command=\n") tt)

number_line : (k : List ℕ) → T (every (λ b. ltb b 128) k) → (n : ℕ) → Ascii (line k (decimal n))
number_line k h n = line_ascii (words_ascii k h) (decimal_ascii n)

-- ---- the theorem

pub outcome_ascii : (r : Run) → PlainEnding r.ending → All Plain r.final.machine.stack → Ascii (outcome r)
unfolding outcome bytes
outcome_ascii r e h =
    let σ = r.final in
    let m = σ.machine in
    let at = all_append (ending_ascii r.ending e) (number_line (bytes "at") tt σ.at) in
    let place = all_append at (line_ascii (words_ascii (bytes "where") tt) (place_ascii r.ending)) in
    let steps = all_append place (number_line (bytes "steps") tt σ.steps) in
    let depth = all_append steps (number_line (bytes "depth") tt (length m.stack)) in
    let held = all_append depth (number_line (bytes "held") tt (held_cells m)) in
    let log = all_append held (number_line (bytes "log") tt (length m.log)) in
    all_append log (items_ascii m (all_reverse h))
