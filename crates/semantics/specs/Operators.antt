-- The operators by name (01, House rules: those of 000's 6.2 to 6.10 without glk and handleerror, and with string and print; and those of 02, W1, W5 and W7). strlen and strcat are none (R1).
-- Assumes nothing.
use Rattle.std.specs.Prelude.{true, false, not, ◌&&◌, ◌||◌, List, [], ◌∷◌, ℕ, pos, neg_ℤ, nat_abs, ◌+ℤ◌, ◌-ℤ◌, ◌*ℤ◌}
use Rattle.std.specs.Bool.{beq}
use Rattle.std.proofs.Math.Option.{some}
use Rattle.std.specs.Int.Signed.{lt_z, le_z, quot_z, rem_z}
use Rattle.std.specs.Int.Bits.{bit_and, bit_or, bit_xor}
use Rattle.semantics.specs.Text.{bytes, same}
use Rattle.semantics.specs.Values.{ok, fault}
use Rattle.semantics.specs.StackOperators.{Operator, dup, exch, pop, index, copy, roll, stack_operators}
use Rattle.semantics.specs.NumberOperators.{arithmetic, arithmetic1, division, bitshift, ones_in, lowest_in, highest_in, pegs, connective, negation, equality, comparison, number_operators}
use Rattle.semantics.specs.ControlOperators.{def, load, bind, exec, if', ifelse, loop, repeat, for, exit, continue, stop, onerror, errorname, command, control_operators}
use Rattle.semantics.specs.ObjectOperators.{array', string', mark', close, length', get, put, getinterval, putinterval, aload, astore, readonly, object_operators}
use Rattle.semantics.specs.TextOperators.{cvs, convert, cvn, print, echo, echostack, text_operators}
use Rattle.semantics.specs.declared.Error.TheVariants.{Undefined}

-- An operator's name and what it does.
pub record Entry : Type 0 where
  pub title : List ℕ
  pub action : Operator

infix 5 ◌is◌
unfoldable pub ◌is◌ : List ℕ → Operator → Entry
n is f = record { title = n; action = f }

unfoldable pub table : List Entry
table =
    (bytes "dup" is dup)
    ∷ (bytes "exch" is exch)
    ∷ (bytes "pop" is pop)
    ∷ (bytes "index" is index)
    ∷ (bytes "copy" is copy)
    ∷ (bytes "roll" is roll)
    ∷ (bytes "add" is arithmetic (λ a b. ok (a +ℤ b)))
    ∷ (bytes "sub" is arithmetic (λ a b. ok (a -ℤ b)))
    ∷ (bytes "mul" is arithmetic (λ a b. ok (a *ℤ b)))
    ∷ (bytes "idiv" is arithmetic (division quot_z))
    ∷ (bytes "mod" is arithmetic (division rem_z))
    ∷ (bytes "abs" is arithmetic1 (λ a. pos (nat_abs a)))
    ∷ (bytes "neg" is arithmetic1 neg_ℤ)
    ∷ (bytes "bitshift" is bitshift)
    ∷ (bytes "not" is negation)
    ∷ (bytes "and" is connective bit_and ◌&&◌)
    ∷ (bytes "or" is connective bit_or ◌||◌)
    ∷ (bytes "xor" is connective bit_xor (λ a b. not (beq a b)))
    ∷ (bytes "eq" is equality (λ b. b))
    ∷ (bytes "ne" is equality not)
    ∷ (bytes "lt" is comparison lt_z)
    ∷ (bytes "le" is comparison le_z)
    ∷ (bytes "gt" is comparison (λ a b. lt_z b a))
    ∷ (bytes "ge" is comparison (λ a b. le_z b a))
    ∷ (bytes "def" is def)
    ∷ (bytes "load" is load)
    ∷ (bytes "bind" is bind)
    ∷ (bytes "exec" is exec)
    ∷ (bytes "if" is if')
    ∷ (bytes "ifelse" is ifelse)
    ∷ (bytes "loop" is loop)
    ∷ (bytes "repeat" is repeat)
    ∷ (bytes "for" is for)
    ∷ (bytes "exit" is exit)
    ∷ (bytes "continue" is continue)
    ∷ (bytes "stop" is stop)
    ∷ (bytes "array" is array')
    ∷ (bytes "mark" is mark')
    ∷ (bytes "]" is close)
    ∷ (bytes "length" is length')
    ∷ (bytes "get" is get)
    ∷ (bytes "put" is put)
    ∷ (bytes "getinterval" is getinterval)
    ∷ (bytes "putinterval" is putinterval)
    ∷ (bytes "aload" is aload)
    ∷ (bytes "astore" is astore)
    ∷ (bytes "string" is string')
    ∷ (bytes "cvs" is cvs)
    ∷ (bytes "cvx" is convert true)
    ∷ (bytes "cvlit" is convert false)
    ∷ (bytes "cvn" is cvn)
    ∷ (bytes "echo" is echo)
    ∷ (bytes "echostack" is echostack)
    ∷ (bytes "print" is print)
    ∷ (bytes "onerror" is onerror)
    ∷ (bytes "errorname" is errorname)
    ∷ (bytes "command" is command)
    ∷ (bytes "ones" is pegs (λ w. some (ones_in 32 w)))
    ∷ (bytes "lowpeg" is pegs (lowest_in 32))
    ∷ (bytes "highpeg" is pegs (highest_in 32))
    ∷ (bytes "readonly" is readonly)
    ∷ []

-- The clause of the empty list is never met: an operator's name is in the table.
unfoldable pub find : List ℕ → List Entry → Operator
find n [] m = fault Undefined
find n (e ∷ es) m = elim (same n e.title) [ true ↦ e.action m | false ↦ find n es m ]

-- An operator, by its name.
unfoldable pub perform : List ℕ → Operator
perform n = find n table

-- Opens every definition of this file and of the operators' own.
unfoldable pub operators : Unit {0}
unfolding stack_operators number_operators control_operators object_operators text_operators ◌is◌ table find perform
operators = tt
