-- The definition's operators that write, by their names and their operands.
-- Assumes nothing.
use mathlib.Core.Path.{◌≡◌, refl, sym, ap, ◌∙◌}
use mathlib.Core.List.{List, ◌∷◌, ◌++◌}
use Prim.Native.Nat.{ℕ, ◌<◌}
use lib.ListN.{length, drop}
use Rattle.semantics.specs.Text.{bytes, textual}
use Rattle.semantics.specs.Values.{Value, string, ok, fault, ◌>>=◌, string_id, current}
use Rattle.semantics.specs.Machine.{Machine, with_stack, write, object, bytes_of}
use Rattle.semantics.specs.Printing.{echoed}
use Rattle.semantics.specs.TextOperators.{print, echo, echostack}
use Rattle.semantics.specs.Operators.{perform, find, table, ◌is◌}
use Rattle.semantics.proofs.EchoLaws.{echo_performed, echoed_same}
use Rattle.semantics.specs.declared.Error.TheVariants.{StackUnderflow, TypeCheck}
use Rattle.machine.specs.Moves.{dropped}
use Rattle.machine.proofs.Operands.{pop1_some, pop1_under}

print_is : (μ : Machine) → perform (bytes "print") μ ≡ print μ
unfolding textual perform find table ◌is◌
print_is μ = refl

pub echostack_is : (μ : Machine) → perform (bytes "echostack") μ ≡ echostack μ
unfolding textual perform find table ◌is◌
echostack_is μ = refl

-- A value's text does not change with the stack.
echoed_stack : (s : List Value) (μ : Machine) (v : Value) → echoed (with_stack s μ) v ≡ echoed μ v
unfolding with_stack
echoed_stack s μ v = echoed_same (with_stack s μ) μ refl v

-- ---- what they come to

module _ (μ : Machine) where
  module _ (short : length μ.stack < 1) where
    pub print_under : perform (bytes "print") μ ≡ fault StackUnderflow
    unfolding print ◌>>=◌
    print_under = print_is μ ∙ ap (λ r. r >>= λ p. string_id p.0 >>= λ i. ok (write (current (bytes_of (object p.1 i))) p.1)) (pop1_under μ short)

    pub echo_under : perform (bytes "echo") μ ≡ fault StackUnderflow
    unfolding echo ◌>>=◌
    echo_under = echo_performed μ ∙ ap (λ r. r >>= λ p. ok (write (echoed p.1 p.0 ++ bytes "\n") p.1)) (pop1_under μ short)

  module _ {x : Value} {s : List Value} (split : μ.stack ≡ x ∷ s) where
    pub print_wrong : string_id x ≡ fault TypeCheck → perform (bytes "print") μ ≡ fault TypeCheck
    unfolding print ◌>>=◌
    print_wrong wrong =
        print_is μ
        ∙ ap (λ r. r >>= λ p. string_id p.0 >>= λ i. ok (write (current (bytes_of (object p.1 i))) p.1)) (pop1_some μ split)
        ∙ ap (λ r. r >>= λ i. ok (write (current (bytes_of (object (with_stack s μ) i))) (with_stack s μ))) wrong

    rest_is : with_stack s μ ≡ dropped μ
    unfolding dropped
    rest_is = ap (λ (t : List Value). with_stack (drop 1 t) μ) (sym split)

    pub print_done : {id : ℕ} → x ≡ string id → perform (bytes "print") μ ≡ ok (write (current (bytes_of (object μ id))) (dropped μ))
    unfolding print ◌>>=◌ string_id object with_stack
    print_done {id} e =
        print_is μ
        ∙ ap (λ r. r >>= λ p. string_id p.0 >>= λ i. ok (write (current (bytes_of (object p.1 i))) p.1)) (pop1_some μ split)
        ∙ ap (λ v. string_id v >>= λ i. ok (write (current (bytes_of (object (with_stack s μ) i))) (with_stack s μ))) e
        ∙ ap (λ τ. ok (write (current (bytes_of (object μ id))) τ)) rest_is

    pub echo_done : perform (bytes "echo") μ ≡ ok (write (echoed μ x ++ bytes "\n") (dropped μ))
    unfolding echo ◌>>=◌
    echo_done =
        echo_performed μ
        ∙ ap (λ r. r >>= λ p. ok (write (echoed p.1 p.0 ++ bytes "\n") p.1)) (pop1_some μ split)
        ∙ ap (λ (t : List ℕ). ok (write (t ++ bytes "\n") (with_stack s μ))) (echoed_stack s μ x)
        ∙ ap (λ τ. ok (write (echoed μ x ++ bytes "\n") τ)) rest_is
