-- The command that a value is, by its tag.
-- Assumes nothing.
use mathlib.Core.Path.{◌≡◌, refl, sym, ap, ◌∙◌, subst}
use mathlib.Core.Bool.{Bool}
use mathlib.Core.List.{List, []}
use mathlib.Core.Option.{some}
use Prim.Native.Nat.{ℕ, ◌<◌}
use lib.ListN.{get_elem?}
use Rattle.semantics.specs.Sizes.{operator_count}
use Rattle.semantics.specs.Values.{Value}
use Rattle.semantics.specs.Steps.{command_of}
use Rattle.semantics.specs.ListLaws.{get_d_known, inside_list}
use Rattle.store.specs.Rep.{Stands, a_null, an_integer, a_boolean, a_mark, an_operator, a_literal, an_executable, a_string, an_array, a_procedure, titles}
use Rattle.store.proofs.Standing.{is_operator, is_executable, titles_count}
use Rattle.ending.specs.Endings.{command_text}
use Rattle.ending.specs.declared.Command.TheVariants.{Nothing, Operator, Name}
use Rattle.commands.specs.Commands.{CommandIs}

-- ---- the operators by their numbers

-- An operator's number is below their count.
pub operator_number : {o : List ℕ} (p : ℕ) → get_elem? titles p ≡ some o → p < operator_count
operator_number p q = subst (λ n. p < n) titles_count (inside_list titles p q)

-- ---- the command by the tag

nothing_said : {names : List (List ℕ)} {texts : List Bool} {ρ : ℕ → ℕ} {v : Value} {t p : ℕ}
    → Stands names texts ρ v t p
    → (t ≡ 4 → ⊥)
    → (t ≡ 6 → ⊥)
    → [] ≡ command_of v
unfolding command_of
nothing_said a_null o n = refl
nothing_said an_integer o n = refl
nothing_said a_boolean o n = refl
nothing_said a_mark o n = refl
nothing_said (an_operator x) o n = absurd (o refl)
nothing_said (a_literal x) o n = refl
nothing_said (an_executable x) o n = absurd (n refl)
nothing_said (a_string x y) o n = refl
nothing_said (an_array x y) o n = refl
nothing_said (a_procedure x y) o n = refl

module _ {t p : ℕ} where
  pub operator_command : t ≡ 4 → CommandIs t p (Operator p)
  unfolding command_of command_text
  operator_command four =
      record {
        says = λ script names texts ρ v s.
            let w = is_operator s four in
            (get_d_known titles p [] w.2 ∙ sym (ap command_of w.1), operator_number p w.2);
        stays = λ n. refl;
      }

  pub name_command : t ≡ 6 → CommandIs t p (Name p)
  unfolding command_of command_text
  name_command six =
      record {
        says = λ script names texts ρ v s.
            let w = is_executable s six in
            (get_d_known names p [] w.2 ∙ sym (ap command_of w.1), inside_list names p w.2);
        stays = λ n. refl;
      }

  pub no_command : (t ≡ 4 → ⊥) → (t ≡ 6 → ⊥) → CommandIs t p Nothing
  unfolding command_text
  no_command o n = record { says = λ script names texts ρ v s. (nothing_said s o n, tt); stays = λ n. refl }
