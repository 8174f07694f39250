-- The tokens of a brace group one after another: the nodes of a group and its flat tokens have the same names, in the same order.
-- Assumes nothing.
use mathlib.Core.Path.{◌≡◌, refl, sym, subst}
use mathlib.Core.List.{List, [], ◌++◌, append_assoc}
use Prim.Native.Nat.{ℕ, ◌≤◌, ◌<◌}
use native.Mathlib.Omega.{arith}
use lib.ListN.{length}
use Rattle.semantics.specs.Tokens.{Token}
use Rattle.semantics.specs.Groups.{skip}
use Rattle.token.specs.Lexing.{Lexes}
use Rattle.groups.specs.Nodes.{Nodes, names, leaf_names}
use Rattle.groups.specs.Parsing as Parsing
use Rattle.groups.specs.Parsing.{Parsed, closes, opens}
use Rattle.taking.specs.Flat.{Flat, none, token}

flat_append : {script : List ℕ} {o mid end : ℕ} {a b : List (List ℕ)} → Flat script o a mid → Flat script mid b end → Flat script o (a ++ b) end
flat_append none g = g
flat_append {script = script} {end = end} {b = b} (token {o = o} {t = t} {ns = ns} l f) g =
    subst (λ x. Flat script o x end) (sym (append_assoc (leaf_names t) ns b)) (token l (flat_append f g))

pub parsed_flat : {script : List ℕ} {d o after : ℕ} {ns : Nodes} → Parsed script d o ns after → Flat script o (names ns) after
unfolding names
parsed_flat (closes l) = token l none
parsed_flat (Parsing.token l e p) = token l (parsed_flat p)
parsed_flat (opens l p q) = token l (flat_append (parsed_flat p) (parsed_flat q))

module _ (script : List ℕ) where
  pub skip_far : (o : ℕ) → o ≤ skip script o
  unfolding skip
  skip_far o = omega arith

  flat_far : {o end : ℕ} {ns : List (List ℕ)} → Flat script o ns end → o ≤ end
  flat_far none = omega arith
  flat_far (token {o = o} l f) = omega (arith, skip_far o, l.past, flat_far f)

  -- At the end there is no name left.
  pub flat_done : {o end : ℕ} {ns : List (List ℕ)} → Flat script o ns end → end ≤ o → ns ≡ []
  flat_done none h = refl
  flat_done (token {o = o} l f) h = absurd (omega (arith, skip_far o, l.past, flat_far f))

-- The first token of a group that goes on.
pub record First (script : List ℕ) (o : ℕ) (ns : List (List ℕ)) (end : ℕ) : Type 0 where
  pub token : Token
  pub next : ℕ
  pub rest : List (List ℕ)
  pub lexes : Lexes script (skip script o) token next
  pub names : ns ≡ leaf_names token ++ rest
  pub after : Flat script next rest end

pub first_token : {script : List ℕ} {o end : ℕ} {ns : List (List ℕ)} → Flat script o ns end → o < end → First script o ns end
first_token none h = absurd (omega arith)
first_token (token {next = next} {t = t} {ns = ns} l f) h = record { token = t; next = next; rest = ns; lexes = l; names = refl; after = f }

-- It is within the script.
pub first_inside : {script : List ℕ} {o end : ℕ} {ns : List (List ℕ)} → First script o ns end → o ≤ length script
first_inside {script} {o} F = omega (arith, skip_far script o, F.lexes.past, F.lexes.inside)
