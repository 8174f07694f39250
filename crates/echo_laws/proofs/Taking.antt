-- A step that takes an echoed string or integer as its token pushes what was echoed, given room: the token is read back, and each test of room passes.
-- Assumes nothing.
use mathlib.Core.Path.{◌≡◌, refl, ap, ◌∙◌}
use mathlib.Core.List.{List, [], ◌∷◌, ◌++◌}
use Prim.Native.Nat.{ℕ, suc, ◌+◌, ◌-◌, ◌^◌, ◌≤◌, ◌<◌}
use native.Mathlib.Omega.{arith}
use lib.ListN.{length, drop}
use lib.Seq.{drop-append_seam}
use lib.Dec.{T}
use Rattle.semantics.specs.Values.{ok, ◌>>=◌, Value, integer, string, Object, text, cells}
use Rattle.semantics.specs.Tokens.{Lexing, is_space, Token, lexeme, lex}
use Rattle.semantics.specs.Machine.{Machine, with_stack, with_store, push, make, made}
use Rattle.semantics.specs.Held.{sum_of, held_cells}
use Rattle.semantics.specs.Groups.{Taken, taken, skip, token_value, take_token}
use Rattle.semantics.specs.Steps.{Limits, State, command_of, execute, is_procedure, treat, new_cells, room_for, goes, token_move, token_step, step_on, step}
use Rattle.semantics.specs.AsciiLaws.{Bytes}
use Rattle.semantics.specs.EchoLaws.{quoted_text, integer_text}
use Rattle.semantics.proofs.EchoLaws.{lex_quoted, lex_integer}
use Rattle.walk.specs.Parts.{Within}
use Rattle.echo_laws.proofs.Rooms.{room_there, same_cells, moved_goes}

-- ---- room

module _ {l : Limits} {m : Machine} (f : Within l m) (room : length m.stack < l.stack_slots) where
  pushed_within : (v : Value) → Within l (push v m)
  unfolding push with_stack
  pushed_within v = record { dictionary = f.dictionary; exec = f.exec; stack = room; log = f.log }

  made_within : (v : Value) (o : Object) → Within l (push v (make o m))
  unfolding push with_stack make with_store
  made_within v o = record { dictionary = f.dictionary; exec = f.exec; stack = room; log = f.log }

pushed_cells : (v : Value) (m : Machine) → new_cells m (push v m) ≡ 0
unfolding push with_stack
pushed_cells v m = same_cells m (push v m) refl

made_cells : (v : Value) (o : Object) (m : Machine) → new_cells m (push v (make o m)) ≡ cells o
unfolding new_cells push with_stack make with_store sum_of
made_cells v o m = rw (drop-append_seam m.store (o ∷ [])) (omega arith)

-- ---- a step

module _ (l : Limits) (script : List ℕ) (σ : State) where
  abbrev start : ℕ
  start = skip script σ.next

  -- What comes of a step that goes on, with the machine that it leaves and the size of its token.
  abbrev pub After : Machine → ℕ → State
  After m n = record { machine = m; next = start + n; at = start; steps = suc σ.steps }

  takes : (t : Token) (n : ℕ) (v : Value) (m after : Machine)
      → σ.machine.exec ≡ []
      → lex start (drop start script) ≡ lexeme t n
      → token_value script σ.machine start (start + n) t ≡ taken v m (start + n)
      → treat v m ≡ ok after
      → room_for l σ.machine after ≡ ok after
      → step l script σ ≡ goes (After after n)
  unfolding step step_on take_token taken lexeme token_step token_move ◌>>=◌
  takes t n v m after e x y z r =
      let u : take_token script start σ.machine ≡ taken v m (start + n) = rw x y in
      ap (step_on l script σ) e
      ∙ ap (λ (u : Lexing Taken). token_step l σ start u) u
      ∙ moved_goes l σ start (start + n) [] (record { command = command_of v; result = treat v m }) after z r

  pub takes_echoed : (bs rest : List ℕ)
      → Bytes bs
      → σ.machine.exec ≡ []
      → drop (skip script σ.next) script ≡ quoted_text bs ++ rest
      → length σ.machine.stack < l.stack_slots
      → cells (text bs) ≤ l.cell_count - held_cells σ.machine
      → Within l σ.machine
      → step l script σ ≡ goes (After (push (string (made σ.machine)) (make (text bs) σ.machine)) (length (quoted_text bs)))
  unfolding token_value treat is_procedure execute
  takes_echoed bs rest h e d s c f =
      let m = σ.machine in
      let v = string (made m) in
      takes (Token.string bs) (length (quoted_text bs)) v (make (text bs) m) (push v (make (text bs) m)) e (ap (lex start) d ∙ lex_quoted start bs rest h) refl refl
      (room_there l m (push v (make (text bs) m)) (made_within f s v (text bs)) (omega (arith, made_cells v (text bs) m)))

  pub takes_integer : (w b : ℕ) (rest : List ℕ)
      → w < 2 ^ 32
      → T (is_space b)
      → σ.machine.exec ≡ []
      → drop (skip script σ.next) script ≡ integer_text w ++ b ∷ rest
      → length σ.machine.stack < l.stack_slots
      → Within l σ.machine
      → step l script σ ≡ goes (After (push (integer w) σ.machine) (length (integer_text w)))
  unfolding token_value treat is_procedure execute
  takes_integer w b rest h space e d s f =
      let m = σ.machine in
      takes (Token.integer w) (length (integer_text w)) (integer w) m (push (integer w) m) e (ap (lex start) d ∙ lex_integer start w b rest h space) refl refl
      (room_there l m (push (integer w) m) (pushed_within f s (integer w)) (omega (arith, pushed_cells (integer w) m)))
