-- How the run ended: the command by its number, its slot or its place in the script, the name of an error or a fault, and the lines that they stand in.
-- Assumes nothing.
use mathlib.Core.Path.{◌≡◌, refl, sym, ap, ◌∙◌, subst}
use mathlib.Core.Bool.{true, false}
use mathlib.Core.List.{List, [], ◌∷◌, ◌++◌, append_assoc}
use mathlib.Core.Option.{some}
use Prim.Native.Nat.{ℕ, ◌+◌, ◌-◌, ◌*◌, ◌≤◌, ◌<◌}
use native.Mathlib.Omega.{arith}
use lib.ListN.{length, get_or, get_elem?, set, take, drop, length-take}
use Rattle.semantics.specs.Sizes.{operator_count, name_most}
use Rattle.semantics.specs.Text.{bytes}
use Rattle.semantics.specs.Values.{name}
use Rattle.semantics.specs.Machine as Floo
use Rattle.semantics.specs.Printing.{escaped, name_text, shown, echoed_to}
use Rattle.semantics.specs.Steps as Steps
use Rattle.semantics.specs.Errors.{error_text, fault_text, where_text}
use Rattle.semantics.specs.Outcome.{line, ending_lines, where_of}
use Rattle.semantics.specs.OutcomeLaws.{name_text_length, error_length, fault_length, ending_length}
use Rattle.semantics.specs.declared.Error.{Error}
use Rattle.semantics.specs.declared.Fault.{Fault}
use Rattle.semantics.specs.ListLaws.{an_element}
use Rattle.store.specs.Rep.{titles, an_executable}
use Rattle.text.specs.Writing.{Written}
use Rattle.text.proofs.Pasting.{nothing, then, last, respelt}
use Rattle.store.proofs.Standing.{titles_count}
use Rattle.names.proofs.Spelling.{title_slot, size_is}
use Rattle.printing.specs.Shown as Shown
use Rattle.printing.specs.Shown.{WithRoom, Writes}
use Rattle.ending.specs.Endings.{command_text, IsCommand, ending_of, IsEnding}
use Rattle.ending.specs.declared.Command.{Command}
use Rattle.ending.specs.declared.Command.TheVariants.{Nothing, Operator, Name, Token, Taken}
use Rattle.ending.specs.declared.Ending.{Ending}
use Rattle.ending.specs.declared.Ending.TheVariants.{Finished, Stopped, OutOfFuel, Failed, Misread}
use Rattle.machine.specs.Places.{keys}
use Rattle.machine.specs.Rep.{Rep, IsIn}
use Rattle.machine.specs.declared.Machine.{Machine}
use Rattle.outcome.specs.Reports.{EndingRoom, WritesEnding, FailureRoom, WritesFailure, CommandRoom, WritesCommand, WritesWhere}

-- ---- a name by its slot

-- Without a slash it has a byte less.
executable_text : (n : List ℕ) → length (name_text true n) ≤ 4 * length n
unfolding name_text bytes
executable_text n = omega (arith, name_text_length false n)

pub title_there : (k : ℕ) → k < operator_count → get_elem? titles k ≡ some (get_or titles k [])
title_there k h = an_element titles k [] (omega (arith, h, titles_count))

module _ {m : Machine} {s e d c l : List ℕ} {μ : Floo.Machine} (R : Rep m s e d c l μ) (k : ℕ) {n : List ℕ} (q : get_elem? (keys μ) k ≡ some n) where
  -- An executable name's two words.
  pub executable_words : IsIn R.world μ (name true n) 6 k
  executable_words = record { stands = an_executable q; alive = λ l. absurd (omega arith) }

  abbrev pub executable_known : Shown.Known d c 6 k
  executable_known = record { small = m; stack = s; exec = e; log = l; machine = μ; rep = R; value = name true n; words = executable_words }

  executable_length : length (echoed_to 0 μ (name true n)) ≤ 124
  unfolding echoed_to shown
  executable_length = omega (arith, executable_text n, size_is R k n q)

-- ---- the command

-- The command is the name in slot k.
record Slotted (script d c : List ℕ) (command : Command) (k : ℕ) : Type 0 where
  slot : {m : Machine} {s e l : List ℕ} {μ : Floo.Machine}
      → Rep m s e d c l μ
      → IsCommand script (keys μ) command
      → get_elem? (keys μ) k ≡ some (command_text script (keys μ) command)

module _ {script d c : List ℕ} {command : Command} {k : ℕ} where
  operator_slot : command ≡ Operator k → Slotted script d c command k
  unfolding command_text
  operator_slot q =
      record {
        slot = λ {m} {s} {e} {l} {μ} R h.
            let few : k < operator_count = subst (λ x. IsCommand script (keys μ) x) q h in
            title_slot R k (get_or titles k []) (title_there k few) ∙ ap (λ x. some (command_text script (keys μ) x)) (sym q);
      }

  name_slot : command ≡ Name k → Slotted script d c command k
  unfolding command_text
  name_slot q =
      record {
        slot = λ {m} {s} {e} {l} {μ} R h.
            let few : k < length (keys μ) = subst (λ x. IsCommand script (keys μ) x) q h in
            an_element (keys μ) k [] few ∙ ap (λ x. some (command_text script (keys μ) x)) (sym q);
      }

  -- Both are written as the executable name in that slot.
  module _ (S : Slotted script d c command k) where
    slot_room : {at : ℕ} {out : List ℕ} → CommandRoom script d c command at out → WithRoom d c 6 k 0 at out
    slot_room N =
        let K = N.known in
        let there = S.slot K.rep K.holds in
        record { known = executable_known K.rep k there; fits = omega (arith, N.fits, executable_length K.rep k there) }

    slot_written : {at r : ℕ} {old new : List ℕ} → Writes d c 6 k 0 at old new r → WritesCommand script d c command at old new r
    unfolding echoed_to shown
    slot_written W =
        record {
          says = λ m s e l μ R h. W.says m s e l μ R (name true (command_text script (keys μ) command)) (executable_words R k (S.slot R h));
        }

  module _ (q : command ≡ Operator k) where
    pub operator_room : {at : ℕ} {out : List ℕ} → CommandRoom script d c command at out → WithRoom d c 6 k 0 at out
    operator_room N = slot_room (operator_slot q) N

    pub operator_written : {at r : ℕ} {old new : List ℕ} → Writes d c 6 k 0 at old new r → WritesCommand script d c command at old new r
    operator_written W = slot_written (operator_slot q) W

  module _ (q : command ≡ Name k) where
    pub name_room : {at : ℕ} {out : List ℕ} → CommandRoom script d c command at out → WithRoom d c 6 k 0 at out
    name_room N = slot_room (name_slot q) N

    pub name_written : {at r : ℕ} {old new : List ℕ} → Writes d c 6 k 0 at old new r → WritesCommand script d c command at old new r
    name_written W = slot_written (name_slot q) W

pub nothing_written : {script d c : List ℕ} {command : Command} {at : ℕ} {out : List ℕ} → command ≡ Nothing → WritesCommand script d c command at out out at
unfolding command_text name_text escaped
nothing_written {script} {at = at} {out = out} q =
    record { says = λ m s e l μ R h. respelt (ap (λ x. name_text true (command_text script (keys μ) x)) q) (nothing at out) }

pub token_silent : {script d c : List ℕ} {command : Command} {after at : ℕ} {out : List ℕ} → command ≡ Taken after → WritesCommand script d c command at out out at
unfolding command_text name_text escaped
token_silent {script} {at = at} {out = out} q =
    record { says = λ m s e l μ R h. respelt (ap (λ x. name_text true (command_text script (keys μ) x)) q) (nothing at out) }

-- A name of the script.
module _ {script d c : List ℕ} {command : Command} (start size : ℕ) (q : command ≡ Token start size) where
  module _ {at : ℕ} {out : List ℕ} (N : CommandRoom script d c command at out) where
    pub token_inside : (start + size ≤ length script) × (size ≤ name_most)
    token_inside = subst (λ x. IsCommand script (keys N.known.machine) x) q N.known.holds

    pub token_room : at + length (name_text true (take (start + size - start) (drop start script))) ≤ length out
    token_room =
        omega (
          arith,
          N.fits,
          token_inside.1,
          executable_text (take (start + size - start) (drop start script)),
          length-take (start + size - start) (drop start script),
        )

  pub token_written : {at r : ℕ} {old new : List ℕ}
      → Written at (name_text true (take (start + size - start) (drop start script))) old new r
      → WritesCommand script d c command at old new r
  unfolding command_text
  token_written W =
      let whole : size ≡ start + size - start = omega arith in
      record { says = λ m s e l μ R h. respelt (ap (λ x. name_text true (command_text script (keys μ) x)) q ∙ ap (λ j. name_text true (take j (drop start script))) whole) W }

command_length : {m : Machine} {s e d c l : List ℕ} {μ : Floo.Machine} (script : List ℕ) (command : Command)
    → Rep m s e d c l μ
    → IsCommand script (keys μ) command
    → length (command_text script (keys μ) command) ≤ name_most
unfolding command_text
command_length script Nothing R h = omega arith
command_length script (Operator k) R h = omega (arith, size_is R k _ ((operator_slot {script = script} {k = k} refl).slot R h))
command_length script (Name k) R h = omega (arith, size_is R k _ ((name_slot {script = script} {k = k} refl).slot R h))
command_length script (Taken after) R h = omega arith
command_length script (Token start size) R h = omega (arith, h.1, length-take size (drop start script))

-- ---- an error

seam : (h a n k t f : List ℕ) → h ++ (a ++ n) ++ (k ++ t ++ f) ≡ h ++ a ++ (n ++ k) ++ t ++ f
seam h a n k t f = simp append_assoc

failure_text : (e : Error) (command : List ℕ)
    → ending_lines (Steps.failed e command) ≡ bytes "ending=error\nerror=" ++ error_text e ++ bytes "\ncommand=" ++ name_text true command ++ (10 ∷ [])
unfolding ending_lines line bytes
failure_text e command = seam (bytes "ending=error\nerror=") (error_text e) (bytes "\n") (bytes "command=") (name_text true command) (bytes "\n")

module _ {script d c : List ℕ} {command : Command} {out : List ℕ} (N : FailureRoom script d c command out)
    {o₁ : List ℕ} {start : ℕ} (head : Written 0 (bytes "ending=error\nerror=") out o₁ start) (k₁ : length o₁ ≡ length out) where
  pub error_room : start + 17 ≤ length o₁
  unfolding bytes
  error_room = omega (arith, N.fits, head.end, k₁)

  module _ (error : Error) {o₂ : List ℕ} {middle : ℕ} (name : Written start (error_text error) o₁ o₂ middle) (k₂ : length o₂ ≡ length o₁) where
    middle_few : middle ≤ 36
    unfolding bytes
    middle_few = omega (arith, head.end, name.end, error_length error)

    pub key_room : middle + length (bytes "\ncommand=") ≤ length o₂
    unfolding bytes
    key_room = omega (arith, N.fits, middle_few, k₁, k₂)

    module _ {o₃ : List ℕ} {next : ℕ} (key : Written middle (bytes "\ncommand=") o₂ o₃ next) (k₃ : length o₃ ≡ length o₂) where
      next_few : next ≤ 45
      unfolding bytes
      next_few = omega (arith, middle_few, key.end)

      pub command_room : CommandRoom script d c command next o₃
      command_room = record { known = N.known; fits = omega (arith, N.fits, next_few, k₁, k₂, k₃) }

      module _ {o₄ : List ℕ} {after : ℕ} (text : WritesCommand script d c command next o₃ o₄ after) (k₄ : length o₄ ≡ length o₃) where
        pub after_few : after + 1 ≤ 170
        after_few =
            let K = N.known in
            omega (
              arith,
              next_few,
              (text.says K.small K.stack K.exec K.log K.machine K.rep K.holds).end,
              command_length script command K.rep K.holds,
              executable_text (command_text script (keys K.machine) command),
            )

        pub last_room : after < length o₄
        last_room = omega (arith, N.fits, after_few, k₁, k₂, k₃, k₄)

        pub failure_written : WritesFailure script d c error command out (set o₄ after 10) (after + 1)
        failure_written =
            record {
              says = λ m s e l μ R h.
                  let low : 0 ≤ length out = omega arith in
                  respelt (failure_text error (command_text script (keys μ) command))
                  (last 10 low last_room (then low (then low (then low head name) key) (text.says m s e l μ R h)));
            }

-- ---- a fault of a token

bare_seam : (h a n k : List ℕ) → h ++ (a ++ n) ++ k ≡ h ++ a ++ (n ++ k)
bare_seam h a n k = simp append_assoc

misread_text : (f : Fault) → ending_lines (Steps.misread f) ≡ bytes "ending=error\nerror=" ++ fault_text f ++ bytes "\ncommand=\n"
unfolding ending_lines line bytes
misread_text f = bare_seam (bytes "ending=error\nerror=") (fault_text f) (bytes "\n") (bytes "command=\n")

module _ {out : List ℕ} (fits : 39 ≤ length out)
    {o₁ : List ℕ} {start : ℕ} (head : Written 0 (bytes "ending=error\nerror=") out o₁ start) (k₁ : length o₁ ≡ length out) where
  pub fault_room : start + 10 ≤ length o₁
  unfolding bytes
  fault_room = omega (arith, fits, head.end, k₁)

  module _ (f : Fault) {o₂ : List ℕ} {after : ℕ} (name : Written start (fault_text f) o₁ o₂ after) (k₂ : length o₂ ≡ length o₁) where
    pub end_room : after + length (bytes "\ncommand=\n") ≤ length o₂
    unfolding bytes
    end_room = omega (arith, fits, head.end, name.end, fault_length f, k₁, k₂)

    pub misread_lines : {new : List ℕ} {r : ℕ} → Written after (bytes "\ncommand=\n") o₂ new r → Written 0 (ending_lines (Steps.misread f)) out new r
    misread_lines W = let low : 0 ≤ length out = omega arith in respelt (misread_text f) (then low (then low head name) W)

-- ---- the ending

pub failed_room : {script d c : List ℕ} {ending : Ending} {out : List ℕ} {error : Error} {command : Command}
    → EndingRoom script d c ending out
    → ending ≡ Failed error command
    → FailureRoom script d c command out
failed_room {script} N q =
    let K = N.known in
    record {
      known = record { small = K.small; stack = K.stack; exec = K.exec; log = K.log; machine = K.machine; rep = K.rep; holds = subst (λ y. IsEnding script (keys K.machine) y) q K.holds };
      fits = N.fits;
    }

module _ {script d c : List ℕ} {ending : Ending} {old new : List ℕ} {r : ℕ} where
  -- An ending without a command is one text.
  pub ending_written : (e : Ending) → ((names : List (List ℕ)) → Written 0 (ending_lines (ending_of script names e)) old new r) → ending ≡ e → WritesEnding script d c ending old new r
  ending_written e W q =
      record { says = λ m s x l μ R h. respelt (ap (λ y. ending_lines (ending_of script (keys μ) y)) q) (W (keys μ)) }

  pub misread_written : {f : Fault} → ending ≡ Misread f → Written 0 (ending_lines (Steps.misread f)) old new r → WritesEnding script d c ending old new r
  unfolding ending_of
  misread_written {f} q W = ending_written (Misread f) (λ names. W) q

  pub failed_written : {error : Error} {command : Command} → ending ≡ Failed error command → WritesFailure script d c error command old new r → WritesEnding script d c ending old new r
  unfolding ending_of
  failed_written q W =
      record {
        says = λ m s e l μ R h.
            respelt (ap (λ y. ending_lines (ending_of script (keys μ) y)) q) (W.says m s e l μ R (subst (λ y. IsEnding script (keys μ) y) q h));
      }

-- How the run ended and where its token is wrong have 170 bytes at most.
pub ending_few : {m : Machine} {s e d c l : List ℕ} {μ : Floo.Machine} (script : List ℕ) (ending : Ending)
    → Rep m s e d c l μ
    → IsEnding script (keys μ) ending
    → length (ending_lines (ending_of script (keys μ) ending)) + length (where_of (ending_of script (keys μ) ending)) ≤ 170
unfolding ending_of
ending_few script Finished R h = ending_length Steps.finished (omega arith)
ending_few script Stopped R h = ending_length Steps.stopped (omega arith)
ending_few script OutOfFuel R h = ending_length Steps.out_of_fuel (omega arith)
ending_few {μ = μ} script (Failed error command) R h = ending_length (Steps.failed error (command_text script (keys μ) command)) (command_length script command R h)
ending_few script (Misread f) R h = ending_length (Steps.misread f) (omega arith)

-- ---- where a token is wrong

module _ {ending : Ending} {at r : ℕ} {old new : List ℕ} where
  pub place_written : {f : Fault} → ending ≡ Misread f → Written at (line (bytes "where") (where_text f)) old new r → WritesWhere ending at old new r
  unfolding where_of ending_of
  place_written q W = record { says = λ script names. respelt (ap (λ e. line (bytes "where") (where_of (ending_of script names e))) q) W }

  pub nowhere_written : ((script : List ℕ) (names : List (List ℕ)) → where_of (ending_of script names ending) ≡ []) → Written at (bytes "where=\n") old new r → WritesWhere ending at old new r
  unfolding line bytes
  nowhere_written h W = record { says = λ script names. respelt (ap (line (bytes "where")) (h script names)) W }
