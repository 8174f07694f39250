-- What print and echo come to at each of their returns.
-- Assumes nothing.
use Rattle.std.specs.Prelude.{Ok, Err}
use mathlib.Core.Path.{◌≡◌, sym, ◌∙◌}
use mathlib.Core.List.{List, ◌∷◌, ◌++◌}
use Prim.Native.Nat.{ℕ, ◌+◌, ◌-◌, ◌*◌, ◌≤◌, ◌<◌}
use native.Mathlib.Omega.{arith}
use lib.ListN.{length, get_or, set, drop, length-append}
use lib.Seq.{drop-cons}
use Rattle.semantics.specs.Text.{bytes}
use Rattle.semantics.specs.Values.{null, string, current}
use Rattle.semantics.specs.Machine as Floo
use Rattle.semantics.specs.Machine.{object, bytes_of}
use Rattle.semantics.specs.Printing.{echoed}
use Rattle.semantics.specs.Operators.{perform}
use Rattle.semantics.specs.declared.Error.TheVariants.{StackUnderflow, TypeCheck, IoError}
use Rattle.text.specs.Writing.{Written}
use Rattle.text.proofs.Pasting.{last}
use Rattle.machine.specs.Words.{item_tag, item_payload}
use Rattle.machine.specs.Rep.{Rep, IsIn, MovesHeap, Somewhere}
use Rattle.machine.specs.Moves.{dropped}
use Rattle.machine.specs.declared.Machine.{Machine}
use Rattle.machine.proofs.Copying.{word_of}
use Rattle.machine.proofs.Outcomes.{stack_depth}
use Rattle.elements.specs.Elements.{ItemTag, HasString, SomewhereThat}
use Rattle.elements.proofs.Tags.{tag_string, tag_no_string}
use Rattle.strings.specs.Strings.{CurrentSize}
use Rattle.printing.specs.Shown.{cut, Known, WithRoom, Measures, Writes}
use Rattle.output_operators.specs.Output.{DoesLog, SomewhereLog, CopiesCurrent}
use Rattle.output_operators.proofs.Logging.{with_written, past, fails_log, over_log, writes_log, dropped_keeps}
use Rattle.output_operators.proofs.Named.{print_under, print_wrong, print_done, echo_under, echo_done}

pub nowhere_else : {m : Machine} {s d c l : List ℕ} → SomewhereLog m s d c l → Somewhere m s c
nowhere_else {d = d} {l = l} w = (w.0, d, l, w.1, w.2)

pub log_room : {m : Machine} {s d c l : List ℕ} → SomewhereLog m s d c l → m.written ≤ length l
log_room w = w.2.logging.fits

pub stack_room : {m : Machine} {s d c l : List ℕ} → SomewhereLog m s d c l → 2 * m.depth ≤ length s
stack_room w = w.2.rooms.stack_fits

module _ {m : Machine} {s c l : List ℕ} (d : List ℕ) where
  pub print_short : m.depth < 1 → DoesLog (perform (bytes "print")) m s d c c l l (Err StackUnderflow)
  print_short h = fails_log (λ e μ R. print_under μ (omega (arith, h, stack_depth R)))

  pub echo_short : m.depth < 1 → DoesLog (perform (bytes "echo")) m s d c c l l (Err StackUnderflow)
  echo_short h = fails_log (λ e μ R. echo_under μ (omega (arith, h, stack_depth R)))

module _ {m : Machine} {s : List ℕ} (some : 1 ≤ m.depth) where
  split : {e d c l : List ℕ} {μ : Floo.Machine} → Rep m s e d c l μ → μ.stack ≡ get_or μ.stack 0 null ∷ drop 1 μ.stack
  split {μ = μ} R = drop-cons μ.stack 0 null (omega (arith, some, stack_depth R))

  -- ---- print

  module _ {t : ℕ} (T : ItemTag 0 m s t) where
    pub print_type : {c l : List ℕ} (d : List ℕ) → (t ≡ 8 → ⊥) → DoesLog (perform (bytes "print")) m s d c c l l (Err TypeCheck)
    print_type {c} {l} d h =
        fails_log (λ e μ R. print_wrong μ (split R) (tag_no_string (get_or μ.stack 0 null) (λ q. h (T.says e d c l μ R ∙ q))))

    module _ (tag : t ≡ 8) where
      the_string : {e d c l : List ℕ} {μ : Floo.Machine} → Rep m s e d c l μ → (id : ℕ) × (get_or μ.stack 0 null ≡ string id)
      the_string {e} {d} {c} {l} {μ} R = tag_string (get_or μ.stack 0 null) (sym (T.says e d c l μ R) ∙ tag)

      pub has_string : {d c l : List ℕ} → SomewhereLog m s d c l → SomewhereThat (HasString 0) m s c
      has_string {d} {c} {l} w =
          let i = the_string w.2 in
          (w.0, d, l, w.1, w.2, record { id = i.0; item = i.1 })

      module _ {c l : List ℕ} (d : List ℕ) {n : ℕ} (Z : CurrentSize 0 m s c n) where
        pub print_over : length l < m.written + n → DoesLog (perform (bytes "print")) m s d c c l l (Err IoError)
        print_over h =
            over_log dropped dropped_keeps
            (λ e μ R.
            let i = the_string R in
            (current (bytes_of (object μ i.0)), print_done μ (split R) i.1, omega (arith, h, Z.says e d l μ R i.0 i.1)))

        pub print_good : {m' : Machine} {c' d₀ l' : List ℕ}
            → SomewhereLog m s d₀ c l
            → m.written + n ≤ length l
            → CopiesCurrent m s c l l' n
            → MovesHeap dropped m m' s s c c'
            → DoesLog (perform (bytes "print")) m s d c c' l l' (Ok (with_written (m.written + n) m'))
        print_good {d₀ = d₀} w room C M =
            writes_log dropped dropped_keeps M
            (λ e μ R.
            let i = the_string R in (
              current (bytes_of (object μ i.0)),
              print_done μ (split R) i.1,
              C.says e d l μ R i.0 i.1,
              omega (arith, room, Z.says e d l μ R i.0 i.1),
            ))
            (let i = the_string w.2 in
            past w.2.logging.fits (C.says w.0 d₀ l w.1 w.2 i.0 i.1))

  -- ---- echo

  module _ {d c l : List ℕ} where
    pub words : {e : List ℕ} {μ : Floo.Machine} (R : Rep m s e d c l μ) → IsIn R.world μ (get_or μ.stack 0 null) (item_tag s (m.depth - 1)) (item_payload s (m.depth - 1))
    words R = word_of R 0 (m.depth - 1) (omega (arith, some))

    abbrev pub echo_known : SomewhereLog m s d c l → Known d c (item_tag s (m.depth - 1)) (item_payload s (m.depth - 1))
    echo_known w = record { small = m; stack = s; exec = w.0; log = l; machine = w.1; rep = w.2; value = get_or w.1.stack 0 null; words = words w.2 }

    module _ {size : ℕ} (M : Measures d c (item_tag s (m.depth - 1)) (item_payload s (m.depth - 1)) 4 (length l - m.written) size) where
      measured : {e : List ℕ} {μ : Floo.Machine} → Rep m s e d c l μ → size ≡ cut (length (echoed μ (get_or μ.stack 0 null))) (length l - m.written)
      unfolding echoed
      measured {e} {μ} R = M.says m s e l μ R (get_or μ.stack 0 null) (words R)

      longer : {e : List ℕ} {μ : Floo.Machine} → Rep m s e d c l μ → length (echoed μ (get_or μ.stack 0 null) ++ bytes "\n") ≡ length (echoed μ (get_or μ.stack 0 null)) + 1
      unfolding bytes
      longer {μ = μ} R = length-append (echoed μ (get_or μ.stack 0 null)) (bytes "\n")

      pub echo_over : length l - m.written ≤ size → DoesLog (perform (bytes "echo")) m s d c c l l (Err IoError)
      echo_over h =
          over_log dropped dropped_keeps
          (λ e μ R.
          let v = get_or μ.stack 0 null in
          (echoed μ v ++ bytes "\n", echo_done μ (split R), omega (arith, h, measured R, longer R, R.logging.fits)))

      module _ (fits : size < length l - m.written) where
        pub echo_room : (w : SomewhereLog m s d c l) → WithRoom d c (item_tag s (m.depth - 1)) (item_payload s (m.depth - 1)) 4 m.written l
        unfolding echoed
        echo_room w = record { known = echo_known w; fits = omega (arith, fits, measured w.2) }

        module _ {mid : List ℕ} {after : ℕ} (W : Writes d c (item_tag s (m.depth - 1)) (item_payload s (m.depth - 1)) 4 m.written l mid after) (same : length mid ≡ length l) where
          written : {e : List ℕ} {μ : Floo.Machine} → Rep m s e d c l μ → Written m.written (echoed μ (get_or μ.stack 0 null)) l mid after
          unfolding echoed
          written {e} {μ} R = W.says m s e l μ R (get_or μ.stack 0 null) (words R)

          pub line_fits : SomewhereLog m s d c l → after < length mid
          line_fits w = omega (arith, fits, measured w.2, (written w.2).end, same, w.2.logging.fits)

          pub echo_good : {m' : Machine} {c' : List ℕ}
              → SomewhereLog m s d c l
              → MovesHeap dropped m m' s s c c'
              → DoesLog (perform (bytes "echo")) m s d c c' l (set mid after 10) (Ok (with_written (after + 1) m'))
          unfolding bytes
          echo_good w D =
              writes_log dropped dropped_keeps D
              (λ e μ R.
              let v = get_or μ.stack 0 null in (
                echoed μ v ++ bytes "\n",
                echo_done μ (split R),
                last 10 R.logging.fits (line_fits w) (written R),
                omega (arith, fits, measured R, longer R, R.logging.fits),
              ))
              (past w.2.logging.fits (last 10 w.2.logging.fits (line_fits w) (written w.2)))
