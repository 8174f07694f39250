-- A text is written after what the log holds: the words and the longer log stand for the machine that has written it. And what an operator that writes shows
-- at its returns: that the definition's operator fails, that there is no room for the text, or that the text has been written.
-- Assumes nothing.
use Rattle.std.specs.Prelude.{Ok, Err}
use mathlib.Core.Path.{◌≡◌, refl, sym, ap, ◌∙◌, subst}
use mathlib.Core.List.{List, ◌++◌}
use Prim.Native.Nat.{ℕ, ◌+◌, ◌/◌, ◌≤◌, ◌<◌}
use native.Mathlib.Omega.{arith}
use borrow.Author.Tests.{le-leb, lt-leb}
use lib.ListN.{length, take, drop, length-append, length-drop}
use lib.Seq.{length-take-le, take_at, drop_at}
use Rattle.semantics.specs.Values.{Result, ok, fault, ◌>>=◌, check}
use Rattle.semantics.specs.Machine as Floo
use Rattle.semantics.specs.Machine.{with_stack, write}
use Rattle.semantics.specs.ObjectOperators.{pasted}
use Rattle.semantics.specs.Steps.{Limits, room_for, cells_for}
use Rattle.semantics.specs.declared.Error.{Error}
use Rattle.semantics.specs.declared.Error.TheVariants.{IoError}
use Rattle.store.specs.Rep.{Names}
use Rattle.store.proofs.Rooting.{rep_alike}
use Rattle.text.specs.Writing.{Written}
use Rattle.text.proofs.Pasting.{kept}
use Rattle.machine.specs.Places.{roots}
use Rattle.machine.specs.Rep.{Rep, MovesHeap}
use Rattle.machine.specs.Room.{lent, fitted}
use Rattle.machine.specs.declared.Machine.{Machine}
use Rattle.machine.proofs.Rooms.{dictionary_fits, exec_fits, stack_fits, room_passes, logged_length, no_new_cells}
use Rattle.machine.specs.Moves.{dropped}
use Rattle.machine.proofs.Roots.{roots_alike}
use Rattle.output_operators.specs.Output.{DoesLog}

-- ---- a text is written

abbrev pub with_written : ℕ → Machine → Machine
with_written r m = record { depth = m.depth; frames = m.frames; names = m.names; written = r; lists = m.lists; stopped = m.stopped }

same_roots : (t : List ℕ) (μ : Floo.Machine) (r : ℕ) → roots (write t μ) r ≡ roots μ r
unfolding write
same_roots t μ r = roots_alike μ (write t μ) refl refl refl refl r

head_long : (at : ℕ) (t l l' : List ℕ) (r : ℕ) → at ≤ length l → Written at t l l' r → length (take at l ++ t) ≡ r
head_long at t l l' r h w = length-append (take at l) t ∙ ap (λ n. n + length t) (length-take-le at l h) ∙ sym w.end

-- The log's first bytes stay, and the text comes after them.
taken : (at : ℕ) (t l l' : List ℕ) (r : ℕ) → at ≤ length l → Written at t l l' r → take r l' ≡ take at l ++ t
unfolding pasted
taken at t l l' r h w =
    ap (λ (x : List ℕ). take r x) w.bytes ∙ take_at (take at l ++ t) (drop (at + length t) l) r (head_long at t l l' r h w)

-- What comes after the text stays.
pub past : {at r : ℕ} {t l l' : List ℕ} → at ≤ length l → Written at t l l' r → drop r l' ≡ drop r l
unfolding pasted
past {at} {r} {t} {l} {l'} h w =
    ap (λ (x : List ℕ). drop r x) w.bytes
    ∙ drop_at (take at l ++ t) (drop (at + length t) l) r (head_long at t l l' r h w)
    ∙ ap (λ (n : ℕ). drop n l) (sym w.end)

module _ {m : Machine} {s e d c l : List ℕ} {μ : Floo.Machine} (R : Rep m s e d c l μ) where
  pub logged_rep : {t l' : List ℕ} {r : ℕ}
      → Written m.written t l l' r
      → m.written + length t ≤ length l
      → Rep (with_written r m) s e d c l' (write t μ)
  unfolding write
  logged_rep {t} {l'} {r} w room =
      record {
        world = R.world;
        stored = record {
          full = R.stored.full;
          none_dead = R.stored.none_dead;
          none_out = R.stored.none_out;
          objects = rep_alike R.stored.objects
              (λ x i. (λ a. subst (λ y. Names y i) (sym (same_roots t μ x)) a, λ a. subst (λ y. Names y i) (same_roots t μ x) a));
        };
        items = R.items;
        frames = R.frames;
        slots = R.slots;
        handled = R.handled;
        sealed = R.sealed;
        naming = R.naming;
        logging = record { logged = taken m.written t l l' r R.logging.fits w ∙ ap (λ (x : List ℕ). x ++ t) R.logging.logged; fits = omega (arith, w.end, room, kept room w) };
        stopped = R.stopped;
        rooms = R.rooms;
      }

-- ---- the test of room

-- Only the log is too short.
room_log : (limits : Limits) (before after : Floo.Machine)
    → length after.dictionary ≤ limits.dictionary_slots
    → length after.exec ≤ limits.exec_slots
    → length after.stack ≤ limits.stack_slots
    → length after.store ≡ length before.store
    → limits.log_bytes < length after.log
    → room_for limits before after ≡ fault IoError
unfolding room_for check ◌>>=◌ cells_for
room_log limits before after dictionary exec stack store log =
    rw (le-leb _ _ dictionary, le-leb _ _ exec, le-leb _ _ stack, no_new_cells before after store, lt-leb _ _ log) refl

-- ---- returns

module _ {f : Floo.Machine → Result Floo.Machine} {m : Machine} {s d c l : List ℕ} where
  pub fails_log : {x : Error} → ((e : List ℕ) (μ : Floo.Machine) → Rep m s e d c l μ → f μ ≡ fault x) → DoesLog f m s d c c l l (Err x)
  unfolding fitted ◌>>=◌
  fails_log h = record { does = λ e μ R. (ap (λ q. q >>= room_for (lent s e d c l) μ) (h e μ R), (refl, refl)); rest = tt }

-- What the primitives before it do leaves all that the test looks at, but for fewer items on the stack.
pub record Keeps (g : Floo.Machine → Floo.Machine) : Type 0 where
  pub dictionary : (μ : Floo.Machine) → length (g μ).dictionary ≡ length μ.dictionary
  pub exec : (μ : Floo.Machine) → length (g μ).exec ≡ length μ.exec
  pub stack : (μ : Floo.Machine) → length (g μ).stack ≤ length μ.stack
  pub store : (μ : Floo.Machine) → length (g μ).store ≡ length μ.store
  pub log : (μ : Floo.Machine) → length (g μ).log ≡ length μ.log

pub dropped_keeps : Keeps dropped
unfolding dropped with_stack
dropped_keeps =
    record {
      dictionary = λ μ. refl;
      exec = λ μ. refl;
      stack = λ μ. omega (arith, length-drop 1 μ.stack);
      store = λ μ. refl;
      log = λ μ. refl;
    }

pub itself_keeps : Keeps (λ μ. μ)
itself_keeps = record { dictionary = λ μ. refl; exec = λ μ. refl; stack = λ μ. omega arith; store = λ μ. refl; log = λ μ. refl }

module _ {f : Floo.Machine → Result Floo.Machine} (g : Floo.Machine → Floo.Machine) (G : Keeps g) {m : Machine} {s d c l : List ℕ} where
  -- There is no room for the text.
  pub over_log : ((e : List ℕ) (μ : Floo.Machine) → Rep m s e d c l μ → (t : List ℕ) × (f μ ≡ ok (write t (g μ))) × (length l < m.written + length t))
      → DoesLog f m s d c c l l (Err IoError)
  unfolding fitted ◌>>=◌ lent write
  over_log h =
      record {
        does = λ e μ R.
            let t = h e μ R in
            let long = length-append (g μ).log t.0 in
            let dictionary : length (g μ).dictionary ≤ length d / 12 = omega (arith, G.dictionary μ, dictionary_fits R) in
            let exec : length (g μ).exec ≤ length e / 8 = omega (arith, G.exec μ, exec_fits R) in
            let stack : length (g μ).stack ≤ length s / 2 = omega (arith, G.stack μ, stack_fits R) in
            let log : length l < length ((g μ).log ++ t.0) = omega (arith, long, t.2, G.log μ, logged_length R) in (
              ap (λ q. q >>= room_for (lent s e d c l) μ) t.1
                  ∙ room_log (lent s e d c l) μ (write t.0 (g μ)) dictionary exec stack (G.store μ) log,
              (refl, refl),
            );
        rest = tt;
      }

  -- The text is written, and r is the place after it.
  pub writes_log : {m' : Machine} {c' l' : List ℕ} {r : ℕ}
      → MovesHeap g m m' s s c c'
      → ((e : List ℕ) (μ : Floo.Machine)
      → Rep m s e d c l μ
      → (t : List ℕ) × (f μ ≡ ok (write t (g μ))) × Written m.written t l l' r × (m.written + length t ≤ length l))
      → drop r l' ≡ drop r l
      → DoesLog f m s d c c' l l' (Ok (with_written r m'))
  unfolding fitted ◌>>=◌ lent write
  writes_log {m'} {c'} {l'} {r} M h p =
      record {
        does = λ e μ R.
            let t = h e μ R in
            let after = M.moves e d l μ R in
            let same : m.written ≡ m'.written = sym (logged_length R) ∙ sym (G.log μ) ∙ logged_length after in
            let text = subst (λ n. Written n t.0 l l' r) same t.2 in
            let dictionary : length (g μ).dictionary ≤ length d / 12 = omega (arith, G.dictionary μ, dictionary_fits R) in
            let exec : length (g μ).exec ≤ length e / 8 = omega (arith, G.exec μ, exec_fits R) in
            let stack : length (g μ).stack ≤ length s / 2 = omega (arith, G.stack μ, stack_fits R) in
            let log : length ((g μ).log ++ t.0) ≤ length l = omega (arith, length-append (g μ).log t.0, t.3, G.log μ, logged_length R) in (
              write t.0 (g μ),
              ap (λ q. q >>= room_for (lent s e d c l) μ) t.1
                  ∙ room_passes (lent s e d c l) μ (write t.0 (g μ)) dictionary exec stack (G.store μ) log,
              logged_rep after text (omega (arith, same, t.3)),
            );
        rest = p;
      }
