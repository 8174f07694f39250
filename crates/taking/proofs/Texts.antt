-- A string token: null is pushed, gives way to a new string of zeros, and that is filled with the token's bytes. The stack's room is tested before the cells.
-- Assumes nothing.
use Rattle.std.specs.Prelude.{Ok, Err}
use mathlib.Core.Path.{◌≡◌, refl, sym, ap, ◌∙◌, subst}
use mathlib.Core.List.{List, [], ◌∷◌}
use Prim.Native.Nat.{ℕ, ◌+◌, ◌*◌, ◌/◌, ◌≤◌, ◌<◌}
use native.Mathlib.Omega.{arith}
use lib.ListN.{length, replicate, length-replicate}
use Rattle.semantics.specs.Sizes.{stack_words_most}
use Rattle.semantics.specs.Values.{string, null, text, ◌>>=◌, cells}
use Rattle.semantics.specs.Machine.{with_stack, with_store, push, object, bytes_of, make, made}
use Rattle.semantics.specs.Held.{sum_of}
use Rattle.semantics.specs.declared.Error.TheVariants.{StackOverflow, VmError}
use Rattle.token.specs.Strings.{StringAt}
use Rattle.token.proofs.Escapes.{same_string}
use Rattle.groups.proofs.Judging.{string_shorter}
use Rattle.machine.specs.Rep.{Rep, Somewhere, MovesHeap}
use Rattle.machine.specs.Room.{lent, fitted}
use Rattle.machine.specs.declared.Machine.{Machine}
use Rattle.machine.proofs.Items.{items_length}
use Rattle.machine.proofs.Rooms.{room_stack, exec_fits, dictionary_fits}
use Rattle.elements.specs.Elements.{free_cells, HasPlain, SomewhereThat, string_made}
use Rattle.elements.proofs.Vacancy.{makes_heap, full_heap}
use Rattle.strings.specs.Strings.{Fills, Filled, bytes_filled}
use Rattle.strings.proofs.Making.{new, blank, blank_object, filled_new}
use Rattle.taking.specs.Effects.{string_taken}
use Rattle.taking.specs.Promises.{StringOf, PushesWords, DoesString}
use Rattle.taking.proofs.Pushing.{null_words}

-- ---- what is asked of it

module _ {m : Machine} {s c : List ℕ} where
  pub string_room : Somewhere m s c → (2 * m.depth ≤ length s) × (length s ≤ stack_words_most)
  string_room (e, d, l, μ, R) = (R.rooms.stack_fits, R.rooms.stack_few)

  module _ (room : 2 * m.depth + 2 ≤ length s) {p : Machine} {s₁ : List ℕ} (W : PushesWords 0 0 m p s s₁) where
    pub null_there : Somewhere m s c → SomewhereThat (HasPlain 0) p s₁ c
    unfolding push with_stack
    null_there (e, d, l, μ, R) = (e, d, l, push null μ, null_words room W R, record { none = λ x. x })

    module _ {n : ℕ} {q : Machine} {s₂ c₂ : List ℕ} (S : MovesHeap (string_made 0 n) p q s₁ s₂ c c₂) where
      pub fills : {script : List ℕ} {at : ℕ} → StringOf script at n → Somewhere m s c → Fills 0 q s₂ c₂ script at
      unfolding string_made push made bytes_of with_stack
      fills (bs, next, reads, size) (e, d, l, μ, R) =
          let zeros : bytes_of (object (blank n μ) (made μ)) ≡ replicate n 0 = ap bytes_of (blank_object n μ) in
          let long : 0 + length bs ≤ length (bytes_of (object (blank n μ) (made μ))) = omega (arith, ap length zeros, length-replicate {A = ℕ} n 0, size) in
          record {
            contents = bs;
            next = next;
            reads = reads;
            room = (e, d, l, blank n μ, S.moves e d l (push null μ) (null_words room W R), record { string = record { id = made μ; item = refl }; inside = long });
          }

-- The pushed null leaves the cells.
pub words_free : {m p : Machine} {s s₁ : List ℕ} (c : List ℕ) → PushesWords 0 0 m p s s₁ → free_cells p c ≡ free_cells m c
words_free c W = ap (λ x. free_cells x c) W.state

pub words_depth : {m p : Machine} {s s₁ : List ℕ} → PushesWords 0 0 m p s s₁ → p.depth ≡ m.depth + 1
words_depth W = ap (λ (x : Machine). x.depth) W.state

-- A string holds fewer bytes than the script has.
pub string_few : {script : List ℕ} {at n : ℕ} → StringOf script at n → n < length script
string_few (bs, next, reads, size) = omega (arith, string_shorter reads, reads.inside, size)

size_of : {script bs : List ℕ} {at n next : ℕ} → StringOf script at n → StringAt script at bs next → length bs ≡ n
size_of (cs, last, token, size) reads = ap length (same_string reads token) ∙ size

-- ---- returns

module _ {script : List ℕ} {at : ℕ} {m : Machine} {s c : List ℕ} where
  pub string_over : length s < 2 * m.depth + 2 → DoesString script at m s s c c (Err StackOverflow)
  unfolding string_taken fitted lent push make with_stack with_store ◌>>=◌
  string_over over = record {
    does = λ bs next reads. record {
      does = λ e d l μ R.
          let deep : length s / 2 < length (string (made μ) ∷ μ.stack) = omega (arith, items_length R.items) in
          (room_stack (lent s e d c l) μ (new bs μ) (dictionary_fits R) (exec_fits R) deep, (refl, refl));
    };
  }

  module _ {n : ℕ} (token : StringOf script at n) (room : 2 * m.depth + 2 ≤ length s) where
    pub string_full : free_cells m c < (n + 7) / 8 + 1 → DoesString script at m s s c c (Err VmError)
    unfolding string_taken push make with_stack with_store sum_of cells
    string_full full = record {
      does = λ bs next reads.
          let z = size_of token reads in
          full_heap (λ e d l μ R.
          let stack : length (string (made μ) ∷ μ.stack) ≤ length s / 2 = omega (arith, items_length R.items, room) in
          let many : free_cells m c < sum_of cells (text bs ∷ []) = omega (arith, full, z) in
          (new bs μ, text bs ∷ [], refl, record { dictionary = refl; exec = refl; store = refl }, stack, many));
    }

    module _ {p q : Machine} {s₁ s₂ c₂ c₃ : List ℕ} (W : PushesWords 0 0 m p s s₁) (S : MovesHeap (string_made 0 n) p q s₁ s₂ c c₂) (L : Filled 0 q s₂ c₂ c₃ script at) where
      string_moves : (bs : List ℕ) (next : ℕ) → StringAt script at bs next → MovesHeap (new bs) m q s s₂ c c₃
      string_moves bs next reads = record {
        moves = λ e d l μ R.
            subst (Rep q s₂ e d c₃ l)
            (ap (λ k. bytes_filled 0 bs (blank k μ)) (sym (size_of token reads)) ∙ filled_new bs μ)
            ((L.fills bs next reads).moves e d l (blank n μ) (S.moves e d l (push null μ) (null_words room W R)));
      }

      pub string_done : length s₂ ≡ length s → (n + 7) / 8 + 1 ≤ free_cells m c → DoesString script at m s s₂ c c₃ (Ok q)
      unfolding string_taken push make with_stack with_store sum_of cells
      string_done long few = record {
        does = λ bs next reads.
            let z = size_of token reads in
            let enough : sum_of cells (text bs ∷ []) ≤ free_cells m c = omega (arith, few, z) in
            makes_heap {g = new bs} (string_moves bs next reads) long (λ e d l μ R. (text bs ∷ [], refl, refl, enough));
      }
