-- The loops over an array's elements: the text of the first i elements is measured or written, and the cell is that of element i.
-- Assumes nothing.
use mathlib.Core.Path.{◌≡◌, refl, sym, ap, ◌∙◌, subst}
use mathlib.Core.Bool.{Bool, true, false}
use mathlib.Core.List.{List, [], ◌∷◌, ◌++◌}
use Prim.Native.Nat.{ℕ, zero, suc, ◌+◌, ◌-◌, ◌*◌, ◌%◌, ◌≤◌, ◌<◌}
use native.Mathlib.Omega.{arith}
use lib.ListN.{length, get_or, set, length-set}
use Rattle.semantics.specs.Values.{Value, null, array}
use Rattle.semantics.specs.Machine as Floo
use Rattle.semantics.specs.Machine.{object, elements_of}
use Rattle.semantics.specs.Printing.{shown, echoed_to}
use Rattle.heap.specs.Word.{word}
use Rattle.heap.specs.Shape.{size_unit}
use Rattle.store.specs.Rep.{Stands, a_null, an_integer, a_boolean, a_mark, an_operator, a_literal, an_executable, a_string, an_array, a_procedure}
use Rattle.machine.specs.Rep.{Rep, IsIn}
use Rattle.machine.specs.declared.Machine.{Machine}
use Rattle.text.specs.Writing.{Written}
use Rattle.text.proofs.Pasting.{respelt, nothing, first, last, then}
use Rattle.elements.specs.Elements.{HasCell}
use Rattle.elements.proofs.Arrays.{Found}
use Rattle.printing.specs.Shown.{cut, Known, WithRoom, Measures, Writes, PlainRoom, PlainSize, PlainWrites, opening_of, byte_after, short_text}
use Rattle.printing.proofs.Headers.{count_is, array_room, cell_sought, cell_room, element_is}
use Rattle.printing.proofs.Lists.{begun, begun_more, begun_longer, begun_part, array_tag, text_deep, text_none, text_some}

-- ---- what is no array

echoed_shown : (depth : ℕ) (μ : Floo.Machine) → (inside : List Value → List ℕ) × ((v : Value) → echoed_to depth μ v ≡ shown inside μ v)
unfolding echoed_to
echoed_shown zero μ = (_, λ v. refl)
echoed_shown (suc d) μ = (_, λ v. refl)

module _ {d c : List ℕ} {t p depth : ℕ} where
  pub plain_measures : {n limit r : ℕ} → PlainSize d c t p n → r ≡ cut n limit → Measures d c t p depth limit r
  plain_measures {limit = limit} P h =
      record {
        says = λ m s e l μ R v I.
            let E = echoed_shown depth μ in
            h ∙ ap (λ n. cut n limit) (P.says m s e l μ R v I E.0 ∙ sym (ap length (E.1 v)));
      }

  pub plain_room : {at : ℕ} {out : List ℕ} → WithRoom d c t p depth at out → PlainRoom d c t p at out
  plain_room N =
      let K = N.known in
      let E = echoed_shown depth K.machine in
      record { known = K; inside = E.0; fits = omega (arith, N.fits, ap length (E.1 K.value)) }

  pub plain_writes : {at r : ℕ} {old new : List ℕ} → PlainWrites d c t p at old new r → Writes d c t p depth at old new r
  plain_writes P =
      record {
        says = λ m s e l μ R v I.
            let E = echoed_shown depth μ in
            respelt (E.1 v) (P.says m s e l μ R v I E.0);
      }

-- ---- the array

pub array_of : {keys : List (List ℕ)} {texts : List Bool} {ρ : ℕ → ℕ} {v : Value} {t p : ℕ}
    → Stands keys texts ρ v t p
    → 9 ≤ t
    → (x : Bool) × (id : ℕ) × (v ≡ array x id) × (array_tag x ≡ t)
unfolding array_tag
array_of a_null h = absurd (omega arith)
array_of an_integer h = absurd (omega arith)
array_of a_boolean h = absurd (omega arith)
array_of a_mark h = absurd (omega arith)
array_of (an_operator x) h = absurd (omega arith)
array_of (a_literal x) h = absurd (omega arith)
array_of (an_executable x) h = absurd (omega arith)
array_of (a_string r x) h = absurd (omega arith)
array_of (an_array {i = i} r x) h = (false, i, refl, refl)
array_of (a_procedure {i = i} r x) h = (true, i, refl, refl)

module _ {d c : List ℕ} {t p : ℕ} (big : 9 ≤ t) {m : Machine} {s e l : List ℕ} {μ : Floo.Machine} (R : Rep m s e d c l μ) {v : Value} (I : IsIn R.world μ v t p) where
  pub the_array : (x : Bool) × (id : ℕ) × (v ≡ array x id) × (array_tag x ≡ t)
  the_array = array_of I.stands big

  array_words : IsIn R.world μ (array the_array.0 the_array.1) t p
  array_words = subst (λ v. IsIn R.world μ v t p) the_array.2 I

  -- Its elements.
  unfoldable pub members : List Value
  members = elements_of (object μ the_array.1)

  members_size : word c p 1 % size_unit ≡ length members
  unfolding members
  members_size = count_is R array_words

  header_room : p * 4 + 4 ≤ length c
  header_room = array_room R array_words

  -- ---- its text

  deep_text : (depth : ℕ) → depth ≡ 0 → echoed_to depth μ v ≡ short_text t true
  deep_text depth z =
      ap (λ n. echoed_to n μ v) z ∙ ap (echoed_to 0 μ) the_array.2 ∙ text_deep μ the_array.0 the_array.1 ∙ ap (λ k. short_text k true) the_array.3

  none_text : (depth k : ℕ) → depth ≡ suc k → word c p 1 % size_unit ≡ 0 → echoed_to depth μ v ≡ short_text t false
  unfolding members
  none_text depth k z w =
      ap (λ n. echoed_to n μ v) z ∙ ap (echoed_to (suc k) μ) the_array.2 ∙ text_none μ the_array.0 the_array.1 k (sym members_size ∙ w)
      ∙ ap (λ n. short_text n false) the_array.3

  some_text : (depth k : ℕ) → depth ≡ suc k → 0 < word c p 1 % size_unit → echoed_to depth μ v ≡ opening_of t ∷ begun (echoed_to k μ) (byte_after t) (length members) members
  unfolding members
  some_text depth k z w =
      ap (λ n. echoed_to n μ v) z ∙ ap (echoed_to (suc k) μ) the_array.2 ∙ text_some μ the_array.0 the_array.1 k (omega (arith, w, members_size))
      ∙ ap (λ n. opening_of n ∷ begun (echoed_to k μ) (byte_after n) (length members) members) the_array.3

  -- ---- its elements' cells

  module _ (i : ℕ) (inside : i < word c p 1 % size_unit) where
    member_sought : HasCell c p i
    member_sought = cell_sought R array_words i inside

    module _ (cell : ℕ) (found : Found c p i cell) where
      member_room : cell * 4 + 4 ≤ length c
      member_room = cell_room R array_words i inside cell found

      member_is : IsIn R.world μ (get_or members i null) (word c cell 0) (word c cell 1)
      unfolding members
      member_is = element_is R array_words i inside cell found

      -- By words read from the cell.
      pub member_words : {u q : ℕ} → u ≡ word c cell 0 → q ≡ word c cell 1 → IsIn R.world μ (get_or members i null) u q
      member_words x y = rw (x, y) member_is

-- ---- what the loops ask

module _ {d c : List ℕ} {t p : ℕ} (big : 9 ≤ t) (K : Known d c t p) where
  pub size_room : p * 4 + 4 ≤ length c
  size_room = header_room big K.rep K.words

  pub first_sought : 0 < word c p 1 % size_unit → HasCell c p 0
  first_sought h = member_sought big K.rep K.words 0 h

  module _ (i : ℕ) (inside : i < word c p 1 % size_unit) (cell : ℕ) (found : Found c p i cell) where
    pub element_room : cell * 4 + 4 ≤ length c
    element_room = member_room big K.rep K.words i inside cell found

    abbrev pub element_known : {u q : ℕ} → u ≡ word c cell 0 → q ≡ word c cell 1 → Known d c u q
    element_known {u} {q} x y =
        record {
          small = K.small;
          stack = K.stack;
          exec = K.exec;
          log = K.log;
          machine = K.machine;
          rep = K.rep;
          value = get_or (members big K.rep K.words) i null;
          words = member_words big K.rep K.words i inside cell found x y;
        }

-- ---- measured

deeper : (depth : ℕ) → (depth ≡ 0 → ⊥) → depth ≡ suc (depth - 1)
deeper depth z = omega arith

module _ {d c : List ℕ} {t p depth limit : ℕ} (big : 9 ≤ t) where
  pub deep_measures : {r : ℕ} → depth ≡ 0 → r ≡ cut 4 limit → Measures d c t p depth limit r
  unfolding short_text
  deep_measures z h =
      record { says = λ m s e l μ R v I. h ∙ ap (λ (x : List ℕ). cut (length x) limit) (sym (deep_text big R I depth z)) }

  pub none_measures : {r : ℕ} → (depth ≡ 0 → ⊥) → word c p 1 % size_unit ≡ 0 → r ≡ cut 2 limit → Measures d c t p depth limit r
  unfolding short_text
  none_measures z w h =
      record { says = λ m s e l μ R v I. h ∙ ap (λ (x : List ℕ). cut (length x) limit) (sym (none_text big R I depth (depth - 1) (deeper depth z) w)) }

-- The sum is the length of the opening bracket and the first i elements.
pub record Summed (d c : List ℕ) (t p depth i sum : ℕ) : Type 0 where
  pub says : (big : 9 ≤ t) (m : Machine) (s e l : List ℕ) (μ : Floo.Machine) (R : Rep m s e d c l μ) (v : Value) (I : IsIn R.world μ v t p)
      → sum ≡ 1 + length (begun (echoed_to (depth - 1) μ) (byte_after t) i (members big R I))

pub summed_begin : (d c : List ℕ) (t p depth : ℕ) → Summed d c t p depth 0 1
unfolding begun
summed_begin d c t p depth = record { says = λ big m s e l μ R v I. refl }

module _ {d c : List ℕ} {t p depth limit : ℕ} (big : 9 ≤ t) (z : depth ≡ 0 → ⊥) where
  -- At least an element and two brackets.
  pub low_measures : {r : ℕ} → 0 < word c p 1 % size_unit → limit < 2 → r ≡ limit → Measures d c t p depth limit r
  unfolding begun
  low_measures w low h =
      record {
        says = λ m s e l μ R v I.
            let f = echoed_to (depth - 1) μ in
            let vs = members big R I in
            let one = begun_longer f (byte_after t) 0 vs (omega (arith, w, members_size big R I)) in
            omega (arith, h, low, one, begun_part f (byte_after t) 1 vs, ap length (some_text big R I depth (depth - 1) (deeper depth z) w));
      }

  module _ {i sum : ℕ} (S : Summed d c t p depth i sum) (few : sum ≤ limit) where
    pub summed_ends : word c p 1 % size_unit ≤ i → 0 < word c p 1 % size_unit → i ≤ word c p 1 % size_unit → Measures d c t p depth limit sum
    summed_ends past w within =
        record {
          says = λ m s e l μ R v I.
              let f = echoed_to (depth - 1) μ in
              let vs = members big R I in
              let all : i ≡ length vs = omega (arith, past, within, members_size big R I) in
              omega (
                arith,
                few,
                S.says big m s e l μ R v I,
                ap (λ n. length (begun f (byte_after t) n vs)) all,
                ap length (some_text big R I depth (depth - 1) (deeper depth z) w),
              );
        }

    -- Element i takes k, or all that is left.
    module _ (inside : i < word c p 1 % size_unit) (cell : ℕ) (found : Found c p i cell) {u q : ℕ} (x : u ≡ word c cell 0) (y : q ≡ word c cell 1) {k : ℕ}
        (M : Measures d c u q (depth - 1) (limit - sum) k) where
      element_size : (m : Machine) (s e l : List ℕ) (μ : Floo.Machine) (R : Rep m s e d c l μ) (v : Value) (I : IsIn R.world μ v t p)
          → k ≡ cut (length (echoed_to (depth - 1) μ (get_or (members big R I) i null))) (limit - sum)
      element_size m s e l μ R v I =
          M.says m s e l μ R (get_or (members big R I) i null) (member_words big R I i inside cell found x y)

      pub summed_over : {r : ℕ} → limit - sum ≤ k → r ≡ limit → Measures d c t p depth limit r
      summed_over over h =
          record {
            says = λ m s e l μ R v I.
                let f = echoed_to (depth - 1) μ in
                let vs = members big R I in
                let one = begun_longer f (byte_after t) i vs (omega (arith, inside, members_size big R I)) in
                omega (
                  arith,
                  h,
                  over,
                  few,
                  one,
                  S.says big m s e l μ R v I,
                  element_size m s e l μ R v I,
                  begun_part f (byte_after t) (i + 1) vs,
                  ap length (some_text big R I depth (depth - 1) (deeper depth z) (omega (arith, inside))),
                );
          }

      pub summed_again : k < limit - sum → Summed d c t p depth (i + 1) (sum + k + 1)
      summed_again short =
          record {
            says = λ big m s e l μ R v I.
                let f = echoed_to (depth - 1) μ in
                let vs = members big R I in
                let one = begun_longer f (byte_after t) i vs (omega (arith, inside, members_size big R I)) in
                omega (arith, short, one, S.says big m s e l μ R v I, M.says m s e l μ R (get_or vs i null) (member_words big R I i inside cell found x y));
          }

-- ---- written

module _ {d c : List ℕ} {t p depth at : ℕ} (big : 9 ≤ t) where
  pub deep_writes : {r : ℕ} {old new : List ℕ} → depth ≡ 0 → Written at (short_text t true) old new r → Writes d c t p depth at old new r
  deep_writes z w = record { says = λ m s e l μ R v I. respelt (deep_text big R I depth z) w }

  pub none_writes : {r : ℕ} {old new : List ℕ} → (depth ≡ 0 → ⊥) → word c p 1 % size_unit ≡ 0 → Written at (short_text t false) old new r → Writes d c t p depth at old new r
  none_writes z e w = record { says = λ m s e₁ l μ R v I. respelt (none_text big R I depth (depth - 1) (deeper depth z) e) w }

-- After the opening bracket, the first i elements are written.
pub record Listed (d c : List ℕ) (t p depth i at : ℕ) (old new : List ℕ) (r : ℕ) : Type 0 where
  pub long : length new ≡ length old
  pub says : (big : 9 ≤ t) (m : Machine) (s e l : List ℕ) (μ : Floo.Machine) (R : Rep m s e d c l μ) (v : Value) (I : IsIn R.world μ v t p)
      → Written (at + 1) (begun (echoed_to (depth - 1) μ) (byte_after t) i (members big R I)) old new r

pub listed_begin : (d c : List ℕ) (t p depth at : ℕ) (old : List ℕ) → Listed d c t p depth 0 at old old (at + 1)
unfolding begun
listed_begin d c t p depth at old = record { long = refl; says = λ big m s e l μ R v I. nothing (at + 1) old }

module _ {d c : List ℕ} {t p depth at : ℕ} {out : List ℕ} (big : 9 ≤ t) (N : WithRoom d c t p depth at out) where
  abbrev K : Known d c t p
  K = N.known

  pub deep_room : depth ≡ 0 → at + length (short_text t true) ≤ length out
  deep_room z = omega (arith, N.fits, ap length (deep_text big K.rep K.words depth z))

  module _ (z : depth ≡ 0 → ⊥) where
    pub none_room : word c p 1 % size_unit ≡ 0 → at + length (short_text t false) ≤ length out
    none_room w = omega (arith, N.fits, ap length (none_text big K.rep K.words depth (depth - 1) (deeper depth z) w))

    module _ (w : 0 < word c p 1 % size_unit) where
      abbrev whole : List ℕ
      whole = begun (echoed_to (depth - 1) K.machine) (byte_after t) (length (members big K.rep K.words)) (members big K.rep K.words)

      pub list_room : at + 1 + length whole ≤ length out
      list_room = omega (arith, N.fits, ap length (some_text big K.rep K.words depth (depth - 1) (deeper depth z) w))

      -- An element more.
      module _ {old : List ℕ} (same : length old ≡ length out) {i : ℕ} {mid : List ℕ} {r : ℕ} (T : Listed d c t p depth i at old mid r)
          (inside : i < word c p 1 % size_unit) (cell : ℕ) (found : Found c p i cell) {u q : ℕ} (x : u ≡ word c cell 0) (y : q ≡ word c cell 1) where
        abbrev vs : List Value
        vs = members big K.rep K.words

        abbrev f : Value → List ℕ
        f = echoed_to (depth - 1) K.machine

        element_room' : r + length (f (get_or vs i null)) + 1 ≤ length mid
        element_room' =
            let low : i < length vs = omega (arith, inside, members_size big K.rep K.words) in
            omega (
              arith,
              same,
              T.long,
              (T.says big _ _ _ _ _ K.rep K.value K.words).end,
              begun_longer f (byte_after t) i vs low,
              begun_part f (byte_after t) (i + 1) vs,
              list_room,
            )

        pub element_fits : WithRoom d c u q (depth - 1) r mid
        element_fits = record { known = element_known big K i inside cell found x y; fits = omega (arith, element_room') }

        module _ {mid' : List ℕ} {r' : ℕ} (W : Writes d c u q (depth - 1) r mid mid' r') (kept : length mid' ≡ length mid) where
          pub after_fits : r' < length mid'
          after_fits =
              let words = member_words big K.rep K.words i inside cell found x y in
              omega (arith, kept, element_room', (W.says _ _ _ _ _ K.rep (get_or vs i null) words).end)

          pub listed_again : {b n : ℕ} → n ≡ word c p 1 % size_unit → b ≡ byte_after t (n - (i + 1)) → Listed d c t p depth (i + 1) at old (set mid' r' b) (r' + 1)
          listed_again {b} {n} size byte =
              record {
                long = length-set mid' r' b ∙ kept ∙ T.long;
                says = λ big m s e l μ R v I.
                    let ws = members big R I in
                    let g = echoed_to (depth - 1) μ in
                    let low : i < length ws = omega (arith, inside, members_size big R I) in
                    let left : n - (i + 1) ≡ length ws - (i + 1) = ap (λ k. k - (i + 1)) (size ∙ members_size big R I) in
                    let words = member_words big R I i inside cell found x y in
                    let element = W.says m s e l μ R (get_or ws i null) words in
                    let start : at + 1 ≤ length old = omega (arith, same, list_room) in
                    let here : r ≤ length mid = omega (arith, element_room') in
                    let both = then start (T.says big m s e l μ R v I) (last b here after_fits element) in
                    respelt (begun_more g (byte_after t) i ws low ∙ ap (λ k. begun g (byte_after t) i ws ++ (g (get_or ws i null) ++ (k ∷ []))) (sym (byte ∙ ap (byte_after t) left))) both;
              }

      pub listed_ends : {a i : ℕ} {new : List ℕ} {r : ℕ}
          → a ≡ opening_of t
          → i ≡ word c p 1 % size_unit
          → Listed d c t p depth i at (set out at a) new r
          → Writes d c t p depth at out new r
      listed_ends {a} {i} {new} {r} bracket z' T =
          record {
            says = λ m s e l μ R v I.
                let ws = members big R I in
                let g = echoed_to (depth - 1) μ in
                let all : i ≡ length ws = z' ∙ members_size big R I in
                let text = subst (λ n. Written (at + 1) (begun g (byte_after t) n ws) (set out at a) new r) all (T.says big m s e l μ R v I) in
                respelt (some_text big R I depth (depth - 1) (deeper depth z) w ∙ ap (λ k. k ∷ begun g (byte_after t) (length ws) ws) (sym bracket)) (first at a out (omega (arith, list_room)) text);
          }
