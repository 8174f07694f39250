-- The root places name what the definition's roots list: both are the values of the stack, the bindings, the execution slots and the handlers, in another order.
-- Assumes nothing.
use mathlib.Core.Path.{◌≡◌, refl, sym, ap, ◌∙◌, subst}
use mathlib.Core.List.{List, [], ◌∷◌, ◌++◌, map, append_assoc}
use mathlib.Core.Logic.{◌⊎◌, inl, inr, ⊎_elim}
use mathlib.Core.Option.{Option, none, some}
use Prim.Native.Nat.{ℕ, zero, suc, ◌+◌, ◌*◌, ◌/◌, ◌%◌}
use native.Mathlib.Omega.{arith}
use lib.ListN.{length, get_or}
use Rattle.semantics.specs.Values.{Value, null}
use Rattle.semantics.specs.Machine.{Machine, Frame, pending, running, looping, repeating, counting, Slot}
use Rattle.semantics.specs.Held.{of_value, of_frame, of_binding, gather}
use Rattle.semantics.specs.Held as Held
use Rattle.semantics.specs.HeldLaws.{◌∈◌}
use Rattle.heap.proofs.Upds.{at_upd}
use Rattle.store.specs.Rep.{Names}
use Rattle.store.proofs.Standing.{null_names}
use Rattle.store.proofs.Holding.{Roots, names_gather, gather_names}
use Rattle.machine.specs.Places.{from_end, frame_value, bound, binding_at, root_in, roots}
use Rattle.machine.proofs.Naming.{past_end}
use Rattle.machine.proofs.Roots.{stack_root, exec_root, binding_root, handler_root, at_front}

-- ---- a list of values that names i

abbrev Naming : List Value → ℕ → Type 0
Naming vs i = (q : ℕ) × Names (get_or vs q null) i

module _ (i : ℕ) where
  either : (a b : List Value) (q : ℕ) → Names (get_or (a ++ b) q null) i → Naming a i ⊎ Naming b i
  either [] b q n = inr (q, n)
  either (v ∷ a) b zero n = inl (0, n)
  either (v ∷ a) b (suc q) n = ⊎_elim (λ x. inl (suc x.0, x.1)) (λ x. inr x) (either a b q n)

  on_left : (a b : List Value) (q : ℕ) → Names (get_or a q null) i → Naming (a ++ b) i
  on_left [] b q n = absurd (null_names n refl)
  on_left (v ∷ a) b zero n = (0, n)
  on_left (v ∷ a) b (suc q) n = let x = on_left a b q n in (suc x.0, x.1)

  on_right : (a b : List Value) (q : ℕ) → Names (get_or b q null) i → Naming (a ++ b) i
  on_right [] b q n = (q, n)
  on_right (v ∷ a) b q n = let x = on_right a b q n in (suc x.0, x.1)

  -- By the place from the end.
  from_end_lem : {A : Type 0} (f : A → Value) (l : List A) (j : ℕ) → Names (from_end f l j) i → Naming (map f l) i
  unfolding from_end
  from_end_lem f [] j = λ n. absurd (null_names n refl)
  from_end_lem f (a ∷ l) j =
      at_upd (λ v. Names v i → Naming (map f (a ∷ l)) i) (from_end f l) (length l) (f a) j
      (λ e n. (0, n))
      (λ e n. let x = from_end_lem f l j n in (suc x.0, x.1))

  to_end : {A : Type 0} (f : A → Value) (l : List A) (q : ℕ) → Names (get_or (map f l) q null) i → (j : ℕ) × Names (from_end f l j) i
  unfolding from_end
  to_end f [] q n = absurd (null_names n refl)
  to_end f (a ∷ l) zero n = (length l, subst (λ v. Names v i) (sym (at_front f a l)) n)
  to_end f (a ∷ l) (suc q) n =
      let x = to_end f l q n in
      (x.0, at_upd (λ v. Names v i) (from_end f l) (length l) (f a) x.0 (λ e. absurd (past_end f l x.0 i (omega arith) x.1)) (λ e. x.1))

-- ---- the roots of a machine, as values

abbrev pub bindings : List Slot → List Value
bindings d = map (λ (s : Slot). bound s.binding) d

binding_value : (d : List Slot) (j : ℕ) → binding_at d j ≡ get_or (bindings d) j null
unfolding binding_at
binding_value [] j = refl
binding_value (s ∷ d) zero = refl
binding_value (s ∷ d) (suc j) = binding_value d j

abbrev pub root_values : Machine → List Value
root_values μ = μ.stack ++ bindings μ.dictionary ++ map frame_value μ.exec ++ bindings μ.handlers

gather_append : (a b : List Value) → gather of_value (a ++ b) ≡ gather of_value a ++ gather of_value b
unfolding gather
gather_append [] b = refl
gather_append (v ∷ a) b = ap (λ x. of_value v ++ x) (gather_append a b) ∙ sym (append_assoc (of_value v) (gather of_value a) (gather of_value b))

gather_map : {A : Type 0} (f : A → Value) (g : A → List ℕ) → ((a : A) → g a ≡ of_value (f a)) → (l : List A) → gather g l ≡ gather of_value (map f l)
unfolding gather
gather_map f g e [] = refl
gather_map f g e (a ∷ l) = ap (λ x. x ++ gather g l) (e a) ∙ ap (λ x. of_value (f a) ++ x) (gather_map f g e l)

frame_names : (f : Frame) → of_frame f ≡ of_value (frame_value f)
unfolding of_frame of_value
frame_names (pending v) = refl
frame_names (running i k) = refl
frame_names (looping b) = refl
frame_names (repeating n b) = refl
frame_names (counting n i f b) = refl

binding_names : (b : Option Value) → of_binding b ≡ of_value (bound b)
unfolding of_binding of_value
binding_names none = refl
binding_names (some v) = refl

bindings_named : (d : List Slot) → gather (λ (s : Slot). of_binding s.binding) d ≡ gather of_value (bindings d)
bindings_named d = gather_map (λ (s : Slot). bound s.binding) (λ s. of_binding s.binding) (λ s. binding_names s.binding) d

pub listed : (μ : Machine) → Held.roots μ ≡ gather of_value (root_values μ)
unfolding Held.roots
listed μ =
    let b = bindings μ.dictionary in
    let f = map frame_value μ.exec in
    let h = bindings μ.handlers in
    ap (λ x. gather of_value μ.stack ++ x ++ gather of_frame μ.exec ++ gather (λ (s : Slot). of_binding s.binding) μ.handlers) (bindings_named μ.dictionary)
    ∙ ap (λ x. gather of_value μ.stack ++ gather of_value b ++ x ++ gather (λ (s : Slot). of_binding s.binding) μ.handlers) (gather_map frame_value of_frame frame_names μ.exec)
    ∙ ap (λ x. gather of_value μ.stack ++ gather of_value b ++ gather of_value f ++ x) (bindings_named μ.handlers)
    ∙ ap (λ x. x ++ gather of_value f ++ gather of_value h) (sym (gather_append μ.stack b))
    ∙ ap (λ x. x ++ gather of_value h) (sym (gather_append (μ.stack ++ b) f))
    ∙ sym (gather_append (μ.stack ++ b ++ f) h)

pub map_self : (l : List Value) → map (λ v. v) l ≡ l
map_self [] = refl
map_self (v ∷ l) = ap (λ x. v ∷ x) (map_self l)

-- ---- the law

module _ (μ : Machine) where
  place_of : (i q : ℕ) → Names (get_or (root_values μ) q null) i → (r : ℕ) × Names (roots μ r) i
  place_of i q n =
      let b = bindings μ.dictionary in
      let f = map frame_value μ.exec in
      let h = bindings μ.handlers in
      ⊎_elim
      (λ u. ⊎_elim
      (λ x. ⊎_elim
      (λ y. let z = to_end i (λ v. v) μ.stack y.0 (subst (λ l. Names (get_or l y.0 null) i) (sym (map_self μ.stack)) y.1) in
      (4 * z.0, subst (λ v. Names v i) (sym (stack_root μ z.0)) z.1))
      (λ y. (4 * y.0 + 2, subst (λ v. Names v i) (sym (binding_root μ y.0 ∙ binding_value μ.dictionary y.0)) y.1))
      (either i μ.stack b x.0 x.1))
      (λ x. let z = to_end i frame_value μ.exec x.0 x.1 in
      (4 * z.0 + 1, subst (λ v. Names v i) (sym (exec_root μ z.0)) z.1))
      (either i (μ.stack ++ b) f u.0 u.1))
      (λ u. (4 * u.0 + 3, subst (λ v. Names v i) (sym (handler_root μ u.0 ∙ binding_value μ.handlers u.0)) u.1))
      (either i (μ.stack ++ b ++ f) h q n)

  before_handlers : (i : ℕ) → Naming (μ.stack ++ bindings μ.dictionary ++ map frame_value μ.exec) i → Naming (root_values μ) i
  before_handlers i x = on_left i (μ.stack ++ bindings μ.dictionary ++ map frame_value μ.exec) (bindings μ.handlers) x.0 x.1

  value_of : (i k j : ℕ) → Names (root_in μ k j) i → Naming (root_values μ) i
  unfolding root_in
  value_of i zero j n =
      let x = from_end_lem i (λ v. v) μ.stack j n in
      let y = on_left i μ.stack (bindings μ.dictionary) x.0 (subst (λ l. Names (get_or l x.0 null) i) (map_self μ.stack) x.1) in
      before_handlers i (on_left i (μ.stack ++ bindings μ.dictionary) (map frame_value μ.exec) y.0 y.1)
  value_of i (suc zero) j n =
      let x = from_end_lem i frame_value μ.exec j n in
      before_handlers i (on_right i (μ.stack ++ bindings μ.dictionary) (map frame_value μ.exec) x.0 x.1)
  value_of i (suc (suc zero)) j n =
      let y = on_right i μ.stack (bindings μ.dictionary) j (subst (λ v. Names v i) (binding_value μ.dictionary j) n) in
      before_handlers i (on_left i (μ.stack ++ bindings μ.dictionary) (map frame_value μ.exec) y.0 y.1)
  value_of i (suc (suc (suc zero))) j n =
      on_right i (μ.stack ++ bindings μ.dictionary ++ map frame_value μ.exec) (bindings μ.handlers) j (subst (λ v. Names v i) (binding_value μ.handlers j) n)
  value_of i (suc (suc (suc (suc k)))) j n = absurd (null_names n refl)

  pub rooted : Roots μ (roots μ)
  unfolding roots
  rooted i = (
    λ t. let x = gather_names (root_values μ) i (subst (λ l. i ∈ l) (listed μ) t) in place_of i x.0 x.1,
    λ x. let y = value_of i (x.0 % 4) (x.0 / 4) x.1 in subst (λ l. i ∈ l) (sym (listed μ)) (names_gather (root_values μ) y.0 i y.1),
  )
