-- The string of `lend`, stage by stage: the name takes a slot, null is pushed, a string of zeros takes its place, the bytes go into it, the slot is bound to it,
-- and the item goes.
-- Assumes nothing.
use mathlib.Core.Path.{◌≡◌, refl, sym, ap, ◌∙◌, subst}
use mathlib.Core.Bool.{Bool, true, false}
use mathlib.Core.List.{List, [], ◌∷◌}
use mathlib.Core.Option.{some}
use Prim.Native.Nat.{ℕ, suc, ◌+◌, ◌-◌, ◌*◌, ◌≤◌}
use native.Mathlib.Omega.{arith}
use lib.ListN.{length, get_or, get_elem?, length-replicate}
use Rattle.semantics.specs.Text.{same}
use Rattle.semantics.specs.SameLaws.{same_refl}
use Rattle.semantics.specs.Values.{Value, null, string, text}
use Rattle.semantics.specs.Machine as Floo
use Rattle.semantics.specs.Machine.{Slot, with_stack, with_dictionary, with_store, push, object, bytes_of, make, made, assign, slotted, intern}
use Rattle.semantics.specs.Steps.{lending}
use Rattle.heap.specs.Shape.{cells}
use Rattle.heap.specs.declared.Lists.{Lists}
use Rattle.machine.specs.Moves.{dropped}
use Rattle.machine.specs.Places.{keys}
use Rattle.machine.specs.Words.{item_payload}
use Rattle.machine.specs.Rep.{Rep, Somewhere, MovesHeap}
use Rattle.machine.specs.declared.Machine.{Machine}
use Rattle.elements.specs.Elements.{free_cells, named, item_id, string_made, IsString}
use Rattle.elements.proofs.Strings.{string_is}
use Rattle.strings.specs.Strings.{HasRoom, FillsString, string_filled, bytes_filled}
use Rattle.strings.proofs.Making.{new, blank, blank_object, filled_new}
use Rattle.dictionary.specs.Names.{slot_of, Adds}
use Rattle.dictionary.specs.Bindings.{NamedItems, BindsItem}
use Rattle.dictionary.proofs.Lookups.{found_key, slotted_slot, slotted_has}
use Rattle.taking.specs.Promises.{PushesWords}
use Rattle.taking.proofs.Pushing.{null_words}
use Rattle.taking.proofs.Texts.{words_free, words_depth}
use Rattle.lending.specs.Lending.{MayLend}

-- ---- on machines

-- A slot that is taken first makes no difference.
pub assign_slotted : (n : List ℕ) (v : Value) (d : List Slot) → assign n v (slotted n d) ≡ assign n v d
unfolding assign slotted
assign_slotted n v [] = rw (same_refl n, assign) refl
assign_slotted n v (s ∷ d) = by_name (same n s.key) refl (assign_slotted n v d)
  where
    past : same n s.key ≡ false → (x : List Slot) → assign n v (s ∷ x) ≡ s ∷ assign n v x
    past q x = rw (q, assign) refl

    by_name : (t : Bool) → same n s.key ≡ t → assign n v (slotted n d) ≡ assign n v d → assign n v (slotted n (s ∷ d)) ≡ assign n v (s ∷ d)
    by_name true q r = rw (q, slotted) refl
    by_name false q r =
        let on : slotted n (s ∷ d) ≡ s ∷ slotted n d = rw (q, slotted) refl in
        ap (assign n v) on ∙ past q (slotted n d) ∙ ap (λ x. s ∷ x) r ∙ sym (past q d)

lent_is : (n bs : List ℕ) (μ : Floo.Machine)
    → dropped (with_dictionary (assign n (get_or (new bs (intern n μ)).stack 0 null) (new bs (intern n μ)).dictionary) (new bs (intern n μ))) ≡ lending n bs μ
unfolding dropped lending push make made intern with_stack with_dictionary with_store
lent_is n bs μ = ap (λ d. with_dictionary d (make (text bs) μ)) (assign_slotted n (string (length μ.store)) μ.dictionary)

-- ---- on words

-- The stack has room for one item, and has one.
pub stack_room : {m : Machine} {s d c name contents : List ℕ} → MayLend m s d c name contents → (k : ℕ) → k ≡ m.depth → 2 * k + 2 ≤ length s
stack_room G k q = omega (arith, q, G.empty, G.scratch)

pub one_item : {m a p : Machine} {s s₁ d c name contents : List ℕ} → MayLend m s d c name contents → a.depth ≡ m.depth → PushesWords 0 0 a p s s₁ → (k : ℕ) → k ≡ p.depth → k ≡ 0 + suc 0
one_item G q W k r = omega (arith, q, G.empty, words_depth W, r)

-- No cell is taken yet.
pub free_still : (m : Machine) {a p : Machine} {s s₁ : List ℕ} (c : List ℕ) → a.lists ≡ m.lists → PushesWords 0 0 a p s s₁ → free_cells p c ≡ free_cells m c
free_still m c q W = words_free c W ∙ ap (λ (x : Lists). x.listed + (cells c - x.edge)) q

-- The name has its slot.
pub named_rep : {m a : Machine} {s d d₁ c name : List ℕ} → Adds m a d d₁ name → {e l : List ℕ} {μ : Floo.Machine} → Rep m s e d c l μ → slot_of name μ.dictionary ≡ m.names → Somewhere a s c
named_rep {s = s} {d₁ = d₁} {c = c} {name = name} A {e} {l} {μ} R is = (e, d₁, l, intern name μ, A.moves s e c l μ R is)

-- Null is pushed, and a string of zeros takes its place.
module _ (contents : List ℕ) {m a p q : Machine} {s s₁ s₂ d d₁ c c₁ name : List ℕ} (A : Adds m a d d₁ name) (room : 2 * a.depth + 2 ≤ length s) (W : PushesWords 0 0 a p s s₁)
    (S : MovesHeap (string_made 0 (length contents)) p q s₁ s₂ c c₁) (one : q.depth ≡ 0 + suc 0) {e l : List ℕ} {μ : Floo.Machine} (R : Rep m s e d c l μ) (is : slot_of name μ.dictionary ≡ m.names) where
  abbrev zeros : Floo.Machine
  zeros = blank (length contents) (intern name μ)

  made_rep : Rep q s₂ e d₁ c₁ l zeros
  made_rep = S.moves e d₁ l (push null (intern name μ)) (null_words room W (A.moves s e c l μ R is))

  item : get_or zeros.stack 0 null ≡ string (made (intern name μ))
  unfolding string_made push made make with_stack with_store
  item = refl

  the_string : IsString made_rep.world zeros.store (item_payload s₂ 0) (made (intern name μ))
  the_string = string_is made_rep 0 0 one item

  long : length (bytes_of (object zeros (made (intern name μ)))) ≡ length contents
  unfolding bytes_of
  long = ap (λ o. length (bytes_of o)) (blank_object (length contents) (intern name μ)) ∙ length-replicate {A = ℕ} (length contents) 0

  pub room_there : HasRoom (item_payload s₂ 0) (length contents) c₁
  room_there = record {
    machine = q;
    stack = s₂;
    exec = e;
    dict = d₁;
    log = l;
    state = zeros;
    rep = made_rep;
    id = made (intern name μ);
    string = the_string;
    inside = omega (arith, long);
  }

  -- The bytes are there.
  module _ {c₂ : List ℕ} (F : FillsString (item_payload s₂ 0) contents c₁ c₂) where
    by_item : string_filled (made (intern name μ)) contents zeros ≡ bytes_filled 0 contents zeros
    unfolding string_filled bytes_filled item_id named string_made push made make with_stack with_store
    by_item = refl

    filled_rep : Rep q s₂ e d₁ c₂ l (new contents (intern name μ))
    filled_rep = subst (Rep q s₂ e d₁ c₂ l) (by_item ∙ filled_new contents (intern name μ)) (F.fills made_rep (made (intern name μ)) the_string (omega (arith, long))).0

    key : get_elem? (keys (new contents (intern name μ))) m.names ≡ some name
    unfolding push make intern with_stack with_dictionary with_store
    key =
        let place : slot_of name (slotted name μ.dictionary) ≡ m.names = slotted_slot name μ.dictionary ∙ is in
        subst (λ i. get_elem? (keys (new contents (intern name μ))) i ≡ some name) place (found_key name (slotted name μ.dictionary) (slotted_has name μ.dictionary))

    pub named_there : NamedItems m.names q s₂ d₁ c₂
    named_there = (e, l, new contents (intern name μ), name, key, filled_rep)

    -- The slot is bound, and the item goes.
    module _ {b : Machine} {d₂ c₃ : List ℕ} (B : BindsItem m.names 0 q b s₂ d₁ d₂ c₂ c₃) where
      abbrev bound : Floo.Machine
      bound = with_dictionary (assign name (get_or (new contents (intern name μ)).stack 0 null) (new contents (intern name μ)).dictionary) (new contents (intern name μ))

      bound_rep : Rep b s₂ e d₂ c₃ l bound
      bound_rep = B.moves e l (new contents (intern name μ)) filled_rep name key

      pub bound_there : Somewhere b s₂ c₃
      bound_there = (e, d₂, l, bound, bound_rep)

      pub lent_rep : {r : Machine} {c₄ : List ℕ} → MovesHeap dropped b r s₂ s₂ c₃ c₄ → Rep r s₂ e d₂ c₄ l (lending name contents μ)
      lent_rep {r} {c₄} D = subst (Rep r s₂ e d₂ c₄ l) (lent_is name contents μ) (D.moves e d₂ l bound bound_rep)
