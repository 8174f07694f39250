-- Words that stand for a machine of the definition show exactly the objects that it holds: the heap's reading is exact, the store's objects match, and a
-- place's two words name the header of the object that its value names.
-- Assumes nothing.
use mathlib.Core.Path.{◌≡◌, refl, sym, ap, ◌∙◌, subst}
use mathlib.Core.List.{List, [], ◌∷◌, map, reverse}
use mathlib.Core.Logic.{◌↔◌, ⊎_elim}
use mathlib.Core.Option.{Option}
use Prim.Native.Nat.{ℕ, zero, suc, ◌+◌, ◌-◌, ◌*◌, ◌%◌, ◌<◌}
use native.Mathlib.Nat.{zero-add}
use native.Mathlib.Omega.{arith}
use lib.ListN.{length, get_or, length-map, length-reverse}
use Rattle.semantics.specs.Sizes.{error_count}
use Rattle.semantics.specs.Values.{Value, null, Object}
use Rattle.semantics.specs.Machine as Floo
use Rattle.semantics.specs.Held.{held_cells}
use Rattle.heap.specs.Word.{word}
use Rattle.heap.specs.Chain.{live, on}
use Rattle.heap.specs.Shape.{Ghost, cells, first_unit}
use Rattle.heap.specs.Reading.{◌∈◌, free_cells, headers, kind_of, body_size, cells_of, walk, Once, Exact}
use Rattle.heap.proofs.Readings as Readings
use Rattle.heap.proofs.Readings.{header_live, live_header, cell_owned}
use Rattle.heap.proofs.Shapes.{inside}
use Rattle.heap.proofs.Parts as parts
use Rattle.heap.proofs.Listing.{there}
use Rattle.store.specs.Rep.{Names}
use Rattle.store.specs.Matching.{place}
use Rattle.store.proofs.Standing.{names_stands, stands_names, names_cast, null_names}
use Rattle.store.proofs.Counting.{AsOften}
use Rattle.store.proofs.Rooming.{lists_room}
use Rattle.store.proofs.Exactness as Exactness
use Rattle.machine.specs.Words.{frame_tag, frame_payload}
use Rattle.machine.specs.Places.{frame_value, bound, roots, root_count}
use Rattle.machine.specs.Rep.{Rep, IsIn, Frames, frame, Bound, unbound, Slots, end, slot, Rows, row}
use Rattle.machine.specs.declared.Machine.{Machine}
use Rattle.machine.proofs.Carrying.{handlers_many}
use Rattle.machine.proofs.Items.{items_length, item_at}
use Rattle.machine.proofs.Rooms.{frames_length}
use Rattle.machine.proofs.Rooted.{rooted, bindings}
use Rattle.machine.proofs.Tops.{frame_value_lem}
use Rattle.exactness.specs.Shown.{Snapshot, WordsName, NoOther, Corresponds, Shows}
use Rattle.exactness.proofs.Lists.{get_d_reverse, get_d_in}
use Rattle.exactness.proofs.Often.{as_often}
use Rattle.exactness.proofs.Occupying.{occupied_free}

-- ---- the words of a slot and its value

words_at : (P : ℕ → ℕ → Type 0) (words : List ℕ) {a b a' b' : ℕ} → a ≡ a' → b ≡ b' → P (get_or words a' 0) (get_or words b' 0) → P (get_or words a 0) (get_or words b 0)
words_at P words p q x = rw (p, q) x

module _ {Is : Value → ℕ → ℕ → Type 0} {g : Ghost} {store : List Object} where
  -- Slot i from the top, of k + 1 + i, has the words of place k.
  frame_at : {words : List ℕ} {n : ℕ} {fs : List Floo.Frame} → Frames Is g store words n fs → (i k : ℕ) → n ≡ k + suc i
      → Is (get_or (map frame_value fs) i null) (frame_tag words k) (frame_payload words k)
  frame_at Frames.bottom i k e = absurd (omega arith)
  frame_at {words} (frame {n = n} {f = f} h r) zero k e =
      let q : n ≡ k = omega arith in
      subst (λ x. Is (frame_value f) (frame_tag words x) (frame_payload words x)) q (frame_value_lem h)
  frame_at (frame h r) (suc i) k e = frame_at r i k (omega arith)

-- What is bound in each slot from number k on, in its two words.
module _ (P : Option Value → ℕ → ℕ → Type 0) (words : List ℕ) (width first second : ℕ) where
  data Each : ℕ → List Floo.Slot → Type 0 where
    nil : {k : ℕ} → Each k []
    cons : {k : ℕ} {s : Floo.Slot} {d : List Floo.Slot}
        → P s.binding (get_or words (width * k + first) 0) (get_or words (width * k + second) 0)
        → Each (suc k) d
        → Each k (s ∷ d)

slots_each : {Is : Value → ℕ → ℕ → Type 0} {words : List ℕ} {k : ℕ} {d : List Floo.Slot} → Slots Is words k d → Each (Bound Is) words 12 9 10 k d
slots_each end = nil
slots_each (slot S r) = cons S.binding (slots_each r)

rows_each : {Is : Value → ℕ → ℕ → Type 0} {names : List (List ℕ)} {words : List ℕ} {k : ℕ} {d : List Floo.Slot}
    → Rows Is names words k d
    → Each (Bound Is) words 36 11 23 k d
rows_each Rows.end = nil
rows_each (row S r) = cons S.handler (rows_each r)

each_at : {P : Option Value → ℕ → ℕ → Type 0} (Q : Value → ℕ → ℕ → Type 0) → ((b : Option Value) (t p : ℕ) → P b t p → Q (bound b) t p)
    → {words : List ℕ} {width first second k : ℕ} {d : List Floo.Slot} → Each P words width first second k d → (i : ℕ) → i < length d
    → Q (get_or (bindings d) i null) (get_or words (width * (k + i) + first) 0) (get_or words (width * (k + i) + second) 0)
each_at Q f nil i b = absurd (omega arith)
each_at Q f {k = k} (cons B r) zero b = let here : k + 0 ≡ k = omega arith in rw here (f _ _ _ B)
each_at Q f {k = k} (cons B r) (suc i) b = let next : k + suc i ≡ suc k + i = omega arith in rw next (each_at Q f r i (omega arith))

-- ---- places

-- Two words name a header exactly where the value names its object, and nothing but one of the headers.
record Named (ρ : ℕ → ℕ) (hs : List ℕ) (v : Value) (t p : ℕ) : Type 0 where
  named : (h : ℕ) → h ∈ hs → WordsName t p h ↔ Names v (ρ h)
  only : NoOther hs t p

corresponds : (ρ : ℕ → ℕ) (hs words : List ℕ) (width first second n : ℕ) (values : List Value) → n ≡ length values
    → ((i : ℕ) → i < n → Named ρ hs (get_or values i null) (get_or words (width * i + first) 0) (get_or words (width * i + second) 0))
    → Corresponds ρ hs words width first second n values
corresponds ρ hs words width first second n values e f = record { many = e; named = λ i h b. (f i b).named h; only = λ i b. (f i b).only }

module _ {m : Machine} {s e d c l : List ℕ} {μ : Floo.Machine} (R : Rep m s e d c l μ) where
  abbrev hs : List ℕ
  hs = headers m.lists c

  abbrev ρ : ℕ → ℕ
  ρ = R.world.ρ

  own_live : (h : ℕ) → h ∈ hs → R.world.ghost.own h ≡ live
  own_live = let H = R.stored in header_live H.full H.none_dead H.none_out

  live_own : (h : ℕ) → R.world.ghost.own h ≡ live → h ∈ hs
  live_own = let H = R.stored in live_header H.full H.none_dead H.none_out

  is_named : {v : Value} {t p : ℕ} → IsIn R.world μ v t p → Named ρ hs v t p
  is_named {v} {t} {p} I = record {
    named = λ h i. (
      λ x. names_cast v (ap ρ x.1) (names_stands I.stands x.0),
      λ n. let x = stands_names I.stands n in (x.0, R.stored.objects.one p h (I.alive x.0) (own_live h i) x.1),
    );
    only = λ o. live_own p (I.alive o);
  }

  bound_named : {b : Option Value} {t p : ℕ} → Bound (IsIn R.world μ) b t p → Named ρ hs (bound b) t p
  bound_named unbound = record { named = λ h i. (λ x. absurd (omega (arith, x.0)), λ n. absurd (null_names n refl)); only = λ o. absurd (omega (arith, o)) }
  bound_named (Bound.bound I) = is_named I

  shown_items : Corresponds ρ hs s 2 0 1 m.depth (reverse μ.stack)
  shown_items = corresponds ρ hs s 2 0 1 m.depth (reverse μ.stack) (sym (length-reverse μ.stack ∙ items_length R.items)) (λ i b.
      let down : ℕ = m.depth - suc i in
      let deep : m.depth ≡ i + suc down = omega arith in
      let tag : 2 * i + 0 ≡ 2 * i = omega arith in
      words_at (Named ρ hs (get_or (reverse μ.stack) i null)) s tag refl
      (rw (get_d_reverse μ.stack null down i (items_length R.items ∙ deep)) (is_named (item_at R.items down i deep))))

  shown_frames : Corresponds ρ hs e 8 1 2 m.frames (reverse (map frame_value μ.exec))
  shown_frames =
      let long : length (map frame_value μ.exec) ≡ m.frames = length-map μ.exec frame_value ∙ frames_length R.frames in
      corresponds ρ hs e 8 1 2 m.frames (reverse (map frame_value μ.exec)) (sym (length-reverse (map frame_value μ.exec) ∙ long)) (λ i b.
      let down : ℕ = m.frames - suc i in
      let deep : m.frames ≡ i + suc down = omega arith in
      rw (get_d_reverse (map frame_value μ.exec) null down i (long ∙ deep)) (is_named (frame_at R.frames down i deep)))

  -- Slots of the dictionary's words, by number.
  shown_slots : (width first second n : ℕ) (slots : List Floo.Slot)
      → n ≡ length slots
      → Each (Bound (IsIn R.world μ)) d width first second 0 slots
      → Corresponds ρ hs d width first second n (bindings slots)
  shown_slots width first second n slots many each =
      corresponds ρ hs d width first second n (bindings slots) (many ∙ sym (length-map slots (λ (x : Floo.Slot). bound x.binding))) (λ i b.
      subst (λ j. Named ρ hs (get_or (bindings slots) i null) (get_or d (width * j + first) 0) (get_or d (width * j + second) 0)) (zero-add i)
      (each_at (Named ρ hs) (λ o t p B. bound_named B) each i (omega (arith, many))))

  shown_bindings : Corresponds ρ hs d 12 9 10 m.names (bindings μ.dictionary)
  shown_bindings = shown_slots 12 9 10 m.names μ.dictionary R.naming.many (slots_each R.slots)

  shown_handlers : Corresponds ρ hs d 36 11 23 error_count (bindings μ.handlers)
  shown_handlers = shown_slots 36 11 23 error_count μ.handlers (sym (handlers_many R.handled)) (rows_each R.handled.rows)

  -- A cell of an array's body names a live header, if any.
  shown_elements : (h q : ℕ) → h ∈ hs → kind_of c h ≡ 0 → q < body_size c h → NoOther hs (word c (place c h q) 0) (word c (place c h q) 1)
  unfolding kind_of place cells_of Once
  shown_elements h q i k b o =
      let H = R.stored in
      let F = H.full in
      let E = Readings.exact F H.none_dead H.none_out in
      let x = place c h q in
      let body = walk c (body_size c h) (word c h 3 % first_unit) in
      let in_body : x ∈ body = get_d_in body q (omega (arith, E.sized h i)) in
      ⊎_elim
      (λ (y : x ≡ h). absurd ((E.once h i).0 (subst (λ z. z ∈ body) y in_body)))
      (λ (y : (r : ℕ) × (R.world.ghost.own x ≡ on (h + 2) r)).
      let aim = F.counts.body x h y.0 y.1 ∙ parts.object _ _ _ k o in
      live_own _ (F.counts.aimed x _ (omega (arith, (inside F.heap.shape x y.1 refl).0, F.counts.places.0)) aim))
      (cell_owned F H.none_dead H.none_out h x (own_live h i) (there x h body in_body))

  -- ---- the theorem

  pub shows : Shows μ (record { machine = m; stack = s; exec = e; dict = d; cells = c; log = l })
  shows =
      let H = R.stored in
      let E : Exact m.lists c = Readings.exact H.full H.none_dead H.none_out in
      let often : AsOften μ root_count (roots μ) = as_often μ
      (omega (arith, items_length R.items, R.rooms.stack_fits, R.rooms.stack_few))
      (omega (arith, frames_length R.frames, R.rooms.exec_fits, R.rooms.exec_few))
      (omega (arith, R.naming.many, R.rooms.dict_fits, R.rooms.dict_few))
      (omega (arith, handlers_many R.handled)) in
      record {
        ρ = R.world.ρ;
        exact = E;
        matches = Exactness.matches μ H.full H.none_dead H.none_out H.objects refl often R.sealed;
        elements = shown_elements;
        items = shown_items;
        frames = shown_frames;
        bindings = shown_bindings;
        handlers = shown_handlers;
        taken = omega (arith, occupied_free E, E.room, lists_room μ H.full H.none_dead H.none_out H.objects (rooted μ));
      }

-- The other cells are free.
pub vacant : {μ : Floo.Machine} {x : Snapshot} → Shows μ x → length (free_cells x.machine.lists x.cells) + held_cells μ ≡ cells x.cells
vacant S = omega (arith, occupied_free S.exact, S.taken)
