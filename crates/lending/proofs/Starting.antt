-- The start of a run with a string lent. Lending touches the first slot of the stack and the slots up to its own: the words after them are as they were, and the
-- words together stand for the start.
-- Assumes nothing.
use mathlib.Core.Path.{◌≡◌, refl, sym, ap, ◌∙◌}
use mathlib.Core.List.{List, ◌++◌}
use Prim.Native.Nat.{ℕ, ◌+◌, ◌*◌, ◌≤◌}
use native.Mathlib.Omega.{arith}
use lib.ListN.{length, take, drop, length-set, drop_of_length-le, get_or-append}
use lib.Seq.{length-take-le, get_or-take, drop_at, length_front}
use Rattle.semantics.specs.Sizes.{name_count, name_words, stack_words_most}
use Rattle.semantics.specs.Values.{Value, string}
use Rattle.semantics.specs.Machine as Floo
use Rattle.semantics.specs.Machine.{Slot, with_dictionary, with_store, make, made, assign, slotted}
use Rattle.semantics.specs.Held.{held_cells, held, sum_of, pruned, prune, below}
use Rattle.semantics.specs.Steps.{initial, lending}
use Rattle.semantics.specs.NameLaws.{name_count_lem}
use Rattle.store.proofs.Rooming.{lists_room}
use Rattle.machine.specs.Rep.{Rep, Items, bottom, item}
use Rattle.machine.specs.declared.Machine.{Machine}
use Rattle.machine.proofs.Items.{items_length}
use Rattle.machine.proofs.Rooted.{rooted}
use Rattle.dictionary.specs.Names.{slot_of}
use Rattle.dictionary.proofs.Adding.{kept_rep}
use Rattle.semantics.specs.SlotLaws.{assign_sits}
use Rattle.dictionary.proofs.Lookups.{found, slotted_missing, slotted_has}
use Rattle.start.specs.Begins.{Begins}
use Rattle.run_loop.specs.History.{moment}
use Rattle.runner.specs.Promise as runner
use Rattle.runner.specs.Promise.{MayProceed, Proceeds}
use Rattle.runner.specs.declared.Proceeded.{Proceeded}
use Rattle.runner.proofs.Carrying.{begun, starts, carried, ends_so, same_from}
use Rattle.lending.specs.Lending.{MayLend, Lends, Ready, Carries}
use Rattle.lending.proofs.Making.{assign_slotted}

-- ---- on words

-- Where no item is there, the words of the stack may be any.
no_items : {P : Value → ℕ → ℕ → Type 0} {words other : List ℕ} {n : ℕ} {vs : List Value} → n ≡ 0 → Items P words n vs → Items P other n vs
no_items z bottom = bottom
no_items z (item h r) = absurd (omega (arith, z))

restacked : {m : Machine} {s s' e d c l : List ℕ} {μ : Floo.Machine} → Rep m s e d c l μ → m.depth ≡ 0 → length s' ≤ stack_words_most → Rep m s' e d c l μ
restacked R z few =
    record {
      rooms = record {
        stack_fits = omega (arith, z);
        exec_fits = R.rooms.exec_fits;
        dict_fits = R.rooms.dict_fits;
        stack_few = few;
        exec_few = R.rooms.exec_few;
        dict_few = R.rooms.dict_few;
      };
      naming = R.naming;
      logging = R.logging;
      stopped = R.stopped;
      world = R.world;
      stored = R.stored;
      items = no_items z R.items;
      frames = R.frames;
      slots = R.slots;
      handled = R.handled;
      sealed = R.sealed;
    }

-- ---- on machines

nothing_held : held_cells initial.machine ≡ 0
unfolding initial held_cells held sum_of pruned prune below
nothing_held = refl

names_there : length initial.machine.dictionary ≡ name_count
unfolding initial
names_there = name_count_lem

no_item : length initial.machine.stack ≡ 0
unfolding initial
no_item = refl

-- The name's slot is one more.
one_more : (n bs : List ℕ) (μ : Floo.Machine) → slot_of n μ.dictionary ≡ length μ.dictionary → length (lending n bs μ).dictionary ≡ length μ.dictionary + 1
unfolding lending make with_store with_dictionary
one_more n bs μ none =
    let v = string (made μ) in
    let there = found n (slotted n μ.dictionary) (slotted_has n μ.dictionary) in
    ap length (sym (assign_slotted n v μ.dictionary) ∙ assign_sits n v there.1)
    ∙ length-set (slotted n μ.dictionary) _ _
    ∙ slotted_missing n μ.dictionary none

-- ---- the start

-- The words of the predefined names and of one name more.
abbrev used : ℕ
used = name_words + 12

module _ {script : List ℕ} {fuel : ℕ} {name contents s e d c l o : List ℕ} (G : Ready script fuel name contents s e d c l o) {m : Machine} {d₁ : List ℕ} (B : Begins d d₁ c m) (long : length d₁ ≡ length d) where
  scratch_long : length (take 2 s) ≡ 2
  scratch_long = length-take-le 2 s G.scratch

  used_long : length (take used d₁) ≡ used
  used_long = length-take-le used d₁ (omega (arith, long, G.slot))

  whole_rep : Rep m (take 2 s) e d₁ c l initial.machine
  whole_rep = B.stands (take 2 s) e l (omega (arith, scratch_long)) G.setup.exec

  few_names : m.names ≡ name_count
  few_names = whole_rep.naming.many ∙ names_there

  short_rep : Rep m (take 2 s) e (take used d₁) c l initial.machine
  short_rep =
      kept_rep whole_rep (omega (arith, few_names, used_long)) (omega (arith, used_long))
      (record { below = λ i h. get_or-take used d₁ i 0 (omega (arith, few_names, h)) })

  pub may_lend : MayLend m (take 2 s) (take used d₁) c name contents
  may_lend =
      let H = short_rep.stored in
      let free = lists_room initial.machine H.full H.none_dead H.none_out H.objects (rooted initial.machine) in
      record {
        empty = sym (items_length short_rep.items) ∙ no_item;
        scratch = omega (arith, scratch_long);
        short = G.short;
        slot = omega (arith, few_names, used_long);
        cells = omega (arith, free, nothing_held, G.cells);
        exec = e;
        log = l;
        machine = initial.machine;
        rep = short_rep;
        unknown = G.unknown ∙ sym whole_rep.naming.many;
      }

  module _ {r : Machine} {ys zs c₁ : List ℕ} (L : Lends m r (take 2 s) ys (take used d₁) zs c c₁ name contents)
      (ly : length ys ≡ length (take 2 s)) (lz : length zs ≡ length (take used d₁)) (lc : length c₁ ≡ length c) where
    abbrev lent : Floo.Machine
    lent = lending name contents initial.machine

    front_rep : Rep r ys e zs c₁ l lent
    front_rep = L.lends e l initial.machine short_rep (G.unknown ∙ sym whole_rep.naming.many)

    pub stack_long : length (ys ++ drop 2 s) ≡ length s
    stack_long = length_front s ys 2 ly

    pub dict_long : length (zs ++ drop used d₁) ≡ length d
    dict_long = length_front d₁ zs used lz ∙ long

    slots_used : 12 * length lent.dictionary ≡ used
    slots_used = omega (arith, one_more name contents initial.machine G.unknown, names_there)

    all_rep : Rep r (ys ++ drop 2 s) e (zs ++ drop used d₁) c₁ l lent
    all_rep =
        kept_rep (restacked front_rep L.empty (omega (arith, stack_long, G.setup.stack)))
        (omega (arith, front_rep.rooms.dict_fits, dict_long, lz, used_long, G.slot))
        (omega (arith, dict_long, G.setup.dict.1))
        (record { below = λ i h. get_or-append zs (drop used d₁) 0 i (omega (arith, h, front_rep.rooms.dict_fits)) })

    pub goes : MayProceed script fuel (begun r) (ys ++ drop 2 s) e (zs ++ drop used d₁) c₁ l o
    goes = starts G.setup all_rep stack_long dict_long lc

    after_slot : drop (12 * length lent.dictionary) (zs ++ drop used d₁) ≡ drop (12 * length lent.dictionary) d
    after_slot =
        ap (λ n. drop n (zs ++ drop used d₁)) slots_used
        ∙ drop_at zs (drop used d₁) used (lz ∙ used_long)
        ∙ same_from d₁ d used long (λ j low. B.kept j (omega (arith, low)))
        ∙ ap (λ n. drop n d) (sym slots_used)

    first_lent : runner.Lends 2 (length c) lent (moment (begun r) (ys ++ drop 2 s) e (zs ++ drop used d₁) c₁ l) s e d c l
    first_lent = record {
      stack = drop_at ys (drop 2 s) 2 (ly ∙ scratch_long);
      exec = refl;
      dict = after_slot;
      cells = drop_of_length-le c₁ {i = length c} (omega (arith, lc)) ∙ sym (drop_of_length-le c {i = length c} (omega arith));
      log = refl;
      lengths = (stack_long, refl, dict_long, lc, refl);
    }

    pub came : {s' e' d' c' l' o' : List ℕ} {q : Proceeded}
        → Proceeds script fuel (begun r) (ys ++ drop 2 s) s' e e' (zs ++ drop used d₁) d' c₁ c' l l' o o' q
        → Carries script fuel name contents s s' e e' d d' c c' l l' o o' q
    came P = record {
      run = carried G.setup all_rep stack_long dict_long lc P first_lent;
      ends = ends_so G.setup all_rep stack_long dict_long lc P;
    }
