-- A step keeps a property: tokens, frames and operators are made of the changes that `Property` lists, and the test of room changes nothing.
-- Assumes nothing.
use mathlib.Core.Path.{◌≡◌, refl, sym, subst}
use mathlib.Core.Bool.{true, false}
use mathlib.Core.List.{List, [], ◌∷◌, reverse}
use mathlib.Core.Option.{Option, none, some}
use Prim.Native.Nat.{ℕ, zero, suc, ◌+◌, ◌≤◌, ◌<◌}
use native.Mathlib.Omega.{arith}
use lib.ListN.{length, drop, length-drop, length-reverse, length-append}
use lib.Dec.{leb, leb→le}
use Rattle.semantics.specs.Words.{signed, word}
use Rattle.semantics.specs.Values.{Result, ok, Value, integer, Object, elements, text}
use Rattle.semantics.specs.Errors.{error_text}
use Rattle.semantics.specs.Tokens.{Lexing, Token, lex}
use Rattle.semantics.specs.Machine.{Machine, Frame, pending, running, looping, repeating, counting, Slot, with_stack, with_exec, with_dictionary, with_store, with_latest, push, enter, object, make, made, change, with_read_only, protect, slotted, intern}
use Rattle.semantics.specs.Groups.{Taken, taken, skip, Reader, opened, enclosed, closed, element, group, token_value, take_token}
use Rattle.semantics.specs.Steps.{Limits, State, Move, command_of, execute, is_procedure, treat, silent, beyond, following, resume, passed, room_for, Step, goes, misreads, unmoved, noted, handling, failing, ended, moved, token_move, token_step, step_on, step}
use Rattle.semantics.specs.Steps as Steps
use Rattle.semantics.specs.ResultLaws.{Gives, gives, fails, gives_then, gives_weaker, gives_check, choose}
use Rattle.semantics.specs.ListLaws.{All, nil, cons, Maybe, nothing, just, gives_given, all_drop, all_reverse, all-getElem?, all_weaker}
use Rattle.semantics.specs.declared.Error.{Error}
use Rattle.semantics.specs.declared.Fault.{Fault}
use Rattle.walk.specs.Objects.{is_string}
use Rattle.walk.specs.Parts.{Parts, Good, a_word, a_truth, a_null, a_mark, an_operator, a_name, a_string, an_array, GoodFrame, GoodSlot, GoodObject, Within, Stays}
use Rattle.walk.proofs.Parts.{Later, later_itself, later_then, good_later, array_object, text_object, lookup_good, slotted_good, error_spelled}
use Rattle.walk.proofs.Property.{Property, Fit, gives_each, make_later, change_later, with_exec_lem, with_dictionary_lem, with_latest_lem, interned, pushed, entered, protected, maked, filled, object_good}
use Rattle.walk.proofs.Operands.{word_good}
use Rattle.walk.proofs.OperatorsKeep.{new_string, perform_keeps}
use Rattle.walk.proofs.TokensKeep.{GoodToken, a_number, a_text, an_opening, a_closing, an_end, GoodLexeme, lex_good}
use Rattle.walk.proofs.TokensKeep as TokensKeep

-- What a step executes is spelled as a name is: it is that of a value, or nothing.
pub unnamed : (A : Parts) → A.numbers.Spelling []
unnamed A = A.numbers.spelling [] nil (omega arith)

command_spelled : {A : Parts} {s : List Object} {v : Value} → Good A s v → A.numbers.Spelling (command_of v)
unfolding command_of
command_spelled {A} (a_word h) = unnamed A
command_spelled {A} a_truth = unnamed A
command_spelled {A} a_null = unnamed A
command_spelled {A} a_mark = unnamed A
command_spelled (an_operator h) = h
command_spelled (a_name {x = true} h) = h
command_spelled {A} (a_name {x = false} h) = unnamed A
command_spelled {A} (a_string h) = unnamed A
command_spelled {A} (an_array h) = unnamed A

-- A step keeps the property, and stays within what is lent; one that ends the run leaves the machine as it was.
pub data KeptStep (K : Property) (l : Limits) (m : Machine) : Step → Type 0 where
  went : {τ : State} → Fit K τ.machine → Stays l m τ.machine → KeptStep K l m (goes τ)
  stuck : {e : Error} {c : List ℕ} {τ : State} → K.parts.numbers.Spelling c → τ.machine ≡ m → KeptStep K l m (Steps.fails e c τ)
  unread : {f : Fault} {τ : State} → τ.machine ≡ m → KeptStep K l m (misreads f τ)

-- A machine that an operator may act on: it has no more items than an object may have elements.
record Ready (K : Property) (m : Machine) : Type 0 where
  fit : Fit K m
  deep : K.parts.numbers.Size (length m.stack)

module _ {K : Property} {m : Machine} (h : Ready K m) where
  ready_exec : {e : List Frame} → All (GoodFrame K.parts m.store) e → Ready K (with_exec e m)
  unfolding with_exec
  ready_exec k = record { fit = with_exec_lem h.fit k; deep = h.deep }

  ready_made : {o : Object} → GoodObject K.parts m.store o → Ready K (make o m)
  unfolding make with_store
  ready_made k = record { fit = maked h.fit k; deep = h.deep }

  -- With the mark for read only.
  ready_sealed : {o : Object} → GoodObject K.parts m.store o → Ready K (protect (made m) (make o m))
  unfolding make with_store made protect with_read_only
  ready_sealed {o} k = record { fit = protected (maked h.fit k) (made m) (λ q. omega (arith, length-append m.store (o ∷ []))); deep = h.deep }

  ready_interned : (n : List ℕ) → Ready K (intern n m)
  unfolding intern with_dictionary
  ready_interned n = record { fit = interned h.fit n; deep = h.deep }

  ready_filled : (i : ℕ) {o : Object}
      → K.base ≤ i
      → (K.parts.references.Kinds → is_string o ≡ is_string (object m i))
      → GoodObject K.parts m.store o
      → Ready K (change i o m)
  unfolding change with_store
  ready_filled i b e k = record { fit = filled h.fit i b e k; deep = h.deep }

  -- An array or string that the step makes comes after those before it.
  new_since : K.base ≤ made m
  new_since = K.since m h.fit.whole

module _ (K : Property) where
  -- ---- values read from the script

  -- A value taken since there were these objects: they are still there.
  record FitTaken (s : List Object) (t : Taken) : Type 0 where
    ready : Ready K t.machine
    later : Later K.parts s t.machine.store
    good : Good K.parts t.machine.store t.value

  earlier : {s r : List Object} → Later K.parts s r → {t : Lexing Taken} → Gives (FitTaken r) t → Gives (FitTaken s) t
  earlier f h = gives_weaker h (λ t k. record { ready = k.ready; later = later_then f k.later; good = k.good })

  -- A group's object has been made in the step, and is an array; with so many tokens to come at most, its elements are as many as an object may have.
  abbrev ReadsOn : ℕ → Reader → Type 0
  ReadsOn fuel rest =
      (i brace depth offset : ℕ) (vs : List Value) (m : Machine)
      → K.base ≤ i
      → K.parts.references.Reference m.store (i, false)
      → All (Good K.parts m.store) vs
      → K.parts.numbers.Size (length vs + fuel)
      → Ready K m
      → Gives (FitTaken m.store) (rest i brace depth offset vs m)

  opened_there : (m : Machine) → K.parts.references.Reference (opened m).store (made m, false)
  unfolding opened make made with_store protect with_read_only
  opened_there m = K.parts.references.new m.store (elements []) false (λ q. refl)

  opened_ready : {m : Machine} → Ready K m → Ready K (opened m)
  unfolding opened
  opened_ready h = ready_sealed h (array_object nil (K.parts.numbers.size 0 (omega arith)))

  opened_later : (m : Machine) → Later K.parts m.store (opened m).store
  unfolding opened protect with_read_only
  opened_later m = make_later m (elements [])

  closed_keeps : (i after fuel : ℕ) (vs : List Value) (m : Machine)
      → K.base ≤ i
      → K.parts.references.Reference m.store (i, false)
      → All (Good K.parts m.store) vs
      → K.parts.numbers.Size (length vs + fuel)
      → Ready K m
      → Gives (FitTaken m.store) (closed i vs m after)
  unfolding closed taken object
  closed_keeps i after fuel vs m b t a n h =
      let same : K.parts.references.Kinds → is_string (elements (reverse vs)) ≡ is_string (object m i) = λ q. sym (K.parts.references.kind q m.store i false t) in
      let f : Later K.parts m.store (change i (elements (reverse vs)) m).store = change_later m i (elements (reverse vs)) same in
      gives (record {
        ready = ready_filled h i b same (array_object (all_reverse a) (K.parts.numbers.smaller _ (length vs + fuel) (omega (arith, length-reverse vs)) n));
        later = f;
        good = an_array (f.still _ t);
      })

  module _ (rest : Reader) (fuel : ℕ) (f : ReadsOn fuel rest) where
    element_keeps : (i brace depth start after : ℕ) (vs : List Value) (m : Machine) {t : Token}
        → K.base ≤ i
        → K.parts.references.Reference m.store (i, false)
        → All (Good K.parts m.store) vs
        → K.parts.numbers.Size (length vs + suc fuel)
        → Ready K m
        → GoodToken K.parts t
        → Gives (FitTaken m.store) (element rest i brace depth start after vs m t)
    unfolding element enclosed protect with_read_only intern with_dictionary
    element_keeps i brace depth start after vs m b t a n h (a_number k) =
        f i brace depth after _ m b t (cons (a_word k) a) (K.parts.numbers.smaller _ (length vs + suc fuel) (omega arith) n) h
    element_keeps i brace depth start after vs m b t a n h (a_text {bs = bs} k l) =
        let g = make_later m (text bs) in
        earlier g
        (f i brace depth after _ _ b (g.still _ t) (cons (new_string m bs) (all_weaker (good_later g) a))
        (K.parts.numbers.smaller _ (length vs + suc fuel) (omega arith) n)
        (ready_sealed h (text_object k l)))
    element_keeps i brace depth start after vs m b t a n h (TokensKeep.a_name {n = x} k) =
        f i brace depth after _ _ b t (cons (a_name k) a) (K.parts.numbers.smaller _ (length vs + suc fuel) (omega arith) n) (ready_interned h x)
    element_keeps i brace zero start after vs m b t a n h an_opening = fails
    element_keeps i brace (suc d) start after vs m b t a n h an_opening =
        gives_then
        (earlier (opened_later m)
        (f (made m) start d after [] (opened m) (new_since h) (opened_there m) nil (K.parts.numbers.smaller _ (length vs + suc fuel) (omega arith) n) (opened_ready h)))
        (λ g k. earlier k.later
        (f i brace (suc d) g.after _ _ b (k.later.still _ t) (cons k.good (all_weaker (good_later k.later) a))
        (K.parts.numbers.smaller _ (length vs + suc fuel) (omega arith) n)
        k.ready))
    element_keeps i brace depth start after vs m b t a n h a_closing = closed_keeps i after (suc fuel) vs m b t a n h
    element_keeps i brace depth start after vs m b t a n h an_end = fails

  module _ (script : List ℕ) (bytes : All K.parts.numbers.Byte script) (short : K.parts.numbers.Size (length script)) where
    lexed : (start : ℕ) → Gives (GoodLexeme K.parts) (lex start (drop start script))
    lexed start = lex_good K.parts start (all_drop start bytes) (K.parts.numbers.smaller _ (length script) (omega (arith, length-drop start script)) short)

    group_keeps : (fuel : ℕ) → ReadsOn fuel (group script fuel)
    unfolding group
    group_keeps zero i brace depth offset vs m b t a n h = fails
    group_keeps (suc fuel) i brace depth offset vs m b t a n h =
        gives_then (lexed (skip script offset)) (λ l k. element_keeps (group script fuel) fuel (group_keeps fuel) i brace depth _ _ vs m b t a n h k)

    token_value_keeps : (m : Machine) (start after : ℕ) {t : Token} → Ready K m → GoodToken K.parts t → Gives (FitTaken m.store) (token_value script m start after t)
    unfolding token_value taken intern with_dictionary
    token_value_keeps m start after h (a_number k) = gives (record { ready = h; later = later_itself; good = a_word k })
    token_value_keeps m start after h (a_text {bs = bs} k l) =
        gives (record { ready = ready_made h (text_object k l); later = make_later m (text bs); good = new_string m bs })
    token_value_keeps m start after h (TokensKeep.a_name {x = true} k) = gives (record { ready = h; later = later_itself; good = a_name k })
    token_value_keeps m start after h (TokensKeep.a_name {x = false} {n = n} k) = gives (record { ready = ready_interned h n; later = later_itself; good = a_name k })
    token_value_keeps m start after h an_opening =
        earlier (opened_later m)
        (group_keeps (length script) (made m) start 15 after [] (opened m) (new_since h) (opened_there m) nil (K.parts.numbers.smaller _ (length script) (omega arith) short) (opened_ready h))
    token_value_keeps m start after h a_closing = fails
    token_value_keeps m start after h an_end = fails

    take_token_keeps : (start : ℕ) (m : Machine) → Ready K m → Gives (FitTaken m.store) (take_token script start m)
    unfolding take_token
    take_token_keeps start m h = gives_then (lexed start) (λ l k. token_value_keeps m _ _ h k)

  -- ---- moves

  execute_keeps : {v : Value} (m : Machine) → Good K.parts m.store v → Ready K m → Gives (Fit K) (execute v m)
  unfolding execute
  execute_keeps m (a_word k) h = gives (pushed h.fit (a_word k))
  execute_keeps m a_truth h = gives (pushed h.fit a_truth)
  execute_keeps m a_null h = gives (pushed h.fit a_null)
  execute_keeps m a_mark h = gives (pushed h.fit a_mark)
  execute_keeps m (an_operator {o = o} k) h = perform_keeps K o m h.fit h.deep
  execute_keeps m (a_name {x = true} {n = n} k) h =
      gives_then (gives_given (lookup_good n h.fit.parts.dictionary) _) (λ v g. gives (entered h.fit (record { held = g })))
  execute_keeps m (a_name {x = false} k) h = gives (pushed h.fit (a_name k))
  execute_keeps m (a_string k) h = gives (pushed h.fit (a_string k))
  execute_keeps m (an_array {x = true} k) h = gives (entered h.fit (record { held = a_null }))
  execute_keeps m (an_array {x = false} k) h = gives (pushed h.fit (an_array k))

  treat_keeps : (v : Value) (m : Machine) → Good K.parts m.store v → Ready K m → Gives (Fit K) (treat v m)
  unfolding treat
  treat_keeps v m k h =
      choose (Gives (Fit K)) (is_procedure v) (ok (push v m)) (execute v m) (λ t. gives (pushed h.fit k)) (λ t. execute_keeps m k h)

  record KeptMove (v : Move) : Type 0 where
    command : K.parts.numbers.Spelling v.command
    result : Gives (Fit K) v.result

  silent_keeps : {r : Result Machine} → Gives (Fit K) r → KeptMove (silent r)
  unfolding silent
  silent_keeps g = record { command = unnamed K.parts; result = g }

  -- A repetition: the body is pending above its loop.
  repeated : {f : Frame} {b : Value} {m : Machine}
      → GoodFrame K.parts m.store f
      → Good K.parts m.store b
      → Fit K m
      → KeptMove (silent (ok (enter (pending b) (enter f m))))
  unfolding enter with_exec
  repeated k g h = silent_keeps (gives (entered (entered h k) (record { held = g })))

  resume_keeps : (f : Frame) (m : Machine) → GoodFrame K.parts m.store f → Ready K m → KeptMove (resume f m)
  unfolding resume enter with_exec push with_stack
  resume_keeps (pending v) m k h = record { command = command_spelled k.held; result = execute_keeps m k.held h }
  resume_keeps (running i n) m k h = by (all-getElem? (object_good h.fit i).inside n)
    where
      by : {o : Option Value}
          → Maybe (Good K.parts m.store) o
          → KeptMove (elim o [
            | none ↦ silent (ok m)
            | some v ↦ record { command = command_of v; result = treat v (enter (running i (suc n)) m) }
          ])
      by nothing = silent_keeps (gives h.fit)
      by (just {a = v} g) =
          record { command = command_spelled g; result = treat_keeps v _ g (ready_exec h (cons (record { held = a_null }) h.fit.parts.exec)) }
  resume_keeps (looping b) m k h = repeated (record { held = k.held }) k.held h.fit
  resume_keeps (repeating zero b) m k h = silent_keeps (gives h.fit)
  resume_keeps (repeating (suc n) b) m k h = repeated (record { held = k.held }) k.held h.fit
  resume_keeps (counting n i f b) m k h =
      choose KeptMove (beyond n (signed i) (signed f)) (silent (ok m))
      (silent (ok (enter (pending b) (enter (counting (following n i) i f b) (push (integer (word n)) m)))))
      (λ t. silent_keeps (gives h.fit))
      (λ t. repeated (record { held = k.held }) k.held (pushed h.fit (word_good n)))

  token_move_keeps : {s : List Object} (t : Taken) → FitTaken s t → KeptMove (token_move t)
  unfolding token_move
  token_move_keeps t k = record { command = command_spelled k.good; result = treat_keeps t.value t.machine k.good k.ready }

  -- What is left of the execution stack where the frame's object or repetition has failed.
  passed_good : {s : List Object} (f : Frame) {fs : List Frame}
      → GoodFrame K.parts s f
      → All (GoodFrame K.parts s) fs
      → All (GoodFrame K.parts s) (passed f fs)
  unfolding passed
  passed_good (pending v) k ps = ps
  passed_good (running i n) k ps = cons (record { held = a_null }) ps
  passed_good (looping b) k ps = cons k ps
  passed_good (repeating n b) k ps = cons (record { held = k.held }) ps
  passed_good (counting n i f b) k ps = cons (record { held = k.held }) ps

  -- ---- a step

  module _ (l : Limits) where
    -- A name that is stored, and the dictionary then.
    record KeptName (s : List Object) (before : List Slot) (x : Option (List ℕ) × List Slot) : Type 0 where
      name : Maybe K.parts.numbers.Spelling x.0
      slots : All (GoodSlot K.parts s) x.1
      room : length before ≤ l.dictionary_slots → length x.1 ≤ l.dictionary_slots

    within_stays : {before after : Machine} → Within l after → Stays l before after
    within_stays w = record { dictionary = λ r. w.dictionary; exec = w.exec; stack = λ r. w.stack; log = λ r. w.log }

    abbrev Roomy : Machine → Type 0
    Roomy m = Fit K m × Within l m

    room_for_keeps : (before after : Machine) → Fit K after → Gives Roomy (room_for l before after)
    unfolding room_for
    room_for_keeps before after h =
        gives_then (gives_check _ _)
        (λ a d. gives_then (gives_check _ _)
        (λ b e. gives_then (gives_check _ _)
        (λ c s. gives_each _
        (λ f. gives_then (gives_check _ _)
        (λ g t. gives (h, record { dictionary = leb→le _ _ d; exec = leb→le _ _ e; stack = leb→le _ _ s; log = leb→le _ _ t }))))))

    -- Names that are stored take slots without a binding, as many as there are.
    noted_keeps : (n : List ℕ) {s : List Object} {d : List Slot} → K.parts.numbers.Spelling n → All (GoodSlot K.parts s) d → KeptName s d (noted l.dictionary_slots n d)
    unfolding noted
    noted_keeps [] k h = record { name = nothing; slots = h; room = λ r. r }
    noted_keeps (b ∷ n) {s} {d} k h =
        choose (KeptName s d) (leb (length (slotted (b ∷ n) d)) l.dictionary_slots) (some (b ∷ n), slotted (b ∷ n) d) (none, d)
        (λ t. record { name = just k; slots = slotted_good (b ∷ n) h; room = λ r. leb→le _ _ t })
        (λ t. record { name = nothing; slots = h; room = λ r. r })

    handling_keeps : (e : Error) {c : List ℕ} {left : List Frame} {h : Value} {m : Machine}
        → Fit K m
        → K.parts.numbers.Spelling c
        → All (GoodFrame K.parts m.store) left
        → Good K.parts m.store h
        → length left < l.exec_slots
        → Fit K (handling l h e c left m) × Stays l m (handling l h e c left m)
    unfolding handling with_latest with_dictionary with_exec
    handling_keeps e {c} {left} {h} {m} f k frames good room =
        let x = noted_keeps (error_text e) (error_spelled K.parts e) f.parts.dictionary in
        let y = noted_keeps c k x.slots in (
          with_latest_lem (with_dictionary_lem (with_exec_lem f (cons (record { held = good }) frames)) y.slots) (record { errorname = x.name; command = y.name }),
          record { dictionary = λ r. y.room (x.room r); exec = room; stack = λ r. r; log = λ r. r },
        )

    failing_keeps : (σ : State) (at next : ℕ) (e : Error) {c : List ℕ} {left : List Frame} {o : Option Value}
        → Fit K σ.machine
        → K.parts.numbers.Spelling c
        → All (GoodFrame K.parts σ.machine.store) left
        → Maybe (Good K.parts σ.machine.store) o
        → KeptStep K l σ.machine (failing l σ at next left e c o)
    unfolding failing unmoved
    failing_keeps σ at next e f k frames nothing = stuck k refl
    failing_keeps σ at next e {left = left} f k frames (just good) =
        choose (KeptStep K l σ.machine) (leb (suc (length left)) l.exec_slots) _ _
        (λ t.
        let h = handling_keeps e f k frames good (leb→le _ _ t) in
        went h.0 h.1)
        (λ t. stuck k refl)

    ended_keeps : (σ : State) (at next : ℕ) {c : List ℕ} {left : List Frame} {r : Result Machine}
        → Fit K σ.machine
        → K.parts.numbers.Spelling c
        → All (GoodFrame K.parts σ.machine.store) left
        → Gives Roomy r
        → KeptStep K l σ.machine (ended l σ at next left c r)
    unfolding ended
    ended_keeps σ at next f k frames (gives h) = went h.0 (within_stays h.1)
    ended_keeps σ at next f k frames (fails {e = e}) = failing_keeps σ at next e f k frames (lookup_good (error_text e) f.parts.handlers)

    moved_keeps : (σ : State) (at next : ℕ) {left : List Frame} {v : Move}
        → Fit K σ.machine
        → All (GoodFrame K.parts σ.machine.store) left
        → KeptMove v
        → KeptStep K l σ.machine (moved l σ at next left v)
    unfolding moved
    moved_keeps σ at next f frames k = ended_keeps σ at next f k.command frames (gives_then k.result (λ m h. room_for_keeps σ.machine m h))

    token_keeps : (σ : State) (start : ℕ) {s : List Object} {r : Lexing Taken} → Fit K σ.machine → Gives (FitTaken s) r → KeptStep K l σ.machine (token_step l σ start r)
    unfolding token_step unmoved
    token_keeps σ start f (gives {a = t} k) = moved_keeps σ start t.after f nil (token_move_keeps t k)
    token_keeps σ start f fails = unread refl

    module _ (script : List ℕ) (bytes : All K.parts.numbers.Byte script) (short : K.parts.numbers.Size (length script)) where
      step_on_keeps : (σ : State) {fs : List Frame} → All (GoodFrame K.parts σ.machine.store) fs → Ready K σ.machine → KeptStep K l σ.machine (step_on l script σ fs)
      unfolding step_on with_exec
      step_on_keeps σ (cons {a = f} p ps) h = moved_keeps σ σ.at σ.next h.fit (passed_good f p ps) (resume_keeps f _ p (ready_exec h ps))
      step_on_keeps σ nil h = token_keeps σ (skip script σ.next) h.fit (take_token_keeps script bytes short (skip script σ.next) σ.machine h)

      pub step_keeps : (σ : State) → K.parts.numbers.Size (length σ.machine.stack) → Fit K σ.machine → KeptStep K l σ.machine (step l script σ)
      unfolding step
      step_keeps σ d h = step_on_keeps σ h.parts.exec (record { fit = h; deep = d })

  -- A step that goes on.
  pub step_goes : (l : Limits) (script : List ℕ) (σ τ : State)
      → All K.parts.numbers.Byte script
      → K.parts.numbers.Size (length script)
      → K.parts.numbers.Size (length σ.machine.stack)
      → step l script σ ≡ goes τ
      → Fit K σ.machine
      → Fit K τ.machine
  step_goes l script σ τ bytes short deep e h = by (subst (KeptStep K l σ.machine) e (step_keeps l script bytes short σ deep h))
    where
      by : KeptStep K l σ.machine (goes τ) → Fit K τ.machine
      by (went g w) = g
