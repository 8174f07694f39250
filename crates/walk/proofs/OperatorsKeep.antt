-- Every operator keeps a property: it pops operands, and makes of them values, frames and objects that ask no more.
-- Assumes nothing.
use mathlib.Core.Path.{◌≡◌, refl, ◌∙◌}
use mathlib.Core.Bool.{Bool, true, false}
use mathlib.Core.List.{List, [], ◌∷◌}
use mathlib.Core.Option.{Option}
use Prim.Native.Nat.{ℕ, ◌≤◌}
use native.Mathlib.Omega.{arith}
use lib.IntN.{ℤ}
use lib.Bits.{and_lt, or_lt, xor_lt}
use lib.Dec.{leb→le}
use lib.ListN.{length, length-replicate}
use Rattle.semantics.specs.Text.{same}
use Rattle.semantics.specs.declared.Error.{Error}
use Rattle.semantics.specs.Values.{Result, ok, Value, null, string, array, Object, elements, text, current}
use Rattle.semantics.specs.Machine.{Machine, Frame, pending, with_stack, with_exec, with_store, with_dictionary, halt, push, enter, object, bytes_of, make, made, with_read_only, protect, intern}
use Rattle.semantics.specs.Printing.{stringval}
use Rattle.semantics.specs.StackOperators.{Operator, dup, exch, pop, index, copy, modulo, roll}
use Rattle.semantics.specs.NumberOperators.{arithmetic, arithmetic1, bitshift, pegs, connective, negation, equality, comparison}
use Rattle.semantics.specs.ControlOperators.{def, load, bound, bind, exec, if', ifelse, loop, repeat, for, exit, continue, stop, onerror, errorname, command}
use Rattle.semantics.specs.ObjectOperators.{push_new, array', string', mark', close, length', get, put, size, part, redirect, getinterval, putinterval, aload, astore, readonly}
use Rattle.semantics.specs.TextOperators.{cvs, convert, cvn, print, echo, echostack}
use Rattle.semantics.specs.Operators.{Entry, ◌is◌, table, find, perform}
use Rattle.semantics.specs.ResultLaws.{Gives, gives, fails, gives_then, gives_check, choose, choose_cond}
use Rattle.semantics.specs.ListLaws.{All, nil, cons, ◌&◌, Maybe, just, gives_given, all_append, all_take, all_drop, all_reverse, all-getElem?, all_replicate}
use Rattle.semantics.proofs.PegLaws.{ones_small, lowest_finds, highest_finds, found_small}
use Rattle.walk.specs.Objects.{is_string}
use Rattle.walk.specs.Parts.{Bitwise, Parts, Good, a_truth, a_null, a_mark, a_name, a_string, an_array, GoodFrame, GoodObject}
use Rattle.walk.proofs.Parts.{array_object, text_object, lookup_good, assign_good, name_or_null_good}
use Rattle.walk.proofs.Property.{Property, Fit, gives_each, with_stack_lem, with_exec_lem, with_dictionary_lem, with_handler, interned, written, halted, pushed, entered, protected, maked, changed, object_good, changed_pushed, popped1, popped2, popped3, popped4}
use Rattle.walk.proofs.Operands.{word_good, shift_good, pegs_good, length_good, logical2_good, negated_good, new_length_size, array_id_there, procedure_id_there, string_id_there, object_id_there, object_id_redirects, as_executable_good, above_mark_good, from_loop_good, got_good, bound_good, current_bytes, stringval_bytes}
use Rattle.walk.proofs.Objects.{bind_alike, astore_alike, cvs_alike, bind_good, astore_good, cvs_good, part_good, put_into_good, put_all_good}

part_kind : (start n : ℕ) (o : Object) → is_string (part start n o) ≡ is_string o
unfolding part
part_kind start n (elements vs) = refl
part_kind start n (text bs) = refl

-- ---- new objects

module _ {A : Parts} (m : Machine) where
  pub new_array_lem : (x : Bool) (vs : List Value) → Good A (make (elements vs) m).store (array x (made m))
  unfolding make made with_store
  new_array_lem x vs = an_array (A.references.new m.store (elements vs) false (λ q. refl))

  pub new_string : (bs : List ℕ) → Good A (make (text bs) m).store (string (made m))
  unfolding make made with_store
  new_string bs = a_string (A.references.new m.store (text bs) true (λ q. refl))

-- A part is of the kind of the whole.
new_part : (A : Parts) (m : Machine) (start n i : ℕ) (b : Bool)
    → A.references.Reference m.store (i, b)
    → A.references.Reference (make (part start n (object m i)) m).store (made m, b)
unfolding make made with_store object
new_part A m start n i b h = A.references.new m.store _ b (λ q. part_kind start n _ ∙ A.references.kind q m.store i b h)

module _ (K : Property) where
  -- The items before it may be as many as the elements of an object.
  abbrev pub Keeps : Operator → Type 0
  Keeps f = (m : Machine) → Fit K m → K.parts.numbers.Size (length m.stack) → Gives (Fit K) (f m)

  -- ---- stack

  dup_keeps : Keeps dup
  unfolding dup push with_stack
  dup_keeps m h d = gives_then (popped1 h) (λ p k. gives (pushed (pushed k.1 k.0) k.0))

  exch_keeps : Keeps exch
  unfolding exch push with_stack
  exch_keeps m h d = gives_then (popped2 h) (λ p k. gives (pushed (pushed k.2 k.1) k.0))

  pop_keeps : Keeps pop
  unfolding pop
  pop_keeps m h d = gives_then (popped1 h) (λ p k. gives k.1)

  index_keeps : Keeps index
  unfolding index
  index_keeps m h d =
      gives_then (popped1 h)
      (λ p k. gives_each _
      (λ z. gives_each _ (λ n. gives_then (gives_given (all-getElem? k.1.parts.stack n) _) (λ v s. gives (pushed k.1 s)))))

  copy_keeps : Keeps copy
  unfolding copy
  copy_keeps m h d =
      gives_then (popped1 h)
      (λ p k.
      let s = k.1.parts.stack in
      gives_each _ (λ z. gives_each _ (λ n. gives_each _ (λ u. gives (with_stack_lem k.1 (all_append (all_take n s) s))))))

  roll_keeps : Keeps roll
  unfolding roll
  roll_keeps m h d =
      gives_then (popped2 h)
      (λ p k. gives_each _
      (λ z. gives_each _
      (λ y. gives_each _
      (λ n. gives_each _
      (λ u.
      let s = k.2.parts.stack in
      let items = all_take n s in
      gives (with_stack_lem k.2 (all_append (all_append (all_drop (modulo y n) items) (all_take (modulo y n) items)) (all_drop n s))))))))

  -- ---- numbers

  arithmetic_keeps : (f : ℤ → ℤ → Result ℤ) → Keeps (arithmetic f)
  unfolding arithmetic
  arithmetic_keeps f m h d =
      gives_then (popped2 h) (λ p k. gives_each _ (λ a. gives_each _ (λ b. gives_each _ (λ c. gives (pushed k.2 (word_good c))))))

  arithmetic1_keeps : (f : ℤ → ℤ) → Keeps (arithmetic1 f)
  unfolding arithmetic1
  arithmetic1_keeps f m h d = gives_then (popped1 h) (λ p k. gives_each _ (λ a. gives (pushed k.1 (word_good (f a)))))

  bitshift_keeps : Keeps bitshift
  unfolding bitshift
  bitshift_keeps m h d = gives_then (popped2 h) (λ p k. gives_each _ (λ a. gives_each _ (λ b. gives (pushed k.2 (shift_good a b)))))

  pegs_keeps : (f : ℕ → Option ℕ) → ((w : ℕ) → Maybe (λ k. k ≤ 32) (f w)) → Keeps (pegs f)
  unfolding pegs
  pegs_keeps f e m h d =
      gives_then (popped1 h) (λ p k. gives_each _ (λ a. gives_then (gives_given (e _) _) (λ v l. gives (pushed k.1 (pegs_good v l)))))

  connective_keeps : (f : ℕ → ℕ → ℕ) (g : Bool → Bool → Bool) → Bitwise f → Keeps (connective f g)
  unfolding connective
  connective_keeps f g e m h d =
      gives_then (popped2 h) (λ p k. gives_then (logical2_good f g e p.0 p.1 k.0 k.1) (λ v s. gives (pushed k.2 s)))

  negation_keeps : Keeps negation
  unfolding negation
  negation_keeps m h d = gives_then (popped1 h) (λ p k. gives_then (negated_good _) (λ v s. gives (pushed k.1 s)))

  equality_keeps : (f : Bool → Bool) → Keeps (equality f)
  unfolding equality
  equality_keeps f m h d = gives_then (popped2 h) (λ p k. gives (pushed k.2 a_truth))

  comparison_keeps : (f : ℤ → ℤ → Bool) → Keeps (comparison f)
  unfolding comparison
  comparison_keeps f m h d = gives_then (popped2 h) (λ p k. gives_each _ (λ a. gives_each _ (λ b. gives (pushed k.2 a_truth))))

  -- ---- dictionary and control

  def_keeps : Keeps def
  unfolding def
  def_keeps m h d =
      gives_then (popped2 h) (λ p k. gives_each _ (λ n. gives (with_dictionary_lem k.2 (assign_good n k.1 k.2.parts.dictionary))))

  load_keeps : Keeps load
  unfolding load
  load_keeps m h d =
      gives_then (popped1 h)
      (λ p k. gives_each _ (λ n. gives_then (gives_given (lookup_good n k.1.parts.dictionary) _) (λ v s. gives (pushed k.1 s))))

  bind_keeps : Keeps bind
  unfolding bind object
  bind_keeps m h d =
      gives_then (popped1 h)
      (λ p k. gives_then (procedure_id_there p.0 k.0)
      (λ i t. gives (changed_pushed k.1 i (λ q. bind_alike (bound p.1) _ (K.parts.references.kind q _ i false t))
      (bind_good (bound p.1) _ (bound_good k.1.parts) (object_good k.1 i))
      k.0)))

  exec_keeps : Keeps exec
  unfolding exec
  exec_keeps m h d = gives_then (popped1 h) (λ p k. gives (entered k.1 (record { held = k.0 })))

  if_keeps : Keeps if'
  unfolding if'
  if_keeps m h d =
      gives_then (popped2 h)
      (λ p k. gives_each _
      (λ b. gives (choose_cond (Fit K) b (enter (pending p.1) p.2) p.2 (λ t. entered k.2 (record { held = k.1 })) (λ t. k.2))))

  ifelse_keeps : Keeps ifelse
  unfolding ifelse
  ifelse_keeps m h d =
      gives_then (popped3 h)
      (λ p k. gives_each _
      (λ b. gives (entered k.3 (record { held = choose_cond (Good K.parts _) b p.1 p.2 (λ t. k.1) (λ t. k.2) }))))

  loop_keeps : Keeps loop
  unfolding loop
  loop_keeps m h d = gives_then (popped1 h) (λ p k. gives (entered k.1 (record { held = k.0 })))

  repeat_keeps : Keeps repeat
  unfolding repeat
  repeat_keeps m h d =
      gives_then (popped2 h) (λ p k. gives_each _ (λ z. gives_each _ (λ n. gives (entered k.2 (record { held = k.1 })))))

  for_keeps : Keeps for
  unfolding for
  for_keeps m h d =
      gives_then (popped4 h)
      (λ p k. gives_each _ (λ a. gives_each _ (λ b. gives_each _ (λ c. gives (entered k.4 (record { held = k.3 }))))))

  exit_keeps : Keeps exit
  unfolding exit
  exit_keeps m h d = by (from_loop_good h.parts.exec)
    where
      by : {l : List Frame}
          → All (GoodFrame K.parts m.store) l
          → Gives {E = Error} (Fit K) (elim l [ [] ↦ ok (halt m) | f ∷ fs ↦ ok (with_exec fs m) ])
      by nil = gives (halted h)
      by (cons p ps) = gives (with_exec_lem h ps)

  continue_keeps : Keeps continue
  unfolding continue
  continue_keeps m h d = by (from_loop_good h.parts.exec)
    where
      by : {l : List Frame}
          → All (GoodFrame K.parts m.store) l
          → Gives {E = Error} (Fit K) (elim l [ [] ↦ ok (halt m) | f ∷ fs ↦ ok (with_exec (f ∷ fs) m) ])
      by nil = gives (halted h)
      by (cons p ps) = gives (with_exec_lem h (cons p ps))

  stop_keeps : Keeps stop
  unfolding stop
  stop_keeps m h d = gives (halted h)

  -- ---- errors

  onerror_keeps : Keeps onerror
  unfolding onerror
  onerror_keeps m h d =
      gives_then (popped2 h) (λ p k. gives_each _ (λ n. gives_then (gives_check _ _) (λ u t. gives (with_handler k.2 n t k.1))))

  errorname_keeps : Keeps errorname
  unfolding errorname
  errorname_keeps m h d = gives (pushed h (name_or_null_good h.parts.latest.errorname))

  command_keeps : Keeps command
  unfolding command
  command_keeps m h d = gives (pushed h (name_or_null_good h.parts.latest.command))

  -- ---- arrays and strings

  new_pushed : {m : Machine}
      → Fit K m
      → (f : ℕ → Value) {o : Object}
      → GoodObject K.parts m.store o
      → Good K.parts (make o m).store (f (made m))
      → Fit K (push_new f o m)
  unfolding push_new
  new_pushed h f k n = pushed (maked h k) n

  array_keeps : Keeps array'
  unfolding array'
  array_keeps m h d =
      gives_then (popped1 h)
      (λ p k. gives_then (new_length_size K.parts p.0)
      (λ n l. gives (new_pushed k.1 (array false)
      (array_object (all_replicate n null a_null) (K.parts.numbers.smaller _ n (omega (arith, length-replicate n null)) l))
      (new_array_lem p.1 false _))))

  string_keeps : Keeps string'
  unfolding string'
  string_keeps m h d =
      gives_then (popped1 h)
      (λ p k. gives_then (new_length_size K.parts p.0)
      (λ n l. gives (new_pushed k.1 string
      (text_object (all_replicate n 0 (K.parts.numbers.byte 0 (omega arith))) (K.parts.numbers.smaller _ n (omega (arith, length-replicate {A = ℕ} n 0)) l))
      (new_string p.1 _))))

  mark_keeps : Keeps mark'
  unfolding mark'
  mark_keeps m h d = gives (pushed h a_mark)

  close_keeps : Keeps close
  unfolding close with_stack
  close_keeps m h d =
      gives_then (above_mark_good (length m.stack) nil h.parts.stack (omega arith))
      (λ r k. gives (new_pushed (with_stack_lem h k.1) (array false) (array_object k.0 (K.parts.numbers.smaller _ _ k.2 d)) (new_array_lem (with_stack r.1 m) false _)))

  length_keeps : Keeps length'
  unfolding length'
  length_keeps m h d = gives_then (popped1 h) (λ p k. gives_each _ (λ i. gives (pushed k.1 (length_good _ (object_good k.1 i)))))

  get_keeps : Keeps get
  unfolding get
  get_keeps m h d =
      gives_then (popped2 h)
      (λ p k. gives_each _
      (λ i. gives_each _
      (λ z. gives_each _ (λ n. gives_then (got_good _ (object_good k.2 i) n) (λ v s. gives (pushed k.2 s))))))

  put_keeps : Keeps put
  unfolding put
  put_keeps m h d =
      gives_then (popped3 h)
      (λ p k. gives_each _
      (λ i. gives_each _
      (λ z. gives_then (put_into_good _ (object_good k.3 i) _ k.2)
      (λ f s. gives_each _ (λ u. gives_then (s z) (λ o t. gives (changed k.3 i (λ q. t.0) t.1)))))))

  getinterval_keeps : Keeps getinterval
  unfolding getinterval
  getinterval_keeps m h d =
      gives_then (popped3 h)
      (λ p k. gives_then (object_id_redirects p.0 k.0)
      (λ i r. gives_each _
      (λ y. gives_each _
      (λ z. gives_each _
      (λ a. gives_each _
      (λ n. gives_each _
      (λ u. gives (new_pushed k.3 (redirect p.0) (part_good a n _ (object_good k.3 i)) (r _ _ (λ b t. new_part K.parts p.3 a n i b t))))))))))

  putinterval_keeps : Keeps putinterval
  unfolding putinterval
  putinterval_keeps m h d =
      gives_then (popped3 h)
      (λ p k. gives_each _
      (λ i. gives_each _
      (λ y. gives_each _
      (λ j. gives_then (put_all_good _ _ (object_good k.3 i) (object_good k.3 j))
      (λ f s. gives_each _
      (λ w. gives_each _
      (λ a. gives_then (gives_check _ _)
      (λ u t.
      let r = s a (leb→le _ _ t) in
      gives (changed k.3 i (λ q. r.0) r.1)))))))))

  aload_keeps : Keeps aload
  unfolding aload with_stack
  aload_keeps m h d =
      gives_then (popped1 h)
      (λ p k. gives_each _
      (λ i. gives (pushed (with_stack_lem k.1 (all_append (all_reverse (object_good k.1 i).inside) k.1.parts.stack)) k.0)))

  astore_keeps : Keeps astore
  unfolding astore with_stack object
  astore_keeps m h d =
      gives_then (popped1 h)
      (λ p k. gives_then (array_id_there p.0 k.0)
      (λ i t. gives_each _
      (λ w. gives_then (gives_check _ _)
      (λ u c.
      let o = object p.1 i in
      let s = k.1.parts.stack in
      gives (changed_pushed (with_stack_lem k.1 (all_drop (size o) s)) i
      (λ q. astore_alike o p.1.stack (K.parts.references.kind q _ i false t) (leb→le _ _ c))
      (astore_good o (object_good k.1 i) s (leb→le _ _ c))
      k.0)))))

  readonly_keeps : Keeps readonly
  unfolding readonly made protect with_read_only
  readonly_keeps m h d =
      gives_then (popped1 h)
      (λ p k. gives_then (object_id_there p.0 k.0)
      (λ i t. gives (pushed (protected k.1 i (λ q. K.parts.references.inside q _ i t.0 t.1)) k.0)))

  -- ---- conversions and output

  cvs_keeps : Keeps cvs
  unfolding cvs object
  cvs_keeps m h d =
      gives_then (popped2 h)
      (λ p k. gives_then (string_id_there p.1 k.1)
      (λ i t. gives_each _
      (λ w. gives_then (gives_check _ _)
      (λ u c.
      let o = object p.2 i in
      let written = stringval p.2 p.0 in
      gives (changed_pushed k.2 i
      (λ q. cvs_alike written o (K.parts.references.kind q _ i true t) (leb→le _ _ c))
      (cvs_good written o (object_good k.2 i) (stringval_bytes k.2 p.0 k.0) (leb→le _ _ c))
      k.1)))))

  convert_keeps : (e : Bool) → Keeps (convert e)
  unfolding convert
  convert_keeps e m h d = gives_then (popped1 h) (λ p k. gives (pushed k.1 (as_executable_good e p.0 k.0)))

  cvn_keeps : Keeps cvn
  unfolding cvn intern with_dictionary
  cvn_keeps m h d =
      gives_then (popped1 h)
      (λ p k. gives_each _
      (λ i. gives_then (gives_check _ _)
      (λ u t.
      let n = current (bytes_of (object p.1 i)) in
      gives (pushed (interned k.1 n) (a_name (K.parts.numbers.spelling n (current_bytes (object_good k.1 i).stored) (leb→le _ _ t)))))))

  print_keeps : Keeps print
  unfolding print
  print_keeps m h d = gives_then (popped1 h) (λ p k. gives_each _ (λ i. gives (written k.1 _)))

  echo_keeps : Keeps echo
  unfolding echo
  echo_keeps m h d = gives_then (popped1 h) (λ p k. gives (written k.1 _))

  echostack_keeps : Keeps echostack
  unfolding echostack
  echostack_keeps m h d = gives (written h _)

  -- ---- the table

  -- One for each entry, in the table's order.
  table_keeps : All (λ e. Keeps e.action) table
  unfolding table ◌is◌
  table_keeps =
      dup_keeps & exch_keeps & pop_keeps & index_keeps & copy_keeps & roll_keeps &
      (arithmetic_keeps _) & (arithmetic_keeps _) & (arithmetic_keeps _) & (arithmetic_keeps _) & (arithmetic_keeps _) & (arithmetic1_keeps _) &
      (arithmetic1_keeps _) & bitshift_keeps & negation_keeps & (connective_keeps _ _ (and_lt 32)) & (connective_keeps _ _ (or_lt 32)) & (connective_keeps _ _ (xor_lt 32)) &
      (equality_keeps _) & (equality_keeps _) & (comparison_keeps _) & (comparison_keeps _) & (comparison_keeps _) & (comparison_keeps _) &
      def_keeps & load_keeps & bind_keeps & exec_keeps & if_keeps & ifelse_keeps &
      loop_keeps & repeat_keeps & for_keeps & exit_keeps & continue_keeps & stop_keeps &
      array_keeps & mark_keeps & close_keeps & length_keeps & get_keeps & put_keeps &
      getinterval_keeps & putinterval_keeps & aload_keeps & astore_keeps & string_keeps & cvs_keeps &
      (convert_keeps _) & (convert_keeps _) & cvn_keeps & echo_keeps & echostack_keeps & print_keeps &
      onerror_keeps & errorname_keeps & command_keeps &
      (pegs_keeps _ (λ w. just (ones_small 32 w))) & (pegs_keeps _ (λ w. found_small (lowest_finds 32 w))) & (pegs_keeps _ (λ w. found_small (highest_finds 32 w))) & readonly_keeps & nil

  find_keeps : (n : List ℕ) {es : List Entry} → All (λ e. Keeps e.action) es → Keeps (find n es)
  unfolding find
  find_keeps n nil m h d = fails
  find_keeps n (cons {a = e} {l = es} p ps) m h d =
      choose (Gives (Fit K)) (same n e.title) (e.action m) (find n es m) (λ t. p m h d) (λ t. find_keeps n ps m h d)

  pub perform_keeps : (n : List ℕ) → Keeps (perform n)
  unfolding perform
  perform_keeps n = find_keeps n table_keeps
