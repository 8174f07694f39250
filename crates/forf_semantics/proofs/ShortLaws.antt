-- Every word that a machine holds has at most 31 bytes, every integer has 32 bits, and the memory keeps its size: tokens give no others, and
-- the operators only move items about and make integers of 32 bits. What is said of integers is a parameter, Q: nothing for the outcome's
-- length, 32 bits for `integers_kept`.
-- Assumes nothing.
use Rattle.std.specs.Prelude.{◌≡◌, Bool, true, false, ℤ, length, set, ltb, eqb}
use Rattle.std.proofs.Common.{◌∙◌, arith, mod-lt}
use mathlib.Core.List.{List, [], ◌∷◌}
use Prim.Native.Nat.{ℕ, zero, suc, ◌+◌, ◌*◌, ◌%◌, ◌^◌, ◌≤◌, ◌<◌}
use Rattle.std.proofs.Math.ListN.{length-set}
use Rattle.std.specs.Int.Bits.{bit_and, bit_or, bit_xor}
use Rattle.std.specs.Int.{w32}
use mir.ValLaws.{Fits-and, Fits-or, Fits-xor}
use Rattle.semantics.specs.Words.{shift}
use Rattle.semantics.specs.Text.{same}
use Rattle.semantics.specs.ResultLaws.{choose, choose_cond}
use Rattle.semantics.specs.ListLaws.{All, nil, cons, ◌&◌, all_set, all_get_d}
use Rattle.semantics.specs.Values.{ok, fault}
use Rattle.forf_semantics.specs.Tokens.{Token}
use Rattle.forf_semantics.specs.Items.{Item, number, word, group, Items, none, ◌then◌, Group, Reader, skip, onto, element, read_group, group_at, Taken, taken, token_item, take_token}
use Rattle.forf_semantics.specs.Machine.{Value, integer, substack, Frame, pending, running, Machine, with_stack, with_exec, with_memory, push, enter, pop1, pop2, pop3, int, body}
use Rattle.forf_semantics.specs.Operators.{Operator, unary, binary, division, wrapping, absolute, inverted, flag, compared, left, right, if', ifelse, pop, dup, exch, mset, mget, Entry, ◌is◌, table, find, perform}
use Rattle.semantics.specs.ResultLaws.{Gives, gives, fails, gives_then, gives_any}
use Rattle.forf_semantics.specs.TokenLaws.{Fits}
use Rattle.forf_semantics.proofs.TokenLaws.{word_below, token_fits}
use Rattle.forf_semantics.specs.declared.Error.{Error}
use Rattle.forf_semantics.specs.declared.Error.TheVariants.{StackUnderflow}
use Rattle.forf_semantics.specs.ShortLaws.{Closed}

-- ---- integers of 32 bits

inverted_below : (a : ℕ) → inverted a < 2 ^ 32
unfolding inverted
inverted_below a = omega arith

flag_below : (t : Bool) → flag t < 2 ^ 32
unfolding flag
flag_below true = omega arith
flag_below false = omega arith

absolute_below : (a : ℕ) → absolute a < 2 ^ 32
unfolding absolute
absolute_below a = word_below _

wrapping_below : (f : ℤ → ℤ → ℤ) (b a : ℕ) → wrapping f b a < 2 ^ 32
unfolding wrapping
wrapping_below f b a = word_below _

compared_below : (f : ℤ → ℤ → Bool) (b a : ℕ) → compared f b a < 2 ^ 32
unfolding compared
compared_below f b a = flag_below _

and_below : (b a : ℕ) → b < 2 ^ 32 → a < 2 ^ 32 → bit_and b a < 2 ^ 32
and_below b a h k = (Fits-and {w = w32} b a (record { fits = h })).fits

or_below : (b a : ℕ) → b < 2 ^ 32 → a < 2 ^ 32 → bit_or b a < 2 ^ 32
or_below b a h k = (Fits-or {w = w32} b a (record { fits = h }) (record { fits = k })).fits

xor_below : (b a : ℕ) → b < 2 ^ 32 → a < 2 ^ 32 → bit_xor b a < 2 ^ 32
xor_below b a h k = (Fits-xor {w = w32} b a (record { fits = h }) (record { fits = k })).fits

left_below : (b a : ℕ) → left b a < 2 ^ 32
unfolding left shift
left_below b a =
    choose (λ n. n < 2 ^ 32) (ltb a 32) (b * 2 ^ a % 2 ^ 32) 0 (λ t. mod-lt (b * 2 ^ a) (omega arith)) (λ t. omega arith)

right_below : (b a : ℕ) → right b a < 2 ^ 32
unfolding right
right_below b a = word_below _

pub closed_any : Closed (λ w. Unit {0})
closed_any = record { small = λ w h. tt; ands = λ b a h k. tt; ors = λ b a h k. tt; xors = λ b a h k. tt }

pub closed_below : Closed (λ w. w < 2 ^ 32)
closed_below = record { small = λ w h. h; ands = and_below; ors = or_below; xors = xor_below }

module _ (Q : ℕ → Type 0) where
  -- ---- short items

  mutual
    pub data ShortItem : Item → Type 0 where
      a_number : {w : ℕ} → Q w → ShortItem (number w)
      a_word : {n : List ℕ} → length n ≤ 31 → ShortItem (word n)
      a_group : {xs : Items} → Short xs → ShortItem (group xs)

    pub data Short : Items → Type 0 where
      no_item : Short none
      an_item : {x : Item} {xs : Items} → ShortItem x → Short xs → Short (x then xs)

  -- ---- machines that hold only short items, with a memory of so many slots

  pub data ShortValue : Value → Type 0 where
    an_integer : {w : ℕ} → Q w → ShortValue (integer w)
    a_substack : {xs : Items} → Short xs → ShortValue (substack xs)

  pub data ShortFrame : Frame → Type 0 where
    a_pending : {xs : Items} → Short xs → ShortFrame (pending xs)
    a_running : {xs : Items} → Short xs → ShortFrame (running xs)

  pub record Tame (slots : ℕ) (m : Machine) : Type 0 where
    pub stack : All ShortValue m.stack
    pub exec : All ShortFrame m.exec
    pub memory : length m.memory ≡ slots
    pub stored : All Q m.memory

  module _ {slots : ℕ} {m : Machine} (h : Tame slots m) where
    pub with_stack_lem : {s : List Value} → All ShortValue s → Tame slots (with_stack s m)
    unfolding with_stack
    with_stack_lem k = record { stack = k; exec = h.exec; memory = h.memory; stored = h.stored }

    pub with_exec_lem : {e : List Frame} → All ShortFrame e → Tame slots (with_exec e m)
    unfolding with_exec
    with_exec_lem k = record { stack = h.stack; exec = k; memory = h.memory; stored = h.stored }

    pub kept : (i w : ℕ) → Q w → Tame slots (with_memory (set m.memory i w) m)
    unfolding with_memory
    kept i w k = record { stack = h.stack; exec = h.exec; memory = length-set m.memory i w ∙ h.memory; stored = all_set h.stored i k }

    pub pushed : {v : Value} → ShortValue v → Tame slots (push v m)
    unfolding push
    pushed k = with_stack_lem (cons k h.stack)

    pub entered : {f : Frame} → ShortFrame f → Tame slots (enter f m)
    unfolding enter
    entered k = with_exec_lem (cons k h.exec)

  -- ---- operands

  module _ (slots : ℕ) where
    abbrev Popped1 : Value × Machine → Type 0
    Popped1 p = ShortValue p.0 × Tame slots p.1

    abbrev Popped2 : Value × Value × Machine → Type 0
    Popped2 p = ShortValue p.0 × ShortValue p.1 × Tame slots p.2

    abbrev Popped3 : Value × Value × Value × Machine → Type 0
    Popped3 p = ShortValue p.0 × ShortValue p.1 × ShortValue p.2 × Tame slots p.3

  module _ {slots : ℕ} {m : Machine} (h : Tame slots m) where
    popped1 : Gives (Popped1 slots) (pop1 m)
    unfolding pop1
    popped1 = by h.stack
      where
        by : {s : List Value} → All ShortValue s → Gives {E = Error} (Popped1 slots) (elim s [ [] ↦ fault StackUnderflow | x ∷ s ↦ ok (x, with_stack s m) ])
        by nil = fails
        by (cons p ps) = gives (p, with_stack_lem h ps)

    popped2 : Gives (Popped2 slots) (pop2 m)
    unfolding pop2
    popped2 = by h.stack
      where
        by : {s : List Value}
            → All ShortValue s
            → Gives {E = Error} (Popped2 slots) (elim s [
              | [] ↦ fault StackUnderflow
              | x ∷ s ↦ elim s [ [] ↦ fault StackUnderflow | y ∷ r ↦ ok (y, x, with_stack r m) ]
            ])
        by nil = fails
        by (cons p nil) = fails
        by (cons p (cons q ps)) = gives (q, p, with_stack_lem h ps)

    popped3 : Gives (Popped3 slots) (pop3 m)
    unfolding pop3
    popped3 = by h.stack
      where
        by : {s : List Value}
            → All ShortValue s
            → Gives {E = Error} (Popped3 slots) (elim s [
              | [] ↦ fault StackUnderflow
              | x ∷ s ↦ elim s [
                | [] ↦ fault StackUnderflow
                | y ∷ r ↦ elim r [ [] ↦ fault StackUnderflow | z ∷ q ↦ ok (z, y, x, with_stack q m) ]
              ]
            ])
        by nil = fails
        by (cons p nil) = fails
        by (cons p (cons q nil)) = fails
        by (cons p (cons q (cons r ps))) = gives (r, q, p, with_stack_lem h ps)

  int_short : (v : Value) → ShortValue v → Gives Q (int v)
  unfolding int
  int_short (integer w) (an_integer h) = gives h
  int_short (substack xs) h = fails

  body_short : (v : Value) → ShortValue v → Gives Short (body v)
  unfolding body
  body_short (integer w) h = fails
  body_short (substack xs) (a_substack h) = gives h

-- ---- what tokens give, and what operators keep

module _ (Q : ℕ → Type 0) (closed : Closed Q) where
  abbrev ShortGroup : Group → Type 0
  ShortGroup g = Short Q g.items

  abbrev GivesShort : Reader → Type 0
  GivesShort rest = (depth offset : ℕ) → Gives ShortGroup (rest depth offset)

  onto_short : (x : Item) (g : Group) → ShortItem Q x → ShortGroup g → Gives ShortGroup (onto x g)
  unfolding onto
  onto_short x g h k = gives (an_item h k)

  element_short : (rest : Reader) → GivesShort rest → (depth after left size : ℕ) (t : Token) → Fits left t size → Gives ShortGroup (element rest depth after t)
  unfolding element
  element_short rest f depth after left size (Token.integer w) k = gives_then (f depth after) (λ g h. onto_short (number w) g (a_number (closed.small _ k.2)) h)
  element_short rest f depth after left size (Token.word n) k = gives_then (f depth after) (λ g h. onto_short (word n) g (a_word k.2) h)
  element_short rest f zero after left size Token.open_brace k = fails
  element_short rest f (suc d) after left size Token.open_brace k =
      gives_then (f d after) (λ i h. gives_then (f (suc d) i.after) (λ g j. onto_short (group i.items) g (a_group h) j))
  element_short rest f depth after left size Token.close_brace k = gives no_item
  element_short rest f depth after left size Token.end k = fails

  group_short : (script : List ℕ) (fuel : ℕ) → GivesShort (read_group script fuel)
  unfolding read_group
  group_short script zero depth offset = fails
  group_short script (suc fuel) depth offset =
      gives_then (token_fits script (skip script offset))
      (λ l k. element_short (read_group script fuel) (group_short script fuel) depth (skip script offset + l.size) _ l.size l.token k)

  token_item_short : (script : List ℕ) (after left size : ℕ) (t : Token) → Fits left t size → Gives (λ (k : Taken). ShortItem Q k.item) (token_item script after t)
  unfolding token_item taken group_at
  token_item_short script after left size (Token.integer w) k = gives (a_number (closed.small _ k.2))
  token_item_short script after left size (Token.word n) k = gives (a_word k.2)
  token_item_short script after left size Token.open_brace k = gives_then (group_short script (length script) 15 after) (λ g h. gives (a_group h))
  token_item_short script after left size Token.close_brace k = fails
  token_item_short script after left size Token.end k = fails

  pub take_token_short : (script : List ℕ) (start : ℕ) → Gives (λ (k : Taken). ShortItem Q k.item) (take_token script start)
  unfolding take_token
  take_token_short script start = gives_then (token_fits script start) (λ l k. token_item_short script (start + l.size) _ l.size l.token k)

  -- ---- the operators

  module _ (slots : ℕ) where
    abbrev pub Keeps : Operator → Type 0
    Keeps f = (m : Machine) → Tame Q slots m → Gives (Tame Q slots) (f m)

    unary_keeps : (f : ℕ → ℕ) → ((a : ℕ) → Q a → Q (f a)) → Keeps (unary f)
    unfolding unary
    unary_keeps f i m h = gives_then (popped1 Q h) (λ p k. gives_then (int_short Q _ k.0) (λ a u. gives (pushed Q k.1 (an_integer (i a u)))))

    binary_keeps : (f : ℕ → ℕ → ℕ) → ((b a : ℕ) → Q b → Q a → Q (f b a)) → Keeps (binary f)
    unfolding binary
    binary_keeps f i m h =
        gives_then (popped2 Q h)
        (λ p k. gives_then (int_short Q _ k.0) (λ b v. gives_then (int_short Q _ k.1) (λ a u. gives (pushed Q k.2 (an_integer (i b a v u))))))

    division_keeps : (f : ℤ → ℤ → ℤ) → Keeps (division f)
    unfolding division
    division_keeps f m h =
        gives_then (popped2 Q h)
        (λ p k. gives_then (gives_any _)
        (λ b v. gives_then (gives_any _) (λ a u. gives_then (gives_any _) (λ c w. gives (pushed Q k.2 (an_integer (closed.small _ (word_below _))))))))

    if_keeps : Keeps if'
    unfolding if'
    if_keeps m h =
        gives_then (popped2 Q h)
        (λ p k. gives_then (gives_any _)
        (λ a u. gives_then (body_short Q _ k.1)
        (λ xs s. gives (choose_cond (Tame Q slots) (eqb a 0) _ _ (λ t. k.2) (λ t. entered Q k.2 (a_pending s))))))

    ifelse_keeps : Keeps ifelse
    unfolding ifelse
    ifelse_keeps m h =
        gives_then (popped3 Q h)
        (λ p k. gives_then (gives_any _)
        (λ a u. gives_then (body_short Q _ k.1)
        (λ xs s. gives_then (body_short Q _ k.2)
        (λ ys r. gives (entered Q k.3 (a_pending (choose_cond (Short Q) (eqb a 0) ys xs (λ t. r) (λ t. s))))))))

    pop_keeps : Keeps pop
    unfolding pop
    pop_keeps m h = gives_then (popped1 Q h) (λ p k. gives k.1)

    dup_keeps : Keeps dup
    unfolding dup
    dup_keeps m h = gives_then (popped1 Q h) (λ p k. gives (pushed Q (pushed Q k.1 k.0) k.0))

    exch_keeps : Keeps exch
    unfolding exch
    exch_keeps m h = gives_then (popped2 Q h) (λ p k. gives (pushed Q (pushed Q k.2 k.1) k.0))

    mset_keeps : Keeps mset
    unfolding mset
    mset_keeps m h =
        gives_then (popped2 Q h)
        (λ p k. gives_then (int_short Q _ k.0)
        (λ b v. gives_then (gives_any _) (λ a u. gives_then (gives_any _) (λ i w. gives (kept Q k.2 i b v)))))

    mget_keeps : Keeps mget
    unfolding mget
    mget_keeps m h =
        gives_then (popped1 Q h)
        (λ p k. gives_then (gives_any _)
        (λ a u. gives_then (gives_any _) (λ i w. gives (pushed Q k.1 (an_integer (all_get_d k.1.stored i (closed.small 0 (omega arith))))))))

    -- One for each entry, in the table's order.
    table_keeps : All (λ e. Keeps e.action) table
    unfolding table ◌is◌
    table_keeps =
        (unary_keeps _ (λ a h. closed.small _ (inverted_below a))) & (unary_keeps _ (λ a h. closed.small _ (flag_below _))) & (unary_keeps _ (λ a h. closed.small _ (absolute_below a))) &
        (binary_keeps _ (λ b a h k. closed.small _ (wrapping_below _ b a))) & (binary_keeps _ (λ b a h k. closed.small _ (wrapping_below _ b a))) & (binary_keeps _ (λ b a h k. closed.small _ (wrapping_below _ b a))) & (division_keeps _) & (division_keeps _) &
        (binary_keeps _ closed.ands) & (binary_keeps _ closed.ors) & (binary_keeps _ closed.xors) & (binary_keeps _ (λ b a h k. closed.small _ (left_below b a))) & (binary_keeps _ (λ b a h k. closed.small _ (right_below b a))) &
        (binary_keeps _ (λ b a h k. closed.small _ (compared_below _ b a))) & (binary_keeps _ (λ b a h k. closed.small _ (compared_below _ b a))) & (binary_keeps _ (λ b a h k. closed.small _ (compared_below _ b a))) & (binary_keeps _ (λ b a h k. closed.small _ (compared_below _ b a))) &
        (binary_keeps _ (λ b a h k. closed.small _ (flag_below _))) & (binary_keeps _ (λ b a h k. closed.small _ (flag_below _))) &
        if_keeps & ifelse_keeps & pop_keeps & dup_keeps & exch_keeps & mset_keeps & mget_keeps & nil

    find_keeps : (n : List ℕ) {es : List Entry} → All (λ e. Keeps e.action) es → Keeps (find n es)
    unfolding find
    find_keeps n nil m h = fails
    find_keeps n (cons {a = e} {l = es} p ps) m h =
        choose (Gives (Tame Q slots)) (same n e.title) (e.action m) (find n es m) (λ t. p m h) (λ t. find_keeps n ps m h)

    pub perform_keeps : (n : List ℕ) → Keeps (perform n)
    unfolding perform
    perform_keeps n = find_keeps n table_keeps
