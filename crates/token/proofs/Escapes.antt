-- Strings: what a byte does in each state of the reading machine, and what is left of a string at an offset.
-- Assumes nothing.
use mathlib.Core.Path.{◌≡◌, refl, sym, ap, ap₂, subst, ◌∙◌}
use mathlib.Core.Bool.{Bool, true, false, cond}
use mathlib.Core.List.{List, [], ◌∷◌, ◌++◌, append_assoc, append-nil}
use Prim.Native.Nat.{ℕ, suc, ◌+◌, ◌-◌, ◌*◌, ◌≤◌, ◌<◌}
use native.Mathlib.Numerals.{add-one}
use native.Mathlib.Omega.{arith}
use lib.ListN.{length, drop, get_or, drop_of_length-le, length-append}
use lib.Dec.{eqb}
use lib.Seq.{drop-cons}
use borrow.Author.Tests.{ne_eqb}
use Rattle.semantics.specs.Values.{ok, fault, ◌>>=◌}
use Rattle.semantics.specs.Tokens.{Lexing, is_break, is_octal, within, plain_act, octal_act, act, Quoted, quoted, quoted_on}
use Rattle.semantics.specs.Tokens as tokens
use Rattle.semantics.specs.declared.Fault.{Fault}
use Rattle.semantics.specs.declared.Fault.TheVariants.{OpenString, BadEscape}
use Rattle.token.specs.Strings.{met_is, act_is, Small, after, StringAt, Begins, CutAt, BadAt, PieceAt, JudgedAt, Unescapes}
use Rattle.token.specs.declared.quoted.Met.{Met}
use Rattle.token.specs.declared.quoted.Met.TheVariants.{Nothing, Backslash, Return, Digit, Digits}
use Rattle.token.specs.declared.quoted.Act.{Act}
use Rattle.token.specs.declared.quoted.Act.TheVariants.{Byte, Go, Close, Cut, Bad}
use Rattle.token.specs.declared.quoted.Piece.TheVariants as piece
use Rattle.token.specs.declared.quoted.StringFault.{StringFault}
use Rattle.token.specs.declared.quoted.StringFault.TheVariants as fault_of
use Rattle.std.specs.Prelude.{Ok, Err, Some, None}
use Rattle.token.proofs.Classes.{within_high}

-- ---- acts

module _ (b : ℕ) (t : Bool) (is : t ≡ is_break b) (h : b ≡ 34 → ⊥) (k : b ≡ 92 → ⊥) where
  pub plain_break : t ≡ true → tokens.cut ≡ plain_act b
  unfolding plain_act
  plain_break f = rw (ne_eqb b 34 h, ne_eqb b 92 k, sym is ∙ f)

  pub plain_byte : t ≡ false → tokens.byte b ≡ plain_act b
  unfolding plain_act
  plain_byte f = rw (ne_eqb b 34 h, ne_eqb b 92 k, sym is ∙ f)

module _ (b : ℕ) (t : Bool) (is : t ≡ within 48 51 b) (h : b ≡ 110 → ⊥) (i : b ≡ 34 → ⊥) (j : b ≡ 13 → ⊥) (k : b ≡ 10 → ⊥) where
  pub escape_octal : t ≡ true → tokens.go (tokens.octal 2 (b - 48)) ≡ act tokens.backslash b
  unfolding act
  escape_octal f = rw (ne_eqb b 110 h, ne_eqb b 34 i, ne_eqb b 13 j, ne_eqb b 10 k, sym is ∙ f)

  pub escape_bad : t ≡ false → tokens.bad ≡ act tokens.backslash b
  unfolding act
  escape_bad f = rw (ne_eqb b 110 h, ne_eqb b 34 i, ne_eqb b 13 j, ne_eqb b 10 k, sym is ∙ f)

module _ (b : ℕ) (t : Bool) (is : t ≡ is_octal b) where
  pub octal_broken : (k v : ℕ) → t ≡ false → cond (is_break b) tokens.cut tokens.bad ≡ act (tokens.octal k v) b
  unfolding act
  octal_broken k v f = rw (sym is ∙ f)

  pub octal_second : (v : ℕ) → t ≡ true → tokens.go (tokens.octal 1 (v * 8 + (b - 48))) ≡ act (tokens.octal 2 v) b
  unfolding act octal_act
  octal_second v f = rw (sym is ∙ f)

  pub octal_third : (v : ℕ) → t ≡ true → tokens.byte (v * 8 + (b - 48)) ≡ act (tokens.octal 1 v) b
  unfolding act octal_act
  octal_third v f = rw (sym is ∙ f)

pub return_break : (b : ℕ) → b ≡ 10 → tokens.go tokens.nothing ≡ act tokens.return b
unfolding act
return_break b e = rw e

pub return_plain : (b : ℕ) → (b ≡ 10 → ⊥) → plain_act b ≡ act tokens.return b
unfolding act
return_plain b h = rw (ne_eqb b 10 h)

pub nothing_plain : (b : ℕ) → plain_act b ≡ act tokens.nothing b
unfolding act
nothing_plain b = refl

-- ---- digits that write a byte

abbrev SmallAfter : tokens.Act → Type 0
SmallAfter (tokens.byte b) = Unit {0}
SmallAfter (tokens.go m) = Small m
SmallAfter tokens.close = Unit {0}
SmallAfter tokens.cut = Unit {0}
SmallAfter tokens.bad = Unit {0}

tested : (t : Bool) (x y : tokens.Act) → (t ≡ true → SmallAfter x) → SmallAfter y → SmallAfter (cond t x y)
tested true x y f h = f refl
tested false x y f h = h

always : (t : Bool) (x y : tokens.Act) → SmallAfter x → SmallAfter y → SmallAfter (cond t x y)
always t x y h = tested t x y (λ e. h)

plain_small : (b : ℕ) → SmallAfter (plain_act b)
unfolding plain_act
plain_small b = always (eqb b 34) _ _ tt (always (eqb b 92) _ _ tt (always (is_break b) _ _ tt tt))

act_small : (m : Met) (b : ℕ) → Small (met_is m) → SmallAfter (act (met_is m) b)
unfolding act octal_act
act_small Nothing b s = plain_small b
act_small Backslash b s =
    always (eqb b 110) _ _ tt
    (always (eqb b 34) _ _ tt
    (always (eqb b 13) _ _ tt
    (always (eqb b 10) _ _ tt (tested (within 48 51 b) _ _ (λ e. let h = within_high 48 51 b _ refl e in omega arith) tt))))
act_small Return b s = always (eqb b 10) _ _ tt (plain_small b)
act_small (Digit d) b s =
    tested (is_octal b) _ _ (λ e. let h = within_high 48 55 b _ refl e in omega arith) (always (is_break b) _ _ tt tt)
act_small (Digits d e) b s = always (is_octal b) _ _ tt (always (is_break b) _ _ tt tt)

-- ---- what is left

abbrev held : List ℕ → ℕ → Lexing Quoted
held bs n = ok (record { contents = bs; taken = n })

after_none : (r : Lexing Quoted) → after [] 0 r ≡ r
unfolding after
after_none (ok q) = let e : 0 + q.taken ≡ q.taken = omega arith in ap (held q.contents) e
after_none (fault e) = refl

after_after : (bs cs : List ℕ) (n m : ℕ) (r : Lexing Quoted) → after bs n (after cs m r) ≡ after (bs ++ cs) (n + m) r
unfolding after
after_after bs cs n m (ok q) =
    let e : n + (m + q.taken) ≡ n + m + q.taken = omega arith in
    ap₂ held (sym (append_assoc bs cs q.contents)) e
after_after bs cs n m (fault e) = refl

-- ---- one byte of the script

-- A byte more is taken, and gives `cs`.
counted : (cs : List ℕ) (r : Lexing Quoted) → (r >>= λ q. held (cs ++ q.contents) (suc q.taken)) ≡ after cs 1 r
unfolding after ◌>>=◌
counted cs (ok q) = let e : suc q.taken ≡ 1 + q.taken = omega arith in ap (held (cs ++ q.contents)) e
counted cs (fault e) = refl

-- The string's opening quote is at q, and the byte at `at`.
module _ (q at : ℕ) (m : tokens.Met) (b : ℕ) (s : List ℕ) where
  step_byte : (c : ℕ) → act m b ≡ tokens.byte c → quoted q at m (b ∷ s) ≡ after (c ∷ []) 1 (quoted q (suc at) tokens.nothing s)
  unfolding quoted quoted_on ◌>>=◌
  step_byte c e = rw e (counted (c ∷ []) (quoted q (suc at) tokens.nothing s))

  step_go : (n : tokens.Met) → act m b ≡ tokens.go n → quoted q at m (b ∷ s) ≡ after [] 1 (quoted q (suc at) n s)
  unfolding quoted quoted_on ◌>>=◌
  step_go n e = rw e (counted [] (quoted q (suc at) n s))

  step_close : act m b ≡ tokens.close → quoted q at m (b ∷ s) ≡ held [] 1
  unfolding quoted quoted_on
  step_close e = rw e

  step_cut : act m b ≡ tokens.cut → quoted q at m (b ∷ s) ≡ fault (OpenString q)
  unfolding quoted quoted_on
  step_cut e = rw e

  step_bad : act m b ≡ tokens.bad → quoted q at m (b ∷ s) ≡ fault (BadEscape at)
  unfolding quoted quoted_on
  step_bad e = rw e

-- ---- the next byte of a string

-- From `at` to i nothing was given, and the machine is in a state.
pub record Reading (script : List ℕ) (at i : ℕ) (m : Met) : Type 0 where
  pub so_far : (q : ℕ) → quoted q at tokens.nothing (drop at script) ≡ after [] (i - at) (quoted q i (met_is m) (drop i script))
  pub from : at ≤ i
  pub inside : i ≤ length script
  pub small : Small (met_is m)

pub reading_starts : (script : List ℕ) (at : ℕ) → at ≤ length script → Reading script at at Nothing
reading_starts script at h =
    let e : at - at ≡ 0 = omega arith in
    record {
      so_far = λ q. rw e (sym (after_none (quoted q at tokens.nothing (drop at script))));
      from = omega arith;
      inside = h;
      small = tt;
    }

module _ {script : List ℕ} {at i : ℕ} {m : Met} (r : Reading script at i m) where
  -- The count of what is taken, with one byte more.
  count : i + 1 - at ≡ i - at + 1
  count = let f = r.from in omega arith

  pub reading_ends : length script ≤ i → CutAt script at
  unfolding quoted after
  reading_ends h q = rw (drop_of_length-le script h) at (r.so_far q)

  -- What is read so far, with the byte at i.
  next : i < length script → (q : ℕ)
      → quoted q at tokens.nothing (drop at script) ≡ after [] (i - at) (quoted q i (met_is m) (get_or script i 0 ∷ drop (suc i) script))
  next h q = rw (drop-cons script i 0 h) at (r.so_far q)

  module _ (h : i < length script) {a : Act} (is : act_is a ≡ act (met_is m) (get_or script i 0)) where
    acts : (c : Act) → a ≡ c → act (met_is m) (get_or script i 0) ≡ act_is c
    acts c e = sym is ∙ ap act_is e

    pub reading_byte : {b : ℕ} → a ≡ Byte b → Begins script at (b ∷ []) (i + 1)
    reading_byte {b} e = record {
      splits = λ q.
          next h q ∙ ap (after [] (i - at)) (step_byte q i (met_is m) (get_or script i 0) (drop (suc i) script) b (acts (Byte b) e))
          ∙ after_after [] (b ∷ []) (i - at) 1 (quoted q (suc i) tokens.nothing (drop (suc i) script))
          ∙ rw (count, add-one i) refl;
      past = let f = r.from in omega arith;
      inside = omega arith;
    }

    pub reading_go : {n : Met} → a ≡ Go n → Reading script at (i + 1) n
    reading_go {n} e = record {
      so_far = λ q.
          next h q ∙ ap (after [] (i - at)) (step_go q i (met_is m) (get_or script i 0) (drop (suc i) script) (met_is n) (acts (Go n) e))
          ∙ after_after [] [] (i - at) 1 (quoted q (suc i) (met_is n) (drop (suc i) script))
          ∙ rw (count, add-one i) refl;
      from = let f = r.from in omega arith;
      inside = omega arith;
      small = subst SmallAfter (acts (Go n) e) (act_small m (get_or script i 0) r.small);
    }

    pub reading_close : a ≡ Close → StringAt script at [] (i + 1)
    unfolding after
    reading_close e = record {
      reads = λ q. next h q ∙ ap (after [] (i - at)) (step_close q i (met_is m) (get_or script i 0) (drop (suc i) script) (acts Close e)) ∙ rw count refl;
      past = let f = r.from in omega arith;
      inside = omega arith;
    }

    pub reading_cut : a ≡ Cut → CutAt script at
    unfolding after
    reading_cut e q = next h q ∙ ap (after [] (i - at)) (step_cut q i (met_is m) (get_or script i 0) (drop (suc i) script) (acts Cut e))

    pub reading_bad : a ≡ Bad → BadAt script at i
    unfolding after
    reading_bad e = record {
      reads = λ q. next h q ∙ ap (after [] (i - at)) (step_bad q i (met_is m) (get_or script i 0) (drop (suc i) script) (acts Bad e));
      inside = h;
    }

-- ---- the whole string

-- From `at` to i the string gave as many bytes as `size` says.
pub record Judging (script : List ℕ) (at i size : ℕ) : Type 0 where
  pub given : List ℕ
  pub so_far : (q : ℕ) → quoted q at tokens.nothing (drop at script) ≡ after given (i - at) (quoted q i tokens.nothing (drop i script))
  pub sized : length given ≡ size
  pub from : at ≤ i
  pub inside : i ≤ length script
  pub few : size ≤ i - at

pub judging_starts : (script : List ℕ) (at : ℕ) → at ≤ length script → Judging script at at 0
judging_starts script at h =
    let e : at - at ≡ 0 = omega arith in
    record {
      given = [];
      so_far = λ q. rw e (sym (after_none (quoted q at tokens.nothing (drop at script))));
      sized = refl;
      from = omega arith;
      inside = h;
      few = omega arith;
    }

module _ {script : List ℕ} {at i size : ℕ} (j : Judging script at i size) where
  pub judging_byte : {b next : ℕ} → PieceAt script i (Ok (piece.Byte b next)) → Judging script at next (size + 1)
  judging_byte {b} {next} B =
      let h = B.past in
      let f = j.from in
      let k = j.few in
      let n : i - at + (next - i) ≡ next - at = omega arith in
      record {
        given = j.given ++ (b ∷ []);
        so_far = λ q.
            j.so_far q ∙ ap (after j.given (i - at)) (B.splits q)
            ∙ after_after j.given (b ∷ []) (i - at) (next - i) (quoted q next tokens.nothing (drop next script))
            ∙ rw n refl;
        sized = length-append j.given (b ∷ []) ∙ rw j.sized refl;
        from = omega arith;
        inside = B.inside;
        few = omega arith;
      }

  pub judging_closed : {next : ℕ} → PieceAt script i (Ok (piece.Closed next)) → JudgedAt script at (Ok (size, next))
  unfolding after
  judging_closed {next} S =
      let h = S.past in
      let f = j.from in
      let n : i - at + (next - i) ≡ next - at = omega arith in (
        j.given,
        record {
          reads = λ q. j.so_far q ∙ ap (after j.given (i - at)) (S.reads q) ∙ ap₂ held (append-nil j.given) n;
          past = omega arith;
          inside = S.inside;
        },
        j.sized,
      )

  -- What is wrong with the rest is wrong with the string.
  pub judging_fault : (x : StringFault) → PieceAt script i (Err x) → JudgedAt script at (Err x)
  unfolding after
  judging_fault fault_of.Cut b = λ q. j.so_far q ∙ ap (after j.given (i - at)) (b q)
  judging_fault (fault_of.Bad o) b = record { reads = λ q. j.so_far q ∙ ap (after j.given (i - at)) (b.reads q); inside = b.inside }

-- ---- a string that is known to be good

contents_of : Lexing Quoted → List ℕ
contents_of (ok q) = q.contents
contents_of (fault e) = []

taken_of : Lexing Quoted → ℕ
taken_of (ok q) = q.taken
taken_of (fault e) = 0

-- A string at an offset holds one row of bytes.
pub same_string : {script : List ℕ} {at m n : ℕ} {bs cs : List ℕ} → StringAt script at bs m → StringAt script at cs n → bs ≡ cs
unfolding contents_of
same_string S T = ap contents_of (sym (S.reads 0) ∙ T.reads 0)

is_ok : Lexing Quoted → ℕ
is_ok (ok q) = 1
is_ok (fault e) = 0

never : {A : Type 0} (x : Fault) (bs : List ℕ) (n : ℕ) → fault x ≡ held bs n → A
unfolding is_ok
never x bs n e = let z : ◌≡◌ {A = ℕ} 0 1 = ap is_ok e in absurd (omega arith)

-- A string takes a byte at least.
taken_some : (q at : ℕ) (m : tokens.Met) (s : List ℕ) (bs : List ℕ) (n : ℕ) → quoted q at m s ≡ held bs n → 0 < n
unfolding quoted quoted_on taken_of ◌>>=◌
taken_some q at m [] bs n e = never _ bs n e
taken_some q at m (b ∷ s) bs n e = by (act m b) e
  where
    more : (f : Quoted → List ℕ) (r : Lexing Quoted) → (r >>= λ q. held (f q) (suc q.taken)) ≡ held bs n → 0 < n
    more f (ok q) e = let z : suc q.taken ≡ n = ap taken_of e in omega arith
    more f (fault x) e = never _ bs n e

    by : (a : tokens.Act) → quoted_on q at (λ next. quoted q (suc at) next s) a ≡ held bs n → 0 < n
    by (tokens.byte c) e = more (λ x. c ∷ x.contents) (quoted q (suc at) tokens.nothing s) e
    by (tokens.go m') e = more (λ x. x.contents) (quoted q (suc at) m' s) e
    by tokens.close e = let z : 1 ≡ n = ap taken_of e in omega arith
    by tokens.cut e = never _ bs n e
    by tokens.bad e = never _ bs n e

-- Of a string that begins with b and goes on at `next`, the rest is a string there.
rest_of : {script : List ℕ} {at b next last : ℕ} {bs : List ℕ} → Begins script at (b ∷ []) next → StringAt script at bs last
    → (rest : List ℕ) × (bs ≡ b ∷ rest) × StringAt script next rest last × (at < next)
unfolding after taken_of contents_of
rest_of {script} {at} {b} {next} {last} {bs} B S =
    let one = each 0 in
    (drop 1 bs, one.1, record { reads = λ q. (each q).0; past = one.2; inside = S.inside }, B.past)
  where
    by : (q : ℕ) (r : Lexing Quoted) → quoted q next tokens.nothing (drop next script) ≡ r → after (b ∷ []) (next - at) r ≡ held bs (last - at)
        → (quoted q next tokens.nothing (drop next script) ≡ held (drop 1 bs) (last - next)) × (bs ≡ b ∷ drop 1 bs) × (next < last)
    by q (ok x) f g =
        let t : next - at + x.taken ≡ last - at = ap taken_of g in
        let h = B.past in
        let k = S.past in
        let u : x.taken ≡ last - next = omega arith in
        let some : 0 < x.taken = taken_some q next tokens.nothing (drop next script) x.contents x.taken f in
        let c : b ∷ x.contents ≡ bs = ap contents_of g in
        (f ∙ ap₂ held (ap (drop 1) c) u, sym c ∙ ap (λ (l : List ℕ). b ∷ l) (ap (drop 1) c), omega arith)
    by q (fault x) f g = never x bs (last - at) g

    each : (q : ℕ) → (quoted q next tokens.nothing (drop next script) ≡ held (drop 1 bs) (last - next)) × (bs ≡ b ∷ drop 1 bs) × (next < last)
    each q = by q (quoted q next tokens.nothing (drop next script)) refl (sym (B.splits q) ∙ S.reads q)

-- No fault is met in a string that is known to be good.
unescape_never : {script : List ℕ} {at : ℕ} (f : Fault) → quoted 0 at tokens.nothing (drop at script) ≡ fault f → Unescapes script at None
unescape_never {script} {at} f b bs last S = never f bs (last - at) (sym b ∙ S.reads 0)

module _ {script : List ℕ} {at : ℕ} where
  pub unescape_byte : {b next : ℕ} → PieceAt script at (Ok (piece.Byte b next)) → Unescapes script at (Some (b, next))
  unescape_byte B bs last S = rest_of B S

  pub unescape_closed : {next : ℕ} → PieceAt script at (Ok (piece.Closed next)) → Unescapes script at None
  unescape_closed C bs last S = same_string S C

  pub unescape_fault : (x : StringFault) → PieceAt script at (Err x) → Unescapes script at None
  unescape_fault fault_of.Cut b = unescape_never (OpenString 0) (b 0)
  unescape_fault (fault_of.Bad o) b = unescape_never (BadEscape o) (b.reads 0)
