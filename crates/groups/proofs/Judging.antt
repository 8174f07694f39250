-- The loop that judges a brace group: what is known of the rest of the group gives what is known of the whole. A token takes at least as many bytes as the
-- cells that it wants and one more, so the sums stay below the offset.
-- Assumes nothing.
use mathlib.Core.Path.{◌≡◌, refl, sym, ◌∙◌, subst}
use mathlib.Core.List.{List, [], ◌∷◌}
use Prim.Native.Nat.{ℕ, zero, suc, ◌+◌, ◌-◌, ◌/◌, ◌≤◌, ◌<◌}
use native.Mathlib.Omega.{arith}
use lib.ListN.{length, drop}
use Rattle.semantics.specs.Tokens.{Lexing, Met, nothing, Act, byte, go, close, cut, bad, act, Quoted, quoted_on, quoted, Token, lex, lexeme}
use Rattle.semantics.specs.Values.{Value, Attempt, ok, fault, ◌>>=◌, cells}
use Rattle.semantics.specs.Machine.{Machine, made}
use Rattle.semantics.specs.Held.{sum_of}
use Rattle.semantics.specs.Groups.{taken, skip, opened, element, group}
use Rattle.semantics.proofs.TokenLaws.{skip_le}
use Rattle.semantics.specs.ResultLaws.{Gives, gives, fails, gives_then}
use Rattle.semantics.specs.declared.Fault.{Fault}
use Rattle.semantics.specs.declared.Fault.TheVariants.{BadBrace, OverLimit}
use Rattle.token.specs.Lexing.{Lexes, TokenAt, BraceToken}
use Rattle.token.specs.Strings.{StringAt}
use Rattle.token.specs.declared.Token.TheVariants as read
use Rattle.groups.specs.Nodes.{Nodes, end, leaf, inner, count, wanted}
use Rattle.groups.specs.Parsing.{Parsed, closes, token, opens, Faults, JudgedAs, WeighedAs}
use Rattle.groups.specs.declared.Judged.{Judged}
use Rattle.std.specs.Prelude.{Ok, Err}
use Rattle.groups.specs.declared.Weight.TheVariants.{Element, Open, Close, End}
use Rattle.groups.proofs.Trees.{group_token, group_parsed, element_leaf}

-- ---- a string takes more bytes than it holds

abbrev Shorter : Quoted → Type 0
Shorter q = length q.contents < q.taken

shorter_on : (start at : ℕ) (rest : Met → Lexing Quoted) → ((next : Met) → Gives Shorter (rest next)) → (a : Act) → Gives Shorter (quoted_on start at rest a)
unfolding quoted_on
shorter_on start at rest f (byte c) = gives_then (f nothing) (λ q h. let l : suc (length q.contents) < suc q.taken = omega arith in gives l)
shorter_on start at rest f (go next) = gives_then (f next) (λ q h. let l : length q.contents < suc q.taken = omega arith in gives l)
shorter_on start at rest f close = let l : 0 < 1 = omega arith in gives l
shorter_on start at rest f cut = fails
shorter_on start at rest f bad = fails

quoted_shorter : (start at : ℕ) (met : Met) (s : List ℕ) → Gives Shorter (quoted start at met s)
unfolding quoted
quoted_shorter start at met [] = fails
quoted_shorter start at met (b ∷ s) =
    shorter_on start at (λ next. quoted start (suc at) next s) (λ next. quoted_shorter start (suc at) next s) (act met b)

gives_at : {E A : Type 0} {P : A → Type 0} {r : Attempt E A} {a : A} → Gives P r → r ≡ ok a → P a
gives_at {E} {P = P} g e = by (subst (Gives P) e g)
  where
    by : {a : _} → Gives {E = E} P (ok a) → P a
    by (gives p) = p

pub string_shorter : {script : List ℕ} {at next : ℕ} {bs : List ℕ} → StringAt script at bs next → length bs < next - at
string_shorter {script} {at} s = gives_at (quoted_shorter 0 at nothing (drop at script)) (s.reads 0)

-- ---- faults

module _ (script : List ℕ) (brace depth at : ℕ) (le : at ≤ length script) {e : Fault} where
  -- What the first token comes to, the group comes to.
  faults_on : ((fuel i : ℕ) (vs : List Value) (m : Machine) → length script < at + suc fuel → group script (suc fuel) i brace depth at vs m ≡ fault e)
      → Faults script brace depth at e
  faults_on f = record { says = by }
    where
      by : (fuel i : ℕ) (vs : List Value) (m : Machine) → length script < at + fuel → group script fuel i brace depth at vs m ≡ fault e
      by zero i vs m h = absurd (omega arith)
      by (suc fuel) i vs m h = f fuel i vs m h

  faults_lex : lex (skip script at) (drop (skip script at) script) ≡ fault e → Faults script brace depth at e
  unfolding group ◌>>=◌
  faults_lex h = faults_on (λ fuel i vs m l. rw h refl)

  -- A token is there, and what is read from the next offset on fails.
  faults_via : {next : ℕ} {t : Token}
      → Lexes script (skip script at) t next
      → ((fuel i : ℕ) (vs : List Value) (m : Machine)
      → length script < next + fuel → element (group script fuel) i brace depth (skip script at) next vs m t ≡ fault e)
      → Faults script brace depth at e
  faults_via l f =
      faults_on (λ fuel i vs m h. group_token script at l fuel i brace depth vs m ∙ f fuel i vs m (omega (arith, l.past, (skip_le script at le).0)))

-- The script's end is a fault of the brace that is open.
faults_end : (script : List ℕ) (brace depth at : ℕ) → at ≤ length script → lex (skip script at) (drop (skip script at) script) ≡ lexeme Token.end 0
    → Faults script brace depth at (BadBrace brace)
unfolding group ◌>>=◌ lexeme element
faults_end script brace depth at le h = faults_on script brace depth at le (λ fuel i vs m l. rw h refl)

-- ---- one token

module _ (script : List ℕ) (at start : ℕ) (begins : start ≡ skip script at) (le : at ≤ length script) where
  far : at ≤ start
  far = subst (λ n. at ≤ n) (sym begins) (skip_le script at le).0

  pub weigh_fault : {e : Fault} → lex start (drop start script) ≡ fault e → WeighedAs script at (Err e)
  weigh_fault {e} k brace depth = faults_lex script brace depth at le (subst (λ n. lex n (drop n script) ≡ fault e) begins k)

  module _ {next : ℕ} where
    moved : {u : Token} → Lexes script start u next → Lexes script (skip script at) u next
    moved {u} l = subst (λ n. Lexes script n u next) begins l

    pub weigh_integer : {w : ℕ} → TokenAt script start next (read.Integer w) → WeighedAs script at (Ok (Element 0, next))
    unfolding wanted sum_of
    weigh_integer {w} l = (Token.integer w, moved l, refl, omega arith, omega (arith, l.past, far))

    pub weigh_string : {from size : ℕ} → TokenAt script start next (read.String from size) → WeighedAs script at (Ok (Element (1 + (size + 7) / 8), next))
    unfolding wanted sum_of cells
    weigh_string l = (Token.string l.bytes, moved l.token, refl, omega (arith, l.holds), omega (arith, string_shorter l.own, l.begins, l.holds, far))

    pub string_room : {from size : ℕ} → TokenAt script start next (read.String from size) → size < length script
    string_room l = omega (arith, string_shorter l.own, l.holds, l.token.inside)

    pub weigh_executable : {from size : ℕ} → TokenAt script start next (read.ExecutableName from size) → WeighedAs script at (Ok (Element 0, next))
    unfolding wanted sum_of
    weigh_executable l = (_, moved l.token, refl, omega arith, omega (arith, l.token.past, far))

    pub weigh_literal : {from size : ℕ} → TokenAt script start next (read.LiteralName from size) → WeighedAs script at (Ok (Element 0, next))
    unfolding wanted sum_of
    weigh_literal l = (_, moved l.token, refl, omega arith, omega (arith, l.token.past, far))

    pub weigh_open : TokenAt script start next read.OpenBrace → WeighedAs script at (Ok (Open, next))
    weigh_open l = subst (λ n. BraceToken script n Token.open_brace next) begins l

    pub weigh_close : TokenAt script start next read.CloseBrace → WeighedAs script at (Ok (Close, next))
    weigh_close l = moved l.token

    pub weigh_end : TokenAt script start next read.End → WeighedAs script at (Ok (End, next))
    weigh_end l = subst (λ n. lex n (drop n script) ≡ lexeme Token.end 0) begins l.lexes

-- ---- the loop

-- What holds of the rest of the group, from `at` on, holds of the whole: a fault, and its nodes, with `size` elements and `wants` cells before.
pub record Judging (script : List ℕ) (depth from at size wants : ℕ) : Type 0 where
  pub inside : at ≤ length script
  pub few : from + size + wants ≤ at
  pub failing : (e : Fault) → Faults script (from - 1) depth at e → Faults script (from - 1) depth from e
  pub parsing : (ns : Nodes) (next : ℕ)
      → Parsed script depth at ns next
      → (ms : Nodes) × Parsed script depth from ms next × (count ms ≡ size + count ns) × (wanted ms ≡ wants + wanted ns)

pub begin : (script : List ℕ) (depth from : ℕ) → from ≤ length script → Judging script depth from from 0 0
begin script depth from le =
    record { inside = le; few = omega arith; failing = λ e f. f; parsing = λ ns next p. (ns, p, omega arith, omega arith) }

module _ {script : List ℕ} {depth from at size wants : ℕ} (J : Judging script depth from at size wants) where
  pub judge_fault : {e : Fault} → WeighedAs script at (Err e) → JudgedAs script depth from (Err e)
  judge_fault {e} k = J.failing e (k (from - 1) depth)

  pub element_inside : {c next : ℕ} → WeighedAs script at (Ok (Element c, next)) → (c + 1 + at ≤ next) × (next ≤ length script)
  element_inside w = (w.4, w.1.inside)

  pub judge_element : {c next : ℕ} → WeighedAs script at (Ok (Element c, next)) → Judging script depth from next (size + 1) (wants + c)
  unfolding count wanted
  judge_element {c} {next} w =
      let t = w.0 in
      let l = w.1 in
      record {
        inside = l.inside;
        few = omega (arith, J.few, w.4);
        failing = λ e f. J.failing e (faults_via script (from - 1) depth at J.inside l
            (λ fuel i vs m h. element_leaf t w.2 (group script fuel) i (from - 1) depth (skip script at) next vs m ∙ f.says fuel i _ _ h));
        parsing = λ ns after p.
            let r = J.parsing (leaf t ns) after (token l w.2 p) in
            (r.0, r.1, omega (arith, r.2), omega (arith, r.3, w.3));
      }

  module _ {next : ℕ} (brace : WeighedAs script at (Ok (Open, next))) where
    l : Lexes script (skip script at) Token.open_brace next
    l = brace.token

    -- The inner group's brace is the byte before its rest.
    opens_at : next - 1 ≡ skip script at
    opens_at = let e = brace.ends in omega arith

    pub open_inside : (1 ≤ next) × (next ≤ length script)
    open_inside = (let p = l.past in omega arith, l.inside)

    pub judge_deep : depth ≡ 0 → JudgedAs script depth from (Err OverLimit)
    unfolding element
    judge_deep z = J.failing OverLimit (faults_via script (from - 1) depth at J.inside l (λ fuel i vs m h. rw z refl))

    module _ (d : ℕ) (some : depth ≡ suc d) where
      pub judge_inner_fault : {e : Fault} → JudgedAs script d next (Err e) → JudgedAs script depth from (Err e)
      unfolding element ◌>>=◌
      judge_inner_fault {e} r =
          let f : Faults script (skip script at) d next e = subst (λ n. Faults script n d next e) opens_at r in
          J.failing e (faults_via script (from - 1) depth at J.inside l (λ fuel i vs m h. rw (some, f.says fuel (made m) [] (opened m) h) refl))

      module _ {inner_of : Judged} (w : JudgedAs script d next (Ok inner_of)) where
        pub inner_inside : (at < inner_of.next) × (next + inner_of.size + inner_of.wants < inner_of.next) × (inner_of.next ≤ length script)
        inner_inside = (omega (arith, w.4, l.past, (skip_le script at J.inside).0), w.4, w.5)

        pub judge_inner : Judging script depth from inner_of.next (size + 1) (wants + (inner_of.size + 1 + inner_of.wants))
        unfolding element ◌>>=◌ taken count wanted
        judge_inner =
            let after = inner_of.next in
            let ms = w.0 in
            let far = (skip_le script at J.inside).0 in
            record {
              inside = w.5;
              few = omega (arith, J.few, w.4, l.past, far);
              failing = λ e f. J.failing e (faults_via script (from - 1) depth at J.inside l
                  (λ fuel i vs m h. rw (some, group_parsed script w.1 l.inside fuel (made m) (skip script at) [] (opened m) h)
                  ((subst (λ k. Faults script (from - 1) k after e) some f).says fuel i _ _ (omega (arith, h, w.4)))));
              parsing = λ ns last p.
                  let q = opens l w.1 (subst (λ k. Parsed script k after ns last) some p) in
                  let r = J.parsing (inner ms ns) last (subst (λ k. Parsed script k at (inner ms ns) last) (sym some) q) in
                  (r.0, r.1, omega (arith, r.2), omega (arith, r.3, w.2, w.3));
            }

  pub judge_close : {next : ℕ} → WeighedAs script at (Ok (Close, next)) → JudgedAs script depth from (Ok (record { size = size; wants = wants; next = next }))
  unfolding count wanted
  judge_close {next} l =
      let r = J.parsing end next (closes l) in
      (r.0, r.1, omega (arith, r.2), omega (arith, r.3), omega (arith, J.few, l.past, (skip_le script at J.inside).0), l.inside)

  -- The end is met, and this group's brace is the innermost that is open.
  pub judge_end : lex (skip script at) (drop (skip script at) script) ≡ lexeme Token.end 0 → JudgedAs script depth from (Err (BadBrace (from - 1)))
  judge_end k = J.failing (BadBrace (from - 1)) (faults_end script (from - 1) depth at J.inside k)
