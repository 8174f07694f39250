-- An item that was read, as the definition takes it: outside braces, and as the first of those that are left of a substack.
-- Assumes nothing.
use mathlib.Core.Path.{◌≡◌, refl, sym, ap, subst, ◌∙◌}
use mathlib.Core.List.{List}
use Prim.Native.Nat.{ℕ, suc, ◌+◌, ◌-◌, ◌≤◌, ◌<◌}
use native.Mathlib.Omega.{arith}
use lib.ListN.{length, take, drop, length-drop}
use lib.Seq.{length-take-le}
use Rattle.semantics.specs.Values.{ok, fault, ◌>>=◌}
use Rattle.semantics.specs.ResultLaws.{ok_one, fault_ok}
use Rattle.forf_semantics.specs.Tokens.{lexeme, lex}
use Rattle.forf_semantics.specs.Items.{number, word, group, ◌then◌, count, skip, taken, token_item, take_token}
use Rattle.forf_semantics.specs.EndLaws.{group_end}
use Rattle.forf_semantics.specs.BodyLaws.{body_at, Known}
use Rattle.forf_semantics.proofs.BodyLaws.{body_number, body_word, body_group, body_close, body_end, body_fault, take_group, take_fault}
use Rattle.forf_semantics.proofs.TokenLaws.{skip_le}
use Rattle.forf_semantics.specs.declared.Error.TheVariants.{SyntaxError}
use Rattle.forf_token.specs.Lexing.{Lexes}
use Rattle.forf_token.specs.declared.Token.TheVariants.{Integer, Word, OpenBrace, CloseBrace, End}
use Rattle.forf_groups.specs.Reading.{Takes, Nothing}
use Rattle.forf_groups.specs.declared.Item as items
use Rattle.forf_groups.specs.declared.Item.TheVariants.{Number, Substack}
use Rattle.forf_groups.specs.declared.Item.TheVariants as item
use Rattle.forf_groups.proofs.Ending.{token_at, next_is, token_size, number_later, word_later, open_later, end_inside}

ends : (start next : ℕ) → start ≤ next → start + (next - start) ≡ next
ends start next h = omega arith

module _ {script : List ℕ} {start next : ℕ} where
  pub number_taken : {w : ℕ} → Lexes script start (Integer w) next → Takes script start (Number w) next
  unfolding take_token token_item lexeme ◌>>=◌
  number_taken {w} T = record {
    takes = rw T.lexes (ap (taken (number w)) (ends start next T.later));
    rest = λ at s K.
        subst (λ (n : ℕ). (body_at script at ≡ number w then body_at script n) × Known script n) (next_is at (sym s) T)
        (body_number script at K w (next - start) (token_at at (sym s) T));
    held = tt;
    later = number_later T;
    inside = T.inside;
  }

  pub word_taken : Lexes script start Word next → Takes script start (item.Word start (next - start)) next
  unfolding take_token token_item lexeme ◌>>=◌
  word_taken T =
      let n = take (next - start) (drop start script) in
      let f = token_size T in
      let later = T.later in
      let inside = T.inside in
      let size : length n ≡ next - start = length-take-le (next - start) (drop start script) (rw (length-drop start script) (omega arith)) in
      record {
        takes = rw T.lexes (ap (taken (word n)) (ends start next T.later));
        rest = λ at s K.
            subst (λ (m : ℕ). (body_at script at ≡ word n then body_at script m) × Known script m) (next_is at (sym s) T)
            (body_word script at K n (next - start) (token_at at (sym s) T));
        held = (omega arith, omega (arith, size, f.2));
        later = word_later T;
        inside = T.inside;
      }

  -- A closing brace, the end and a bad token.
  pub close_nothing : Lexes script start CloseBrace next → Nothing script start
  unfolding take_token token_item lexeme ◌>>=◌
  close_nothing T = record { fails = rw T.lexes refl; rest = λ at s K. body_close script at K (next - start) (token_at at (sym s) T) }

  pub end_nothing : Lexes script start End next → Nothing script start
  unfolding take_token token_item lexeme ◌>>=◌
  end_nothing T = record { fails = rw T.lexes refl; rest = λ at s K. absurd (body_end script at K (next - start) (token_at at (sym s) T)) }

  -- A substack, read whole.
  module _ (T : Lexes script start OpenBrace next) where
    pub open_nothing : fault SyntaxError ≡ group_end script 15 next → Nothing script start
    open_nothing f =
        let n = ends start next T.later in
        record {
          fails = take_fault script start (next - start) T.lexes SyntaxError (subst (λ (m : ℕ). group_end script 15 m ≡ fault SyntaxError) (sym n) (sym f));
          rest = λ at s K.
              let (end, g, b, k, l) = body_group script at K (next - start) (token_at at (sym s) T) in
              absurd (fault_ok (sym (subst (λ (m : ℕ). group_end script 15 m ≡ fault SyntaxError) (sym (next_is at (sym s) T)) (sym f)) ∙ g));
        }

    pub group_taken : {end : ℕ} → ok end ≡ group_end script 15 next → Takes script start (Substack next) end
    group_taken {end} f =
        let n = ends start next T.later in
        let o = open_later T in
        let i = end_inside script 15 next end T.inside (sym f) in
        let (t, k) = take_group script start (next - start) T.lexes end (rw n (omega arith)) (rw n T.inside) (subst (λ (m : ℕ). group_end script 15 m ≡ ok end) (sym n) (sym f)) in
        record {
          takes = subst (λ (m : ℕ). take_token script start ≡ taken (group (body_at script m)) end) n t;
          rest = λ at s K.
              let (end₂, g, b, known, last) = body_group script at K (next - start) (token_at at (sym s) T) in
              let q : group_end script 15 next ≡ ok end₂ = subst (λ (m : ℕ). group_end script 15 m ≡ ok end₂) (next_is at (sym s) T) g in
              let same : end₂ ≡ end = ok_one (sym q ∙ sym f) in (
                subst (λ (m : ℕ). body_at script at ≡ group (body_at script m) then body_at script end) (next_is at (sym s) T)
                    (subst (λ (m : ℕ). body_at script at ≡ group (body_at script (skip script at + (next - start))) then body_at script m) same b),
                subst (Known script) same last,
              );
          held = subst (Known script) n k;
          later = omega arith;
          inside = i.1;
        }

pub bad_nothing : {script : List ℕ} {start : ℕ} → lex (drop start script) ≡ fault SyntaxError → Nothing script start
unfolding take_token ◌>>=◌
bad_nothing {script} {start} f = record {
  fails = rw f refl;
  rest = λ at s K. absurd (body_fault script at K SyntaxError (subst (λ (m : ℕ). lex (drop m script) ≡ fault SyntaxError) (sym s) f));
}

-- ---- how many items there are

-- The loop: n items are passed, and those that are left are known by `at`.
pub record Counts (script : List ℕ) (from at n : ℕ) : Type 0 where
  pub known : Known script at
  pub sum : n + count (body_at script at) ≡ count (body_at script from)
  pub few : n ≤ at

pub count_begin : {script : List ℕ} {from : ℕ} → Known script from → Counts script from from 0
count_begin K = record { known = K; sum = omega arith; few = omega arith }

module _ {script : List ℕ} {from at n start : ℕ} (C : Counts script from at n) (s : start ≡ skip script at) where
  pub count_ends : Nothing script start → n ≡ count (body_at script from)
  unfolding count
  count_ends N =
      let z : count (body_at script at) ≡ 0 = ap count (N.rest at (sym s) C.known) in
      let c = C.sum in
      omega arith

  pub count_inside : {i : items.Item} {next : ℕ} → Takes script start i next → (at < next) × (next ≤ length script)
  count_inside {i} {next} T =
      let k = skip_le script at C.known.inside in
      let l = T.later in
      (omega arith, T.inside)

  pub count_again : {i : items.Item} {next : ℕ} → Takes script start i next → Counts script from next (n + 1)
  unfolding count
  count_again {i} {next} T =
      let (b, k) = T.rest at (sym s) C.known in
      let z : count (body_at script at) ≡ suc (count (body_at script next)) = ap count b in
      let c = C.sum in
      let f = C.few in
      let h = count_inside T in
      record { known = k; sum = omega arith; few = omega arith }
