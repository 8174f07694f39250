-- A token that was read, in the laws of groups: where a group ends, from its next token on.
-- Assumes nothing.
use mathlib.Core.Path.{◌≡◌, refl, sym, subst, ◌∙◌}
use mathlib.Core.List.{List}
use Prim.Native.Nat.{ℕ, suc, ◌+◌, ◌-◌, ◌≤◌, ◌<◌}
use native.Mathlib.Omega.{arith}
use lib.ListN.{length, drop}
use Rattle.semantics.specs.Values.{ok, fault, ◌>>=◌}
use Rattle.semantics.specs.ResultLaws.{gives_ok, then_ok, ok_one}
use Rattle.forf_semantics.specs.Tokens.{lexeme, lex}
use Rattle.forf_semantics.specs.Items.{skip, read_group}
use Rattle.forf_semantics.specs.TokenLaws.{Fits}
use Rattle.forf_semantics.proofs.TokenLaws.{skip_le, token_fits}
use Rattle.forf_semantics.specs.GroupLaws.{Inside}
use Rattle.forf_semantics.proofs.GroupLaws.{group_takes}
use Rattle.forf_semantics.specs.RestLaws.{TokenAt}
use Rattle.forf_semantics.specs.EndLaws.{end_of, group_end}
use Rattle.forf_semantics.proofs.EndLaws.{end_number, end_word, end_group, end_too_deep, end_close, end_missing, end_fault}
use Rattle.forf_semantics.specs.declared.Error.TheVariants.{SyntaxError}
use Rattle.forf_token.specs.Lexing.{token_of, Lexes}
use Rattle.forf_token.specs.declared.Token.{Token}
use Rattle.forf_token.specs.declared.Token.TheVariants.{Integer, Word, OpenBrace, CloseBrace, End}

-- ---- a token that was read

-- How many bytes it takes.
pub token_size : {script : List ℕ} {start next : ℕ} {t : Token} → Lexes script start t next → Fits (length script - start) (token_of script start next t) (next - start)
unfolding lexeme
token_size {script} {start} T = gives_ok (token_fits script start) T.lexes

pub number_later : {script : List ℕ} {start next w : ℕ} → Lexes script start (Integer w) next → start < next
number_later T = let f = token_size T in omega arith

pub word_later : {script : List ℕ} {start next : ℕ} → Lexes script start Word next → start < next
word_later T = let f = token_size T in omega arith

pub open_later : {script : List ℕ} {start next : ℕ} → Lexes script start OpenBrace next → start < next
open_later T = let f = token_size T in omega arith

-- The same as the next token from an offset on.
module _ {script : List ℕ} (at : ℕ) {start next : ℕ} {t : Token} (s : start ≡ skip script at) (T : Lexes script start t next) where
  pub token_at : TokenAt script at (token_of script start next t) (next - start)
  token_at = record { lexes = subst (λ (n : ℕ). lex (drop n script) ≡ lexeme (token_of script start next t) (next - start)) s T.lexes }

  pub next_is : skip script at + (next - start) ≡ next
  next_is = let h = T.later in omega arith

-- ---- a group that ends

-- It ends after the offset from which it is read, within the script.
pub end_inside : (script : List ℕ) (depth from end : ℕ) → from ≤ length script → group_end script depth from ≡ ok end → (from < end) × (end ≤ length script)
unfolding group_end end_of
end_inside script depth from end h e =
    let (g, p, q) = then_ok (read_group script (length script) depth from) _ e in
    let i : Inside (length script) from g = gives_ok (group_takes script depth from h) p in
    subst (λ (n : ℕ). (from < n) × (n ≤ length script)) (ok_one q) i

-- The loop: the group that is read from `from` on ends where the one from `at` on does.
pub record Reads (script : List ℕ) (depth from at : ℕ) : Type 0 where
  pub passed : 1 ≤ at
  pub inside : at ≤ length script
  pub same : group_end script depth from ≡ group_end script depth at

pub begin : {script : List ℕ} {from : ℕ} (depth : ℕ) → 1 ≤ from → from ≤ length script → Reads script depth from from
begin depth h k = record { passed = h; inside = k; same = refl }

module _ {script : List ℕ} {depth from at start : ℕ} (R : Reads script depth from at) (s : start ≡ skip script at) where
  pub at_later : at ≤ start
  at_later = let h = skip_le script at R.inside in omega arith

  goes_on_lem : {next : ℕ} → start < next → next ≤ length script → group_end script depth at ≡ group_end script depth next → Reads script depth from next
  goes_on_lem h k e = record { passed = omega arith; inside = k; same = R.same ∙ e }

  pub number_on : {next w : ℕ} → Lexes script start (Integer w) next → Reads script depth from next
  number_on {next} T =
      goes_on_lem (number_later T) T.inside (subst (λ (n : ℕ). group_end script depth at ≡ group_end script depth n) (next_is at s T)
      (end_number script at R.passed R.inside depth (token_at at s T)))

  pub word_on : {next : ℕ} → Lexes script start Word next → Reads script depth from next
  word_on {next} T =
      goes_on_lem (word_later T) T.inside (subst (λ (n : ℕ). group_end script depth at ≡ group_end script depth n) (next_is at s T)
      (end_word script at R.passed R.inside depth (token_at at s T)))

  pub close_ends : {next : ℕ} → Lexes script start CloseBrace next → ok next ≡ group_end script depth from
  close_ends {next} T =
      sym (R.same ∙ subst (λ (n : ℕ). group_end script depth at ≡ ok n) (next_is at s T) (end_close script at R.passed R.inside depth (token_at at s T)))

  pub missing_ends : {next : ℕ} → Lexes script start End next → fault SyntaxError ≡ group_end script depth from
  missing_ends T = sym (R.same ∙ end_missing script at R.passed R.inside depth (token_at at s T))

  pub fault_ends : lex (drop start script) ≡ fault SyntaxError → fault SyntaxError ≡ group_end script depth from
  fault_ends f =
      sym (R.same ∙ end_fault script at R.passed R.inside depth (subst (λ (n : ℕ). lex (drop n script) ≡ fault SyntaxError) s f))

  pub deep_ends : {next : ℕ} → Lexes script start OpenBrace next → depth ≡ 0 → fault SyntaxError ≡ group_end script depth from
  deep_ends T z =
      sym (R.same ∙ subst (λ (d : ℕ). group_end script d at ≡ fault SyntaxError) (sym z) (end_too_deep script at R.passed R.inside (token_at at s T)))

  -- An inner group, with a level less.
  module _ {next : ℕ} (T : Lexes script start OpenBrace next) (some : (depth ≡ 0 → ⊥)) where
    inner : group_end script depth at ≡ (group_end script (depth - 1) next >>= group_end script depth)
    inner =
        let d : suc (depth - 1) ≡ depth = omega arith in
        subst (λ (n : ℕ). group_end script depth at ≡ (group_end script (depth - 1) n >>= group_end script depth)) (next_is at s T)
        (subst (λ (n : ℕ). group_end script n at ≡ (group_end script (depth - 1) (skip script at + (next - start)) >>= group_end script n)) d
        (end_group script at R.passed R.inside (depth - 1) (token_at at s T)))

    pub inner_ends : fault SyntaxError ≡ group_end script (depth - 1) next → fault SyntaxError ≡ group_end script depth from
    unfolding ◌>>=◌
    inner_ends e = sym (R.same ∙ inner ∙ rw (sym e) refl)

    module _ {after : ℕ} (e : ok after ≡ group_end script (depth - 1) next) where
      pub inner_inside : (next < after) × (after ≤ length script)
      inner_inside = end_inside script (depth - 1) next _ T.inside (sym e)

      pub inner_on : Reads script depth from after
      unfolding ◌>>=◌
      inner_on =
          let i = inner_inside in
          let o = open_later T in
          record { passed = omega arith; inside = i.1; same = R.same ∙ inner ∙ rw (sym e) refl }
