-- Where a group ends, by the next token: the reading of a group without its items, which is all that the runner keeps of one.
-- Assumes nothing.
use Rattle.std.specs.Prelude.{◌≡◌, refl, List, length, drop}
use Rattle.std.proofs.Math.Path.{ap}
use Rattle.std.proofs.Common.{◌∙◌}
use Prim.Native.Nat.{ℕ, zero, suc, ◌+◌, ◌≤◌}
use Rattle.semantics.specs.Values.{ok, fault, ◌>>=◌}
use Rattle.forf_semantics.specs.Errors.{Result}
use Rattle.forf_semantics.specs.Tokens.{Token, Lexeme, lexeme, lex}
use Rattle.forf_semantics.specs.Items.{Item, Group, skip, onto, element, read_group}
use Rattle.forf_semantics.proofs.GroupLaws.{group_unrolls}
use Rattle.forf_semantics.specs.RestLaws.{TokenAt}
use Rattle.forf_semantics.specs.declared.Error.{Error}
use Rattle.forf_semantics.specs.declared.Error.TheVariants.{SyntaxError}
use Rattle.forf_semantics.specs.EndLaws.{end_of, group_end}

-- An item more does not change where the group ends.
onto_end : (x : Item) (r : Result Group) → end_of (r >>= onto x) ≡ end_of r
unfolding end_of onto ◌>>=◌
onto_end x (ok g) = refl
onto_end x (fault e) = refl

inner_end : (script : List ℕ) (depth : ℕ) (x : Group → Item) (r : Result Group)
    → end_of (r >>= λ (i : Group). read_group script (length script) depth i.after >>= onto (x i)) ≡ (end_of r >>= group_end script depth)
unfolding end_of onto group_end ◌>>=◌
inner_end script depth x (ok i) = onto_end (x i) (read_group script (length script) depth i.after)
inner_end script depth x (fault e) = refl

module _ (script : List ℕ) (offset : ℕ) (passed : 1 ≤ offset) (inside : offset ≤ length script) where
  -- The group is read on from its next token.
  reads_on : (depth : ℕ) {t : Token} {size : ℕ}
      → TokenAt script offset t size
      → group_end script depth offset ≡ end_of (element (read_group script (length script)) depth (skip script offset + size) t)
  unfolding group_end lexeme ◌>>=◌
  reads_on depth t =
      ap end_of (group_unrolls script depth offset passed inside
      ∙ ap (λ r. r >>= λ (l : Lexeme). element (read_group script (length script)) depth (skip script offset + l.size) l.token) t.lexes)

  pub end_number : (depth : ℕ) {w size : ℕ}
      → TokenAt script offset (Token.integer w) size
      → group_end script depth offset ≡ group_end script depth (skip script offset + size)
  unfolding element group_end
  end_number depth t = reads_on depth t ∙ onto_end _ _

  pub end_word : (depth : ℕ) {n : List ℕ} {size : ℕ}
      → TokenAt script offset (Token.word n) size
      → group_end script depth offset ≡ group_end script depth (skip script offset + size)
  unfolding element group_end
  end_word depth t = reads_on depth t ∙ onto_end _ _

  pub end_group : (depth : ℕ) {size : ℕ}
      → TokenAt script offset Token.open_brace size
      → group_end script (suc depth) offset ≡ (group_end script depth (skip script offset + size) >>= group_end script (suc depth))
  unfolding element group_end
  end_group depth t = reads_on (suc depth) t ∙ inner_end script (suc depth) _ _

  pub end_too_deep : {size : ℕ} → TokenAt script offset Token.open_brace size → group_end script zero offset ≡ fault SyntaxError
  unfolding element end_of ◌>>=◌
  end_too_deep t = reads_on zero t

  pub end_close : (depth : ℕ) {size : ℕ} → TokenAt script offset Token.close_brace size → group_end script depth offset ≡ ok (skip script offset + size)
  unfolding element end_of ◌>>=◌
  end_close depth t = reads_on depth t

  pub end_missing : (depth : ℕ) {size : ℕ} → TokenAt script offset Token.end size → group_end script depth offset ≡ fault SyntaxError
  unfolding element end_of ◌>>=◌
  end_missing depth t = reads_on depth t

  pub end_fault : (depth : ℕ) {e : Error} → lex (drop (skip script offset) script) ≡ fault e → group_end script depth offset ≡ fault e
  unfolding group_end end_of ◌>>=◌
  end_fault depth {e = e} f =
      ap end_of (group_unrolls script depth offset passed inside
      ∙ ap (λ r. r >>= λ (l : Lexeme). element (read_group script (length script)) depth (skip script offset + l.size) l.token) f)
