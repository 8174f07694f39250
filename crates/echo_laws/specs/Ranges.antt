-- Machines whose integers have 32 bits, whose bytes are below 256, and whose objects have at most 32,768 elements or bytes. The start of a run is such a machine, and
-- steps keep it so if the script's bytes are bytes.
-- Assumes nothing.
use Rattle.std.specs.Prelude.{List, ℕ, ◌^◌, ◌≤◌, ◌<◌, length}
use Rattle.std.proofs.Common.{arith}
use Rattle.semantics.specs.Sizes.{script_most}
use Rattle.semantics.specs.Steps.{Limits}
use Rattle.semantics.specs.AsciiLaws.{Bytes}
use Rattle.walk.specs.Parts.{Parts, any_references}

-- The most elements or bytes of an object: a string or a brace group of the script may have as many as the script has bytes.
abbrev pub most : ℕ
most = script_most

unfoldable pub ranged : Parts
unfolding any_references
ranged =
    record {
      numbers = record {
        Word = λ w. w < 2 ^ 32;
        Byte = λ b. b < 256;
        Size = λ n. n ≤ most;
        Spelling = Bytes;
        word = λ w l. l;
        bitwise = λ f e a b h k. e a b h k;
        byte_word = λ b h. omega arith;
        size_word = λ n h. omega arith;
        byte = λ b l. omega arith;
        size = λ n l. omega arith;
        smaller = λ k n l h. omega arith;
        spelling = λ n h l. h;
        spelt = λ n h. h;
      };
      references = any_references;
    }

-- What is asked of script and room: a script of bytes, as every lent script is, and what setup admits of script and stack (01, Setup 1 and 4).
pub record Admitted (l : Limits) (script : List ℕ) : Type 0 where
  pub bytes : Bytes script
  pub short : length script ≤ most
  pub items : l.stack_slots ≤ most
