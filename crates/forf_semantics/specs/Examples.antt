-- The published examples of 002 and some edges, computed by the definition; and memory, setup and the token reading.
-- Assumes nothing.
use Rattle.std.specs.Prelude.{◌≡◌, refl, List, [], ◌∷◌, map, reverse, ℕ, set, replicate}
use Prim.Native.String.{String}
use Rattle.semantics.specs.Text.{bytes, textual}
use Rattle.semantics.specs.Words.{words}
use Rattle.semantics.specs.Values.{values}
use Rattle.semantics.specs.Tokens as floo
use Rattle.semantics.specs.Printing.{printing, joined}
use Rattle.semantics.specs.Outcome as floo-outcome
use Rattle.semantics.specs.Setup as floo-setup
use Rattle.forf_semantics.specs.Errors.{errors}
use Rattle.forf_semantics.specs.Tokens.{tokens}
use Rattle.forf_semantics.specs.Items.{itemizing}
use Rattle.forf_semantics.specs.Machine.{machinery}
use Rattle.forf_semantics.specs.Operators.{operators}
use Rattle.forf_semantics.specs.Steps.{Run, run, initial, stepping}
use Rattle.forf_semantics.specs.Outcome.{item, outcomes}
use Rattle.forf_semantics.specs.Setup.{Lent, limits, Verdict, memory_slots, runs, verdict, printed, Reading, faulty, read, reading, settings}
use Rattle.forf_semantics.specs.declared.Error.TheVariants.{SyntaxError}
use Rattle.forf_semantics.specs.declared.Kind.TheVariants.{Integer, Word, OpenBrace, CloseBrace, End}

-- The smallest stacks that setup takes: 8 and 4 slots.
unfoldable pub lent : Lent
lent = record { stack_words = 16; exec_words = 32; outcome_bytes = 1344 }

unfoldable pub blank : List ℕ
blank = replicate 32 0

-- A text, and what it is to be.
record Case : Type 0 where
  computed : List ℕ
  expected : List ℕ

infix 5 ◌gives◌
◌gives◌ : List ℕ → String → Case
c gives e = record { computed = c; expected = bytes e }

-- All that is printed for a script, with so much fuel and this memory.
whole_of : List ℕ → ℕ → String → List ℕ
whole_of memory fuel script = (printed (bytes script) fuel lent memory).text

whole : ℕ → String → List ℕ
whole = whole_of blank

-- The items that a script leaves, bottom first.
items_of : Run → List ℕ
items_of r = joined (bytes " ") (map item (reverse r.final.machine.stack))

left : String → List ℕ
left s = items_of (run (limits lent) (bytes s) 1000 (initial (set blank 3 101)))

-- Each case's text is what is expected of it.
abbrev Hold : List Case → Type 0
Hold [] = Unit {0}
Hold (c ∷ cs) = (c.computed ≡ c.expected) × Hold cs

-- ---- 002's examples; where it says "given", the numbers come first

published : List Case
published =
    (left "58 -58 0x3A 072" gives "integer:58 integer:-58 integer:58 integer:58")
    ∷ (left "58 88 5 +" gives "integer:58 integer:93")
    ∷ (left "8 4 /" gives "integer:2")
    ∷ (left "5 3 >" gives "integer:1")
    ∷ (left "58 58 *" gives "integer:3364")
    ∷ (left "58 58 58 * *" gives "integer:195112")
    ∷ (left "58 dup dup * *" gives "integer:195112")
    ∷ (left "5 8 < { 50 8 + } { 50 8 - } ifelse" gives "integer:58")
    ∷ (left "50 5 8 < { 8 + } { 8 - } ifelse" gives "integer:58")
    ∷ (left "50 8 5 8 < { + } { - } ifelse" gives "integer:58")
    ∷ (left "3 mget 100 >" gives "integer:1")
    ∷ (left "11 dup dup * 100 > { dup * } { pop 0 } ifelse" gives "integer:121")
    ∷ (left "7 dup dup * 100 > { dup * } { pop 0 } ifelse" gives "integer:0")
    ∷ (left "11 dup * dup 100 < { pop 0 } if" gives "integer:121")
    ∷ (left "7 dup * dup 100 < { pop 0 } if" gives "integer:0")
    ∷ (left "3 4 dup * exch dup * + 88 88 * <" gives "integer:1")
    ∷ (left "88 0 dup * exch dup * + 88 88 * <" gives "integer:0")
    ∷ (whole 1000 "2 dup 0 = { action0 } if\ndup 1 = { action1 } if\ndup 2 = { action2 } if\ndup 3 = { action3 } if\npop" gives "ending=error\nerror=undefined\ncommand=action2\nat=68\nsteps=18\ndepth=1\nitem=integer:2\n")
    ∷ []

published_hold : Hold published
unfolding textual words values floo.tokens printing floo-outcome.outcomes floo-setup.settings errors tokens itemizing machinery operators stepping outcomes settings lent blank ◌gives◌ whole_of whole items_of left published
published_hold = (refl, (refl, (refl, (refl, (refl, (refl, (refl, (refl, (refl, (refl, (refl, (refl, (refl, (refl, (refl, (refl, (refl, (refl, tt))))))))))))))))))

-- ---- edges

edges : List Case
edges =
    (left "-2147483648 1 - 65536 dup * 46341 dup *" gives "integer:2147483647 integer:0 integer:-2147479015")
    ∷ (left "-9 4 / -9 4 % 9 -4 / 9 -4 %" gives "integer:-2 integer:-1 integer:-2 integer:1")
    ∷ (left "12 10 & 12 10 | 12 10 ^ 5 ~ 0 ! 7 !" gives "integer:8 integer:14 integer:6 integer:-6 integer:1 integer:0")
    ∷ (left "-8 1 >> -8 40 >> 8 -1 >> 3 30 << 3 99 <<" gives "integer:-4 integer:-1 integer:0 integer:-1073741824 integer:0")
    ∷ (left "1 2 >= 2 2 >= 2 2 <= 2 3 <> -1 1 < 2 2 =" gives "integer:0 integer:1 integer:1 integer:1 integer:1 integer:1")
    ∷ (left "-017 0x7fFFffff -0 00 -0x10 007" gives "integer:-15 integer:2147483647 integer:0 integer:0 integer:-16 integer:7")
    ∷ (left "1(}{ ( )2{ (}) 3{}}" gives "integer:1 integer:2 substack:2")
    ∷ (left "1 { 2 } exch {{}5 x} { } pop dup" gives "substack:1 integer:1 substack:3 substack:3")
    ∷ (whole 1000 "1 2 +" gives "ending=finished\nerror=none\ncommand=\nat=5\nsteps=3\ndepth=1\nitem=integer:3\n")
    ∷ (whole 1000 "0 { 1 } { 2 3 } ifelse" gives "ending=finished\nerror=none\ncommand=\nat=22\nsteps=8\ndepth=2\nitem=integer:2\nitem=integer:3\n")
    ∷ (whole 1000 "1 { 6 7 } if" gives "ending=finished\nerror=none\ncommand=\nat=12\nsteps=7\ndepth=2\nitem=integer:6\nitem=integer:7\n")
    ∷ (left "{{{{{{{{{{{{{{{{}}}}}}}}}}}}}}}}" gives "substack:1")
    ∷ (whole 1000 "{{{{{{{{{{{{{{{{{}}}}}}}}}}}}}}}}}" gives "ending=error\nerror=syntaxerror\ncommand=\nat=0\nsteps=1\ndepth=0\n")
    ∷ (whole 1000 "5 0xFFFFFFFF" gives "ending=error\nerror=syntaxerror\ncommand=\nat=2\nsteps=2\ndepth=1\nitem=integer:5\n")
    ∷ (whole 1000 "7 { 1 { 09 } } 5" gives "ending=error\nerror=syntaxerror\ncommand=\nat=2\nsteps=2\ndepth=1\nitem=integer:7\n")
    ∷ (whole 1000 "1 }" gives "ending=error\nerror=syntaxerror\ncommand=\nat=2\nsteps=2\ndepth=1\nitem=integer:1\n")
    ∷ (whole 1000 "{ 1 (a) " gives "ending=error\nerror=syntaxerror\ncommand=\nat=0\nsteps=1\ndepth=0\n")
    ∷ (whole 1000 "4 +)" gives "ending=error\nerror=stackunderflow\ncommand=+\nat=2\nsteps=2\ndepth=1\nitem=integer:4\n")
    ∷ (whole 1000 "{ } +" gives "ending=error\nerror=stackunderflow\ncommand=+\nat=4\nsteps=2\ndepth=1\nitem=substack:0\n")
    ∷ (whole 1000 "{ 1 } mget" gives "ending=error\nerror=typecheck\ncommand=mget\nat=6\nsteps=2\ndepth=1\nitem=substack:1\n")
    ∷ (whole 1000 "9 -1 mset" gives "ending=error\nerror=rangecheck\ncommand=mset\nat=5\nsteps=3\ndepth=2\nitem=integer:9\nitem=integer:-1\n")
    ∷ (whole 0 " \t(x)\n" gives "ending=finished\nerror=none\ncommand=\nat=6\nsteps=0\ndepth=0\n")
    ∷ (whole 2 "1 2 3" gives "ending=fuel\nerror=none\ncommand=\nat=2\nsteps=2\ndepth=2\nitem=integer:1\nitem=integer:2\n")
    ∷ []

edges_hold : Hold edges
unfolding textual words values floo.tokens printing floo-outcome.outcomes floo-setup.settings errors tokens itemizing machinery operators stepping outcomes settings lent blank ◌gives◌ whole_of whole items_of left edges
edges_hold = (refl, (refl, (refl, (refl, (refl, (refl, (refl, (refl, (refl, (refl, (refl, (refl, (refl, (refl, (refl, (refl, (refl, (refl, (refl, (refl, (refl, (refl, (refl, tt)))))))))))))))))))))))

-- ---- memory is kept, after an error too, but for what the failing step would have stored

memories : ((printed (bytes "9 4 mset") 1000 lent blank).memory ≡ set blank 4 9)
    × ((printed (bytes "9 4 mset 1 0 %") 1000 lent blank).memory ≡ set blank 4 9)
    × ((printed (bytes "4 mget 1 + 4 mset 5 32 mset") 1000 lent (set blank 4 9)).memory ≡ set blank 4 10)
unfolding textual words values floo.tokens printing floo-outcome.outcomes floo-setup.settings errors tokens itemizing machinery operators stepping outcomes settings lent blank
memories = (refl, refl, refl)

-- ---- setup and the token reading

refusals : (verdict (bytes "5") 1000000 lent blank ≡ runs)
    × (verdict (replicate 32768 32) 1000000 lent blank ≡ runs)
    × (verdict (replicate 32769 32) 1000001 lent [] ≡ Verdict.refused 1)
    × (verdict (bytes "5") 1000001 (record { stack_words = 15; exec_words = 31; outcome_bytes = 0 }) [] ≡ Verdict.refused 3)
    × (verdict (bytes "5") 0 (record { stack_words = 15; exec_words = 31; outcome_bytes = 0 }) [] ≡ Verdict.refused 4)
    × (verdict (bytes "5") 0 (record { stack_words = 513; exec_words = 31; outcome_bytes = 0 }) [] ≡ Verdict.refused 5)
    × (verdict (bytes "5") 0 (record { stack_words = 513; exec_words = 1031; outcome_bytes = 35071 }) [] ≡ Verdict.refused 9)
    × (verdict (bytes "5") 0 (record { stack_words = 513; exec_words = 1031; outcome_bytes = 35072 }) [] ≡ memory_slots)
    × (printed (bytes "5") 0 lent (5 ∷ []) ≡ record { text = bytes "refused=memory not 32 slots\n"; memory = 5 ∷ [] })
unfolding textual floo-setup.settings floo-outcome.outcomes settings lent blank
refusals = (refl, refl, refl, refl, refl, refl, refl, refl, refl)

-- The script is: -5(x){ab}) (
readings : (reading (bytes "-5(x){ab}) (") 0 ≡ read Integer 2 0 2)
    × (reading (bytes "-5(x){ab}) (") 2 ≡ read OpenBrace 6 5 1)
    × (reading (bytes "-5(x){ab}) (") 6 ≡ read Word 8 6 2)
    × (reading (bytes "-5(x){ab}) (") 8 ≡ read CloseBrace 9 8 1)
    × (reading (bytes "-5(x){ab}) (") 9 ≡ faulty SyntaxError)
    × (reading (bytes "-5(x){ab}) (") 11 ≡ faulty SyntaxError)
    × (reading (bytes "-5(x){ab}) (") 12 ≡ read End 12 12 0)
    × (reading (bytes "-5(x){ab}) (") 13 ≡ Reading.refused 10)
    × (reading (replicate 32769 32) 40000 ≡ Reading.refused 1)
unfolding textual words values floo.tokens floo-setup.settings errors tokens itemizing settings
readings = (refl, refl, refl, refl, refl, refl, refl, refl, refl)
