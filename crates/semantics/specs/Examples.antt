-- The starred cases of 01's "Checked by hand" and its worked example, computed by the definition; setup and token reading at some edges; handlers (02,
-- W1); pegs (02, W5); the mark for read only (02, W7); and what is wrong with tokens, and where (02, W4).
-- Assumes nothing.
use Rattle.std.specs.Prelude.{◌≡◌, refl, List, [], ◌∷◌, ◌++◌, map, reverse, ℕ, ◌+◌, ◌-◌, ◌*◌}
use Prim.Native.String.{String}
use Rattle.semantics.specs.Sizes.{name_count, exec_width, dictionary_width, name_words, dictionary_words_most}
use Rattle.semantics.specs.Text.{bytes, textual}
use Rattle.semantics.specs.Words.{words}
use Rattle.semantics.specs.Values.{values}
use Rattle.semantics.specs.Tokens.{tokens}
use Rattle.semantics.specs.Machine.{machinery}
use Rattle.semantics.specs.Printing.{printing, joined, item}
use Rattle.semantics.specs.Operators.{operators}
use Rattle.semantics.specs.Held.{holding}
use Rattle.semantics.specs.Groups.{grouping}
use Rattle.semantics.specs.Steps.{Ending, finished, stopped, out_of_fuel, failed, misread, Run, run, initial, stepping}
use Rattle.semantics.specs.Outcome.{outcomes}
use Rattle.semantics.specs.Setup.{Lent, limits, refusal, printed, refused, faulty, read, reading, settings}
use Rattle.semantics.specs.Errors.{error_text, errors}
use Rattle.semantics.specs.declared.Fault.TheVariants.{BadNumber, BadEscape, OpenString, BadByte, OverLimit}
use Rattle.semantics.specs.declared.Kind.TheVariants.{String as StringKind, LiteralName, End}

-- What the program lends, with so many cells and dictionary words.
unfoldable pub lent : ℕ → ℕ → Lent
lent cells dictionary =
    record { stack_words = 512; exec_words = 1024; dictionary_words = dictionary; cell_words = 4 * cells; log_bytes = 8192; outcome_bytes = 35072 }

-- A text, and what it is to be.
record Case : Type 0 where
  computed : List ℕ
  expected : List ℕ

infix 5 ◌gives◌
◌gives◌ : List ℕ → String → Case
c gives e = record { computed = c; expected = bytes e }

-- All that is printed for a script, with so many cells and so much fuel.
whole : ℕ → ℕ → String → List ℕ
whole cells fuel script = printed (bytes script) fuel (lent cells dictionary_words_most)

-- The same with so many execution slots and names.
narrow : ℕ → ℕ → String → List ℕ
narrow exec names script =
    printed (bytes script) 1000 (record { stack_words = 512; exec_words = exec_width * exec; dictionary_words = dictionary_width * names; cell_words = 4 * 4096; log_bytes = 8192; outcome_bytes = 35072 })

-- The items that a line of program leaves, bottom first.
items_of : Run → List ℕ
items_of r = joined (bytes " ") (map (item r.final.machine) (reverse r.final.machine.stack))

left : String → List ℕ
left s = items_of (run (limits (lent 4096 dictionary_words_most)) (bytes "#FLOO\n" ++ bytes s) 1000 initial)

-- The error that ends it; nothing where none does.
error_in : Ending → List ℕ
error_in finished = []
error_in stopped = []
error_in out_of_fuel = []
error_in (failed e c) = error_text e
error_in (misread f) = []

error : String → List ℕ
error s = error_in (run (limits (lent 4096 dictionary_words_most)) (bytes "#FLOO\n" ++ bytes s) 1000 initial).ending

cases : List Case
cases =
    (left "-7 3 idiv" gives "integer:-2")
    ∷ (left "-7 3 mod" gives "integer:-1")
    ∷ (left "7 -3 mod" gives "integer:1")
    ∷ (left "2147483647 1 add" gives "integer:-2147483648")
    ∷ (left "-1 -28 bitshift" gives "integer:15")
    ∷ (left "1 31 bitshift" gives "integer:-2147483648")
    ∷ (left "0 1 2 3 4 4 2 roll" gives "integer:0 integer:3 integer:4 integer:1 integer:2")
    ∷ (left "0 1 2 3 4 4 -1 roll" gives "integer:0 integer:2 integer:3 integer:4 integer:1")
    ∷ (whole 4096 1000 "#FLOO\n3 frob" gives "ending=error\nerror=undefined\ncommand=frob\nat=8\nwhere=\nsteps=2\ndepth=1\nheld=0\nlog=0\nitem=integer:3\n")
    ∷ (whole 4096 0 "#FLOO" gives "ending=finished\nerror=none\ncommand=\nat=5\nwhere=\nsteps=0\ndepth=0\nheld=0\nlog=0\n")
    ∷ (whole 4 1000 "#FLOO\n[1 2 3] pop [4 5 6]" gives "ending=finished\nerror=none\ncommand=\nat=25\nwhere=\nsteps=16\ndepth=1\nheld=4\nlog=0\nitem=array:3\n")
    ∷ (whole 4 1000 "#FLOO\n[1 2 3] [4]" gives "ending=error\nerror=VMerror\ncommand=]\nat=16\nwhere=\nsteps=12\ndepth=3\nheld=4\nlog=0\nitem=array:3\nitem=mark\nitem=integer:4\n")
    ∷ (whole 4096 1000 "#FLOO\n/a 1 array def a 0 a put /a 0 def" gives "ending=finished\nerror=none\ncommand=\nat=39\nwhere=\nsteps=17\ndepth=0\nheld=2\nlog=0\n")
    ∷ (whole 4096 1000000 "#FLOO\n5 /two 2 def two add echo 7\n" gives "7\nending=finished\nerror=none\ncommand=\nat=34\nwhere=\nsteps=12\ndepth=1\nheld=0\nlog=2\nitem=integer:7\n")
    ∷ (whole 4096 1000 "#FLOO\n2147483646 1 2147483647 { pop } for" gives "ending=finished\nerror=none\ncommand=\nat=41\nwhere=\nsteps=17\ndepth=0\nheld=0\nlog=0\n")
    ∷ (left "-2147483647 -1 -2147483648 { } for" gives "integer:-2147483647 integer:-2147483648")
    ∷ (left "0 2147483647 2147483647 { } for" gives "integer:0 integer:2147483647")
    ∷ (left "-2147483648 2147483647 2147483647 { } for" gives "integer:-2147483648 integer:-1 integer:2147483646")
    ∷ (whole 4096 1000 "#FLOO\n5a" gives "ending=error\nerror=badnumber\ncommand=\nat=6\nwhere=7\nsteps=1\ndepth=0\nheld=0\nlog=0\n")
    ∷ (whole 4096 1000 "#FLOO\n{ a { b \"c\\q\" } }" gives "ending=error\nerror=badescape\ncommand=\nat=6\nwhere=17\nsteps=1\ndepth=0\nheld=0\nlog=0\n")
    ∷ (whole 4096 1000 "#FLOO\n{ 1 { 2 } { 3 \"x\"" gives "ending=error\nerror=badbrace\ncommand=\nat=6\nwhere=16\nsteps=1\ndepth=0\nheld=0\nlog=0\n")
    ∷ (whole 4096 1000 "#FLOO\n1 } 2" gives "ending=error\nerror=badbrace\ncommand=\nat=8\nwhere=8\nsteps=2\ndepth=1\nheld=0\nlog=0\nitem=integer:1\n")
    ∷ (whole 4096 1000 "#FLOO\n/undefined { errorname command } onerror 1 frob 2"
    gives "ending=finished\nerror=none\ncommand=\nat=55\nwhere=\nsteps=13\ndepth=4\nheld=3\nlog=0\nitem=integer:1\nitem=name:/undefined\nitem=name:/frob\nitem=integer:2\n")
    ∷ (whole 4096 40 "#FLOO\n/undefined /frob cvx onerror frob" gives "ending=fuel\nerror=none\ncommand=\nat=35\nwhere=\nsteps=40\ndepth=0\nheld=0\nlog=0\n")
    ∷ (whole 4096 1000 "#FLOO\n/stackunderflow { 7 } onerror pop 8" gives "ending=finished\nerror=none\ncommand=\nat=41\nwhere=\nsteps=10\ndepth=2\nheld=2\nlog=0\nitem=integer:7\nitem=integer:8\n")
    ∷ (whole 4096 1000 "#FLOO\n/stackunderflow { 7 } onerror { pop 8 } bind exec" gives "ending=finished\nerror=none\ncommand=\nat=55\nwhere=\nsteps=16\ndepth=2\nheld=2\nlog=0\nitem=integer:7\nitem=integer:8\n")
    ∷ (narrow 4 512 "#FLOO\n/undefined { frob } onerror frob" gives "ending=error\nerror=undefined\ncommand=frob\nat=34\nwhere=\nsteps=13\ndepth=0\nheld=2\nlog=0\n")
    ∷ (narrow 128 (name_count + 1) "#FLOO\n/undefined { errorname command } onerror frob"
    gives "ending=finished\nerror=none\ncommand=\nat=51\nwhere=\nsteps=11\ndepth=2\nheld=3\nlog=0\nitem=name:/undefined\nitem=null\n")
    ∷ (left "0 ones -1 ones 0x80000001 ones" gives "integer:0 integer:32 integer:2")
    ∷ (left "1 lowpeg 12 lowpeg -1 lowpeg 0x80000000 lowpeg" gives "integer:0 integer:2 integer:0 integer:31")
    ∷ (left "1 highpeg 12 highpeg -1 highpeg 0x80000000 highpeg 0x7FFFFFFF highpeg" gives "integer:0 integer:3 integer:31 integer:31 integer:30")
    ∷ (whole 4096 1000 "#FLOO\n0 lowpeg" gives "ending=error\nerror=undefinedresult\ncommand=lowpeg\nat=8\nwhere=\nsteps=3\ndepth=1\nheld=0\nlog=0\nitem=integer:0\n")
    ∷ (whole 4096 1000 "#FLOO\n0 highpeg" gives "ending=error\nerror=undefinedresult\ncommand=highpeg\nat=8\nwhere=\nsteps=3\ndepth=1\nheld=0\nlog=0\nitem=integer:0\n")
    ∷ (whole 4096 1000 "#FLOO\n/p { \"abc\" dup 0 65 put } def p"
    gives "ending=error\nerror=invalidaccess\ncommand=put\nat=36\nwhere=\nsteps=13\ndepth=4\nheld=8\nlog=0\nitem=string:3/3\nitem=string:3/3\nitem=integer:0\nitem=integer:65\n")
    ∷ (whole 4096 1000 "#FLOO\n/p { \"abc\" } def p p" gives "ending=finished\nerror=none\ncommand=\nat=26\nwhere=\nsteps=12\ndepth=2\nheld=4\nlog=0\nitem=string:3/3\nitem=string:3/3\n")
    ∷ (left "{ 1 2 3 } 0 2 getinterval dup 0 9 put dup 0 get" gives "procedure:2 integer:9")
    ∷ (left "{ add } bind 0 get [ /sub cvx ] cvx readonly bind 0 get" gives "operator:add operator:sub")
    ∷ (left "/invalidaccess { errorname command } onerror { 1 2 } 9 3 put"
    gives "procedure:2 integer:9 integer:3 name:/invalidaccess name:/put")
    ∷ (error "{ 1 2 } 9 3 put" gives "invalidaccess")
    ∷ (error "{ 1 \"ab\" } 1 get 9 true put" gives "typecheck")
    ∷ (error "{ 1 \"ab\" } 1 get 2 0 put" gives "invalidaccess")
    ∷ (error "{ 1 2 } astore" gives "invalidaccess")
    ∷ (error "{ } astore" gives "invalidaccess")
    ∷ (error "[ 1 ] readonly -1 [ ] putinterval" gives "invalidaccess")
    ∷ (error "[ 1 ] readonly 0 \"\" putinterval" gives "typecheck")
    ∷ (error "7 \"\" readonly cvs" gives "invalidaccess")
    ∷ (error "7 readonly" gives "typecheck")
    ∷ (whole 4096 1000 "#FLOO\n99999999999" gives "ending=error\nerror=limitcheck\ncommand=\nat=6\nwhere=\nsteps=1\ndepth=0\nheld=0\nlog=0\n")
    ∷ []

-- Each case's text is what is expected of it.
abbrev Hold : List Case → Type 0
Hold [] = Unit {0}
Hold (c ∷ cs) = (c.computed ≡ c.expected) × Hold cs

checked : Hold cases
unfolding textual words values errors tokens machinery printing operators holding grouping stepping outcomes settings lent ◌gives◌ whole narrow items_of left error_in error cases
checked = (refl, (refl, (refl, (refl, (refl, (refl, (refl, (refl, (refl, (refl, (refl, (refl, (refl, (refl, (refl, (refl, (refl, (refl, (refl, (refl, (refl, (refl, (refl, (refl, (refl, (refl, (refl, (refl, (refl, (refl, (refl, (refl, (refl, (refl, (refl, (refl, (refl, (refl, (refl, (refl, (refl, (refl, (refl, (refl, (refl, (refl, (refl, (refl, tt))))))))))))))))))))))))))))))))))))))))))))))))

-- ---- setup and the token reading

refusals : (refusal (bytes "#FLOO") 1000000 (lent 4096 dictionary_words_most) ≡ 0)
    × (refusal (bytes "#FLO") 1000001 (lent 4096 (name_words - 1)) ≡ 2)
    × (refusal (bytes "#FLOO") 1000001 (lent 4096 (name_words - 1)) ≡ 3)
    × (refusal (bytes "#FLOO") 0 (lent 4096 (name_words - 1)) ≡ 6)
    × (refusal (bytes "#FLOO") 0 (lent 4096 name_words) ≡ 0)
    × (printed (bytes "#FLOO") 0 (lent 0 name_words) ≡ bytes "refused=7\n")
unfolding textual settings outcomes lent
refusals = (refl, refl, refl, refl, refl, refl)

-- The script is: #FLOO LF "a\nb" /xy #
readings : (reading (bytes "#FLOO\n\"a\\nb\" /xy #") 0 ≡ read StringKind 12 7 4)
    × (reading (bytes "#FLOO\n\"a\\nb\" /xy #") 12 ≡ read LiteralName 16 14 2)
    × (reading (bytes "#FLOO\n\"a\\nb\" /xy #") 16 ≡ read End 18 18 0)
    × (reading (bytes "#FLOO\n\"a\\nb\" /xy #") 11 ≡ faulty (OpenString 11))
    × (reading (bytes "#FLOO\n\"a\\nb\" /xy #") 19 ≡ refused 10)
unfolding textual words values tokens grouping settings
readings = (refl, refl, refl, refl, refl)

-- The byte after the digits, or after a token that stops too early.
numerals : (reading (bytes "5a") 0 ≡ faulty (BadNumber 1))
    × (reading (bytes " -0x10") 0 ≡ faulty (BadNumber 3))
    × (reading (bytes "00x1") 0 ≡ faulty (BadNumber 2))
    × (reading (bytes "0x1g") 0 ≡ faulty (BadNumber 3))
    × (reading (bytes "0x ") 0 ≡ faulty (BadNumber 2))
    × (reading (bytes "0x") 0 ≡ faulty (BadNumber 2))
    × (reading (bytes "99999999999a") 0 ≡ faulty (BadNumber 11))
    × (reading (bytes "99999999999") 0 ≡ faulty OverLimit)
unfolding textual words values tokens grouping settings
numerals = (refl, refl, refl, refl, refl, refl, refl, refl)

slashes : (reading (bytes "/") 0 ≡ faulty (BadByte 1))
    × (reading (bytes "// x") 0 ≡ faulty (BadByte 1))
    × (reading (bytes "/5") 0 ≡ faulty (BadByte 1))
    × (reading (bytes "/-5") 0 ≡ faulty (BadByte 2))
unfolding textual words values tokens grouping settings
slashes = (refl, refl, refl, refl)

-- What cuts a string short, and what no escape goes on with.
escapes : (reading (bytes "\"a\\q") 0 ≡ faulty (BadEscape 3))
    × (reading (bytes "\"\\400\"") 0 ≡ faulty (BadEscape 2))
    × (reading (bytes "\"\\4") 0 ≡ faulty (BadEscape 2))
    × (reading (bytes "\"\\38\"") 0 ≡ faulty (BadEscape 3))
    × (reading (bytes "\"\\01\"") 0 ≡ faulty (BadEscape 4))
    × (reading (bytes " \"\\3\n\"") 0 ≡ faulty (OpenString 1))
    × (reading (bytes " \"\\37") 0 ≡ faulty (OpenString 1))
    × (reading (bytes " \"\\") 0 ≡ faulty (OpenString 1))
    × (reading (bytes " \"a\nb\"") 0 ≡ faulty (OpenString 1))
unfolding textual words values tokens grouping settings
escapes = (refl, refl, refl, refl, refl, refl, refl, refl, refl)
