-- What echostack comes to at each of its returns.
-- Assumes nothing.
use Rattle.std.specs.Prelude.{Ok, Err}
use mathlib.Core.Path.{◌≡◌, refl, sym, ap, ◌∙◌}
use mathlib.Core.Bool.{Bool, true, false}
use mathlib.Core.List.{List, [], ◌∷◌, ◌++◌, map, reverse}
use Prim.Native.Nat.{ℕ, ◌+◌, ◌-◌, ◌≤◌, ◌<◌}
use native.Mathlib.Omega.{arith}
use borrow.Author.Tests.{leb-true, leb-false}
use lib.ListN.{length, set}
use Rattle.semantics.specs.Text.{bytes}
use Rattle.semantics.specs.Values.{Value, ok}
use Rattle.semantics.specs.Machine as Floo
use Rattle.semantics.specs.Machine.{write}
use Rattle.semantics.specs.Printing.{joined, echoed}
use Rattle.semantics.specs.TextOperators.{echostack}
use Rattle.semantics.specs.Operators.{perform}
use Rattle.semantics.specs.declared.Error.TheVariants.{IoError}
use Rattle.text.proofs.Pasting.{respelt, one}
use Rattle.machine.specs.Rep.{Rep, MovesHeap}
use Rattle.machine.specs.declared.Machine.{Machine}
use Rattle.machine.proofs.Outcomes.{stack_depth}
use Rattle.output_operators.specs.Output.{DoesLog, SomewhereLog, line_of, FitsLine, LineRoom, WritesLine}
use Rattle.output_operators.proofs.Logging.{with_written, past, over_log, writes_log, itself_keeps}
use Rattle.output_operators.proofs.Named.{echostack_is}

line_done : (μ : Floo.Machine) → perform (bytes "echostack") μ ≡ ok (write (line_of μ) μ)
unfolding echostack line_of
line_done μ = echostack_is μ

-- Of an empty stack a line feed alone.
line_none : (μ : Floo.Machine) → length μ.stack ≡ 0 → line_of μ ≡ 10 ∷ []
unfolding line_of joined bytes
line_none μ z = by μ.stack z
  where
    by : (s : List Value) → length s ≡ 0 → joined (bytes " ") (map (echoed μ) (reverse s)) ++ bytes "\n" ≡ 10 ∷ []
    by [] z = refl
    by (v ∷ s) z = absurd (omega arith)

stays : {m : Machine} {s c : List ℕ} → MovesHeap (λ μ. μ) m m s s c c
stays = record { moves = λ e d l μ R. R }

module _ {m : Machine} {s d c l : List ℕ} where
  module _ (none : m.depth ≡ 0) where
    pub none_over : length l - m.written < 1 → DoesLog (perform (bytes "echostack")) m s d c c l l (Err IoError)
    none_over h =
        over_log (λ μ. μ) itself_keeps
        (λ e μ R. (line_of μ, line_done μ, omega (arith, h, R.logging.fits, ap length (line_none μ (stack_depth R ∙ none)))))

    pub none_good : 1 ≤ length l - m.written → DoesLog (perform (bytes "echostack")) m s d c c l (set l m.written 10) (Ok (with_written (m.written + 1) m))
    none_good h =
        writes_log (λ μ. μ) itself_keeps stays
        (λ e μ R.
        let line = line_none μ (stack_depth R ∙ none) in
        (line_of μ, line_done μ, respelt line (one (omega (arith, h))), omega (arith, h, ap length line)))
        (let low : m.written < length l = omega (arith, h) in
        past {at = m.written} (omega (arith, low)) (one {v = 10} low))

  module _ {r : Bool} (F : FitsLine m s d c (length l - m.written) r) where
    pub line_over : r ≡ false → DoesLog (perform (bytes "echostack")) m s d c c l l (Err IoError)
    line_over q =
        over_log (λ μ. μ) itself_keeps
        (λ e μ R.
        let long = leb-false (length (line_of μ)) (length l - m.written) (sym (F.says e l μ R) ∙ q) in
        (line_of μ, line_done μ, omega (arith, long, R.logging.fits)))

    module _ (q : r ≡ true) where
      short : {e : List ℕ} {μ : Floo.Machine} → Rep m s e d c l μ → m.written + length (line_of μ) ≤ length l
      short {e} {μ} R =
          let fits = leb-true (length (line_of μ)) (length l - m.written) (sym (F.says e l μ R) ∙ q) in
          omega (arith, fits, R.logging.fits)

      pub line_room : SomewhereLog m s d c l → LineRoom m s d c l
      line_room w = record { somewhere = w; fits = short w.2 }

      pub line_good : {l' : List ℕ} {after : ℕ} → SomewhereLog m s d c l → WritesLine m s d c l l' after → DoesLog (perform (bytes "echostack")) m s d c c l l' (Ok (with_written after m))
      line_good w W =
          writes_log (λ μ. μ) itself_keeps stays (λ e μ R. (line_of μ, line_done μ, W.says e μ R, short R)) (past w.2.logging.fits (W.says w.0 w.1 w.2))
