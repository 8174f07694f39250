-- The first field of a readable text: the text is over, or the field and the rest of its line stand in front, or it is the last of its line.
-- Assumes nothing.
use Rattle.std.specs.Prelude.{◌≡◌, refl, Bool, true, false, ◌||◌, ℕ, drop, eqb}
use Rattle.std.proofs.Common.{sym, ap, ◌∙◌, true≢false}
use mathlib.Core.List.{List, [], ◌∷◌}
use Rattle.std.proofs.Math.Option.{Option, none, some}
use Rattle.semantics.specs.ResultLaws.{choose_cond}
use Rattle.semantics.specs.ListLaws.{none_some, some_one}
use Rattle.ledger.specs.Reading.{Mode, fresh, begins, plain, quoted, closing, returned, Act, keep, pass, end_field, end_line, bad, closed_act, plain_act, first_act, act, Lines, ended, in_front, new_field, new_line, mapped, read_end, read_from}
use Rattle.ledger.specs.LineLaws.{with_bytes}
use Rattle.ledger.proofs.LineLaws.{bytes_fill}
use Rattle.ledger.specs.Pieces.{Close, comma, line, end, over, wrong, piece_on, close_at, piece_from, after, piece_reads}
use Rattle.ledger.specs.Fronts.{is_over, is_comma, Front, gone, goes, stops}

-- ---- only a text without a byte is over, and only where a line may begin

-- A mode other than the start of a line.
abbrev Later : Mode → Type 0
Later fresh = ⊥
Later begins = Unit {0}
Later plain = Unit {0}
Later quoted = Unit {0}
Later closing = Unit {0}
Later returned = Unit {0}

abbrev On : Act → Type 0
On (keep m) = Later m
On (pass m) = Later m
On end_field = Unit {0}
On end_line = Unit {0}
On bad = Unit {0}

closed_on : (b : ℕ) → On (closed_act b)
unfolding closed_act
closed_on b = choose_cond On (eqb b 44) end_field _ (λ _. tt) (λ _. choose_cond On (eqb b 13) (pass returned) bad (λ _. tt) (λ _. tt))

plain_on : (b : ℕ) → On (plain_act b)
unfolding plain_act
plain_on b =
    choose_cond On (eqb b 44) end_field _ (λ _. tt) (λ _. choose_cond On (eqb b 13) (pass returned) _ (λ _. tt) (λ _. choose_cond On (eqb b 34 || eqb b 10) bad (keep plain) (λ _. tt) (λ _. tt)))

first_on : (b : ℕ) → On (first_act b)
unfolding first_act
first_on b = choose_cond On (eqb b 34) (pass quoted) (plain_act b) (λ _. tt) (λ _. plain_on b)

act_on : (m : Mode) (b : ℕ) → On (act m b)
unfolding act
act_on fresh b = first_on b
act_on begins b = first_on b
act_on plain b = plain_on b
act_on quoted b = choose_cond On (eqb b 34) (pass closing) (keep quoted) (λ _. tt) (λ _. tt)
act_on closing b = choose_cond On (eqb b 34) (keep quoted) (closed_act b) (λ _. tt) (λ _. closed_on b)
act_on returned b = choose_cond On (eqb b 10) end_line bad (λ _. tt) (λ _. tt)

abbrev is_line : Close → Bool
is_line comma = false
is_line line = true
is_line end = false
is_line over = false
is_line wrong = false

abbrev is_wrong : Close → Bool
is_wrong comma = false
is_wrong line = false
is_wrong end = false
is_wrong over = false
is_wrong wrong = true

-- After a byte nothing is over.
byte_goes : (m : Mode) (b : ℕ) (s : List ℕ) → ((n : Mode) → Later n → is_over (piece_from n s).close ≡ false) → is_over (piece_from m (b ∷ s)).close ≡ false
unfolding piece_from piece_on
byte_goes m b s ih = by (act m b) (act_on m b)
  where
    by : (a : Act) → On a → is_over (piece_on (λ n. piece_from n s) b a).close ≡ false
    by (keep n) l = ih n l
    by (pass n) l = ih n l
    by end_field l = refl
    by end_line l = refl
    by bad l = refl

later_goes : (s : List ℕ) (m : Mode) → Later m → is_over (piece_from m s).close ≡ false
unfolding piece_from close_at
later_goes [] fresh l = absurd l
later_goes [] begins l = refl
later_goes [] plain l = refl
later_goes [] quoted l = refl
later_goes [] closing l = refl
later_goes [] returned l = refl
later_goes (b ∷ s) m l = byte_goes m b s (later_goes s)

-- ---- after a comma there is a line

-- No line stands there.
unfoldable lacks : Option Lines → Bool
lacks none = false
lacks (some []) = true
lacks (some (l ∷ ls)) = false

lacks_front : (b : ℕ) (o : Option Lines) → lacks (mapped (in_front b) o) ≡ false
unfolding lacks mapped in_front
lacks_front b none = refl
lacks_front b (some []) = refl
lacks_front b (some ([] ∷ ls)) = refl
lacks_front b (some ((f ∷ fs) ∷ ls)) = refl

lacks_bytes : (f : List ℕ) (o : Option Lines) → lacks o ≡ false → lacks (with_bytes f o) ≡ false
unfolding with_bytes
lacks_bytes [] o h = h
lacks_bytes (b ∷ f) o h = lacks_front b (with_bytes f o)

lacks_field : (o : Option Lines) → lacks (mapped new_field o) ≡ false
unfolding lacks mapped new_field
lacks_field none = refl
lacks_field (some []) = refl
lacks_field (some (l ∷ ls)) = refl

lacks_line : (o : Option Lines) → lacks (mapped new_line o) ≡ false
unfolding lacks mapped new_line
lacks_line none = refl
lacks_line (some ls) = refl

lacks_after : (c : Close) (s : List ℕ) → is_over c ≡ false → lacks (after c s) ≡ false
unfolding after lacks
lacks_after comma s h = lacks_field (read_from begins s)
lacks_after line s h = lacks_line (read_from fresh s)
lacks_after end s h = refl
lacks_after over s h = absurd (true≢false h)
lacks_after wrong s h = refl

begins_there : (s : List ℕ) → read_from begins s ≡ some [] → ⊥
unfolding lacks
begins_there s e =
    true≢false (ap lacks (sym e) ∙ ap lacks (piece_reads begins s) ∙ lacks_bytes (piece_from begins s).contents _ (lacks_after (piece_from begins s).close _ (later_goes s begins tt)))

-- ---- where the text ends nothing is left

ends_drop : (m : Mode) (s : List ℕ) → (piece_from m s).close ≡ end → drop (piece_from m s).taken s ≡ []
unfolding piece_from piece_on
ends_drop m [] e = refl
ends_drop m (b ∷ s) e = by (act m b) (λ n. ends_drop n s) e
  where
    by : (a : Act) → ((n : Mode) → (piece_from n s).close ≡ end → drop (piece_from n s).taken s ≡ []) → (piece_on (λ n. piece_from n s) b a).close ≡ end → drop (piece_on (λ n. piece_from n s) b a).taken (b ∷ s) ≡ []
    by (keep n) ih e = ih n e
    by (pass n) ih e = ih n e
    by end_field ih e = absurd (true≢false (ap is_comma e))
    by end_line ih e = absurd (true≢false (ap is_line e))
    by bad ih e = absurd (true≢false (ap is_wrong e))

-- ---- the first field

no_bytes : (f : List ℕ) → with_bytes f none ≡ none
unfolding with_bytes mapped
no_bytes [] = refl
no_bytes (b ∷ f) = ap (mapped (in_front b)) (no_bytes f)

module _ (m : Mode) (s : List ℕ) (ls : Lines) (e : read_from m s ≡ some ls) where
  abbrev here : List ℕ
  here = (piece_from m s).contents

  abbrev left : List ℕ
  left = drop (piece_from m s).taken s

  reads : (c : Close) → (piece_from m s).close ≡ c → with_bytes here (after c left) ≡ some ls
  reads c k = ap (λ d. with_bytes here (after d left)) (sym k) ∙ sym (piece_reads m s) ∙ e

  comma_front : (piece_from m s).close ≡ comma → (o : Option Lines) → read_from begins left ≡ o → with_bytes here (mapped new_field o) ≡ some ls → Front m s ls
  unfolding mapped new_field
  comma_front k none o h = absurd (none_some (sym (no_bytes here) ∙ h))
  comma_front k (some []) o h = absurd (begins_there left o)
  comma_front k (some (fs ∷ rest)) o h = goes (ap is_comma k) o (some_one (sym h ∙ bytes_fill here fs rest))

  line_front : (piece_from m s).close ≡ line → (o : Option Lines) → read_from fresh left ≡ o → with_bytes here (mapped new_line o) ≡ some ls → Front m s ls
  unfolding mapped new_line ended
  line_front k none o h = absurd (none_some (sym (no_bytes here) ∙ h))
  line_front k (some rest) o h = stops (ap is_over k) (ap is_comma k) o (some_one (sym h ∙ bytes_fill here [] rest))

  end_front : (piece_from m s).close ≡ end → with_bytes here (some (ended ∷ [])) ≡ some ls → Front m s ls
  unfolding ended read_from read_end
  end_front k h = stops (ap is_over k) (ap is_comma k) (ap (read_from fresh) (ends_drop m s k)) (some_one (sym h ∙ bytes_fill here [] []))

gone_front : (ls : Lines) (n : Mode) (t : List ℕ) → is_over (piece_from n t).close ≡ true → read_from n t ≡ some ls → ls ≡ []
unfolding read_from read_end piece_from close_at
gone_front ls fresh [] k r = some_one (sym r)
gone_front ls begins [] k r = absurd (true≢false (sym k))
gone_front ls plain [] k r = absurd (true≢false (sym k))
gone_front ls quoted [] k r = absurd (true≢false (sym k))
gone_front ls closing [] k r = absurd (true≢false (sym k))
gone_front ls returned [] k r = absurd (true≢false (sym k))
gone_front ls n (b ∷ t) k r = absurd (true≢false (sym k ∙ byte_goes n b t (later_goes t)))

pub front : (m : Mode) (s : List ℕ) (ls : Lines) → read_from m s ≡ some ls → Front m s ls
unfolding after
front m s ls e = by (piece_from m s).close refl
  where
    by : (c : Close) → (piece_from m s).close ≡ c → Front m s ls
    by comma k = comma_front m s ls e k (read_from begins (left m s ls e)) refl (reads m s ls e comma k)
    by line k = line_front m s ls e k (read_from fresh (left m s ls e)) refl (reads m s ls e line k)
    by end k = end_front m s ls e k (reads m s ls e end k)
    by over k = gone (ap is_over k) (gone_front ls m s (ap is_over k) e)
    by wrong k = absurd (none_some (sym (no_bytes (piece_from m s).contents) ∙ reads m s ls e wrong k))
