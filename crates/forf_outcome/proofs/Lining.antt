-- The lines of the outcome one after another: the room that each wants, and that together they are the definition's.
-- Assumes nothing.
use mathlib.Core.Path.{◌≡◌, refl, sym, ap, subst, ◌∙◌}
use mathlib.Core.Bool.{true}
use mathlib.Core.List.{List, [], ◌∷◌, ◌++◌, append_assoc}
use Prim.Native.Nat.{ℕ, ◌+◌, ◌-◌, ◌*◌, ◌≤◌, ◌<◌}
use native.Mathlib.Nat.{add-sub_cancel_left}
use native.Mathlib.Numerals.{add-one}
use native.Mathlib.Omega.{arith}
use lib.ListN.{length, take, drop, get_or, set, length-drop}
use lib.Seq.{length-take-le}
use borrow.Author.Tests.{eq-eqb, ne_eqb}
use Rattle.semantics.specs.Text.{bytes, decimal}
use Rattle.semantics.specs.TextLaws.{decimal_length}
use Rattle.semantics.specs.Words.{signed, decimal_z}
use Rattle.semantics.specs.Printing.{name_text}
use Rattle.semantics.specs.Outcome.{line}
use Rattle.semantics.specs.OutcomeLaws.{name_text_length, decimal_z_length, line_length}
use Rattle.semantics.specs.ListLaws.{All}
use Rattle.text.specs.Writing.{Written}
use Rattle.text.proofs.Pasting.{nothing, then, last, respelt}
use Rattle.text.proofs.NumberLines.{after_line}
use Rattle.forf_semantics.specs.Errors.{error_text}
use Rattle.forf_semantics.specs.Items.{count}
use Rattle.forf_semantics.specs.BodyLaws.{body_at, Known}
use Rattle.forf_semantics.specs.Outcome.{ending_lines, item}
use Rattle.forf_semantics.specs.OutcomeLaws.{command_in}
use Rattle.forf_semantics.proofs.OutcomeLaws.{item_length, error_length, ending_length}
use Rattle.forf_semantics.specs.declared.Error.{Error}
use Rattle.forf_machine.specs.Slots.{slots}
use Rattle.forf_machine.specs.Rep.{value_as, value_of, SoundValue}
use Rattle.forf_machine.proofs.Slotting.{all_head}
use Rattle.forf_machine.proofs.Operating.{all_lower}
use Rattle.forf_steps.specs.Stepping.{Command, command_text, HeldCommand}
use Rattle.forf_steps.specs.Running.{ending_of, HeldEnding}
use Rattle.std.specs.Prelude.{Some, None}
use Rattle.forf_steps.specs.declared.Ending.{Ending}
use Rattle.forf_steps.specs.declared.Ending.TheVariants as ending
use Rattle.forf_steps.specs.declared.Ended.{Ended}
use Rattle.forf_outcome.specs.Reports.{failure_lines, Items, line_at, item_lines, outcome_of, Writing}

-- ---- the command

word_length : (script : List ℕ) (start size : ℕ) → start + size ≤ length script → length (take size (drop start script)) ≡ size
word_length script start size h = length-take-le size (drop start script) (rw (length-drop start script) (omega arith))

pub command_length : (script : List ℕ) (c : Command) → HeldCommand script c → length (command_text script c) ≤ 125
command_length script None h = omega arith
command_length script (Some w) h = omega (arith, name_text_length true (take w.1 (drop w.0 script)), word_length script w.0 w.1 h.0, h.1)

pub name_room : (script : List ℕ) (c : Command) (at : ℕ) (out : List ℕ) {start size : ℕ} → c ≡ Some (start, size) → HeldCommand script c → at + 125 ≤ length out
    → at + length (name_text true (take (start + size - start) (drop start script))) ≤ length out
name_room script c at out {start} {size} e h r =
    let k : HeldCommand script (Some (start, size)) = subst (HeldCommand script) e h in
    rw (add-sub_cancel_left start size) (omega (arith, command_length script (Some (start, size)) k))

pub name_inside : (script : List ℕ) (c : Command) {start size : ℕ} → c ≡ Some (start, size) → HeldCommand script c → start + size ≤ length script
name_inside script c e h = (subst (HeldCommand script) e h).0

pub name_written : (script : List ℕ) {c : Command} {start size at r : ℕ} {old new : List ℕ} → c ≡ Some (start, size)
    → Written at (name_text true (take (start + size - start) (drop start script))) old new r → Written at (command_text script c) old new r
name_written script {c} {start} {size} e W =
    respelt (ap (command_text script) e ∙ ap (λ (n : ℕ). name_text true (take n (drop start script))) (sym (add-sub_cancel_left start size))) W

pub no_command : (script : List ℕ) {c : Command} {at : ℕ} {old : List ℕ} → c ≡ None → Written at (command_text script c) old old at
no_command script {at = at} {old} e = respelt (ap (command_text script) e) (nothing at old)

-- ---- a failure

seam : (h a n k c f : List ℕ) → h ++ (a ++ n) ++ (k ++ c ++ f) ≡ h ++ a ++ (n ++ k) ++ c ++ f
seam h a n k c f = simp append_assoc

failure_text : (script : List ℕ) (x : Error) (c : Command)
    → failure_lines script x c ≡ bytes "ending=error\nerror=" ++ error_text x ++ bytes "\ncommand=" ++ command_text script c ++ (10 ∷ [])
unfolding failure_lines line bytes
failure_text script x c = seam (bytes "ending=error\nerror=") (error_text x) (bytes "\n") (bytes "command=") (command_text script c) (bytes "\n")

module _ {out : List ℕ} (room : 171 ≤ length out)
    {o₁ : List ℕ} {start : ℕ} (head : Written 0 (bytes "ending=error\nerror=") out o₁ start) (k₁ : length o₁ ≡ length out) where
  pub error_room : start + 17 ≤ length o₁
  unfolding bytes
  error_room = omega (arith, head.end)

  module _ (x : Error) {o₂ : List ℕ} {middle : ℕ} (name : Written start (error_text x) o₁ o₂ middle) (k₂ : length o₂ ≡ length o₁) where
    middle_few : middle ≤ 36
    unfolding bytes
    middle_few = omega (arith, head.end, name.end, error_length x)

    pub key_room : middle + length (bytes "\ncommand=") ≤ length o₂
    unfolding bytes
    key_room = omega (arith, middle_few)

    module _ {o₃ : List ℕ} {next : ℕ} (key : Written middle (bytes "\ncommand=") o₂ o₃ next) (k₃ : length o₃ ≡ length o₂) where
      pub command_room : next + 125 ≤ length o₃
      unfolding bytes
      command_room = omega (arith, middle_few, key.end)

      module _ (script : List ℕ) (c : Command) (held : HeldCommand script c) {o₄ : List ℕ} {after : ℕ}
          (text : Written next (command_text script c) o₃ o₄ after) (k₄ : length o₄ ≡ length o₃) where
        pub last_room : after < length o₄
        unfolding bytes
        last_room = omega (arith, middle_few, key.end, text.end, command_length script c held)

        pub failure_written : Written 0 (failure_lines script x c) out (set o₄ after 10) (after + 1)
        failure_written =
            let low : 0 ≤ length out = omega arith in
            respelt (failure_text script x c) (last 10 low last_room (then low (then low (then low head name) key) text))

pub ending_as : (script : List ℕ) {e f : Ending} {old new : List ℕ} {r : ℕ} → e ≡ f → Written 0 (ending_lines (ending_of script f)) old new r → Written 0 (ending_lines (ending_of script e)) old new r
ending_as script q W = respelt (ap (λ (x : Ending). ending_lines (ending_of script x)) q) W

pub held_as : (script : List ℕ) {e : Ending} {x : Error} {c : Command} → e ≡ ending.Failed x c → HeldEnding script e → HeldCommand script c
held_as script q h = subst (HeldEnding script) q h

pub failed_as : (script : List ℕ) {e : Ending} {x : Error} {c : Command} {old new : List ℕ} {r : ℕ} → e ≡ ending.Failed x c → Written 0 (failure_lines script x c) old new r
    → Written 0 (ending_lines (ending_of script e)) old new r
unfolding ending_lines failure_lines
failed_as script q W = respelt (ap (λ (x : Ending). ending_lines (ending_of script x)) q) W

command_of_ending : (script : List ℕ) (e : Ending) → HeldEnding script e → length (command_in (ending_of script e)) ≤ 125
command_of_ending script ending.Finished h = omega arith
command_of_ending script ending.OutOfFuel h = omega arith
command_of_ending script (ending.Failed x c) h = command_length script c h

-- ---- a line of an item

pub value_known : (script : List ℕ) (i : ℕ) (s : List ℕ) → Items script (i + 1) s → (get_or s (2 * i) 0 ≡ 0 → ⊥) → Known script (get_or s (2 * i + 1) 0)
unfolding slots
value_known script i s N = all_head (subst (λ (n : ℕ). All (SoundValue script) (slots 2 n s)) (add-one i) N.values)

integer_is : (script : List ℕ) (t p : ℕ) → t ≡ 0 → item (value_of script (t, p)) ≡ bytes "integer:" ++ decimal_z (signed p)
unfolding item value_of value_as
integer_is script t p e = rw (eq-eqb t 0 e) refl

substack_is : (script : List ℕ) (t p : ℕ) → (t ≡ 0 → ⊥) → item (value_of script (t, p)) ≡ bytes "substack:" ++ decimal (count (body_at script p))
unfolding item value_of value_as
substack_is script t p n = rw (ne_eqb t 0 n) refl

line_seam : (k e v w f : List ℕ) → k ++ e ++ (v ++ w) ++ f ≡ (k ++ e ++ v) ++ w ++ f
line_seam k e v w f = simp append_assoc

module _ {at : ℕ} {out mid : List ℕ} {next : ℕ} (room : at + 136 ≤ length out) (k₁ : length mid ≡ length out) where
  pub integer_room : Written at (bytes "item=integer:") out mid next → (w : ℕ) → next + length (decimal_z (signed w)) ≤ length mid
  unfolding bytes
  integer_room W w = omega (arith, W.end, decimal_z_length (signed w))

  pub substack_room : Written at (bytes "item=substack:") out mid next → (n : ℕ) → next + length (decimal n) ≤ length mid
  unfolding bytes
  substack_room W n = omega (arith, W.end, decimal_length n)

  module _ {new : List ℕ} {after : ℕ} (k₂ : length new ≡ length mid) where
    pub integer_feed : Written at (bytes "item=integer:") out mid next → (w : ℕ) → Written next (decimal_z (signed w)) mid new after → after < length new
    unfolding bytes
    integer_feed W w Q = omega (arith, W.end, Q.end, decimal_z_length (signed w))

    pub substack_feed : Written at (bytes "item=substack:") out mid next → (n : ℕ) → Written next (decimal n) mid new after → after < length new
    unfolding bytes
    substack_feed W n Q = omega (arith, W.end, Q.end, decimal_length n)

    pub integer_line : (script : List ℕ) (i : ℕ) (s : List ℕ) → get_or s (2 * i) 0 ≡ 0 → Written at (bytes "item=integer:") out mid next → Written next (decimal_z (signed (get_or s (2 * i + 1) 0))) mid new after
        → Written at (line_at script i s) out (set new after 10) (after + 1)
    unfolding line_at line bytes
    integer_line script i s z W Q =
        let low : at ≤ length out = omega arith in
        let w = get_or s (2 * i + 1) 0 in
        respelt (ap (λ (v : List ℕ). bytes "item" ++ bytes "=" ++ v ++ bytes "\n") (integer_is script (get_or s (2 * i) 0) w z) ∙ line_seam (bytes "item") (bytes "=") (bytes "integer:") (decimal_z (signed w)) (bytes "\n"))
        (last 10 low (integer_feed W w Q) (then low W Q))

    pub substack_line : (script : List ℕ) (i : ℕ) (s : List ℕ) → (get_or s (2 * i) 0 ≡ 0 → ⊥) → {n : ℕ} → n ≡ count (body_at script (get_or s (2 * i + 1) 0)) → Written at (bytes "item=substack:") out mid next → Written next (decimal n) mid new after
        → Written at (line_at script i s) out (set new after 10) (after + 1)
    unfolding line_at line bytes
    substack_line script i s z {n} e W Q =
        let low : at ≤ length out = omega arith in
        let p = get_or s (2 * i + 1) 0 in
        respelt (ap (λ (v : List ℕ). bytes "item" ++ bytes "=" ++ v ++ bytes "\n") (substack_is script (get_or s (2 * i) 0) p z ∙ ap (λ (m : ℕ). bytes "substack:" ++ decimal m) (sym e))
        ∙ line_seam (bytes "item") (bytes "=") (bytes "substack:") (decimal n) (bytes "\n"))
        (last 10 low (substack_feed W n Q) (then low W Q))

-- ---- the lines of the items

pub record Listed (script : List ℕ) (depth : ℕ) (s : List ℕ) (at i : ℕ) (old new : List ℕ) (next : ℕ) : Type 0 where
  pub long : length new ≡ length old
  pub near : next ≤ at + 136 * i
  pub few : i ≤ depth
  pub says : Written at (item_lines script i s) old new next

pub list_begin : (script : List ℕ) (depth : ℕ) (s : List ℕ) (at : ℕ) (old : List ℕ) → Listed script depth s at 0 old old at
unfolding item_lines
list_begin script depth s at old = record { long = refl; near = omega arith; few = omega arith; says = nothing at old }

line_few : (script : List ℕ) (i : ℕ) (s : List ℕ) → length (line_at script i s) ≤ 136
unfolding line_at bytes
line_few script i s =
    let v = value_of script (get_or s (2 * i) 0, get_or s (2 * i + 1) 0) in
    omega (arith, line_length (bytes "item") (item v), item_length v)

module _ {script : List ℕ} {depth : ℕ} {s : List ℕ} {at i : ℕ} {old mid : List ℕ} {next : ℕ} (L : Listed script depth s at i old mid next)
    (N : Items script depth s) (room : at + 136 * depth ≤ length old) (h : i < depth) where
  pub list_room : Items script (i + 1) s × (next + 136 ≤ length mid)
  list_room =
      let f = N.fits in
      (record { fits = omega arith; values = all_lower 2 depth (i + 1) s (omega arith) N.values; short = N.short }, omega (arith, L.near, L.long))

  pub list_again : {new : List ℕ} {after : ℕ} → Written next (line_at script i s) mid new after → length new ≡ length mid → Listed script depth s at (i + 1) old new after
  unfolding item_lines
  list_again {new} {after} W k = record {
    long = k ∙ L.long;
    near = omega (arith, L.near, W.end, line_few script i s);
    few = omega arith;
    says = respelt (ap (λ (n : ℕ). item_lines script n s) (add-one i)) (then (omega arith) L.says W);
  }

pub list_ends : {script : List ℕ} {depth : ℕ} {s : List ℕ} {at i : ℕ} {old new : List ℕ} {next : ℕ} → Listed script depth s at i old new next → depth ≤ i
    → Written at (item_lines script depth s) old new next
list_ends {script} {depth} {s} {i = i} L h = let e : depth ≡ i = let f = L.few in omega arith in respelt (ap (λ (n : ℕ). item_lines script n s) e) L.says

-- ---- all of it

regroup : (a b c d e : List ℕ) → a ++ b ++ c ++ d ++ e ≡ (((a ++ b) ++ c) ++ d) ++ e
regroup a b c d e = simp append_assoc

module _ {script : List ℕ} {r : Ended} {s out : List ℕ} (N : Writing script r s out)
    {o₁ : List ℕ} {p₁ : ℕ} (head : Written 0 (ending_lines (ending_of script r.ending)) out o₁ p₁) (k₁ : length o₁ ≡ length out) where
  pub at_room : p₁ + (2 + 12 + (34 + 136 * r.state.machine.depth)) ≤ length o₁
  at_room =
      let room = N.room in
      omega (arith, head.end, ending_length (ending_of script r.ending), command_of_ending script r.ending N.held)

  module _ {o₂ : List ℕ} {p₂ : ℕ} (place : Written p₁ (line (bytes "at") (decimal r.state.at)) o₁ o₂ p₂) (k₂ : length o₂ ≡ length o₁) where
    pub steps_room : p₂ + (34 + 136 * r.state.machine.depth) ≤ length o₂
    unfolding bytes
    steps_room = after_line (bytes "at") r.state.at (34 + 136 * r.state.machine.depth) at_room place k₂

    module _ {o₃ : List ℕ} {p₃ : ℕ} (count : Written p₂ (line (bytes "steps") (decimal r.state.steps)) o₂ o₃ p₃) (k₃ : length o₃ ≡ length o₂) where
      pub depth_room : p₃ + (17 + 136 * r.state.machine.depth) ≤ length o₃
      unfolding bytes
      depth_room = after_line (bytes "steps") r.state.steps (17 + 136 * r.state.machine.depth) (let h = steps_room in omega arith) count k₃

      module _ {o₄ : List ℕ} {p₄ : ℕ} (deep : Written p₃ (line (bytes "depth") (decimal r.state.machine.depth)) o₃ o₄ p₄) (k₄ : length o₄ ≡ length o₃) where
        pub items_room : p₄ + 136 * r.state.machine.depth ≤ length o₄
        unfolding bytes
        items_room = after_line (bytes "depth") r.state.machine.depth (136 * r.state.machine.depth) (let h = depth_room in omega arith) deep k₄

        pub outcome_written : {new : List ℕ} {end : ℕ} → Written p₄ (item_lines script r.state.machine.depth s) o₄ new end → Written 0 (outcome_of script r s) out new end
        unfolding outcome_of
        outcome_written W =
            let low : 0 ≤ length out = omega arith in
            respelt
            (regroup (ending_lines (ending_of script r.ending)) (line (bytes "at") (decimal r.state.at)) (line (bytes "steps") (decimal r.state.steps))
            (line (bytes "depth") (decimal r.state.machine.depth)) (item_lines script r.state.machine.depth s))
            (then low (then low (then low (then low head place) count) deep) W)
