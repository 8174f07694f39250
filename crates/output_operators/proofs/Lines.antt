-- The loops over the stack's items, from the bottom: the text of the first i items is measured or written, each with the byte after it.
-- Assumes nothing.
use mathlib.Core.Path.{◌≡◌, refl, sym, ap, ◌∙◌, subst}
use mathlib.Core.Bool.{true, false}
use mathlib.Core.List.{List, [], ◌∷◌, ◌++◌, map, reverse, reverse-cons}
use mathlib.Core.Logic.{⊎_elim}
use Prim.Native.Nat.{ℕ, zero, suc, ◌+◌, ◌-◌, ◌≤◌, ◌<◌}
use native.Mathlib.Omega.{arith}
use native.Mathlib.Nat.{eq-or-lt_of_le}
use borrow.Author.Tests.{le-leb, lt-leb}
use lib.ListN.{length, get_or, set, get_or-append, length-reverse, length-set}
use lib.Seq.{get_or-append_seam}
use Rattle.semantics.specs.Text.{bytes}
use Rattle.semantics.specs.Values.{Value, null}
use Rattle.semantics.specs.Machine as Floo
use Rattle.semantics.specs.Printing.{joined, echoed, echoed_to}
use Rattle.text.specs.Writing.{Written}
use Rattle.text.proofs.Pasting.{respelt, nothing, last, then}
use Rattle.machine.specs.Words.{item_tag, item_payload}
use Rattle.machine.specs.Rep.{Rep, IsIn, Items, bottom, item}
use Rattle.machine.specs.declared.Machine.{Machine}
use Rattle.machine.proofs.Items.{items_length}
use Rattle.printing.specs.Shown.{Known, WithRoom, Measures, Writes}
use Rattle.printing.proofs.Lists.{begun, begun_more, begun_longer, begun_part, begun_all}
use Rattle.output_operators.specs.Output.{SomewhereLog, line_of, feed_of, FitsLine, LineRoom, WritesLine}

pub feed_blank : (k : ℕ) → 0 < k → 32 ≡ feed_of k
unfolding feed_of
feed_blank zero h = absurd (omega arith)
feed_blank (suc k) h = refl

pub feed_line : (k : ℕ) → k ≤ 0 → 10 ≡ feed_of k
unfolding feed_of
feed_line zero h = refl
feed_line (suc k) h = absurd (omega arith)

-- ---- items from the bottom

module _ {Is : Value → ℕ → ℕ → Type 0} {words : List ℕ} where
  pub from_bottom : {n : ℕ} {s : List Value} → Items Is words n s → (i : ℕ) → i < n → Is (get_or (reverse s) i null) (item_tag words i) (item_payload words i)
  from_bottom bottom i h = absurd (omega arith)
  from_bottom (item {n = n} {v = v} {s = s} w r) i h =
      let long : length (reverse s) ≡ n = length-reverse s ∙ items_length r in
      let here : i ≡ n → Is (get_or (reverse s ++ (v ∷ [])) i null) (item_tag words i) (item_payload words i) =
      λ e. subst (λ k. Is (get_or (reverse s ++ (v ∷ [])) k null) (item_tag words k) (item_payload words k)) (sym e)
      (subst (λ x. Is x (item_tag words n) (item_payload words n))
      (sym (get_or-append_seam (reverse s) v [] null) ∙ ap (λ k. get_or (reverse s ++ (v ∷ [])) k null) long) w) in
      let there : i < n → Is (get_or (reverse s ++ (v ∷ [])) i null) (item_tag words i) (item_payload words i) =
      λ l. subst (λ x. Is x (item_tag words i) (item_payload words i)) (sym (get_or-append (reverse s) (v ∷ []) null i (omega (arith, l, long)))) (from_bottom r i l) in
      let low : i ≤ n = omega (arith, h) in
      subst (λ (t : List Value). Is (get_or t i null) (item_tag words i) (item_payload words i)) (sym (reverse-cons v s)) (⊎_elim here there (eq-or-lt_of_le low))

-- ---- the text

abbrev texts : Floo.Machine → ℕ → List ℕ
texts μ i = begun (echoed_to 4 μ) feed_of i (reverse μ.stack)

module _ {m : Machine} {s e d c l : List ℕ} {μ : Floo.Machine} (R : Rep m s e d c l μ) where
  deep : length (reverse μ.stack) ≡ m.depth
  deep = length-reverse μ.stack ∙ items_length R.items

  line_is : 0 < m.depth → line_of μ ≡ texts μ m.depth
  unfolding line_of echoed feed_of bytes
  line_is h = by (reverse μ.stack) (omega (arith, h, deep)) ∙ ap (λ n. texts μ n) deep
    where
      by : (vs : List Value) → 0 < length vs → joined (bytes " ") (map (echoed_to 4 μ) vs) ++ (10 ∷ []) ≡ begun (echoed_to 4 μ) feed_of (length vs) vs
      by [] h = absurd (omega arith)
      by (v ∷ vs) h = begun_all (echoed_to 4 μ) feed_of (λ k. refl) v vs

  pub item_words : (i : ℕ) → i < m.depth → IsIn R.world μ (get_or (reverse μ.stack) i null) (item_tag s i) (item_payload s i)
  item_words i h = from_bottom R.items i h

  text_longer : (i : ℕ) → i < m.depth → length (texts μ (i + 1)) ≡ length (texts μ i) + length (echoed_to 4 μ (get_or (reverse μ.stack) i null)) + 1
  text_longer i h = begun_longer (echoed_to 4 μ) feed_of i (reverse μ.stack) (omega (arith, h, deep))

  text_part : (i : ℕ) → 0 < m.depth → length (texts μ i) ≤ length (line_of μ)
  text_part i h =
      omega (arith, ap length (line_is h), begun_part (echoed_to 4 μ) feed_of i (reverse μ.stack), ap (λ n. length (texts μ n)) deep)

abbrev pub item_known : {m : Machine} {s d c l : List ℕ} → SomewhereLog m s d c l → (i : ℕ) → i < m.depth → Known d c (item_tag s i) (item_payload s i)
item_known {m} {s} {l = l} w i h =
    record { small = m; stack = s; exec = w.0; log = l; machine = w.1; rep = w.2; value = get_or (reverse w.1.stack) i null; words = item_words w.2 i h }

-- ---- measured

pub record Summed (m : Machine) (s d c : List ℕ) (i sum : ℕ) : Type 0 where
  pub says : (e l : List ℕ) (μ : Floo.Machine) → Rep m s e d c l μ → sum ≡ length (texts μ i)

pub summed_begin : (m : Machine) (s d c : List ℕ) → Summed m s d c 0 0
unfolding begun
summed_begin m s d c = record { says = λ e l μ R. refl }

module _ {m : Machine} {s d c : List ℕ} (some : 0 < m.depth) {room i sum : ℕ} (few : sum ≤ room) (S : Summed m s d c i sum) where
  pub summed_ends : i ≡ m.depth → FitsLine m s d c room true
  summed_ends z =
      record {
        says = λ e l μ R.
            sym (le-leb (length (line_of μ)) room (omega (arith, few, S.says e l μ R, ap length (line_is R some), ap (λ n. length (texts μ n)) z)));
      }

  module _ (inside : i < m.depth) {k : ℕ} (M : Measures d c (item_tag s i) (item_payload s i) 4 (room - sum) k) where
    pub summed_over : room - sum ≤ k → FitsLine m s d c room false
    summed_over over =
        record {
          says = λ e l μ R.
              sym (lt-leb (length (line_of μ)) room (omega (
                arith,
                few,
                over,
                S.says e l μ R,
                M.says m s e l μ R (get_or (reverse μ.stack) i null) (item_words R i inside),
                text_longer R i inside,
                text_part R (i + 1) some,
              )));
        }

    pub summed_again : k < room - sum → Summed m s d c (i + 1) (sum + k + 1)
    summed_again short =
        record {
          says = λ e l μ R.
              omega (arith, short, S.says e l μ R, M.says m s e l μ R (get_or (reverse μ.stack) i null) (item_words R i inside), text_longer R i inside);
        }

-- ---- written

pub record Lined (m : Machine) (s d c : List ℕ) (i : ℕ) (old new : List ℕ) (r : ℕ) : Type 0 where
  pub long : length new ≡ length old
  pub says : (e : List ℕ) (μ : Floo.Machine) → Rep m s e d c old μ → Written m.written (texts μ i) old new r

pub lined_begin : (m : Machine) (s d c old : List ℕ) → Lined m s d c 0 old old m.written
unfolding begun
lined_begin m s d c old = record { long = refl; says = λ e μ R. nothing m.written old }

module _ {m : Machine} {s d c old : List ℕ} (some : 0 < m.depth) (N : LineRoom m s d c old) {i : ℕ} {mid : List ℕ} {r : ℕ} (T : Lined m s d c i old mid r) where
  pub lined_ends : i ≡ m.depth → WritesLine m s d c old mid r
  lined_ends z =
      record { says = λ e μ R. respelt (line_is R some ∙ ap (λ n. texts μ n) (sym z)) (T.says e μ R) }

  module _ (inside : i < m.depth) where
    abbrev w : SomewhereLog m s d c old
    w = N.somewhere

    item_room_lem : r + length (echoed_to 4 w.1 (get_or (reverse w.1.stack) i null)) + 1 ≤ length mid
    item_room_lem = omega (arith, T.long, (T.says w.0 w.1 w.2).end, text_longer w.2 i inside, text_part w.2 (i + 1) some, N.fits)

    pub item_fits : WithRoom d c (item_tag s i) (item_payload s i) 4 r mid
    item_fits = record { known = item_known w i inside; fits = omega (arith, item_room_lem) }

    module _ {mid' : List ℕ} {r' : ℕ} (W : Writes d c (item_tag s i) (item_payload s i) 4 r mid mid' r') (kept : length mid' ≡ length mid) where
      pub feed_fits : r' < length mid'
      feed_fits =
          omega (arith, kept, item_room_lem, (W.says m s w.0 old w.1 w.2 (get_or (reverse w.1.stack) i null) (item_words w.2 i inside)).end)

      pub lined_again : {b : ℕ} → b ≡ feed_of (m.depth - (i + 1)) → Lined m s d c (i + 1) old (set mid' r' b) (r' + 1)
      lined_again {b} byte =
          record {
            long = length-set mid' r' b ∙ kept ∙ T.long;
            says = λ e μ R.
                let vs = reverse μ.stack in
                let g = echoed_to 4 μ in
                let low : i < length vs = omega (arith, inside, deep R) in
                let element = W.says m s e old μ R (get_or vs i null) (item_words R i inside) in
                let here : r ≤ length mid = omega (arith, item_room_lem) in
                let both = then R.logging.fits (T.says e μ R) (last b here feed_fits element) in
                respelt
                (begun_more g feed_of i vs low ∙ ap (λ k. texts μ i ++ (g (get_or vs i null) ++ (k ∷ []))) (sym (byte ∙ ap (λ n. feed_of (n - (i + 1))) (sym (deep R)))))
                both;
          }
