-- The lines of the items, the bottom first: after each turn the items from place i on are written, each in 136 bytes at most.
-- Assumes nothing.
use mathlib.Core.Path.{◌≡◌, refl, sym, ap, ◌∙◌}
use mathlib.Core.List.{List, [], ◌∷◌, ◌++◌, reverse, reverse-cons, append_assoc, append-nil}
use Prim.Native.Nat.{ℕ, suc, ◌+◌, ◌-◌, ◌*◌, ◌≤◌, ◌<◌}
use native.Mathlib.Omega.{arith}
use lib.ListN.{length, get_or, set, drop, drop_of_length-le}
use lib.Seq.{drop-cons}
use Rattle.semantics.specs.Sizes.{item_room}
use Rattle.semantics.specs.Text.{bytes}
use Rattle.semantics.specs.Values.{Value, null}
use Rattle.semantics.specs.Machine as Floo
use Rattle.semantics.specs.Printing.{item}
use Rattle.semantics.specs.Outcome.{line, items}
use Rattle.semantics.specs.OutcomeLaws.{line_length}
use Rattle.text.specs.Writing.{Written}
use Rattle.text.proofs.Pasting.{nothing, then, last, respelt}
use Rattle.machine.specs.Rep.{Rep}
use Rattle.machine.specs.declared.Machine.{Machine}
use Rattle.machine.proofs.Outcomes.{stack_depth}
use Rattle.outcome.specs.Reports.{ItemsRoom, WritesItems, ItemRoom, WritesItem, WritesValue}
use Rattle.outcome.proofs.Valuing.{item_few}

-- ---- a line

module _ {i : ℕ} {m : Machine} {s d c : List ℕ} (N : ItemRoom i m s d c) {at : ℕ} {out : List ℕ} (room : at + item_room ≤ length out)
    {mid : List ℕ} {next : ℕ} (K : Written at (bytes "item=") out mid next) (same : length mid ≡ length out) where
  pub value_room : next + 130 ≤ length mid
  unfolding bytes
  value_room = omega (arith, room, K.end, same)

  module _ {new : List ℕ} {after : ℕ} (text : WritesValue i m s d c next mid new after) (kept : length new ≡ length mid) where
    pub feed_room : after < length new
    unfolding bytes
    feed_room = omega (arith, room, K.end, same, kept, (text.says N.exec N.log N.machine N.rep).end, item_few N N.rep)

    pub item_written : WritesItem i m s d c at out (set new after 10) (after + 1)
    unfolding line bytes
    item_written =
        let low : at ≤ length out = omega (arith, room) in
        record { says = λ e l μ R. last 10 low feed_room (then low K (text.says e l μ R)) }

-- ---- the lines

items_append : (μ : Floo.Machine) (a b : List Value) → items μ (a ++ b) ≡ items μ a ++ items μ b
unfolding items
items_append μ [] b = refl
items_append μ (v ∷ a) b =
    ap (λ (t : List ℕ). line (bytes "item") (item μ v) ++ t) (items_append μ a b)
    ∙ sym (append_assoc (line (bytes "item") (item μ v)) (items μ a) (items μ b))

items_more : (μ : Floo.Machine) (l : List Value) (j : ℕ) → j < length l
    → items μ (reverse (drop j l)) ≡ items μ (reverse (drop (suc j) l)) ++ line (bytes "item") (item μ (get_or l j null))
unfolding items
items_more μ l j h =
    ap (λ (t : List Value). items μ (reverse t)) (drop-cons l j null h)
    ∙ ap (items μ) (reverse-cons (get_or l j null) (drop (suc j) l))
    ∙ items_append μ (reverse (drop (suc j) l)) (get_or l j null ∷ [])
    ∙ ap (λ (t : List ℕ). items μ (reverse (drop (suc j) l)) ++ t) (append-nil (line (bytes "item") (item μ (get_or l j null))))

-- The items from place i from the top on.
pub record Listed (m : Machine) (s d c : List ℕ) (i at : ℕ) (old new : List ℕ) (r : ℕ) : Type 0 where
  pub long : length new ≡ length old
  pub near : r + item_room * i ≤ at + item_room * m.depth
  pub says : (e l : List ℕ) (μ : Floo.Machine) → Rep m s e d c l μ → Written at (items μ (reverse (drop i μ.stack))) old new r

module _ {m : Machine} {s d c : List ℕ} {at : ℕ} {old : List ℕ} where
  pub listed_begin : Listed m s d c m.depth at old old at
  unfolding items
  listed_begin =
      record {
        long = refl;
        near = omega arith;
        says = λ e l μ R.
            respelt
            (ap (λ (t : List Value). items μ (reverse t)) (drop_of_length-le μ.stack {i = m.depth} (omega (arith, stack_depth R))))
            (nothing at old);
      }

  pub listed_ends : {i : ℕ} {new : List ℕ} {r : ℕ} → i ≡ 0 → Listed m s d c i at old new r → WritesItems m s d c at old new r
  listed_ends z T = record { says = λ e l μ R. respelt (ap (λ n. items μ (reverse (drop n μ.stack))) (sym z)) (T.says e l μ R) }

  module _ (N : ItemsRoom m s d c at old) {i : ℕ} {mid : List ℕ} {r : ℕ} (T : Listed m s d c i at old mid r) (some : 0 < i) (few : i ≤ m.depth) where
    pub item_room_lem : (r + item_room ≤ length mid) × ItemRoom (i - 1) m s d c
    item_room_lem = (
      omega (arith, N.fits, T.near, T.long, some),
      record { exec = N.exec; log = N.log; machine = N.machine; rep = N.rep; inside = omega (arith, some, few) },
    )

    pub listed_again : {new : List ℕ} {r' : ℕ} → WritesItem (i - 1) m s d c r mid new r' → length new ≡ length mid → Listed m s d c (i - 1) at old new r'
    unfolding bytes
    listed_again W kept =
        let v = get_or N.machine.stack (i - 1) null in
        record {
          long = kept ∙ T.long;
          near = omega (
            arith,
            some,
            T.near,
            (W.says N.exec N.log N.machine N.rep).end,
            line_length (bytes "item") (item N.machine v),
            item_few item_room_lem.1 N.rep,
          );
          says = λ e l μ R.
              let back : suc (i - 1) ≡ i = omega (arith, some) in
              respelt
              (items_more μ μ.stack (i - 1) (omega (arith, some, few, stack_depth R))
              ∙ ap (λ n. items μ (reverse (drop n μ.stack)) ++ line (bytes "item") (item μ (get_or μ.stack (i - 1) null))) back)
              (then (omega (arith, N.fits)) (T.says e l μ R) (W.says e l μ R));
        }
