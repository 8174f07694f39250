-- A root place takes another value: the heap after `recount` stands for the same objects, with that place changed, and what the other places
-- hold is carried over.
-- Assumes nothing.
use mathlib.Core.Path.{◌≡◌, refl, sym, ap, ◌∙◌, subst}
use mathlib.Core.Bool.{true}
use mathlib.Core.List.{List, map}
use mathlib.Core.Logic.{⊎_elim}
use Prim.Native.Nat.{ℕ, zero, suc, ◌+◌, ◌/◌, ◌≤◌, ◌<◌}
use native.Mathlib.Omega.{arith}
use lib.ListN.{length}
use Rattle.semantics.specs.Values.{Value, array, Object}
use Rattle.heap.specs.Chain.{live, on}
use Rattle.heap.specs.Shape.{Full, cells, target}
use Rattle.heap.specs.Upd.{upd}
use Rattle.heap.specs.Assign.{aimed}
use Rattle.heap.specs.declared.Lists.{Lists}
use Rattle.heap.proofs.Parts as parts
use Rattle.heap.proofs.Since.{lt_or_le}
use Rattle.store.specs.Rep as Store
use Rattle.store.specs.Rep.{is_text, Names, by_array, Alive, Sealed}
use Rattle.store.proofs.Standing.{names_stands, stands_names, stands_plain}
use Rattle.store.proofs.Deaths.{rep_since, root_alive}
use Rattle.store.proofs.Rooting.{root_placed}
use Rattle.store.proofs.Changes.{rep_words}
use Rattle.store.proofs.Sealing.{sealed_kept}
use Rattle.machine.specs.Places.{root_count}
use Rattle.machine.specs.Rep.{World, Stored, Is}
use Rattle.machine.specs.Recount.{Place, Change, Recounts}
use Rattle.machine.proofs.Carrying.{Reached}

module _ {w : World} {s : Lists} {c : List ℕ} {names : List (List ℕ)} {store : List Object} {rts : ℕ → Value} (H : Stored w s c names store rts)
    (r : ℕ) (b : r < root_count) {t p : ℕ} (old : Is w names (map is_text store) (rts r) t p) where
  -- What a place names is what its words name.
  pub holds : w.ghost.aim (cells c + r) ≡ target 0 t p
  holds = ⊎_elim plain object (lt_or_le t 8)
    where
      object : 8 ≤ t → w.ghost.aim (cells c + r) ≡ target 0 t p
      object l =
          let y = H.objects.rooted r (w.ρ p) (names_stands old.stands l) in
          let x = y.1 in
          let lives = H.full.counts.aimed (cells c + r) x.0 (omega arith) x.1 in
          x.1 ∙ ap suc (H.objects.one x.0 p lives (old.alive l) x.2) ∙ sym (parts.object 0 t p refl l)

      named : t < 8 → (a : ℕ) → w.ghost.aim (cells c + r) ≡ a → a ≡ 0
      named l zero e = refl
      named l (suc h) e = absurd (stands_plain old.stands l (H.objects.root r h e))

      plain : t < 8 → w.ghost.aim (cells c + r) ≡ target 0 t p
      plain l = named l (w.ghost.aim (cells c + r)) refl ∙ sym (parts.no_object 0 t p refl l)

  module _ {v' : Value} {t' p' : ℕ} (new : Is w names (map is_text store) v' t' p') where
    pub place : Place s c t p t' p' (cells c + root_count) w.ghost (cells c + r)
    place = record { full = H.full; none_dead = H.none_dead; alive = new.alive; root = omega arith; inside = omega arith; holds = holds }

    module _ {s' : Lists} {c' : List ℕ} (K : Recounts s c t p t' p' s' c') where
      pub change : Change s c t' p' s' c' (cells c + root_count) w.ghost (cells c + r)
      change = K.changes (cells c + root_count) w.ghost (cells c + r) place

      abbrev pub next : World
      next = record { ρ = w.ρ; ghost = change.ghost }

      same_cells : cells change.counted ≡ cells c
      same_cells = ap (λ n. n / 4) change.long

      -- The place has the new value, and what it held is in hand.
      placed : Full (aimed w.ghost (cells c + r) (target 0 t' p')) (cells c + root_count) (w.ghost.aim (cells c + r)) s change.counted
          × Store.Rep names root_count w.ρ (aimed w.ghost (cells c + r) (target 0 t' p')) change.counted store (upd rts r v')
      placed =
          let near : cells c + root_count ≡ cells change.counted + root_count = omega (arith, same_cells) in
          let words = rep_words H.objects change.long (λ x u l. change.same x u (omega arith) (λ e. omega arith)) in
          subst (λ n. Full (aimed w.ghost (n + r) (target 0 t' p')) (cells c + root_count) (w.ghost.aim (n + r)) s change.counted
          × Store.Rep names root_count w.ρ (aimed w.ghost (n + r) (target 0 t' p')) change.counted store (upd rts r v'))
          same_cells
          (root_placed r t' p' v' change.risen words near b new.stands)

      long : length c' ≡ length c
      long = change.since.long ∙ change.long

      pub stored : Stored next s' c' names store (upd rts r v')
      stored =
          let near : cells c + root_count ≡ cells change.counted + root_count = omega (arith, same_cells) in
          record {
            full = subst (λ n. Full change.ghost (n + root_count) 0 s' c') (sym (ap (λ n. n / 4) long)) change.full;
            none_dead = K.none_dead;
            none_out = change.whole H.none_out;
            objects = rep_since placed.0.heap.shape placed.0.counts placed.1 near change.since;
          }

      -- Objects have the marks that they had.
      pub marked : {ids : List ℕ} → Sealed w.ρ w.ghost c store ids → Sealed w.ρ change.ghost c' store ids
      marked S =
          sealed_kept S (omega arith)
          (λ h l. let x = change.since.alive h l in (x.0, x.3 ∙ change.same h 1 (omega arith) (λ e. omega arith)))

      -- What a place still reaches is what it was.
      pub carry : (v : Value) (t p : ℕ) → Reached (Alive w.ρ change.ghost) v → Is w names (map is_text store) v t p → Is next names (map is_text store) v t p
      carry v t p q h =
          record {
            stands = h.stands;
            alive = λ l.
                let x = q.reach (w.ρ p) (names_stands h.stands l) in
                let was = (change.since.alive x.0 x.1).0 in
                subst (λ y. change.ghost.own y ≡ live) (H.objects.one x.0 p was (h.alive l) x.2) x.1;
          }

      pub stays : (i t p a k : ℕ)
          → Reached (Alive w.ρ change.ghost) (array true i)
          → Is w names (map is_text store) (array true i) t p
          → w.ghost.own a ≡ on (p + 2) k
          → change.ghost.own a ≡ on (p + 2) k
      stays i t p a k q h o = change.since.kept a p k o ((carry (array true i) t p q h).alive (stands_names h.stands by_array).0)

      -- What a root names lives.
      pub reached : (x i : ℕ) → Names (upd rts r v' x) i → Alive w.ρ change.ghost i
      reached x i n = root_alive stored.full.heap.shape stored.full.counts stored.objects refl x i n
