-- Root places: the value in hand and the one in a place change places, two places change theirs, and a place takes a value that names the
-- same. What is not alive stays dead, since a value in hand names what lives.
-- Assumes nothing.
use mathlib.Core.Path.{◌≡◌, refl, sym, ap, ◌∙◌}
use mathlib.Core.List.{List, map}
use mathlib.Core.Logic.{inl, inr, ⊎_elim, ◌↔◌}
use Prim.Native.Nat.{ℕ, suc, ◌+◌, ◌≤◌, ◌<◌}
use native.Mathlib.Omega.{arith}
use Rattle.semantics.specs.Values.{Value, Object}
use Rattle.heap.specs.Upd.{upd}
use Rattle.heap.specs.Chain.{live}
use Rattle.heap.specs.Shape.{Ghost, Shape, Counts, Full, cells, is, target}
use Rattle.heap.specs.Assign.{aimed}
use Rattle.heap.specs.declared.Lists.{Lists}
use Rattle.heap.proofs.Upds.{upd_at, upd_other, same?, at_upd, total_upd}
use Rattle.heap.proofs.Shapes.{inside, aim_shape}
use Rattle.heap.proofs.Parts as parts
use Rattle.heap.proofs.Roots.{root_swap}
use Rattle.store.specs.Rep.{is_text, Stands, Names, Alive, Rep}
use Rattle.store.proofs.Standing.{stands_names, names_stands, names_cast}
use Rattle.store.proofs.Places.{aims_at}
use Rattle.store.proofs.Deaths.{dead_mono, dead_keeps, alive?, element_alive}
use Rattle.store.proofs.Changes.{aiming}

module _ {keys : List (List ℕ)} {n : ℕ} {ρ : ℕ → ℕ} {g : Ghost} {e p hand : ℕ} {m : List ℕ} {store : List Object} {roots : ℕ → Value}
    (S : Shape g e m) (C : Counts g p hand m) (R : Rep keys n ρ g m store roots) (r : ℕ) (b : r < n) (v : Value)
    (to : (h : ℕ) → hand ≡ suc h → Names v (ρ h)) (from : (i : ℕ) → Names v i → (h : ℕ) × (hand ≡ suc h) × (ρ h ≡ i)) where
  pub rep_root : Rep keys n ρ (aimed g (cells m + r) hand) m store (upd roots r v)
  rep_root = record {
    id = R.id;
    one = R.one;
    array = R.array;
    text = R.text;
    value = R.value;
    bytes = R.bytes;
    root = λ q h w. ⊎_elim
        (λ (s : q ≡ r). rw (upd_at roots r v q s) (to h (sym (upd_at g.aim (cells m + r) hand (cells m + q) (ap (λ z. cells m + z) s)) ∙ w)))
        (λ (s : q ≡ r → ⊥). rw (upd_other roots r v q s) (R.root q h (sym (upd_other g.aim (cells m + r) hand (cells m + q) (λ z. s (omega arith))) ∙ w))) (same? q r);
    rooted = λ q i w. ⊎_elim
        (λ (s : q ≡ r). let x = from i (rw (upd_at roots r v q s) at w) in
        (rw s b, (x.0, upd_at g.aim (cells m + r) hand (cells m + q) (ap (λ z. cells m + z) s) ∙ x.1, x.2)))
        (λ (s : q ≡ r → ⊥). let y = R.rooted q i (rw (upd_other roots r v q s) at w) in let x = y.1 in
        (y.0, (x.0, upd_other g.aim (cells m + r) hand (cells m + q) (λ z. s (omega arith)) ∙ x.1, x.2))) (same? q r);
    every = λ i l. ⊎_elim inl
        (λ x. inr (dead_keeps (Alive ρ g) store store roots (upd roots r v) (alive? S ρ)
        (λ q h w. ⊎_elim (λ (s : q ≡ r). let y = from h (rw (upd_at roots r v q s) at w) in inl (y.0, C.held y.0 y.1, y.2))
        (λ (s : q ≡ r → ⊥). inr (rw (upd_other roots r v q s) at w)) (same? q r))
        (λ j q h y w. element_alive S C R y.0 q h y.1 (rw y.2 w))
        (λ j q h y w. w)
        i (⊎_elim (λ y. absurd (x y)) (λ d. d) (R.every i l)) x))
        (alive? S ρ i);
  }

-- A value by its two words goes to a root place: what is in hand is what they name.
pub root_placed : {keys : List (List ℕ)} {n : ℕ} {ρ : ℕ → ℕ} {g : Ghost} {p : ℕ} {s : Lists} {m : List ℕ} {store : List Object} {roots : ℕ → Value} (r tag pay : ℕ) (v : Value)
    → Full g p (target 0 tag pay) s m → Rep keys n ρ g m store roots → p ≡ cells m + n → r < n → Stands keys (map is_text store) ρ v tag pay
    → Full (aimed g (cells m + r) (target 0 tag pay)) p (g.aim (cells m + r)) s m
    × Rep keys n ρ (aimed g (cells m + r) (target 0 tag pay)) m store (upd roots r v)
root_placed {ρ = ρ} {m = m} r tag pay v F R near b st = (
  root_swap (cells m + r) F (omega arith) (omega arith),
  rep_root F.heap.shape F.counts R r b v
      (λ h q. let x = aims_at 0 tag pay h q in names_cast v (ap ρ x.2) (names_stands st x.1))
      (λ i w. let x = stands_names st w in (pay, parts.object 0 tag pay refl x.0, x.1)),
)

-- ---- among root places

-- Each place names what some place named before.
pub rep_moves : {keys : List (List ℕ)} {n : ℕ} {ρ : ℕ → ℕ} {g : Ghost} {m : List ℕ} {store : List Object} {roots roots' : ℕ → Value} (aim : ℕ → ℕ) → Rep keys n ρ g m store roots
    → ((q : ℕ) → (r : ℕ) × (aim (cells m + q) ≡ g.aim (cells m + r)) × ((i : ℕ) → Names (roots r) i ↔ Names (roots' q) i) × (r < n → q < n))
    → Rep keys n ρ (aiming g aim) m store roots'
rep_moves {store = store} {roots = roots} {roots' = roots'} aim R from = record {
  id = R.id;
  one = R.one;
  array = R.array;
  text = R.text;
  value = R.value;
  bytes = R.bytes;
  root = λ q h w. let x = from q in (x.2 _).0 (R.root x.0 h (sym x.1 ∙ w));
  rooted = λ q i w. let x = from q in let y = R.rooted x.0 i ((x.2 i).1 w) in let z = y.1 in (x.3 y.0, (z.0, x.1 ∙ z.1, z.2));
  every = λ i l. ⊎_elim inl (λ d. inr (dead_mono store store roots roots' (λ j q h w _. w) (λ q h w _. let x = from q in (x.0, (x.2 h).1 w)) i d)) (R.every i l);
}

-- Values may change to others that name the same.
pub rep_alike : {keys : List (List ℕ)} {n : ℕ} {ρ : ℕ → ℕ} {g : Ghost} {m : List ℕ} {store : List Object} {roots roots' : ℕ → Value} → Rep keys n ρ g m store roots
    → ((r i : ℕ) → Names (roots r) i ↔ Names (roots' r) i) → Rep keys n ρ g m store roots'
rep_alike {g = g} R alike = rep_moves g.aim R (λ q. (q, refl, alike q, λ l. l))

-- Places x and y change what they name.
abbrev pub exchanged : Ghost → ℕ → ℕ → Ghost
exchanged g x y = aiming g (upd (upd g.aim x (g.aim y)) y (g.aim x))

pub exchange_full : {g : Ghost} {p hand : ℕ} {s : Lists} {m : List ℕ} (x y : ℕ) → Full g p hand s m → cells m ≤ x → x < p → cells m ≤ y → y < p → Full (exchanged g x y) p hand s m
exchange_full {g} {p} x y F xl xp yl yp = let S = F.heap.shape in let C = F.counts in let f = upd g.aim x (g.aim y) in record {
  heap = record {
    shape = aim_shape (exchanged g x y).aim S;
    free = F.heap.free;
    listed = F.heap.listed;
    work = F.heap.work;
    dead = F.heap.dead;
  };
  counts = record {
    places = C.places;
    aimed = λ w h l. at_upd (λ t. t ≡ suc h → g.own h ≡ live) f y (g.aim x) w (λ _ q. C.aimed x h xp q)
        (λ _. at_upd (λ t. t ≡ suc h → g.own h ≡ live) g.aim x (g.aim y) w (λ _ q. C.aimed y h yp q) (λ _ q. C.aimed w h l q));
    held = C.held;
    count = λ h l. omega (
      arith,
      C.count h l,
      total_upd (is h) f p y (g.aim x) yp,
      total_upd (is h) g.aim p x (g.aim y) xp,
      ap (is h) (at_upd (λ t. t ≡ g.aim y) g.aim x (g.aim y) y (λ _. refl) (λ _. refl)),
    );
    some = C.some;
    body = λ c a k q. let l = (inside S c q refl).0 in
        upd_other f y (g.aim x) c (λ r. omega arith) ∙ upd_other g.aim x (g.aim y) c (λ r. omega arith) ∙ C.body c a k q;
    other = λ c l t. upd_other f y (g.aim x) c (λ r. omega arith) ∙ upd_other g.aim x (g.aim y) c (λ r. omega arith) ∙ C.other c l t;
  };
}

same_names : {v w : Value} → w ≡ v → (i : ℕ) → Names v i ↔ Names w i
same_names e i = (λ x. rw e x, λ x. rw e at x)

pub rep_exchange : {keys : List (List ℕ)} {n : ℕ} {ρ : ℕ → ℕ} {g : Ghost} {m : List ℕ} {store : List Object} {roots : ℕ → Value} (r t : ℕ) → Rep keys n ρ g m store roots → r < n → t < n
    → Rep keys n ρ (exchanged g (cells m + r) (cells m + t)) m store (upd (upd roots r (roots t)) t (roots r))
rep_exchange {n = n} {g = g} {m = m} {roots = roots} r t R rn tn = rep_moves _ R from
  where
    f : ℕ → ℕ
    f = upd g.aim (cells m + r) (g.aim (cells m + t))

    from : (q : ℕ) → (s : ℕ) × (upd (upd g.aim (cells m + r) (g.aim (cells m + t))) (cells m + t) (g.aim (cells m + r)) (cells m + q) ≡ g.aim (cells m + s))
        × ((i : ℕ) → Names (roots s) i ↔ Names (upd (upd roots r (roots t)) t (roots r) q) i) × (s < n → q < n)
    from q = ⊎_elim
        (λ (a : q ≡ t). (r, upd_at f (cells m + t) (g.aim (cells m + r)) (cells m + q) (ap (λ z. cells m + z) a), same_names (upd_at (upd roots r (roots t)) t (roots r) q a), λ _. rw a tn))
        (λ (a : q ≡ t → ⊥).
        let u = upd_other f (cells m + t) (g.aim (cells m + r)) (cells m + q) (λ z. a (omega arith)) in
        let w = upd_other (upd roots r (roots t)) t (roots r) q a in
        ⊎_elim
        (λ (b : q ≡ r). (t, u ∙ upd_at g.aim (cells m + r) (g.aim (cells m + t)) (cells m + q) (ap (λ z. cells m + z) b), same_names (w ∙ upd_at roots r (roots t) q b), λ _. rw b rn))
        (λ (b : q ≡ r → ⊥). (q, u ∙ upd_other g.aim (cells m + r) (g.aim (cells m + t)) (cells m + q) (λ z. b (omega arith)), same_names (w ∙ upd_other roots r (roots t) q b), λ l. l))
        (same? q r))
        (same? q t)
