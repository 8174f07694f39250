-- Emissions compose: a text emitted after another is the two emitted as one, and there is room for each where there is room for both.
-- Assumes nothing.
use mathlib.Core.Path.{◌≡◌, refl, sym, ap, subst, ◌∙◌}
use mathlib.Core.Bool.{Bool, true, false, cond}
use mathlib.Core.List.{List, [], ◌∷◌, ◌++◌}
use Prim.Native.Nat.{ℕ, ◌+◌, ◌≤◌}
use native.Mathlib.Omega.{arith}
use lib.ListN.{length, set, length-append}
use Rattle.semantics.specs.ObjectOperators.{pasted}
use Rattle.text.specs.Writing.{Written}
use Rattle.text.proofs.Pasting.{pasted_append, pasted_nil, one}
use Rattle.ledger_writer.specs.Emitting.{Emitted, Roomy}

-- What is written where it is live.
pub live_emits : {live : Bool} {at r : ℕ} {t old new : List ℕ} → live ≡ true → Written at t old new r → Emitted live at t old new r
live_emits {at = at} {t = t} {old = old} e w = record { end = w.end; bytes = w.bytes ∙ ap (λ l. cond l (pasted at t old) old) (sym e) }

pub byte_emits : {live : Bool} {at b : ℕ} {old : List ℕ} → live ≡ true → Roomy live at (b ∷ []) old → Emitted live at (b ∷ []) old (set old at b) (at + 1)
byte_emits e h = live_emits e (one (let f = h.fits e in omega (arith, f)))

-- What is only measured.
pub measures : {live : Bool} {at r : ℕ} {t old : List ℕ} → live ≡ false → r ≡ at + length t → Emitted live at t old old r
measures {at = at} {t = t} {old = old} e h = record { end = h; bytes = ap (λ l. cond l (pasted at t old) old) (sym e) }

pub emits_nothing : (live : Bool) (at : ℕ) (old : List ℕ) → Emitted live at [] old old at
emits_nothing live at old = record { end = omega arith; bytes = by live }
  where
    by : (l : Bool) → old ≡ cond l (pasted at [] old) old
    by true = sym (pasted_nil at old)
    by false = refl

pub room_first : {live : Bool} {at : ℕ} {old : List ℕ} (a b : List ℕ) → Roomy live at (a ++ b) old → Roomy live at a old
room_first a b h = record { small = omega (arith, h.small, length-append a b); fits = λ e. let f = h.fits e in omega (arith, f, length-append a b) }

pub room_rest : {live : Bool} {at r : ℕ} {old mid : List ℕ} (a b : List ℕ) → Roomy live at (a ++ b) old → Emitted live at a old mid r → length mid ≡ length old → Roomy live r b mid
room_rest a b h x k =
    record { small = omega (arith, h.small, length-append a b, x.end); fits = λ e. let f = h.fits e in omega (arith, f, length-append a b, x.end, k) }

pub room_of_lem : {live : Bool} {at : ℕ} {t u old : List ℕ} → t ≡ u → Roomy live at t old → Roomy live at u old
room_of_lem {live} {at} {old = old} e h = subst (λ (t : List ℕ). Roomy live at t old) e h

pub emits_as : {live : Bool} {at r : ℕ} {t u old new : List ℕ} → t ≡ u → Emitted live at t old new r → Emitted live at u old new r
emits_as {live} {at} {r} {old = old} {new = new} e x = subst (λ (t : List ℕ). Emitted live at t old new r) e x

pub emits_then : {live : Bool} {at r q : ℕ} {old mid new : List ℕ} (a b : List ℕ) → Roomy live at (a ++ b) old → Emitted live at a old mid r → Emitted live r b mid new q → Emitted live at (a ++ b) old new q
emits_then {live} {at} {r} {q} {old} {mid} {new} a b h x y =
    record { end = omega (arith, x.end, y.end, length-append a b); bytes = y.bytes ∙ ap (λ k. cond live (pasted k b mid) mid) x.end ∙ by live x.bytes (λ e. h.fits e) }
  where
    by : (l : Bool) → mid ≡ cond l (pasted at a old) old → (l ≡ true → at + length (a ++ b) ≤ length old) → cond l (pasted (at + length a) b mid) mid ≡ cond l (pasted at (a ++ b) old) old
    by true e f = ap (pasted (at + length a) b) e ∙ sym (pasted_append at a b old (let k = f refl in omega (arith, k)))
    by false e f = e
