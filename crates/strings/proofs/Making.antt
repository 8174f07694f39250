-- A new string of given bytes: null gives way to a string of zeros, and that is filled.
-- Assumes nothing.
use mathlib.Core.Path.{◌≡◌, ap, ◌∙◌}
use mathlib.Core.List.{List, [], ◌∷◌, ◌++◌, append-nil}
use Prim.Native.Nat.{ℕ}
use native.Mathlib.Omega.{arith}
use lib.ListN.{length, drop, set, replicate, length-replicate, drop_of_length-le}
use lib.Seq.{get_or-append_seam, set-append_seam}
use Rattle.semantics.specs.Values.{string, null, elements, text}
use Rattle.semantics.specs.Machine as Floo
use Rattle.semantics.specs.Machine.{with_stack, with_store, push, object, bytes_of, make, made, change}
use Rattle.elements.specs.Elements.{named, item_id, string_made}
use Rattle.strings.specs.Strings.{bytes_filled}

-- The string that is made, pushed.
abbrev pub new : List ℕ → Floo.Machine → Floo.Machine
new bs μ = push (string (made μ)) (make (text bs) μ)

-- The zeros of a new string.
abbrev pub blank : ℕ → Floo.Machine → Floo.Machine
blank n μ = string_made 0 n (push null μ)

pub blank_object : (n : ℕ) (μ : Floo.Machine) → object (blank n μ) (made μ) ≡ text (replicate n 0)
unfolding object string_made push made make with_stack with_store
blank_object n μ = get_or-append_seam μ.store (text (replicate n 0)) [] (elements [])

pub filled_new : (bs : List ℕ) (μ : Floo.Machine) → bytes_filled 0 bs (blank (length bs) μ) ≡ new bs μ
unfolding bytes_filled string_made item_id named push made make change object with_stack with_store bytes_of
filled_new bs μ =
    let zeros : List ℕ = replicate (length bs) 0 in
    let none : drop (length bs) zeros ≡ [] = drop_of_length-le zeros {i = length bs} (omega (arith, length-replicate {A = ℕ} (length bs) 0)) in
    let store = μ.store in
    ap (λ o. with_stack (string (length store) ∷ μ.stack) (with_store (set (store ++ (text zeros ∷ [])) (length store) (text (bs ++ drop (length bs) (bytes_of o)))) μ))
    (get_or-append_seam store (text zeros) [] (elements []))
    ∙ ap (λ r. with_stack (string (length store) ∷ μ.stack) (with_store (set (store ++ (text zeros ∷ [])) (length store) (text (bs ++ r))) μ)) none
    ∙ ap (λ b. with_stack (string (length store) ∷ μ.stack) (with_store (set (store ++ (text zeros ∷ [])) (length store) (text b)) μ)) (append-nil bs)
    ∙ ap (λ o. with_stack (string (length store) ∷ μ.stack) (with_store o μ)) (set-append_seam store (text zeros) [] (text bs))
