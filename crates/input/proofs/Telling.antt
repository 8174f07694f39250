-- A text that is a function of the bytes that were read, written whole, is that function of the first bytes that the reader had left.
use Rattle.std.proofs.Common.{◌≡◌, ◌∙◌, ap, subst, ℕ, List, length, take, Option, Some, None, IfSome, Result, Ok, Err, OnOk}
use Rattle.std.specs.Io.KnownBytes.{Appends}

pub told_of : {T E : Type 0} (r : Result T E) (o a b : Option (List ℕ)) (buf text : List ℕ) (n most : ℕ) (t : List ℕ → List ℕ)
    → length buf ≡ most → IfSome o (λ xs. take n buf ≡ take (length buf) xs) → text ≡ t (take n buf) → OnOk r (Appends a b text) → OnOk r (IfSome o (λ xs. Appends a b (t (take most xs))))
told_of (Ok x) None a b buf text n most t e f k h = tt
told_of (Ok x) (Some xs) a b buf text n most t e f k h = subst (Appends a b) (k ∙ ap t f ∙ ap (λ m. t (take m xs)) e) h
told_of (Err x) o a b buf text n most t e f k h = tt
