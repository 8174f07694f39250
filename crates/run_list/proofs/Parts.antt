-- What was written from a buffer's start lies within the buffer.
use Rattle.std.proofs.Common.{◌≤◌, ◌+◌, ℕ, List, ◌++◌, length, take, drop, length-append, ap, arith}
use Rattle.semantics.specs.ObjectOperators.{pasted}
use Rattle.text.specs.Writing.{Written}

length_within : (t l : List ℕ) → length t ≤ length (pasted 0 t l)
unfolding pasted
length_within t l = omega (arith, length-append (take 0 l ++ t) (drop (0 + length t) l), length-append (take 0 l) t)

pub within : {t l l' : List ℕ} {n : ℕ} → Written 0 t l l' n → n ≤ length l'
within {t} {l} w = omega (arith, w.end, ap (λ (x : List ℕ). length x) w.bytes, length_within t l)
