-- What is kept of a field's bytes tells its number, and its length and its bytes where it has at most 31. By induction on the bytes.
-- Assumes nothing.
use Rattle.std.specs.Prelude.{◌≡◌, refl, Bool, true, false, ◌&&◌, cond, List, [], ◌∷◌, ◌++◌, ℕ, suc, ◌+◌, ◌-◌, ◌*◌, ◌≤◌, ◌<◌, length, set, replicate, leb}
use Rattle.std.proofs.Common.{sym, ap, ap₂, subst, ◌∙◌, append_assoc, append-nil, arith, length-append, leb→le, lt-ltb, le-ltb, leb-true, leb-false}
use Rattle.std.proofs.Math.Bool.{and-false}
use Rattle.std.proofs.Math.Option.{Option, none, some}
use Rattle.std.proofs.Math.Seq.{set-append_seam}
use Rattle.std.proofs.Math.Dec.{nleb→lt}
use Rattle.std.proofs.lemmas.Bool.{lt-leb}
use Rattle.semantics.specs.Tokens.{is_digit}
use Rattle.semantics.specs.ResultLaws.{choose_cond}
use Rattle.book.specs.Books.{greatest}
use Rattle.ledger.specs.Reading.{digits_on, limited, number_in}
use Rattle.ledger_fields.specs.declared.Seen.{Seen}
use Rattle.ledger_fields.specs.Fields.{grown_by, summed_by, placed_by, taken_by, unseen, seen_from}

-- ---- how many bytes

grown_few : (n : ℕ) → n < 32 → grown_by n ≡ n + 1
unfolding grown_by
grown_few n h = ap (λ t. cond t (n + 1) 32) (lt-ltb n 32 h)

grown_all : (n : ℕ) → 32 ≤ n → grown_by n ≡ 32
unfolding grown_by
grown_all n h = ap (λ t. cond t (n + 1) 32) (le-ltb n 32 h)

sized : (s : Seen) (f : List ℕ) → s.size + length f ≤ 32 → (seen_from s f).size ≡ s.size + length f
unfolding seen_from taken_by
sized s [] h = omega arith
sized s (b ∷ f) h =
    let g = grown_few s.size (omega (arith, h)) in
    let r = sized (taken_by s b) f (omega (arith, h, g)) in
    omega (arith, r, g)

full : (s : Seen) (f : List ℕ) → s.size ≡ 32 → (seen_from s f).size ≡ 32
unfolding seen_from taken_by
full s [] h = h
full s (b ∷ f) h = full (taken_by s b) f (grown_all s.size (omega (arith, h)))

over : (s : Seen) (f : List ℕ) → s.size ≤ 32 → 32 ≤ s.size + length f → (seen_from s f).size ≡ 32
unfolding seen_from taken_by
over s [] h k = omega (arith, h, k)
over s (b ∷ f) h k = by (leb 32 s.size) refl (λ l g. over (taken_by s b) f (omega (arith, g, l)) (omega (arith, g, k)))
  where
    by : (t : Bool) → leb 32 s.size ≡ t → (s.size < 32 → grown_by s.size ≡ s.size + 1 → (seen_from (taken_by s b) f).size ≡ 32) → (seen_from (taken_by s b) f).size ≡ 32
    by true e r = let m = leb-true 32 s.size e in full (taken_by s b) f (grown_all s.size m)
    by false e r = let m = leb-false 32 s.size e in r m (grown_few s.size m)

pub seen_few : (f : List ℕ) → length f ≤ 31 → (seen_from unseen f).size ≡ length f
seen_few f h = let r = sized unseen f (omega (arith, h)) in omega (arith, r)

pub seen_many : (f : List ℕ) → 31 < length f → (seen_from unseen f).size ≡ 32
seen_many f h = over unseen f (omega arith) (omega (arith, h))

-- ---- the bytes

stored : (p : List ℕ) (n b : ℕ) → length p ≡ n → n < 31 → placed_by (p ++ replicate (31 - n) 0) n b ≡ (p ++ (b ∷ [])) ++ replicate (31 - (n + 1)) 0
unfolding placed_by
stored p n b l h =
    let k : 31 - n ≡ suc (31 - (n + 1)) = omega (arith, h) in
    ap (λ t. cond t (set (p ++ replicate (31 - n) 0) n b) (p ++ replicate (31 - n) 0)) (lt-ltb n 31 h)
    ∙ ap₂ (λ m j. set (p ++ replicate m 0) j b) k (sym l)
    ∙ set-append_seam p 0 (replicate (31 - (n + 1)) 0) b
    ∙ sym (append_assoc p (b ∷ []) (replicate (31 - (n + 1)) 0))

places : (s : Seen) (p f : List ℕ) → length p ≡ s.size → s.place ≡ p ++ replicate (31 - s.size) 0 → s.size + length f ≤ 31 → (seen_from s f).place ≡ (p ++ f) ++ replicate (31 - (s.size + length f)) 0
unfolding seen_from taken_by
places s p [] l e h = e ∙ ap₂ (λ q m. q ++ replicate (31 - m) 0) (sym (append-nil p)) (let z : s.size ≡ s.size + 0 = omega arith in z)
places s p (b ∷ f) l e h =
    let g = grown_few s.size (omega (arith, h)) in
    let long : length (p ++ (b ∷ [])) ≡ grown_by s.size = let a = length-append p (b ∷ []) in omega (arith, a, l, g) in
    let here : placed_by s.place s.size b ≡ (p ++ (b ∷ [])) ++ replicate (31 - grown_by s.size) 0 = ap (λ q. placed_by q s.size b) e ∙ stored p s.size b l (omega (arith, h)) ∙ ap (λ m. (p ++ (b ∷ [])) ++ replicate (31 - m) 0) (sym g) in
    let r = places (taken_by s b) (p ++ (b ∷ [])) f long here (omega (arith, g, h)) in
    let m : grown_by s.size + length f ≡ s.size + suc (length f) = omega (arith, g) in
    r ∙ ap₂ (λ q k. q ++ replicate (31 - k) 0) (append_assoc p (b ∷ []) f) m

pub seen_place : (f : List ℕ) → length f ≤ 31 → (seen_from unseen f).place ≡ f ++ replicate (31 - length f) 0
seen_place f h = places unseen [] f refl refl (omega (arith, h)) ∙ ap (λ m. f ++ replicate (31 - m) 0) (let z : 0 + length f ≡ length f = omega arith in z)

-- ---- the number

-- m is kept for n: the same, or both are too great.
record Kept (m n : ℕ) : Type 0 where
  same : m ≤ greatest → m ≡ n
  great : greatest < m → greatest < n

more : (m n b : ℕ) → is_digit b ≡ true → Kept m n → Kept (summed_by m b) (n * 10 + (b - 48))
unfolding summed_by
more m n b e k =
    subst (λ x. Kept x (n * 10 + (b - 48))) (sym (ap (λ t. cond t (cond (leb m 214748364) (m * 10 + (b - 48)) 2147483648) m) e))
    (choose_cond (λ x. Kept x (n * 10 + (b - 48))) (leb m 214748364) (m * 10 + (b - 48)) 2147483648
    (λ t. let h = leb→le m 214748364 t in let s = k.same (omega (arith, h)) in record { same = λ _. omega (arith, s); great = λ g. omega (arith, s, g) })
    (λ t. let h = nleb→lt m 214748364 t in record { same = λ g. absurd (omega (arith, g)); great = λ _. by (leb m greatest) refl h }))
  where
    by : (u : Bool) → leb m greatest ≡ u → 214748364 < m → greatest < n * 10 + (b - 48)
    by true e h = let s = k.same (leb-true m greatest e) in omega (arith, s, h)
    by false e h = let g = k.great (leb-false m greatest e) in omega (arith, g)

-- What is kept, as a number: nothing where a byte was no digit, or where it is too great.
unfoldable pub numbered : Seen → Option ℕ
numbered s = cond (s.digits && leb s.number greatest) (some s.number) none

spoilt : (s : Seen) (f : List ℕ) → s.digits ≡ false → numbered (seen_from s f) ≡ none
unfolding seen_from taken_by numbered
spoilt s [] e = ap (λ t. cond (t && leb s.number greatest) (some s.number) none) e
spoilt s (b ∷ f) e = spoilt (taken_by s b) f (ap (λ t. t && is_digit b) e)

numbers : (s : Seen) (n : ℕ) (f : List ℕ) → s.digits ≡ true → Kept s.number n → limited (digits_on n f) ≡ numbered (seen_from s f)
unfolding seen_from taken_by numbered digits_on limited
numbers s n [] e k = by (leb s.number greatest) refl ∙ ap (λ t. cond (t && leb s.number greatest) (some s.number) none) (sym e)
  where
    by : (u : Bool) → leb s.number greatest ≡ u → cond (leb n greatest) (some n) none ≡ cond (leb s.number greatest) (some s.number) none
    by true h = let q = k.same (leb-true s.number greatest h) in ap (λ m. cond (leb m greatest) (some m) none) (sym q)
    by false h = let g = k.great (leb-false s.number greatest h) in ap (λ t. cond t (some n) none) (lt-leb n greatest g) ∙ sym (ap (λ t. cond t (some s.number) none) h)
numbers s n (b ∷ f) e k = by (is_digit b) refl (λ d. numbers (taken_by s b) (n * 10 + (b - 48)) f (ap₂ ◌&&◌ e d) (more s.number n b d k))
  where
    by : (u : Bool) → is_digit b ≡ u
        → (is_digit b ≡ true → limited (digits_on (n * 10 + (b - 48)) f) ≡ numbered (seen_from (taken_by s b) f))
        → limited (elim (is_digit b) [ true ↦ digits_on (n * 10 + (b - 48)) f | false ↦ none ]) ≡ numbered (seen_from (taken_by s b) f)
    by true d r = ap (λ t. limited (elim t [ true ↦ digits_on (n * 10 + (b - 48)) f | false ↦ none ])) d ∙ r d
    by false d r = ap (λ t. limited (elim t [ true ↦ digits_on (n * 10 + (b - 48)) f | false ↦ none ])) d ∙ sym (spoilt (taken_by s b) f (ap (λ t. s.digits && t) d ∙ and-false s.digits))

-- A field without a byte is no number; any other is what is kept.
pub no_number : number_in [] ≡ none
unfolding number_in
no_number = refl

pub seen_number : (b : ℕ) (f : List ℕ) → number_in (b ∷ f) ≡ numbered (seen_from unseen (b ∷ f))
unfolding number_in
seen_number b f = numbers unseen 0 (b ∷ f) refl (record { same = λ h. refl; great = λ h. h })
