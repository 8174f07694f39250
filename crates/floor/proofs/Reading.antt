-- What the stack's items say: three of them, of the form, or none.
-- Assumes nothing.
use mathlib.Core.Path.{◌≡◌, refl, sym, ap, ◌∙◌, subst}
use mathlib.Core.List.{List, [], ◌∷◌, ◌++◌}
use mathlib.Core.Option.{Option, none, some}
use Prim.Native.Nat.{ℕ, zero, suc, ◌+◌, ◌-◌, ◌≤◌, ◌<◌}
use native.Mathlib.Omega.{arith}
use lib.ListN.{length, get_or, take, drop, replicate, length-replicate, length-drop, take-append-drop}
use lib.Seq.{get_or-drop, ext_get_or}
use borrow.Author.Tests.{le-leb, lt-leb}
use Rattle.semantics.specs.Values.{Value, integer, boolean, null, mark, operator, name, string, array, current}
use Rattle.semantics.specs.Machine as Floo
use Rattle.semantics.specs.Machine.{object, bytes_of}
use Rattle.store.proofs.Standing.{is_integer}
use Rattle.machine.specs.Words.{item_payload}
use Rattle.machine.specs.Rep.{Rep, Somewhere}
use Rattle.machine.specs.declared.Machine.{Machine}
use Rattle.machine.proofs.Items.{items_length}
use Rattle.machine.proofs.Copying.{word_of}
use Rattle.elements.specs.Elements.{tag_of, ItemTag, HasString, SomewhereThat}
use Rattle.elements.proofs.Tags.{item_tag_lem, string_of}
use Rattle.strings.specs.Strings.{CurrentSize, ReadsBytes, HasBytes}
use Rattle.strings.proofs.Prefixes.{current_few}
use Rattle.strings.proofs.Reading.{read_all}
use Rattle.book.specs.Books.{greatest, is_place_length, record_of}
use Rattle.floor.specs.Floor.{number_in, place_in, entry_with, entry_from}
use Rattle.floor.specs.Promise.{read_of, ReadsEntry}
use Rattle.std.specs.Prelude.{Some}
use Rattle.std.specs.Prelude as std
use Rattle.book.specs.declared.Record.{Record}

-- ---- values

number_else : (v : Value) → (tag_of v ≡ 1 → ⊥) → number_in v ≡ none
unfolding tag_of number_in
number_else (integer w) h = absurd (h refl)
number_else (boolean b) h = refl
number_else null h = refl
number_else mark h = refl
number_else (operator o) h = refl
number_else (name x n) h = refl
number_else (string i) h = refl
number_else (array x i) h = refl

place_else : (μ : Floo.Machine) (v : Value) → (tag_of v ≡ 8 → ⊥) → place_in μ v ≡ none
unfolding tag_of place_in
place_else μ (integer w) h = refl
place_else μ (boolean b) h = refl
place_else μ null h = refl
place_else μ mark h = refl
place_else μ (operator o) h = refl
place_else μ (name x n) h = refl
place_else μ (string i) h = absurd (h refl)
place_else μ (array x i) h = refl

number_over : (w : ℕ) → greatest < w → number_in (integer w) ≡ none
unfolding number_in
number_over w h = rw (lt-leb w greatest h) refl

number_there : (w : ℕ) → w ≤ greatest → number_in (integer w) ≡ some w
unfolding number_in
number_there w h = rw (le-leb w greatest h) refl

module _ (μ : Floo.Machine) (id : ℕ) where
  abbrev bytes : List ℕ
  bytes = current (bytes_of (object μ id))

  place_empty : length bytes < 1 → place_in μ (string id) ≡ none
  unfolding place_in is_place_length
  place_empty h = rw (lt-leb 1 (length bytes) h) refl

  place_over : 31 < length bytes → place_in μ (string id) ≡ none
  unfolding place_in is_place_length
  place_over h = rw (le-leb 1 (length bytes) (omega (arith, h)), lt-leb (length bytes) 31 h) refl

  place_there : 1 ≤ length bytes → length bytes ≤ 31 → place_in μ (string id) ≡ some bytes
  unfolding place_in is_place_length
  place_there a b = rw (le-leb 1 (length bytes) a, le-leb (length bytes) 31 b) refl

-- ---- three items

no_place : (n t : Option ℕ) → entry_with n none t ≡ none
unfolding entry_with
no_place (some n) t = refl
no_place none t = refl

no_time : (n : Option ℕ) (p : Option (List ℕ)) → entry_with n p none ≡ none
unfolding entry_with
no_time (some n) (some p) = refl
no_time (some n) none = refl
no_time none p = refl

no_number : (p : Option (List ℕ)) (t : Option ℕ) → entry_with none p t ≡ none
unfolding entry_with
no_number p t = refl

not_three : (μ : Floo.Machine) (vs : List Value) → (length vs ≡ 3 → ⊥) → entry_from μ vs ≡ none
unfolding entry_from
not_three μ [] h = refl
not_three μ (a ∷ []) h = refl
not_three μ (a ∷ b ∷ []) h = refl
not_three μ (a ∷ b ∷ c ∷ []) h = absurd (h refl)
not_three μ (a ∷ b ∷ c ∷ d ∷ vs) h = refl

three : (μ : Floo.Machine) (vs : List Value) → length vs ≡ 3 → entry_from μ vs ≡ entry_with (number_in (get_or vs 2 null)) (place_in μ (get_or vs 1 null)) (number_in (get_or vs 0 null))
unfolding entry_from
three μ [] h = absurd (omega (arith, h))
three μ (a ∷ []) h = absurd (omega (arith, h))
three μ (a ∷ b ∷ []) h = absurd (omega (arith, h))
three μ (a ∷ b ∷ c ∷ []) h = refl
three μ (a ∷ b ∷ c ∷ d ∷ vs) h = absurd (omega (arith, h))

-- ---- the place's bytes, and zeros after them

zeros : (k j : ℕ) → ◌≡◌ {A = ℕ} (get_or (replicate k 0) j 0) 0
zeros zero j = refl
zeros (suc k) zero = refl
zeros (suc k) (suc j) = zeros k j

padded : (out t : List ℕ) (n : ℕ) → length out ≡ 31 → length t ≡ n → take n out ≡ t → ((q : ℕ) → n ≤ q → get_or out q 0 ≡ get_or (replicate 31 0) q 0) → out ≡ t ++ replicate (31 - length t) 0
padded out t n long size front rest =
    let after : drop n out ≡ replicate (31 - length t) 0 =
    ext_get_or 0 (drop n out) (replicate (31 - length t) 0) (omega (arith, length-drop n out, length-replicate {A = ℕ} (31 - length t) 0, long, size))
    (λ j h. get_or-drop n out j 0 ∙ rest (n + j) (omega arith) ∙ zeros 31 (n + j) ∙ sym (zeros (31 - length t) j)) in
    sym (take-append-drop n out) ∙ ap (λ x. x ++ drop n out) front ∙ ap (λ x. t ++ x) after

-- ---- returns

module _ {m : Machine} {s c : List ℕ} where
  none_so : {r : std.Option Record} → r ≡ read_of none → ((e d l : List ℕ) (μ : Floo.Machine) → Rep m s e d c l μ → entry_from μ μ.stack ≡ none) → ReadsEntry m s c r
  none_so q f = record { says = λ e d l μ R. q ∙ ap read_of (sym (f e d l μ R)) }

  pub not_so_deep : {r : std.Option Record} → r ≡ read_of none → (m.depth ≡ 3 → ⊥) → ReadsEntry m s c r
  not_so_deep q h = none_so q (λ e d l μ R. not_three μ μ.stack (λ x. h (sym (items_length R.items) ∙ x)))

  module _ (deep : m.depth ≡ 3) where
    items : {e d l : List ℕ} {μ : Floo.Machine} → Rep m s e d c l μ
        → entry_from μ μ.stack ≡ entry_with (number_in (get_or μ.stack 2 null)) (place_in μ (get_or μ.stack 1 null)) (number_in (get_or μ.stack 0 null))
    items {μ = μ} R = three μ μ.stack (items_length R.items ∙ deep)

    pub time_else : {r : std.Option Record} {t : ℕ} → r ≡ read_of none → ItemTag 0 m s t → (t ≡ 1 → ⊥) → ReadsEntry m s c r
    time_else q Z h = none_so q (λ e d l μ R.
        items R ∙ ap (entry_with (number_in (get_or μ.stack 2 null)) (place_in μ (get_or μ.stack 1 null))) (number_else (get_or μ.stack 0 null) (λ x. h (Z.says e d c l μ R ∙ x)))
        ∙ no_time (number_in (get_or μ.stack 2 null)) (place_in μ (get_or μ.stack 1 null)))

    without_place : {r : std.Option Record} → r ≡ read_of none → ((e d l : List ℕ) (μ : Floo.Machine) → Rep m s e d c l μ → place_in μ (get_or μ.stack 1 null) ≡ none) → ReadsEntry m s c r
    without_place q f = none_so q (λ e d l μ R.
        items R ∙ ap (λ p. entry_with (number_in (get_or μ.stack 2 null)) p (number_in (get_or μ.stack 0 null))) (f e d l μ R)
        ∙ no_place (number_in (get_or μ.stack 2 null)) (number_in (get_or μ.stack 0 null)))

    without_number : {r : std.Option Record} → r ≡ read_of none → ((e d l : List ℕ) (μ : Floo.Machine) → Rep m s e d c l μ → number_in (get_or μ.stack 2 null) ≡ none) → ReadsEntry m s c r
    without_number q f = none_so q (λ e d l μ R.
        items R ∙ ap (λ n. entry_with n (place_in μ (get_or μ.stack 1 null)) (number_in (get_or μ.stack 0 null))) (f e d l μ R)
        ∙ no_number (place_in μ (get_or μ.stack 1 null)) (number_in (get_or μ.stack 0 null)))

    pub place_is_else : {r : std.Option Record} {t : ℕ} → r ≡ read_of none → ItemTag 1 m s t → (t ≡ 8 → ⊥) → ReadsEntry m s c r
    place_is_else q Z h = without_place q (λ e d l μ R. place_else μ (get_or μ.stack 1 null) (λ x. h (Z.says e d c l μ R ∙ x)))

    pub number_is_else : {r : std.Option Record} {t : ℕ} → r ≡ read_of none → ItemTag 2 m s t → (t ≡ 1 → ⊥) → ReadsEntry m s c r
    number_is_else q Z h = without_number q (λ e d l μ R. number_else (get_or μ.stack 2 null) (λ x. h (Z.says e d c l μ R ∙ x)))

    -- The lowest item is the number, and the topmost the time.
    number_item : {t : ℕ} → ItemTag 2 m s t → t ≡ 1 → {e d l : List ℕ} {μ : Floo.Machine} → Rep m s e d c l μ → get_or μ.stack 2 null ≡ integer (item_payload s 0)
    number_item Z h {e} {d} {l} {μ} R = is_integer (word_of R 2 0 deep).stands (item_tag_lem R 2 0 deep ∙ sym (Z.says e d c l μ R) ∙ h)

    time_item : {t : ℕ} → ItemTag 0 m s t → t ≡ 1 → {e d l : List ℕ} {μ : Floo.Machine} → Rep m s e d c l μ → get_or μ.stack 0 null ≡ integer (item_payload s 2)
    time_item Z h {e} {d} {l} {μ} R = is_integer (word_of R 0 2 deep).stands (item_tag_lem R 0 2 deep ∙ sym (Z.says e d c l μ R) ∙ h)

    pub number_too_great : {r : std.Option Record} {t : ℕ} → r ≡ read_of none → ItemTag 2 m s t → t ≡ 1 → greatest < item_payload s 0 → ReadsEntry m s c r
    number_too_great q Z h over = without_number q (λ e d l μ R. ap number_in (number_item Z h R) ∙ number_over (item_payload s 0) over)

    pub time_too_great : {r : std.Option Record} {t : ℕ} → r ≡ read_of none → ItemTag 0 m s t → t ≡ 1 → greatest < item_payload s 2 → ReadsEntry m s c r
    time_too_great q Z h over = none_so q (λ e d l μ R.
        items R ∙ ap (entry_with (number_in (get_or μ.stack 2 null)) (place_in μ (get_or μ.stack 1 null))) (ap number_in (time_item Z h R) ∙ number_over (item_payload s 2) over)
        ∙ no_time (number_in (get_or μ.stack 2 null)) (place_in μ (get_or μ.stack 1 null)))

    -- The middle item is a string.
    module _ {t : ℕ} (Z : ItemTag 1 m s t) (is : t ≡ 8) where
      a_string : {e d l : List ℕ} {μ : Floo.Machine} → Rep m s e d c l μ → HasString 1 μ
      a_string R = string_of R (subst (ItemTag 1 m s) is Z)

      pub string_here : Somewhere m s c → SomewhereThat (HasString 1) m s c
      string_here (e, d, l, μ, R) = (e, d, l, μ, R, a_string R)

      module _ {n : ℕ} (S : CurrentSize 1 m s c n) where
        size_is : {e d l : List ℕ} {μ : Floo.Machine} (R : Rep m s e d c l μ) → n ≡ length (bytes μ (a_string R).id)
        size_is {e} {d} {l} {μ} R = S.says e d l μ R (a_string R).id (a_string R).item

        pub place_too_short : {r : std.Option Record} → r ≡ read_of none → n < 1 → ReadsEntry m s c r
        place_too_short q h = without_place q (λ e d l μ R. ap (place_in μ) (a_string R).item ∙ place_empty μ (a_string R).id (omega (arith, size_is R, h)))

        pub place_too_long : {r : std.Option Record} → r ≡ read_of none → 31 < n → ReadsEntry m s c r
        place_too_long q h = without_place q (λ e d l μ R. ap (place_in μ) (a_string R).item ∙ place_over μ (a_string R).id (omega (arith, size_is R, h)))

        pub bytes_here : Somewhere m s c → SomewhereThat (HasBytes 1 0 n) m s c
        bytes_here (e, d, l, μ, R) =
            (e, d, l, μ, R, record { string = a_string R; inside = omega (arith, size_is R, current_few (bytes_of (object μ (a_string R).id))) })

        -- All three are of the form.
        module _ (some_bytes : 1 ≤ n) (few_bytes : n ≤ 31) {u v : ℕ} (Y : ItemTag 2 m s u) (number : u ≡ 1) (X : ItemTag 0 m s v) (time : v ≡ 1)
            (low : item_payload s 0 ≤ greatest) (early : item_payload s 2 ≤ greatest) where
          pub entry_there : {out : List ℕ} → length out ≡ 31 → ReadsBytes 1 n m s c (replicate 31 0) out
              → ReadsEntry m s c (Some (record { number = item_payload s 0; place = out; length = n; time = item_payload s 2 }))
          unfolding record_of entry_with
          entry_there {out} long B = record {
            says = λ e d l μ R.
                let H = a_string R in
                let t = bytes μ H.id in
                let size = size_is R in
                let place = padded out t n long (sym size) (read_all R H.id H.item size (omega (arith, long, few_bytes)) B) B.rest in
                let found : entry_from μ μ.stack ≡ some (record { number = item_payload s 0; place = t; time = item_payload s 2 }) =
                items R
                ∙ ap (λ x. entry_with x (place_in μ (get_or μ.stack 1 null)) (number_in (get_or μ.stack 0 null))) (ap number_in (number_item Y number R) ∙ number_there (item_payload s 0) low)
                ∙ ap (λ x. entry_with (some (item_payload s 0)) x (number_in (get_or μ.stack 0 null))) (ap (place_in μ) H.item ∙ place_there μ H.id (omega (arith, size, some_bytes)) (omega (arith, size, few_bytes)))
                ∙ ap (λ x. entry_with (some (item_payload s 0)) (some t) x) (ap number_in (time_item X time R) ∙ number_there (item_payload s 2) early) in
                ap (λ (x : List ℕ). Some (record { number = item_payload s 0; place = x; length = n; time = item_payload s 2 })) place
                ∙ ap (λ k. Some (record { number = item_payload s 0; place = t ++ replicate (31 - length t) 0; length = k; time = item_payload s 2 })) size
                ∙ ap read_of (sym found);
          }
