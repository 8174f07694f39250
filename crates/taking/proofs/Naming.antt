-- Names that take slots: one by one, each by its slot, and in a loop over the tokens of a group, which keeps what the names before come to.
-- Assumes nothing.
use Rattle.std.specs.Prelude.{true, false, Option, Some, None, Ok, Err, is_some, unwrap_or, IfSome}
use mathlib.Core.Path.{◌≡◌, refl, sym, ap, ◌∙◌, subst}
use mathlib.Core.List.{List, [], ◌∷◌, ◌++◌, append-nil, append_assoc}
use Prim.Native.Nat.{ℕ, ◌+◌, ◌-◌, ◌*◌, ◌≤◌, ◌<◌}
use native.Mathlib.Omega.{arith}
use lib.ListN.{length, take, drop, length-take}
use Rattle.semantics.specs.Sizes.{name_most, dictionary_words_most}
use Rattle.semantics.specs.Machine as Floo
use Rattle.semantics.specs.Machine.{Slot, with_dictionary, intern, slotted}
use Rattle.semantics.specs.ListLaws.{nil, cons, all_append}
use Rattle.semantics.specs.declared.Error.{Error}
use Rattle.semantics.specs.declared.Error.TheVariants.{LimitCheck}
use Rattle.groups.specs.Nodes.{intern_all}
use Rattle.groups.proofs.Trees.{intern_append}
use Rattle.machine.specs.Rep.{Rep}
use Rattle.machine.specs.declared.Machine.{Machine}
use Rattle.machine.specs.Answers.{Did}
use Rattle.dictionary.specs.Names.{Finds, Kept, Adds}
use Rattle.dictionary.proofs.Lookups.{slotted_found, slotted_missing, slotted_has, slotted_grows, still_has, find_has, find_none}
use Rattle.taking.specs.Flat.{Flat, Group, Dictionary, HaveSlots, SameBut, with_names, AddsNames, AddsName, Ahead, MetAt}
use Rattle.taking.proofs.Flattening.{flat_done}

-- ---- one name

pub dictionary_room : {m : Machine} {d : List ℕ} → Dictionary m d → (12 * m.names ≤ length d) × (length d ≤ dictionary_words_most)
dictionary_room (s, e, c, l, μ, R) = (R.rooms.dict_fits, R.rooms.dict_few)

pub kept_all : {k : ℕ} {d : List ℕ} → Kept k d d
kept_all = record { below = λ i l. refl }

module _ {n : List ℕ} {k : ℕ} {m : Machine} {d : List ℕ} (F : Finds m d n k) where
  pub one_known : k < m.names → AddsName n m d d (Ok m)
  unfolding intern_all with_dictionary
  one_known low = record {
    adds = λ s e c l μ R. (
      subst (λ x. Rep m s e d c l (with_dictionary x μ)) (sym (slotted_found n μ.dictionary (find_has R F low))) R,
      cons (slotted_has n μ.dictionary) nil,
      record { depth = refl; frames = refl; lists = refl },
    );
    kept = kept_all;
  }

module _ {n : List ℕ} {m : Machine} {d : List ℕ} (F : Finds m d n m.names) where
  pub one_full : length d < 12 * m.names + 12 → AddsName n m d d (Err LimitCheck)
  unfolding intern_all
  one_full full = record {
    adds = λ s e c l μ R. (refl, omega (arith, full, slotted_missing n μ.dictionary (find_none R F (omega arith) (omega arith)), R.naming.many));
    kept = kept_all;
  }

  pub one_added : {r : Machine} {d' : List ℕ} → Adds m r d d' n → SameBut m r → AddsName n m d d' (Ok r)
  unfolding intern_all intern
  one_added A same = record {
    adds = λ s e c l μ R. (
      A.moves s e c l μ R (omega (arith, find_none R F (omega arith) (omega arith), R.naming.many)),
      cons (slotted_has n μ.dictionary) nil,
      same,
    );
    kept = A.kept;
  }

-- By what `find` answers.
module _ {n : List ℕ} {m : Machine} {d : List ℕ} where
  pub one_there : (r : Option ℕ) → Finds m d n (unwrap_or r m.names) → IfSome r (λ k. k < m.names) → is_some r ≡ true → AddsName n m d d (Ok m)
  one_there (Some k) F low q = one_known F low
  one_there None F low q = absurd (cc)

  pub none_there : (r : Option ℕ) → Finds m d n (unwrap_or r m.names) → is_some r ≡ false → Finds m d n m.names
  none_there (Some k) F q = absurd (cc)
  none_there None F q = F

-- ---- names one after another

intern_grows : (ns : List (List ℕ)) (d : List Slot) → length d ≤ length (intern_all ns d)
unfolding intern_all
intern_grows [] d = omega arith
intern_grows (n ∷ ns) d = omega (arith, slotted_grows n d, intern_grows ns (slotted n d))

have_more : (n : List ℕ) (d : List Slot) {ns : List (List ℕ)} → HaveSlots ns d → HaveSlots ns (slotted n d)
have_more n d nil = nil
have_more n d (cons {a = k} h t) = cons (still_has k n d h) (have_more n d t)

-- A part of the script, by its ends and by its size.
module _ (script : List ℕ) (start size : ℕ) where
  pub part_short : size ≤ name_most → length (take (start + size - start) (drop start script)) ≤ name_most
  part_short few = omega (arith, few, length-take (start + size - start) (drop start script))

  pub part_named : {m : Machine} {d d' : List ℕ} {a : Did} → AddsName (take (start + size - start) (drop start script)) m d d' a → AddsName (take size (drop start script)) m d d' a
  part_named {m} {d} {d'} {a} O =
      let e : start + size - start ≡ size = omega arith in
      subst (λ k. AddsName (take k (drop start script)) m d d' a) e O

-- ---- the loop

-- Of a group's names, those that are done, those that are left, and what the ones that are done come to.
pub record Left (script : List ℕ) (end : ℕ) (m : Machine) (d : List ℕ) (at : ℕ) (r : Machine) (d' : List ℕ) (ns : List (List ℕ)) : Type 0 where
  pub done : List (List ℕ)
  pub rest : List (List ℕ)
  pub split : ns ≡ done ++ rest
  pub left : Flat script at rest end
  pub stands : (s e c l : List ℕ) (μ : Floo.Machine) → Rep m s e d c l μ → Rep r s e d' c l (with_names done μ) × HaveSlots done (intern_all done μ.dictionary)

pub record Adding (script : List ℕ) (from end : ℕ) (m : Machine) (d : List ℕ) (at : ℕ) (r : Machine) (d' : List ℕ) : Type 0 where
  pub some : Group script from end
  pub began : Dictionary m d
  pub long : length d' ≡ length d
  pub kept : Kept (12 * m.names) d d'
  pub more : m.names ≤ r.names
  pub same : SameBut m r
  pub splits : (ns : List (List ℕ)) → Flat script from ns end → Left script end m d at r d' ns

pub begin : {script : List ℕ} {from end : ℕ} {m : Machine} {d : List ℕ} → Group script from end → Dictionary m d → Adding script from end m d from m d
unfolding intern_all with_dictionary
begin G D = record {
  some = G;
  began = D;
  long = refl;
  kept = kept_all;
  more = omega arith;
  same = record { depth = refl; frames = refl; lists = refl };
  splits = λ ns f. record { done = []; rest = ns; split = refl; left = f; stands = λ s e c l μ R. (R, nil) };
}

module _ {script : List ℕ} {from end : ℕ} {m : Machine} {d : List ℕ} {at : ℕ} {r : Machine} {d' : List ℕ} (A : Adding script from end m d at r d') where
  pub ahead : at < end → Ahead script at
  ahead h = let L = A.splits A.some.0 A.some.1 in (L.rest, end, L.left, h)

  pub stands_now : Dictionary r d'
  stands_now =
      let L = A.splits A.some.0 A.some.1 in
      let B = A.began in
      (B.0, B.1, B.2, B.3, with_names L.done B.4, (L.stands B.0 B.1 B.2 B.3 B.4 B.5).0)

  module _ (inside : at < end) where
    pub other_next : {next : ℕ} → MetAt script at (None, next) → (at < next) × Adding script from end m d next r d'
    other_next N = (
      N.0,
      record {
        some = A.some;
        began = A.began;
        long = A.long;
        kept = A.kept;
        more = A.more;
        same = A.same;
        splits = λ ns f. let L = A.splits ns f in record { done = L.done; rest = L.rest; split = L.split; left = N.1 L.rest end L.left inside; stands = L.stands };
      },
    )

    module _ (start size next : ℕ) (here : MetAt script at (Some (start, size), next)) where
      pub name_few : (size ≤ name_most) × (start + size ≤ length script) × (at < next)
      name_few = (here.0, here.1, here.2)

      abbrev word : List ℕ
      word = take size (drop start script)

      -- The names that are done, this one, and the rest.
      cut : {ns : List (List ℕ)} (L : Left script end m d at r d' ns) → (rest : List (List ℕ)) × (L.rest ≡ word ∷ rest) × Flat script next rest end
      cut L = here.3 L.rest end L.left inside

      all_names : {ns : List (List ℕ)} (L : Left script end m d at r d' ns) (D : List Slot)
          → intern_all ns D ≡ intern_all (cut L).0 (slotted word (intern_all L.done D))
      unfolding intern_all
      all_names {ns} L D =
          ap (λ t. intern_all t D) (L.split ∙ ap (λ t. L.done ++ t) (cut L).1)
          ∙ intern_append L.done (word ∷ (cut L).0) D

      module _ {d'' : List ℕ} where
        kept_too : {a : Did} → AddsName word r d' d'' a → Kept (12 * m.names) d d''
        kept_too O = record { below = λ i l. O.kept.below i (omega (arith, l, A.more)) ∙ A.kept.below i l }

        pub names_full : {x : Error} → AddsName word r d' d'' (Err x) → AddsNames script from end m d d'' (Err x)
        unfolding intern_all with_dictionary
        names_full O = record {
          adds = λ ns f s e₀ c l μ R.
              let L = A.splits ns f in
              let full = O.adds s e₀ c l (with_names L.done μ) (L.stands s e₀ c l μ R).0 in
              (full.0, omega (arith, full.1, A.long, ap length (all_names L μ.dictionary), intern_grows (cut L).0 (slotted word (intern_all L.done μ.dictionary))));
          kept = kept_too O;
        }

        pub name_next : {r' : Machine} → AddsName word r d' d'' (Ok r') → length d'' ≡ length d' → Adding script from end m d next r' d''
        unfolding intern_all with_dictionary
        name_next {r'} O stay =
            let W = stands_now in
            let X = O.adds W.0 W.1 W.2 W.3 W.4 W.5 in
            record {
              some = A.some;
              began = A.began;
              long = stay ∙ A.long;
              kept = kept_too O;
              more = omega (arith, A.more, W.5.naming.many, X.0.naming.many, slotted_grows word W.4.dictionary);
              same = record {
                depth = X.2.depth ∙ A.same.depth;
                frames = X.2.frames ∙ A.same.frames;
                lists = X.2.lists ∙ A.same.lists;
              };
              splits = λ ns f.
                  let L = A.splits ns f in
                  let C = cut L in
                  record {
                    done = L.done ++ (word ∷ []);
                    rest = C.0;
                    split = L.split ∙ ap (λ t. L.done ++ t) C.1 ∙ sym (append_assoc L.done (word ∷ []) C.0);
                    left = C.2;
                    stands = λ s e₀ c l μ R.
                        let S = L.stands s e₀ c l μ R in
                        let Y = O.adds s e₀ c l (with_names L.done μ) S.0 in
                        let same = sym (intern_append L.done (word ∷ []) μ.dictionary) in (
                          subst (λ D. Rep r' s e₀ d'' c l (with_dictionary D μ)) same Y.0,
                          subst (HaveSlots (L.done ++ (word ∷ []))) same (all_append (have_more word (intern_all L.done μ.dictionary) S.1) Y.1),
                        );
                  };
            }

  pub names_done : end ≤ at → AddsNames script from end m d d' (Ok r)
  names_done over = record {
    adds = λ ns f s e c l μ R.
        let L = A.splits ns f in
        let all : L.done ≡ ns = sym (L.split ∙ ap (λ t. L.done ++ t) (flat_done script L.left over) ∙ append-nil L.done) in
        let S = L.stands s e c l μ R in (
          subst (λ x. Rep r s e d' c l (with_names x μ)) all S.0,
          subst (λ x. HaveSlots x (intern_all x μ.dictionary)) all S.1,
          A.same,
        );
    kept = A.kept;
  }
