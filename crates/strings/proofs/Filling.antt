-- The loop of `fill_at`: the bytes that were read so far stand in front, and the rest of the token goes on at the offset. An item is filled by its header.
-- Assumes nothing.
use mathlib.Core.Path.{◌≡◌, refl, sym, ap, ◌∙◌, subst}
use mathlib.Core.Bool.{true}
use mathlib.Core.List.{List, [], ◌∷◌, ◌++◌, append-nil}
use Prim.Native.Nat.{ℕ, suc, ◌+◌, ◌-◌, ◌/◌, ◌≤◌, ◌<◌}
use native.Mathlib.Omega.{arith}
use lib.ListN.{length, get_or, set, drop, length-append, length-drop}
use lib.Seq.{drop-cons, append_snoc, set-append_seam, set-get_or}
use Rattle.semantics.specs.Values.{Object, elements, text}
use Rattle.semantics.specs.Machine as Floo
use Rattle.semantics.specs.Machine.{with_store, object, bytes_of, change}
use Rattle.token.specs.Strings.{StringAt, Gives, Unescapes}
use Rattle.token.proofs.Escapes.{same_string}
use Rattle.heap.specs.Chain.{live}
use Rattle.heap.proofs.Shapes.{list_le}
use Rattle.store.specs.Rep.{is_text, object_at}
use Rattle.store.proofs.Standing.{text_is}
use Rattle.machine.specs.Words.{item_payload}
use Rattle.machine.specs.Rep.{Rep, World}
use Rattle.machine.specs.declared.Machine.{Machine}
use Rattle.elements.specs.Elements.{HasCell, IsString, PutsByte, item_id, byte_set}
use Rattle.elements.proofs.Strings.{string_here, string_is, byte_here}
use Rattle.std.specs.Prelude.{Option, Some, None}
use Rattle.strings.specs.Strings.{HasRoom, Fills, FillsAt, FillsString, Filled, FilledAt, string_filled, bytes_filled}
use Rattle.strings.proofs.Parts.{part_too, set_changed, changed_text, changed_bytes}

-- ---- on lists

front_more : (done old : List ℕ) (b : ℕ)
    → length done < length old
    → set (done ++ drop (length done) old) (length done) b ≡ (done ++ (b ∷ [])) ++ drop (length (done ++ (b ∷ []))) old
front_more done old b h =
    let n = length done in
    let next : suc n ≡ length (done ++ (b ∷ [])) = sym (length-append done (b ∷ []) ∙ omega arith) in
    ap (λ (t : List ℕ). set (done ++ t) n b) (drop-cons old n 0 h)
    ∙ set-append_seam done (get_or old n 0) (drop (suc n) old) b
    ∙ sym (append_snoc done b (drop (suc n) old))
    ∙ ap (λ (k : ℕ). (done ++ (b ∷ [])) ++ drop k old) next

front_long : (done old : List ℕ) → length done ≤ length old → length (done ++ drop (length done) old) ≡ length old
front_long done old h = length-append done (drop (length done) old) ∙ ap (λ k. length done + k) (length-drop (length done) old) ∙ omega (arith, h)

-- ---- on machines

module _ (id : ℕ) (μ : Floo.Machine) where
  filled_none : object μ id ≡ text (bytes_of (object μ id)) → string_filled id [] μ ≡ μ
  unfolding string_filled change with_store object
  filled_none whole =
      ap (λ (o : Object). with_store (set μ.store id o) μ) (sym whole)
      ∙ ap (λ (s : List Object). with_store s μ) (set-get_or μ.store id (elements []))

  module _ (made : id < length μ.store) (done : List ℕ) where
    filled_more : (b : ℕ) → length done < length (bytes_of (object μ id)) → byte_set id (length done) b (string_filled id done μ) ≡ string_filled id (done ++ (b ∷ [])) μ
    unfolding string_filled
    filled_more b h =
        let old = bytes_of (object μ id) in
        set_changed id μ (done ++ drop (length done) old) made (length done) b
        ∙ ap (λ (t : List ℕ). change id (text t) μ) (front_more done old b h)

    filled_long : length done ≤ length (bytes_of (object μ id)) → length (bytes_of (object (string_filled id done μ) id)) ≡ length (bytes_of (object μ id))
    unfolding string_filled
    filled_long h =
        let old = bytes_of (object μ id) in
        ap (λ (t : List ℕ). length t) (changed_bytes id μ (done ++ drop (length done) old) made) ∙ front_long done old h

    filled_kind : is_text (object_at (string_filled id done μ).store id) ≡ true
    unfolding string_filled object
    filled_kind = ap is_text (changed_text id μ (done ++ drop (length done) (bytes_of (object μ id))) made)

-- ---- on words

module _ {m : Machine} {s e d c l : List ℕ} {μ : Floo.Machine} (R : Rep m s e d c l μ) {h id : ℕ} (I : IsString R.world μ.store h id) where
  made : id < length μ.store
  made = subst (λ j. j < length μ.store) I.stands (R.stored.objects.id h I.lives)

  whole : object μ id ≡ text (bytes_of (object μ id))
  unfolding object
  whole = text_is (object_at μ.store id) I.kind

  few : length (bytes_of (object μ id)) ≤ 262144
  unfolding object
  few =
      let A = string_here R I in
      let shape = R.stored.full.heap.shape in
      subst (λ j. length (bytes_of (object_at μ.store j)) ≤ 262144) I.stands (omega (arith, A.size, list_le shape (h + 2), shape.few))

  -- After bytes have gone to its front, it is the same string.
  module _ (done : List ℕ) {c' : List ℕ} (R' : Rep m s e d c' l (string_filled id done μ)) (same : R'.world ≡ R.world) where
    string_still : IsString R'.world (string_filled id done μ).store h id
    string_still =
        record {
          lives = subst (λ (w : World). w.ghost.own h ≡ live) (sym same) I.lives;
          stands = subst (λ (w : World). w.ρ h ≡ id) (sym same) I.stands;
          kind = filled_kind id μ made done;
        }

-- One byte more goes to the front.
pub front_puts : {h q b : ℕ} {done c₀ c c' : List ℕ}
    → length done ≡ q
    → FillsString h done c₀ c
    → PutsByte h q b c c'
    → FillsString h (done ++ (b ∷ [])) c₀ c'
front_puts {h} {q} {b} {done} {c' = c'} count F B =
    record {
      fills = λ {m = m} {s = s} {e = e} {d = d} {l = l} {μ = μ} R id I room.
          let more : length (done ++ (b ∷ [])) ≡ length done + 1 = length-append done (b ∷ []) in
          let X = F.fills R id I (omega (arith, room, more)) in
          let long = filled_long id μ (made R I) done (omega (arith, room, more)) in
          let Y = B.puts X.0 id (string_still R I done X.0 X.1) (omega (arith, room, more, long, count)) in
          let same = ap (λ k. byte_set id k b (string_filled id done μ)) (sym count) ∙ filled_more id μ (made R I) done b (omega (arith, room, more)) in
          subst (λ (τ : Floo.Machine). (R' : Rep m s e d c' l τ) × (R'.world ≡ R.world)) same (Y.0, Y.1 ∙ X.1);
    }

-- Nothing has gone there yet.
pub fills_none : (h : ℕ) (c : List ℕ) → FillsString h [] c c
fills_none h c =
    record {
      fills = λ {m = m} {s = s} {e = e} {d = d} {l = l} {μ = μ} R id I _.
          subst (λ (τ : Floo.Machine). (R' : Rep m s e d c l τ) × (R'.world ≡ R.world)) (sym (filled_none id μ (whole R I))) (R, refl);
    }

-- There is room for no more bytes than a heap has.
pub room_few : {h n : ℕ} {c : List ℕ} → HasRoom h n c → n ≤ 262144
room_few W = omega (arith, W.inside, few W.rep W.string)

-- The cell of the next byte is there.
pub room_next : {h n q : ℕ} {done c₀ c : List ℕ} → HasRoom h n c₀ → FillsString h done c₀ c → length done ≡ q → q < n → HasCell c h (q / 8)
room_next {h} {q = q} {done = done} W F count less =
    let low : length done ≤ length (bytes_of (object W.state W.id)) = omega (arith, W.inside, less, count) in
    let X = F.fills W.rep W.id W.string low in
    let long = filled_long W.id W.state (made W.rep W.string) done low in
    let I = string_still W.rep W.string done X.0 X.1 in
    byte_here X.0 h W.id q (string_here X.0 I) (omega (arith, long, W.inside, less))

-- ---- the loop

pub record Filling (h : ℕ) (c₀ c script : List ℕ) (start at q : ℕ) : Type 0 where
  pub bytes : List ℕ
  pub last : ℕ
  pub whole : StringAt script start bytes last
  pub room : HasRoom h (length bytes) c₀
  pub done : List ℕ
  pub rest : List ℕ
  pub parts : bytes ≡ done ++ rest
  pub count : length done ≡ q
  pub left : StringAt script at rest last
  pub long : length c ≡ length c₀
  pub fills : FillsString h done c₀ c

pub begin : {h : ℕ} {c script : List ℕ} {start : ℕ} → FillsAt h c script start → Filling h c c script start start 0
begin {c = c} F =
    record {
      bytes = F.contents;
      last = F.next;
      whole = F.reads;
      room = F.room;
      done = [];
      rest = F.contents;
      parts = refl;
      count = refl;
      left = F.reads;
      long = refl;
      fills = fills_none _ c;
    }

module _ {h : ℕ} {c₀ c script : List ℕ} {start at q : ℕ} (F : Filling h c₀ c script start at q) where
  pub few_bytes : length F.bytes ≤ 262144
  few_bytes = room_few F.room

  module _ {r : Option (ℕ × ℕ)} (U : Unescapes script at r) where
    module _ {b next : ℕ} (e : r ≡ Some (b, next)) where
      gives : Gives script at F.rest F.last (Some (b, next))
      gives = subst (Gives script at F.rest F.last) e (U F.rest F.last F.left)

      pub one_left : q < length F.bytes
      one_left =
          let all = ap (λ (t : List ℕ). length t) F.parts ∙ length-append F.done F.rest in
          let some = ap (λ (t : List ℕ). length t) gives.1 in
          omega (arith, all, some, F.count)

      pub nearer : length script - next < length script - at
      nearer = omega (arith, gives.3, gives.2.past, gives.2.inside)

      pub byte_room : HasCell c h (q / 8)
      byte_room = room_next F.room F.fills F.count one_left

      pub again : {c' : List ℕ} → PutsByte h q b c c' → length c' ≡ length c → Filling h c₀ c' script start next (q + 1)
      again {c'} B long =
          record {
            bytes = F.bytes;
            last = F.last;
            whole = F.whole;
            room = F.room;
            done = F.done ++ (b ∷ []);
            rest = gives.0;
            parts = F.parts ∙ ap (λ (t : List ℕ). F.done ++ t) gives.1 ∙ sym (append_snoc F.done b gives.0);
            count = length-append F.done (b ∷ []) ∙ ap (λ k. k + 1) F.count;
            left = gives.2;
            long = long ∙ F.long;
            fills = front_puts F.count F.fills B;
          }

    pub finish : r ≡ None → FilledAt h c₀ c script start
    finish e =
        let none : F.rest ≡ [] = subst (Gives script at F.rest F.last) e (U F.rest F.last F.left) in
        let all : F.bytes ≡ F.done = F.parts ∙ ap (λ (t : List ℕ). F.done ++ t) none ∙ append-nil F.done in
        record { fills = λ bs next S. subst (λ (t : List ℕ). FillsString h t c₀ c) (sym all ∙ same_string F.whole S) F.fills }

-- ---- an item

module _ {i : ℕ} {m : Machine} {s c script : List ℕ} {at : ℕ} (k : ℕ) (h : m.depth ≡ k + suc i) (F : Fills i m s c script at) where
  pub item_room_lem : FillsAt (item_payload s k) c script at
  item_room_lem =
      let W = F.room in
      let b = W.5 in
      record {
        contents = F.contents;
        next = F.next;
        reads = F.reads;
        room = record {
          machine = m;
          stack = s;
          exec = W.0;
          dict = W.1;
          log = W.2;
          state = W.3;
          rep = W.4;
          id = b.string.id;
          string = string_is W.4 i k h b.string.item;
          inside = omega (arith, b.inside);
        };
      }

  pub item_filled : {c' : List ℕ} → FilledAt (item_payload s k) c c' script at → Filled i m s c c' script at
  unfolding bytes_filled string_filled
  item_filled G =
      record {
        fills = λ bs next S.
            record {
              moves = λ e d l μ R.
                  let W = F.room in
                  let P = part_too W.4 i 0 (length F.contents) (omega (arith, h)) W.5 R in
                  let same : length bs ≡ length F.contents = ap (λ (t : List ℕ). length t) (same_string S F.reads) in
                  ((G.fills bs next S).fills R (item_id i μ) (string_is R i k h P.item) (omega (arith, P.inside, same))).0;
            };
      }
