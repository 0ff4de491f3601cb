-- A range and what is put in at either end of it: the insertion moves none of the range's identifiers. So the range can be deleted then as it
-- could before, and the text is the one in which what was put in stands for it.
use Rattle.std.proofs.Common.{◌≡◌, ◌∙◌, ◌+◌, ◌*◌, ◌≤◌, ◌<◌, ℕ, suc, Bool, true, false, nat_lt, List, [], ◌∷◌, ◌++◌, length, map, take, drop, Some, None, refl, sym, ap, subst, arith, length-append, length-drop}
use Rattle.std.specs.Prelude.{◌==◌, ◌&&◌, pos, if◌then◌else◌}
use Rattle.std.proofs.lemmas.Bool.Decides.{nat_tests}
use Rattle.std.proofs.lemmas.List.{append_assoc, drop-append-le, drop-drop, drop-take, length-map, length-take-le, take-append-drop, take-append-le, take-take}
use Rattle.std.proofs.Math.Seq.{drop-append_seam, take-append_seam}
use Rattle.rls_ident.specs.declared.limits.TheConstants.{GREATEST_NUMBER, IDENTIFIERS}
use Rattle.rls_ident.specs.declared.tuple.Tuple.{Tuple}
use Rattle.rls_ident.specs.Identifiers.{shifted}
use Rattle.rls_ident.proofs.Members.{eq_is, lt_is}
use Rattle.rls_ident.proofs.Vectors.{length-raise}
use Rattle.rls_ops.specs.declared.op.Op.{Op}
use Rattle.rls_ops.specs.declared.op.Body.TheVariants.{Delete}
use Rattle.rls_ops.specs.Rows.{left}
use Rattle.rls_ops.specs.Sizes.{body_size, name_size, op_size}
use Rattle.rls_runs.proofs.Sorted.{Entry}
use Rattle.rls_model.specs.declared.edit.Edit.{Edit}
use Rattle.rls_model.specs.declared.edit.Edit.TheVariants as edits
use Rattle.rls_model.specs.declared.edit.EditError.TheVariants as faults
use Rattle.rls_model.specs.Editing.{or_fault, range_fault, size_fault}
use Rattle.rls_model.specs.WellFormed.{IsEdit, IsText}
use Rattle.rls_model.proofs.Made.{or_none}
use Rattle.rls_model.proofs.OneTree.{none_else}
use Rattle.rls_model.proofs.Spliced.{append_map, drop_map, entries, ids, take_map}
use Rattle.rls_seen.specs.Edits.{edit_fault_over, edited, made_over, op_fault_over}
use Rattle.rls_seen.specs.Over.{accepted}
use Rattle.rls_seen.specs.Sane.{IsSane}
use Rattle.rls_seen.specs.Seen.{Seen, idents_over, own_count, text_over, vector}
use Rattle.rls_seen.proofs.EditedText.{delete_made, delete_place, deleted, first_made, insert_place, inserted, inserted_entries}
use Rattle.rls_seen.proofs.Making.{edited_sane}
use Rattle.rls_seen.proofs.Needed.{total_room}
use Rattle.rls_replica.specs.Editing.{edited_text}
use Rattle.rls_undo.proofs.AtOnce.{drop_front, take_front}
use Rattle.rls_undo.proofs.Performed.{own_more}
use Rattle.rls_session.specs.declared.draft.Draft.{Draft}
use Rattle.rls_session.specs.Answers.{Sitting}
use Rattle.rls_session.specs.Drafts.{shown_by}
use Rattle.rls_session.specs.Seats.{goes_before, insertion_by, made_each, making_fault, number_fault, plan, replacing}
use Rattle.rls_session.specs.Sessions.{by_parts}

-- ---- lists

-- a list with `mid` put in at a place
abbrev pub put_in : {A : Type 0} → ℕ → List A → List A → List A
put_in at mid xs = take at xs ++ (mid ++ drop at xs)

length-put : {A : Type 0} (at : ℕ) (mid xs : List A) → at ≤ length xs → length (put_in at mid xs) ≡ length xs + length mid
length-put at mid xs h = omega (arith, length-append (take at xs) (mid ++ drop at xs), length-append mid (drop at xs), length-take-le at xs h, length-drop at xs)

-- what stood from the place on stands behind it
drop_put : {A : Type 0} (at : ℕ) (mid xs : List A) → at ≤ length xs → drop (at + length mid) (put_in at mid xs) ≡ drop at xs
drop_put at mid xs h = sym (drop-drop (length mid) at (put_in at mid xs)) ∙ (ap (drop (length mid)) (drop_front at xs (mid ++ drop at xs) h) ∙ drop-append_seam mid (drop at xs))

-- what stood before the place stands before it
take_put : {A : Type 0} (p n : ℕ) (mid xs : List A) → p + n ≤ length xs → take n (drop p (put_in (p + n) mid xs)) ≡ take n (drop p xs)
take_put p n mid xs h =
    let ys = mid ++ drop (p + n) xs in
    let size = length-take-le (p + n) xs h in
    ap (take n) (drop-append-le p (take (p + n) xs) ys (omega (arith, size)) ∙ ap (λ zs. zs ++ ys) (drop-take p n xs)) ∙ take_front n (drop p xs) ys (omega (arith, length-drop p xs))

-- ---- what the fault of a deletion looks at, after an insertion

after_entries : (x : List Tuple) (cs : List ℕ) → length (ids (entries x cs)) ≡ length cs
after_entries x [] = refl
after_entries x (c ∷ cs) = ap suc (after_entries (shifted (pos 1) x) cs)

-- the first identifiers of what was put in are others, and none of the text's is moved
after_idents : (s : Seen) (at : ℕ) (cs : List ℕ) → IsSane s → IsEdit (edits.Insert at cs) → edit_fault_over s (edits.Insert at cs) ≡ None →
    idents_over (edited s (edits.Insert at cs)) ≡ put_in at (ids (entries (first_made s at (length cs)) cs)) (idents_over s)
after_idents s at cs sane i h =
    let f : Entry → List Tuple = λ e. e.0 in
    let es = s.text in
    let mid = entries (first_made s at (length cs)) cs in
    ap (map f) (inserted_entries s at cs sane i h)
    ∙ (append_map f (take at es) (mid ++ drop at es)
    ∙ (ap (λ zs. zs ++ map f (mid ++ drop at es)) (take_map f at es)
    ∙ ap (λ zs. take at (map f es) ++ zs) (append_map f mid (drop at es) ∙ ap (λ zs. map f mid ++ zs) (drop_map f at es))))

stays_member : (s : Seen) (at : ℕ) (cs : List ℕ) → let t = edited s (edits.Insert at cs) in left t.acks t.acks.me ≡ left s.acks s.acks.me
unfolding accepted made_over
stays_member s at cs = refl

as_many : (s : Seen) (at : ℕ) (cs : List ℕ) → length (vector (edited s (edits.Insert at cs))) ≡ length (vector s)
unfolding accepted made_over
as_many s at cs = length-raise s.acks.mine s.acks.me

same_epoch : (s : Seen) (at p q n : ℕ) (cs : List ℕ) → (made_over (edited s (edits.Insert at cs)) (edits.Delete q n)).epoch ≡ (made_over s (edits.Delete p n)).epoch
unfolding accepted made_over
same_epoch s at p q n cs = refl

context_made : (s : Seen) (at n : ℕ) → (made_over s (edits.Delete at n)).context ≡ vector s
unfolding made_over
context_made s at n = refl

same_size : (a b : Op) → length a.context ≡ length b.context → a.epoch ≡ b.epoch → a.body ≡ b.body → op_size a ≡ op_size b
same_size a b c e f = λ i. 8 + 4 * c i + name_size (e i) + 1 + body_size (f i)

-- ---- the fault

-- a deletion without a fault
record IsDeletable (s : Seen) (p n : ℕ) : Type 0 where
  member : left s.acks s.acks.me ≡ false
  some : (n == 0) ≡ false
  few : nat_lt IDENTIFIERS n ≡ false
  small : size_fault (op_size (made_over s (edits.Delete p n))) ≡ None

deletable : (s : Seen) (p n : ℕ) → edit_fault_over s (edits.Delete p n) ≡ None → IsDeletable s p n
unfolding edit_fault_over
deletable s p n h =
    let a = none_else (left s.acks s.acks.me) faults.Left _ h in
    let b = or_none (range_fault (length (idents_over s)) (edits.Delete p n)) (op_fault_over s (edits.Delete p n)) a.1 in
    let c = none_else (n == 0) faults.EmptyEdit _ b.0 in
    let d = none_else (nat_lt (length (idents_over s)) (p + n)) (faults.Range p (length (idents_over s))) _ c.1 in
    let e = none_else (nat_lt IDENTIFIERS n) (faults.TooManyChars n) _ d.1 in
    record { member = a.0; some = c.0; few = e.0; small = (none_else (own_count s == GREATEST_NUMBER) faults.NumbersSpent _ b.1).1 }

no_fault : (t : Seen) (q n : ℕ) → IsDeletable t q n → q + n ≤ length (idents_over t) → own_count t < GREATEST_NUMBER → edit_fault_over t (edits.Delete q n) ≡ None
unfolding edit_fault_over
no_fault t q n h within number =
    let range : nat_lt (length (idents_over t)) (q + n) ≡ false = grind (arith, nat_tests) in
    let left_some : (own_count t == GREATEST_NUMBER) ≡ false = grind (arith, nat_tests) in
    rw (h.member, h.some, range, h.few, left_some, h.small) refl

-- after an insertion, from a place from which it takes the same identifiers
deletes_same : (s : Seen) (at p q n : ℕ) (cs : List ℕ) → IsSane s → edit_fault_over s (edits.Delete p n) ≡ None → own_count s + 1 < GREATEST_NUMBER → let t = edited s (edits.Insert at cs) in
    take n (drop q (idents_over t)) ≡ take n (drop p (idents_over s)) → q + n ≤ length (idents_over t) → edit_fault_over t (edits.Delete q n) ≡ None
deletes_same s at p q n cs sane f number same within =
    let t = edited s (edits.Insert at cs) in
    let h = deletable s p n f in
    let context = ap (λ (v : List ℕ). length v) (context_made t q n) ∙ (as_many s at cs ∙ sym (ap (λ (v : List ℕ). length v) (context_made s p n))) in
    let body = delete_made t q n ∙ (ap (λ xs. Delete xs) same ∙ sym (delete_made s p n)) in
    no_fault t q n
    (record { member = stays_member s at cs ∙ h.member; some = h.some; few = h.few; small = ap size_fault (same_size (made_over t (edits.Delete q n)) (made_over s (edits.Delete p n)) context (same_epoch s at p q n cs) body) ∙ h.small })
    within (omega (arith, number, own_more s (edits.Insert at cs) sane))

module _ (s : Seen) (p n : ℕ) (cs : List ℕ) (sane : IsSane s) (deletes : edit_fault_over s (edits.Delete p n) ≡ None) (number : own_count s + 1 < GREATEST_NUMBER) where
  range : p + n ≤ length (idents_over s)
  range = subst (λ m. p + n ≤ m) (sym (length-map s.text (λ (e : Entry). e.0))) (delete_place s p n deletes).0

  -- put in before the range
  pub deletes_behind : IsEdit (edits.Insert p cs) → edit_fault_over s (edits.Insert p cs) ≡ None → edit_fault_over (edited s (edits.Insert p cs)) (edits.Delete (p + length cs) n) ≡ None
  deletes_behind i h =
      let xs = idents_over s in
      let mid = ids (entries (first_made s p (length cs)) cs) in
      let are = after_idents s p cs sane i h in
      let size : length mid ≡ length cs = after_entries (first_made s p (length cs)) cs in
      let l : p ≤ length xs = omega (arith, range) in
      deletes_same s p p (p + length cs) n cs sane deletes number
      (ap (take n) (ap (drop (p + length cs)) are ∙ (ap (λ m. drop (p + m) (put_in p mid xs)) (sym size) ∙ drop_put p mid xs l)))
      (omega (arith, range, size, length-put p mid xs l, ap (λ (ys : List (List Tuple)). length ys) are))

  -- put in behind it
  pub deletes_before : IsEdit (edits.Insert (p + n) cs) → edit_fault_over s (edits.Insert (p + n) cs) ≡ None → edit_fault_over (edited s (edits.Insert (p + n) cs)) (edits.Delete p n) ≡ None
  deletes_before i h =
      let xs = idents_over s in
      let mid = ids (entries (first_made s (p + n) (length cs)) cs) in
      let are = after_idents s (p + n) cs sane i h in
      deletes_same s (p + n) p p n cs sane deletes number
      (ap (λ ys. take n (drop p ys)) are ∙ take_put p n mid xs range)
      (omega (arith, range, length-put (p + n) mid xs range, ap (λ (ys : List (List Tuple)). length ys) are))

-- ---- the text

-- with `cs` for the n characters from p on
abbrev pub put_for : ℕ → ℕ → List ℕ → List ℕ → List ℕ
put_for p n cs old = take p old ++ (cs ++ drop (p + n) old)

pub shown_behind : (p n : ℕ) (cs old : List ℕ) → p ≤ length old → edited_text (edits.Delete (p + length cs) n) (edited_text (edits.Insert p cs) old) ≡ put_for p n cs old
shown_behind p n cs old h =
    let all = put_in p cs old in
    let seam = take p old ++ cs in
    let size : length seam ≡ p + length cs = omega (arith, length-append (take p old) cs, length-take-le p old h) in
    let front : take (p + length cs) all ≡ seam = ap (take (p + length cs)) (sym (append_assoc (take p old) cs (drop p old))) ∙ (ap (λ m. take m (seam ++ drop p old)) (sym size) ∙ take-append_seam seam (drop p old)) in
    let back : drop (p + length cs + n) all ≡ drop (p + n) old = sym (drop-drop n (p + length cs) all) ∙ (ap (drop n) (drop_put p cs old h) ∙ drop-drop n p old) in
    ap (λ xs. xs ++ drop (p + length cs + n) all) front ∙ (ap (λ xs. seam ++ xs) back ∙ append_assoc (take p old) cs (drop (p + n) old))

pub shown_before : (p n : ℕ) (cs old : List ℕ) → p + n ≤ length old → edited_text (edits.Delete p n) (edited_text (edits.Insert (p + n) cs) old) ≡ put_for p n cs old
shown_before p n cs old h =
    let ys = cs ++ drop (p + n) old in
    let front : take p (take (p + n) old ++ ys) ≡ take p old = take-append-le p (take (p + n) old) ys (omega (arith, length-take-le (p + n) old h)) ∙ take-take p (p + n) old (omega arith) in
    ap (λ xs. xs ++ drop (p + n) (take (p + n) old ++ ys)) front ∙ ap (λ xs. take p old ++ xs) (drop_front (p + n) old ys h)

-- ---- a draft

-- these edits have no fault, one after another, whatever waits
abbrev pub AreFit : Seen → List Edit → Type 0
AreFit s [] = Unit {0}
AreFit s (e ∷ es) = IsEdit e × (edit_fault_over s e ≡ None) × AreFit (edited s e) es

no_text : (cs : List ℕ) → (length cs == 0) ≡ true → cs ≡ []
no_text [] e = refl
no_text (c ∷ cs) e = absurd (omega (arith, eq_is (length (c ∷ cs)) 0 e))

-- the places of edits without a fault
insertion_fits : (s : Seen) (at : ℕ) (cs : List ℕ) → IsSane s → IsText cs → edit_fault_over s (edits.Insert at cs) ≡ None → IsEdit (edits.Insert at cs)
insertion_fits s at cs sane t h = let l = insert_place s at cs h in let room = total_room s sane in (omega (arith, l, room), t)

deletion_fits : (s : Seen) (at n : ℕ) → IsSane s → edit_fault_over s (edits.Delete at n) ≡ None → IsEdit (edits.Delete at n)
deletion_fits s at n sane h = let l = (delete_place s at n h).0 in let room = total_room s sane in (omega (arith, l, room), omega (arith, l, room))

module _ (d : Sitting Seen) (p : Draft) (sane : IsSane d.state) (text : IsText p.text) where
  abbrev s : Seen
  s = d.state

  -- what making comes to, if this is the plan
  pub record IsMade (es : List Edit) : Type 0 where
    pub fit : AreFit s es
    pub shown : text_over (made_each by_parts d es).state ≡ shown_by p (text_over s)

  at_end : (n : ℕ) → n ≤ length s.text → n ≤ length (text_over s)
  at_end n l = subst (λ m. n ≤ m) (sym (length-map s.text (λ (e : Entry). e.1))) l

  nothing : (p.count == 0) ≡ true → (length p.text == 0) ≡ true → IsMade []
  nothing a b = record {
    fit = tt;
    shown = let none = eq_is p.count 0 a in
        sym (ap (λ (cs : List ℕ). take p.at (text_over s) ++ (cs ++ drop (p.at + p.count) (text_over s))) (no_text p.text b)
        ∙ (ap (λ n. take p.at (text_over s) ++ drop n (text_over s)) (omega (arith, none)) ∙ take-append-drop p.at (text_over s)));
  }

  insertion : (p.count == 0) ≡ true → edit_fault_over s (edits.Insert p.at p.text) ≡ None → IsMade (edits.Insert p.at p.text ∷ [])
  insertion a h =
      let i = insertion_fits s p.at p.text sane text h in
      let none = eq_is p.count 0 a in
      record { fit = (i, h, tt); shown = inserted s p.at p.text sane i h ∙ ap (λ n. take p.at (text_over s) ++ (p.text ++ drop n (text_over s))) (omega (arith, none)) }

  deletion : (length p.text == 0) ≡ true → edit_fault_over s (edits.Delete p.at p.count) ≡ None → IsMade (edits.Delete p.at p.count ∷ [])
  deletion b h = record {
    fit = (deletion_fits s p.at p.count sane h, h, tt);
    shown = deleted s p.at p.count sane ∙ ap (λ (cs : List ℕ). take p.at (text_over s) ++ (cs ++ drop (p.at + p.count) (text_over s))) (sym (no_text p.text b));
  }

  replacement : (before : Bool) → edit_fault_over s (edits.Delete p.at p.count) ≡ None → edit_fault_over s (insertion_by before p) ≡ None → own_count s + 1 < GREATEST_NUMBER → IsMade (replacing before p)
  replacement true h k number =
      let i = insertion_fits s p.at p.text sane text k in
      let t = edited s (edits.Insert p.at p.text) in
      let w = edited_sane s (edits.Insert p.at p.text) sane i k in
      let f = deletes_behind s p.at p.count p.text sane h number i k in
      let l = at_end (p.at + p.count) (delete_place s p.at p.count h).0 in
      record {
        fit = (i, k, (deletion_fits t (p.at + length p.text) p.count w f, f, tt));
        shown = deleted t (p.at + length p.text) p.count w ∙ (ap (edited_text (edits.Delete (p.at + length p.text) p.count)) (inserted s p.at p.text sane i k) ∙ shown_behind p.at p.count p.text (text_over s) (omega (arith, l)));
      }
  replacement false h k number =
      let at = p.at + p.count in
      let i = insertion_fits s at p.text sane text k in
      let t = edited s (edits.Insert at p.text) in
      let w = edited_sane s (edits.Insert at p.text) sane i k in
      let f = deletes_before s p.at p.count p.text sane h number i k in
      record {
        fit = (i, k, (deletion_fits t p.at p.count w f, f, tt));
        shown = deleted t p.at p.count w ∙ (ap (edited_text (edits.Delete p.at p.count)) (inserted s at p.text sane i k) ∙ shown_before p.at p.count p.text (text_over s) (at_end (p.at + p.count) (delete_place s p.at p.count h).0));
      }

  numbers : number_fault by_parts s ≡ None → own_count s + 1 < GREATEST_NUMBER
  numbers h = lt_is (own_count s + 1) GREATEST_NUMBER (number_left (nat_lt (own_count s + 1) GREATEST_NUMBER) h)
    where
      number_left : (b : Bool) → (if b then None else Some faults.NumbersSpent) ≡ None → b ≡ true
      number_left true h = refl
      number_left false h = absurd cc

  -- where a draft's edits have no fault, none has one when it is made, and the text is then what was shown
  pub made_draft : making_fault by_parts s p ≡ None → IsMade (plan by_parts s p)
  made_draft h = go (p.count == 0) refl (length p.text == 0) refl h
    where
      before : Bool
      before = goes_before by_parts s p

      go : (a : Bool) → (p.count == 0) ≡ a → (b : Bool) → (length p.text == 0) ≡ b
          → (if a && b then None else if a then edit_fault_over s (edits.Insert p.at p.text) else or_fault (edit_fault_over s (edits.Delete p.at p.count)) (if b then None else or_fault (edit_fault_over s (insertion_by before p)) (number_fault by_parts s))) ≡ None
          → IsMade (if a then (if b then [] else edits.Insert p.at p.text ∷ []) else if b then edits.Delete p.at p.count ∷ [] else replacing before p)
      go true a true b h = nothing a b
      go true a false b h = insertion a h
      go false a true b h = deletion b (or_none (edit_fault_over s (edits.Delete p.at p.count)) None h).0
      go false a false b h =
          let x = or_none (edit_fault_over s (edits.Delete p.at p.count)) (or_fault (edit_fault_over s (insertion_by before p)) (number_fault by_parts s)) h in
          let y = or_none (edit_fault_over s (insertion_by before p)) (number_fault by_parts s) x.1 in
          replacement before x.0 y.0 (numbers y.1)
