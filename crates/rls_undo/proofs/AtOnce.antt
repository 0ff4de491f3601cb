-- An edit that is undone at once.
use Rattle.std.proofs.Common.{◌≡◌, ℕ, zero, suc, ◌+◌, ◌≤◌, List, [], ◌∷◌, ◌++◌, map, length, take, drop, refl, sym, ap, ◌∙◌, subst, arith, inl}
use Rattle.std.specs.Prelude.{None, pos, zip}
use Rattle.std.proofs.lemmas.List.{take-append-drop, length-map, length-take-le}
use Rattle.rls_ident.specs.declared.tuple.Tuple.{Tuple}
use Rattle.rls_ident.specs.declared.epoch_name.EpochName.{EpochName}
use Rattle.rls_ident.specs.Identifiers.{shifted}
use Rattle.rls_ident.specs.Lists.{IsIn}
use Rattle.rls_ident.proofs.Agreeing.{map_itself}
use Rattle.rls_ident.proofs.Lists.{Lt}
use Rattle.rls_ident.proofs.Members.{in_map, in_left, in_drop, in_take}
use Rattle.rls_ident.proofs.Tuples.{tuples}
use Rattle.rls_rename.proofs.Growth.{translate_same}
use Rattle.rls_ops.specs.declared.op.Op.{Op}
use Rattle.rls_ops.specs.declared.op.Body.{Body}
use Rattle.rls_ops.specs.declared.op.Body.TheVariants.{Insert, Delete}
use Rattle.rls_ops.specs.WellFormed.{IsText}
use Rattle.rls_runs.specs.Entries.{without_all}
use Rattle.rls_runs.specs.Places.{below_count}
use Rattle.rls_runs.specs.Runs.{run_idents}
use Rattle.rls_runs.proofs.Sorted.{Entry, IsBelow, Rises, rises_of_increasing}
use Rattle.rls_model.specs.declared.edit.Edit.{Edit}
use Rattle.rls_model.specs.declared.edit.Edit.TheVariants as edits
use Rattle.rls_model.specs.WellFormed.{IsEdit}
use Rattle.rls_model.proofs.Spliced.{ids, entries, chars-entries, take_map, drop_map, append_map}
use Rattle.rls_seen.specs.Seen.{Seen, greatest_over, idents_over, text_over}
use Rattle.rls_seen.specs.Over.{accepted, placed_over}
use Rattle.rls_seen.specs.Edits.{made_over, edit_fault_over, edited}
use Rattle.rls_seen.specs.Sane.{IsSane}
use Rattle.rls_seen.proofs.EditedText.{inserted_entries, deleted_entries, deleted, delete_place, first_made, first_ident, run_ident, insert_made, delete_made, epoch_made, taken_out, take_drop_drop, cross, rises_right, zip_entries, placed_delete, placed_insert}
use Rattle.rls_seen.proofs.Making.{edited_sane}
use Rattle.rls_seen.proofs.TextLists.{ident_in}
use Rattle.rls_undo.specs.declared.entry.Entry as undo
use Rattle.rls_undo.specs.declared.entry.Entry.TheVariants.{Inserted, Removed}
use Rattle.rls_undo.specs.Plans.{entries_by, gone_by}
use Rattle.rls_undo.specs.Undoing.{planned_over, performed_over, refusal_over, entries_over}
use Rattle.rls_undo.specs.UndoLaws.{AreWhole, BackAtOnce, IsEntry}
use Rattle.rls_undo.proofs.Counting.{count_split}
use Rattle.rls_undo.proofs.Performed.{undone}

head_is : {A : Type 0} (x y : A) → x ∷ [] ≡ y ∷ [] → x ≡ y
head_is x y e = cc

-- ---- an insertion

greatest_insert : (s : Seen) (at : ℕ) (cs : List ℕ) → greatest_over (edited s (edits.Insert at cs)) ≡ greatest_over s
unfolding accepted made_over
greatest_insert s at cs = refl

run_entries : (x : List Tuple) (cs : List ℕ) → run_idents x (length cs) ≡ ids (entries x cs)
run_entries x [] = refl
run_entries x (c ∷ cs) = ap (λ xs. x ∷ xs) (run_entries (shifted (pos 1) x) cs)

insert_back : (s : Seen) (at : ℕ) (cs : List ℕ) (entry : undo.Entry) → IsSane s → IsEdit (edits.Insert at cs) → edit_fault_over s (edits.Insert at cs) ≡ None → entries_over s (edits.Insert at cs) ≡ entry ∷ [] →
    let n = edited s (edits.Insert at cs) in
    refusal_over n (planned_over n entry) ≡ None → text_over (performed_over n (planned_over n entry)) ≡ text_over s
unfolding entries_over
insert_back s at cs entry sane i f h k =
    let n = edited s (edits.Insert at cs) in
    let x = first_made s at (length cs) in
    let e = (made_over s (edits.Insert at cs)).epoch in
    let xs = run_idents x (length cs) in
    let b : entries_by e (Insert x cs) [] ≡ entry ∷ [] = subst (λ (b : Body). entries_by e b [] ≡ entry ∷ []) (insert_made s at cs) h in
    let is : Inserted e xs ≡ entry = head_is (Inserted e xs) entry b in
    let sane' = edited_sane s (edits.Insert at cs) sane i f in
    let k' : refusal_over n (planned_over n (Inserted e xs)) ≡ None = subst (λ (y : undo.Entry). refusal_over n (planned_over n y) ≡ None) (sym is) k in
    let there = inserted_entries s at cs sane i f in
    let own : map (placed_over n e) xs ≡ ids (entries x cs) =
    map_itself (placed_over n e) xs (λ y p. placed_insert s at cs e y ∙ (ap (λ g. placed_over s g y) (epoch_made s (edits.Insert at cs)) ∙ translate_same s.epochs.nodes (greatest_over s) y sane.epochs.nodes (run_ident x (length cs) (first_ident s at cs sane i f) y p)))
    ∙ run_entries x cs in
    let r : Rises (take at s.text ++ (entries x cs ++ drop at s.text)) = subst Rises there (rises_of_increasing n.text sane'.idents.1) in
    ap (λ (y : undo.Entry). text_over (performed_over n (planned_over n y))) (sym is)
    ∙ ap (map (λ (y : Entry). y.1))
    (undone n (Inserted e xs) sane' tt k'
    ∙ (ap (λ ts. without_all ts n.text) own
    ∙ (ap (without_all (ids (entries x cs))) there
    ∙ (taken_out (take at s.text) (entries x cs) (drop at s.text) r
    ∙ take-append-drop at s.text))))

-- ---- a deletion

greatest_delete : (s : Seen) (at m : ℕ) → greatest_over (edited s (edits.Delete at m)) ≡ greatest_over s
unfolding accepted made_over
greatest_delete s at m = refl

pub take_front : {A : Type 0} (n : ℕ) (xs ys : List A) → n ≤ length xs → take n (take n xs ++ ys) ≡ take n xs
take_front zero xs ys h = refl
take_front (suc n) [] ys h = absurd (omega arith)
take_front (suc n) (x ∷ xs) ys h = ap (λ zs. x ∷ zs) (take_front n xs ys (omega arith))

pub drop_front : {A : Type 0} (n : ℕ) (xs ys : List A) → n ≤ length xs → drop n (take n xs ++ ys) ≡ ys
drop_front zero xs ys h = refl
drop_front (suc n) [] ys h = absurd (omega arith)
drop_front (suc n) (x ∷ xs) ys h = drop_front n xs ys (omega arith)

-- the place of the first identifier that went
place_gone : (es : List Entry) (at m : ℕ) (x : List Tuple) (xs : List (List Tuple)) → Rises es → at ≤ length es → take m (drop at (ids es)) ≡ x ∷ xs → below_count (ids (take at es ++ drop (at + m) es)) x ≡ at
place_gone es at m x xs r l h =
    let a = take at es in
    let b = take m (drop at es) in
    let c = drop (at + m) es in
    let whole : Rises (a ++ (b ++ c)) = subst Rises (sym (take_drop_drop m at es)) r in
    let is : ids b ≡ x ∷ xs = take_map (λ (y : Entry). y.0) m (drop at es) ∙ (ap (take m) (drop_map (λ (y : Entry). y.0) at es) ∙ h) in
    let p : IsIn x (ids b) = subst (λ ys. IsIn x ys) (sym is) (inl refl) in
    let w = in_map (λ (y : Entry). y.0) x b p in
    let e0 = w.0 in
    ap (λ ys. below_count ys x) (append_map (λ (y : Entry). y.0) a c)
    ∙ (count_split x (ids a) (ids c)
    (λ y q. let v = in_map (λ (z : Entry). z.0) y a q in
    let k : IsBelow v.0 e0 = cross a (b ++ c) whole v.0 e0 v.1 (in_left e0 b c w.1) in
    subst (λ z. Lt tuples y z) w.2 (subst (λ z. Lt tuples z e0.0) v.2 k))
    (λ y q. let v = in_map (λ (z : Entry). z.0) y c q in
    let k : IsBelow e0 v.0 = cross b c (rises_right a (b ++ c) whole) e0 v.0 w.1 v.1 in
    subst (λ z. Lt tuples x z) v.2 (subst (λ z. Lt tuples z v.0.0) w.2 k))
    ∙ (length-map a (λ (y : Entry). y.0) ∙ length-take-le at es l))

chars_there : (p : ℕ) (y : List Tuple) (cs : List ℕ) (es : List Entry) →
    map (λ (z : Entry). z.1) (take p es ++ (zip (run_idents y (length cs)) cs ++ drop p es)) ≡ take p (map (λ (z : Entry). z.1) es) ++ (cs ++ drop p (map (λ (z : Entry). z.1) es))
chars_there p y cs es =
    let c : Entry → ℕ = λ z. z.1 in
    let mid = zip (run_idents y (length cs)) cs in
    append_map c (take p es) (mid ++ drop p es)
    ∙ (ap (λ zs. zs ++ map c (mid ++ drop p es)) (take_map c p es)
    ∙ ap (λ zs. take p (map c es) ++ zs) (append_map c mid (drop p es) ∙ (ap (λ zs. map c zs ++ map c (drop p es)) (zip_entries y cs) ∙ (ap (λ zs. zs ++ map c (drop p es)) (chars-entries y cs) ∙ ap (λ zs. cs ++ zs) (drop_map c p es)))))

delete_back_by : (s : Seen) (at m : ℕ) (e : EpochName) (x : List Tuple) (xs : List (List Tuple)) → IsSane s → IsText (take m (drop at (text_over s))) → IsEdit (edits.Delete at m) → edit_fault_over s (edits.Delete at m) ≡ None
    → e ≡ greatest_over s → take m (drop at (idents_over s)) ≡ x ∷ xs →
    let n = edited s (edits.Delete at m) in
    let entry = Removed e x (take m (drop at (text_over s))) in
    refusal_over n (planned_over n entry) ≡ None → text_over (performed_over n (planned_over n entry)) ≡ text_over s
delete_back_by s at m e x xs sane w i f g q k =
    let n = edited s (edits.Delete at m) in
    let t = text_over s in
    let gone = take m (drop at t) in
    let sane' = edited_sane s (edits.Delete at m) sane i f in
    let u = undone n (Removed e x gone) sane' w k in
    let p = below_count (idents_over n) (placed_over n e x) in
    let bound = (delete_place s at m f).0 in
    let l : at ≤ length s.text = omega arith in
    let lt : at ≤ length t = omega (arith, length-map s.text (λ (y : Entry). y.1)) in
    let inside : IsIn x (idents_over s) = in_drop at x (idents_over s) (in_take m x (drop at (idents_over s)) (subst (λ ys. IsIn x ys) (sym q) (inl refl))) in
    let same : placed_over n e x ≡ x = placed_delete s at m e x ∙ (ap (λ g. placed_over s g x) g ∙ translate_same s.epochs.nodes (greatest_over s) x sane.epochs.nodes (ident_in (idents_over s) sane.idents x inside)) in
    let place : p ≡ at = ap (below_count (idents_over n)) same ∙ (ap (λ es. below_count (ids es) x) (deleted_entries s at m sane) ∙ place_gone s.text at m x xs (rises_of_increasing s.text sane.idents.1) l q) in
    ap (map (λ (y : Entry). y.1)) u.1
    ∙ (chars_there p u.0 gone n.text
    ∙ (ap (λ k. take k (text_over n) ++ (gone ++ drop k (text_over n))) place
    ∙ (ap (λ cs. take at cs ++ (gone ++ drop at cs)) (deleted s at m sane)
    ∙ (ap (λ cs. cs ++ (gone ++ drop at (take at t ++ drop (at + m) t))) (take_front at t (drop (at + m) t) lt)
    ∙ (ap (λ cs. take at t ++ (gone ++ cs)) (drop_front at t (drop (at + m) t) lt)
    ∙ take_drop_drop m at t)))))

delete_back : (s : Seen) (at m : ℕ) (entry : undo.Entry) → IsSane s → IsEntry entry → IsEdit (edits.Delete at m) → edit_fault_over s (edits.Delete at m) ≡ None → entries_over s (edits.Delete at m) ≡ entry ∷ [] →
    let n = edited s (edits.Delete at m) in
    refusal_over n (planned_over n entry) ≡ None → text_over (performed_over n (planned_over n entry)) ≡ text_over s
unfolding entries_over
delete_back s at m entry sane w i f h k =
    go (take m (drop at (idents_over s))) refl (subst (λ (b : Body). entries_by (made_over s (edits.Delete at m)).epoch b (take m (drop at (text_over s))) ≡ entry ∷ []) (delete_made s at m) h)
  where
    go : (xs : List (List Tuple)) → take m (drop at (idents_over s)) ≡ xs → entries_by (made_over s (edits.Delete at m)).epoch (Delete xs) (take m (drop at (text_over s))) ≡ entry ∷ []
        → text_over (performed_over (edited s (edits.Delete at m)) (planned_over (edited s (edits.Delete at m)) entry)) ≡ text_over s
    go [] q b = absurd (cc)
    go (x ∷ xs) q b =
        let e = (made_over s (edits.Delete at m)).epoch in
        let is : Removed e x (take m (drop at (text_over s))) ≡ entry = head_is (Removed e x (take m (drop at (text_over s)))) entry b in
        let n = edited s (edits.Delete at m) in
        let k' = subst (λ (y : undo.Entry). refusal_over n (planned_over n y) ≡ None) (sym is) k in
        ap (λ (y : undo.Entry). text_over (performed_over n (planned_over n y))) (sym is)
        ∙ delete_back_by s at m e x xs sane (subst IsEntry (sym is) w) i f (epoch_made s (edits.Delete at m)) q k'

-- ---- other edits leave no entry

rename_none : (s : Seen) (entry : undo.Entry) → entries_over s edits.Rename ≡ entry ∷ [] → ⊥
unfolding entries_over made_over
rename_none s entry h = cc

leave_none : (s : Seen) (entry : undo.Entry) → entries_over s edits.Leave ≡ entry ∷ [] → ⊥
unfolding entries_over made_over
leave_none s entry h = cc

pub back_at_once : BackAtOnce
back_at_once s (edits.Insert at cs) entry sane w i f h k = insert_back s at cs entry sane i f h k
back_at_once s (edits.Delete at m) entry sane w i f h k = delete_back s at m entry sane w i f h k
back_at_once s edits.Rename entry sane w i f h k = absurd (rename_none s entry h)
back_at_once s edits.Leave entry sane w i f h k = absurd (leave_none s entry h)

-- ---- the entry that is made

pub inserted_entry : (s : Seen) (edit : Edit) (at : ℕ) (cs : List ℕ) (o : Op) (P : List undo.Entry → Type 0) → o ≡ made_over s edit → edit ≡ edits.Insert at cs
    → ((first : List Tuple) (ds : List ℕ) → o.body ≡ Insert first ds → P (entries_by o.epoch o.body [])) → P (entries_over s edit)
unfolding entries_over
inserted_entry s edit at cs o P m is f =
    let made : o ≡ made_over s (edits.Insert at cs) = m ∙ ap (made_over s) is in
    subst P (ap (λ (p : Op). entries_by p.epoch p.body []) made ∙ ap (λ e. entries_by (made_over s e).epoch (made_over s e).body (gone_by e (text_over s))) (sym is))
    (f (first_made s at (length cs)) cs (ap (λ (p : Op). p.body) made ∙ insert_made s at cs))

pub deleted_entry : (s : Seen) (edit : Edit) (at n : ℕ) (gone : List ℕ) (o : Op) (P : List undo.Entry → Type 0) → o ≡ made_over s edit → edit ≡ edits.Delete at n → gone ≡ take n (drop at (text_over s))
    → ((targets : List (List Tuple)) → o.body ≡ Delete targets → P (entries_by o.epoch o.body gone)) → P (entries_over s edit)
unfolding entries_over
deleted_entry s edit at n gone o P m is g f =
    let made : o ≡ made_over s (edits.Delete at n) = m ∙ ap (made_over s) is in
    subst P (ap (λ (p : Op). entries_by p.epoch p.body gone) made
    ∙ (ap (entries_by (made_over s (edits.Delete at n)).epoch (made_over s (edits.Delete at n)).body) g ∙ ap (λ e. entries_by (made_over s e).epoch (made_over s e).body (gone_by e (text_over s))) (sym is)))
    (f (take n (drop at (idents_over s))) (ap (λ (p : Op). p.body) made ∙ delete_made s at n))

pub whole_by : (e : EpochName) (b : Body) (gone : List ℕ) → IsText gone → AreWhole (entries_by e b gone)
whole_by e (Insert x cs) gone h = (tt, tt)
whole_by e (Delete (x ∷ xs)) gone h = (h, tt)
whole_by e _ gone h = tt

few_by : (e : EpochName) (b : Body) (gone : List ℕ) → length (entries_by e b gone) ≤ 1
few_by e (Insert x cs) gone = omega arith
few_by e (Delete (x ∷ xs)) gone = omega arith
few_by e _ gone = omega arith

-- an edit leaves one entry at most
pub entries_few : (s : Seen) (edit : Edit) → length (entries_over s edit) ≤ 1
unfolding entries_over
entries_few s edit = few_by (made_over s edit).epoch (made_over s edit).body (gone_by edit (text_over s))

pub rename_entry : (s : Seen) (edit : Edit) → edit ≡ edits.Rename → [] ≡ entries_over s edit
unfolding entries_over made_over
rename_entry s edit is = ap (λ e. entries_by (made_over s e).epoch (made_over s e).body (gone_by e (text_over s))) (sym is)

pub leave_entry : (s : Seen) (edit : Edit) → edit ≡ edits.Leave → [] ≡ entries_over s edit
unfolding entries_over made_over
leave_entry s edit is = ap (λ e. entries_by (made_over s e).epoch (made_over s e).body (gone_by e (text_over s))) (sym is)
