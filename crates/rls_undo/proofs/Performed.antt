-- Edits, one after another.
use Rattle.std.proofs.Common.{◌≡◌, ℕ, ◌+◌, ◌<◌, ◌^◌, List, [], ◌∷◌, ◌++◌, map, length, take, drop, refl, sym, ap, ◌∙◌, subst, arith}
use Rattle.std.specs.Prelude.{Option, Some, None, reverse, slice_index, get_or, sum_by}
use Rattle.std.proofs.lemmas.List.{reverse-append, map-append, map_more, drop-drop, take-append-drop}
use Rattle.std.proofs.lemmas.List.Sums.{sum_by-append}
use Rattle.std.proofs.lemmas.Option.{slice_get-get_or}
use Rattle.rls_ident.proofs.Loops.{drop_reads}
use Rattle.rls_ident.specs.declared.tuple.Tuple.{Tuple}
use Rattle.rls_ident.specs.declared.epoch_name.EpochName.{EpochName}
use Rattle.rls_runs.specs.Places.{below_count}
use Rattle.rls_model.specs.declared.edit.Edit.{Edit}
use Rattle.rls_model.specs.declared.edit.Edit.TheVariants as edits
use Rattle.rls_model.specs.declared.edit.EditError.{EditError}
use Rattle.rls_model.specs.WellFormed.{IsEdit}
use Rattle.rls_model.proofs.Made.{or_none}
use Rattle.rls_seen.specs.Seen.{Seen, own_count, idents_over}
use Rattle.rls_seen.specs.Over.{accepted, acks_after, placed_over}
use Rattle.rls_seen.specs.Edits.{made_body, made_over, edit_fault_over, edited}
use Rattle.rls_seen.specs.Sane.{IsSane}
use Rattle.rls_ident.proofs.Vectors.{index-raise_same}
use Rattle.rls_seen.proofs.Accepting.{acks_me, acks_mine}
use Rattle.rls_seen.proofs.EditedText.{inserted_entries, deleted_entries, delete_place, insert_place, first_made, zip_entries}
use Rattle.rls_seen.proofs.Making.{edited_sane}
use Rattle.rls_seen.proofs.Needed.{total_room}
use Rattle.rls_replica.specs.Names.{KeepsNames}
use Rattle.rls_replica.proofs.KeptNames.{names_same, names_on, accepted_names}
use Rattle.rls_undo.specs.declared.entry.Entry.TheVariants.{Inserted, Removed}
use Rattle.rls_undo.specs.Plans.{places_from, ranges_of, deletion, deletions, chars_of}
use Rattle.rls_undo.specs.Undoing.{planned_over, performed_over, refusal_over, unless, IsPart}
use Rattle.rls_undo.specs.UndoLaws.{Undoes, IsUndone, IsEntry}
use Rattle.rls_undo.proofs.Cutting.{cut, cuts, cut_targets}

-- ---- a front and what follows

pub performed_more : (xs ys : List Edit) (s : Seen) → refusal_over s xs ≡ None → performed_over s (xs ++ ys) ≡ performed_over (performed_over s xs) ys
performed_more [] ys s h = refl
performed_more (e ∷ xs) ys s h =
    let p = or_none (edit_fault_over s e) (refusal_over (edited s e) xs) h in
    rw p.0 (performed_more xs ys (edited s e) p.1)

pub refusal_more : (xs ys : List Edit) (s : Seen) → refusal_over s xs ≡ None → refusal_over s (xs ++ ys) ≡ refusal_over (performed_over s xs) ys
refusal_more [] ys s h = refl
refusal_more (e ∷ xs) ys s h =
    let p = or_none (edit_fault_over s e) (refusal_over (edited s e) xs) h in
    rw p.0 (refusal_more xs ys (edited s e) p.1)

pub front_fits : (xs ys : List Edit) (s : Seen) → refusal_over s (xs ++ ys) ≡ None → refusal_over s xs ≡ None
front_fits [] ys s h = refl
front_fits (e ∷ xs) ys s h =
    let p = or_none (edit_fault_over s e) (refusal_over (edited s e) (xs ++ ys)) h in
    rw p.0 (front_fits xs ys (edited s e) p.1)

-- one edit that isn't refused
pub performed_one : (s : Seen) (e : Edit) → edit_fault_over s e ≡ None → performed_over s (e ∷ []) ≡ edited s e
performed_one s e h = rw h refl

pub one_fits : (s : Seen) (e : Edit) → refusal_over s (e ∷ []) ≡ None → edit_fault_over s e ≡ None
one_fits s e h = (or_none (edit_fault_over s e) None h).0

-- ---- deletions

pub deletions_first : (r : ℕ × ℕ) (rs : List (ℕ × ℕ)) → deletions (r ∷ rs) ≡ deletions rs ++ deletion r ∷ []
deletions_first r rs = ap (map deletion) (reverse-append (r ∷ []) rs) ∙ map-append deletion (reverse rs) (r ∷ [])

-- a deletion that isn't refused is well formed
pub delete_edit : (s : Seen) (at n : ℕ) → IsSane s → edit_fault_over s (edits.Delete at n) ≡ None → IsEdit (edits.Delete at n)
delete_edit s at n sane h =
    let p = delete_place s at n h in
    let r = total_room s sane in
    (omega arith, omega arith)

pub record Cut (s : Seen) (rs : List (ℕ × ℕ)) (new : Seen) : Type 0 where
  pub sane : IsSane new
  pub text : new.text ≡ cuts rs s.text

pub performed_cuts : (rs : List (ℕ × ℕ)) (s : Seen) → IsSane s → refusal_over s (deletions rs) ≡ None → Cut s rs (performed_over s (deletions rs))
performed_cuts [] s sane h = record { sane = sane; text = refl }
performed_cuts (r ∷ rs) s sane h =
    let e = deletions_first r rs in
    let k : refusal_over s (deletions rs ++ deletion r ∷ []) ≡ None = subst (λ es. refusal_over s es ≡ None) e h in
    let f = front_fits (deletions rs) (deletion r ∷ []) s k in
    let n = performed_over s (deletions rs) in
    let c = performed_cuts rs s sane f in
    let one : edit_fault_over n (deletion r) ≡ None = one_fits n (deletion r) (sym (refusal_more (deletions rs) (deletion r ∷ []) s f) ∙ k) in
    let is : performed_over s (deletions (r ∷ rs)) ≡ edited n (deletion r) =
    ap (performed_over s) e ∙ (performed_more (deletions rs) (deletion r ∷ []) s f ∙ performed_one n (deletion r) one) in
    record {
      sane = subst IsSane (sym is) (edited_sane n (deletion r) c.sane (delete_edit n r.0 r.1 c.sane one) one);
      text = ap (λ (u : Seen). u.text) is ∙ (deleted_entries n r.0 r.1 c.sane ∙ (ap (λ es. take r.0 n.text ++ es) (sym (drop-drop r.1 r.0 n.text)) ∙ ap (cut r.0 r.1) c.text));
    }

-- ---- an entry is undone

insertion_undone : (s : Seen) (e : EpochName) (ids : List (List Tuple)) → IsSane s → refusal_over s (planned_over s (Inserted e ids)) ≡ None → IsUndone s (Inserted e ids) (performed_over s (planned_over s (Inserted e ids)))
unfolding planned_over
insertion_undone s e ids sane h =
    let ts = map (placed_over s e) ids in
    (performed_cuts (ranges_of (places_from 0 ts (idents_over s))) s sane h).text ∙ cut_targets ts s.text

removal_undone : (s : Seen) (e : EpochName) (first : List Tuple) (cs : List ℕ) → IsSane s → IsEntry (Removed e first cs) → refusal_over s (planned_over s (Removed e first cs)) ≡ None
    → IsUndone s (Removed e first cs) (performed_over s (planned_over s (Removed e first cs)))
unfolding planned_over
removal_undone s e first cs sane i h =
    let at = below_count (idents_over s) (placed_over s e first) in
    let one = one_fits s (edits.Insert at cs) h in
    let l = insert_place s at cs one in
    let r = total_room s sane in
    let x = first_made s at (length cs) in
    let w : IsEdit (edits.Insert at cs) = (omega arith, i) in
    (x, ap (λ (u : Seen). u.text) (performed_one s (edits.Insert at cs) one) ∙ (inserted_entries s at cs sane w one ∙ ap (λ mid. take at s.text ++ (mid ++ drop at s.text)) (sym (zip_entries x cs))))

pub undone : Undoes
undone s (Inserted e ids) sane i h = insertion_undone s e ids sane h
undone s (Removed e first cs) sane i h = removal_undone s e first cs sane i h

-- ---- numbers, names

-- one more own operation
pub own_more : (s : Seen) (e : Edit) → IsSane s → own_count (edited s e) ≡ own_count s + 1
unfolding accepted made_over
own_more s e sane =
    let b = made_body s e in
    let acks = acks_after s.acks s.acks.me b in
    ap (slice_index acks.mine) (acks_me s.acks s.acks.me b)
    ∙ (ap (λ v. slice_index v s.acks.me) (acks_mine s.acks s.acks.me b)
    ∙ (index-raise_same s.acks.mine s.acks.me sane.rows.member ∙ omega arith))

-- no epoch is dropped
pub performed_names : (es : List Edit) (s : Seen) → KeepsNames s (performed_over s es)
performed_names [] s = names_same s
performed_names (e ∷ es) s = go (edit_fault_over s e) (performed_names es (edited s e))
  where
    go : (f : Option EditError) → KeepsNames (edited s e) (performed_over (edited s e) es) → KeepsNames s (unless f s (performed_over (edited s e) es))
    go None k = names_on s (edited s e) (performed_over (edited s e) es) (accepted_names s (made_over s e)) k
    go (Some x) k = names_same s

-- ---- some of the first edits

pub part_none : (s : Seen) (es : List Edit) → IsPart s es s
part_none s es = record { front = []; rest = es; are = refl; fit = refl; after = refl }

pub part_names : (s : Seen) (es : List Edit) (n : Seen) → IsPart s es n → KeepsNames s n
part_names s es n p = subst (λ (u : Seen). KeepsNames s u) (sym p.after) (performed_names p.front s)

-- one edit, or none of it
pub one_refused : (s : Seen) (e : Edit) (f : EditError) → edit_fault_over s e ≡ Some f → (refusal_over s (e ∷ []) ≡ Some f) × (performed_over s (e ∷ []) ≡ s)
one_refused s e f h = rw h (refl, refl)

pub one_fit : (s : Seen) (e : Edit) → edit_fault_over s e ≡ None → refusal_over s (e ∷ []) ≡ None
one_fit s e h = rw h refl

-- ---- deletions, one after another

pub next_fits : (s n : Seen) (rs : List (ℕ × ℕ)) (i : ℕ) → i < length rs → refusal_over s (map deletion (take i rs)) ≡ None → n ≡ performed_over s (map deletion (take i rs)) → edit_fault_over n (deletion (get_or rs i (0, 0))) ≡ None →
    (refusal_over s (map deletion (take (i + 1) rs)) ≡ None) × (edited n (deletion (get_or rs i (0, 0))) ≡ performed_over s (map deletion (take (i + 1) rs)))
next_fits s n rs i l f e h =
    let d = deletion (get_or rs i (0, 0)) in
    let front = map deletion (take i rs) in
    let m = map_more deletion rs i (0, 0) l in
    let one : edit_fault_over (performed_over s front) d ≡ None = subst (λ (u : Seen). edit_fault_over u d ≡ None) e h in (
      ap (refusal_over s) m ∙ (refusal_more front (d ∷ []) s f ∙ one_fit (performed_over s front) d one),
      ap (λ (u : Seen). edited u d) e ∙ (sym (performed_one (performed_over s front) d one) ∙ (sym (performed_more front (d ∷ []) s f) ∙ ap (performed_over s) (sym m))),
    )

parts_at : (rs : List (ℕ × ℕ)) (i : ℕ) → map deletion rs ≡ map deletion (take i rs) ++ map deletion (drop i rs)
parts_at rs i = ap (map deletion) (sym (take-append-drop i rs)) ∙ map-append deletion (take i rs) (drop i rs)

pub next_refused : (s n : Seen) (rs : List (ℕ × ℕ)) (i : ℕ) (f : EditError) → i < length rs → refusal_over s (map deletion (take i rs)) ≡ None → n ≡ performed_over s (map deletion (take i rs)) → edit_fault_over n (deletion (get_or rs i (0, 0))) ≡ Some f →
    (refusal_over s (map deletion rs) ≡ Some f) × (n ≡ performed_over s (map deletion rs))
next_refused s n rs i x l f e h =
    let d = deletion (get_or rs i (0, 0)) in
    let front = map deletion (take i rs) in
    let rest = map deletion (drop (i + 1) rs) in
    let m = performed_over s front in
    let reads : drop i rs ≡ get_or rs i (0, 0) ∷ drop (i + 1) rs = drop_reads rs i (get_or rs i (0, 0)) (slice_get-get_or rs i (0, 0) l) in
    let are : map deletion rs ≡ front ++ (d ∷ rest) = parts_at rs i ∙ ap (λ ys. front ++ map deletion ys) reads in
    let one : edit_fault_over m d ≡ Some x = subst (λ (u : Seen). edit_fault_over u d ≡ Some x) e h in
    let a : refusal_over m (d ∷ rest) ≡ Some x = rw one refl in
    let b : performed_over m (d ∷ rest) ≡ m = rw one refl in (
      ap (refusal_over s) are ∙ (refusal_more front (d ∷ rest) s f ∙ a),
      e ∙ (sym b ∙ (sym (performed_more front (d ∷ rest) s f) ∙ ap (performed_over s) (sym are))),
    )

pub part_at : (s n : Seen) (rs : List (ℕ × ℕ)) (i : ℕ) → refusal_over s (map deletion (take i rs)) ≡ None → n ≡ performed_over s (map deletion (take i rs)) → IsPart s (map deletion rs) n
part_at s n rs i f e = record { front = map deletion (take i rs); rest = map deletion (drop i rs); are = parts_at rs i; fit = f; after = e }

chars_snoc : (es : List Edit) (e : Edit) → sum_by chars_of (es ++ e ∷ []) ≡ sum_by chars_of es + chars_of e
chars_snoc es e = sum_by-append chars_of es (e ∷ []) ∙ ap (λ n. sum_by chars_of es + n) (omega arith)

pub chars_more : (rs : List (ℕ × ℕ)) (i : ℕ) → i < length rs → sum_by chars_of (map deletion (take (i + 1) rs)) ≡ sum_by chars_of (map deletion (take i rs)) + (get_or rs i (0, 0)).1
chars_more rs i l = ap (sum_by chars_of) (map_more deletion rs i (0, 0) l) ∙ chars_snoc (map deletion (take i rs)) (deletion (get_or rs i (0, 0)))

pub own_small : (s : Seen) → IsSane s → own_count s < 2 ^ 32
own_small s sane = sane.small s.acks.me 0 sane.rows.member

-- ---- the plan that is carried out

pub removal_plan : (s : Seen) (e : EpochName) (first there : List Tuple) (cs : List ℕ) (at : ℕ) → there ≡ placed_over s e first → at ≡ below_count (idents_over s) there → planned_over s (Removed e first cs) ≡ edits.Insert at cs ∷ []
unfolding planned_over
removal_plan s e first there cs at h k = ap (λ x. edits.Insert (below_count (idents_over s) x) cs ∷ []) (sym h) ∙ ap (λ n. edits.Insert n cs ∷ []) (sym k)

pub insertion_plan : (s : Seen) (e : EpochName) (ids ts : List (List Tuple)) (rs : List (ℕ × ℕ)) → ts ≡ map (placed_over s e) ids → rs ≡ reverse (ranges_of (places_from 0 ts (idents_over s))) → planned_over s (Inserted e ids) ≡ map deletion rs
unfolding planned_over
insertion_plan s e ids ts rs h k = ap (λ us. deletions (ranges_of (places_from 0 us (idents_over s)))) (sym h) ∙ ap (map deletion) (sym k)

pub insertion_planned : (s : Seen) (e : EpochName) (ids ts : List (List Tuple)) → ts ≡ map (placed_over s e) ids → planned_over s (Inserted e ids) ≡ deletions (ranges_of (places_from 0 ts (idents_over s)))
unfolding planned_over
insertion_planned s e ids ts h = ap (λ us. deletions (ranges_of (places_from 0 us (idents_over s)))) (sym h)
