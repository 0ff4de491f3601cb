-- What an edit makes may follow.
use Rattle.std.proofs.Common.{◌≡◌, ℕ, zero, suc, ◌+◌, ◌-◌, ◌^◌, ◌≤◌, ◌<◌, Bool, true, false, List, [], ◌∷◌, length, take, drop, refl, sym, ap, ◌∙◌, arith, inl, inr, nat_lt}
use Rattle.std.specs.Prelude.{if◌then◌else◌, ◌&&◌, not, ◌==◌, Option, Some, None, pos, ◌+ℤ◌, slice_get, slice_index}
use Rattle.std.specs.List.{list_all, list_any}
use Rattle.std.specs.Ordering.{is_eq}
use Rattle.std.proofs.lemmas.Cmp.{lists_total, tied_itself}
use Rattle.std.proofs.lemmas.List.{length-take, length-drop}
use Rattle.rls_ident.specs.declared.limits.TheConstants.{MEMBERS, CHARACTERS, IDENTIFIERS, GREATEST_NUMBER}
use Rattle.rls_ident.specs.declared.tuple.Tuple.{Tuple}
use Rattle.rls_ident.specs.declared.epoch_name.EpochName.{EpochName}
use Rattle.rls_ident.specs.declared.epoch_name.EpochName.TheVariants.{Origin, Of}
use Rattle.rls_ident.specs.EpochNames.{name_eq, is_within}
use Rattle.rls_ident.specs.Lists.{IsIn}
use Rattle.rls_ident.specs.Tuples.{offset_of}
use Rattle.rls_ident.specs.Identifiers.{is_ident, last_of, ident_eq, greatest_offset}
use Rattle.rls_ident.specs.Vectors.{at_most}
use Rattle.rls_ident.proofs.Tuples.{tuple_total}
use Rattle.rls_ident.proofs.Members.{and_left, and_right, and_true, any_in, eq_test, in_map, le_test, lt_test, or_left, or_right, in_take, in_drop, eq_not, not_lt_is, not_int_lt_test}
use Rattle.rls_ident.proofs.Vectors.{at_most_refl}
use Rattle.rls_rename.specs.Tree.{Node, name_of, is_of, has_node, names, names_within}
use Rattle.rls_rename.specs.Tree as tree
use Rattle.rls_rename.proofs.Paths.{name_eq_refl}
use Rattle.rls_ops.specs.declared.op.Op.{Op}
use Rattle.rls_ops.specs.declared.op.Body.{Body}
use Rattle.rls_ops.specs.declared.op.Body.TheVariants.{Insert, Delete, Rename, Leave}
use Rattle.rls_ops.specs.declared.op.Shape.{Shape}
use Rattle.rls_ops.specs.declared.op.Shape.TheVariants.{Author, Context, EmptyBody, TooLong, OffsetEnd}
use Rattle.rls_ops.specs.Shapes.{shape_fault, is_next_of, is_empty, body_len, body_limit, passes_end}
use Rattle.rls_model.specs.declared.edit.Edit.{Edit}
use Rattle.rls_model.specs.declared.edit.Edit.TheVariants as edits
use Rattle.rls_model.specs.declared.edit.EditError.{EditError}
use Rattle.rls_model.specs.declared.edit.EditError.TheVariants as faults
use Rattle.rls_model.specs.Answers.{Reason, Left, Backward, WrongEpoch, WrongStem, UnknownTarget}
use Rattle.rls_model.specs.History.{Accepted, History, Then, me_of, members_of, count, count_of, has_left, acknowledged, row}
use Rattle.rls_model.specs.History as history
use Rattle.rls_model.specs.Stems.{stems, due_offset}
use Rattle.rls_model.specs.Epochs.{epochs, greatest, greatest_within}
use Rattle.rls_model.specs.Document.{live, export, idents, ident_in}
use Rattle.rls_model.specs.Fitting.{is_known, first_unknown, body_refusal, refusal}
use Rattle.rls_model.specs.WellFormed.{IsBody, IsEdit}
use Rattle.rls_model.specs.Legal.{IsLegal}
use Rattle.rls_model.specs.Editing.{get_before, next_seq, first_between, made_body, made, range_fault, or_fault, op_fault, edit_fault}
use Rattle.rls_model.specs.Laws.{MadeFits}
use Rattle.rls_model.proofs.OneTree.{none_else, named_le}
use Rattle.rls_model.proofs.Stable.{length-count}
use Rattle.rls_model.proofs.Grown.{AreEarlier}
use Rattle.rls_model.proofs.Fresh.{numbers}
use Rattle.rls_model.proofs.SameOps.{in_export}
use Rattle.rls_model.proofs.Ranges.{count_small, counts_small, greatest_small, idents_good, good_take, good_drop}
use Rattle.rls_model.proofs.Began.{Began, IsNeighbour, began}

-- ---- an own operation with this body

abbrev pub own : History → Body → Op
own H b = record { author = me_of H; seq = next_seq H; context = count H; epoch = greatest H; body = b }

pub foot : (H : History) → IsLegal H → (me_of H < members_of H) × (members_of H ≤ MEMBERS)
foot (history.Fresh group me members) l = (l.1, l.2)
foot (Then G e) l = foot G l.0

pub shape_chain : (b1 b2 b3 b4 b5 : Bool) (x1 x2 x3 x4 x5 : Shape) → b1 ≡ true → b2 ≡ true → b3 ≡ false → b4 ≡ false → b5 ≡ false →
    (if not b1 then Some x1 else if not b2 then Some x2 else if b3 then Some x3 else if b4 then Some x4 else if b5 then Some x5 else None) ≡ None
shape_chain b1 b2 b3 b4 b5 x1 x2 x3 x4 x5 e1 e2 e3 e4 e5 = rw (e1, e2, e3, e4, e5) refl

own_shape : (H : History) (b : Body) → IsLegal H → is_empty b ≡ false → nat_lt (body_limit b) (body_len b) ≡ false → passes_end b ≡ false → shape_fault (members_of H) (own H b) ≡ None
own_shape H b l e3 e4 e5 =
    let f = foot H l in
    let n = count_of H (me_of H) in
    let e1 = lt_test (me_of H) (members_of H) f.0 in
    let p = lt_test 0 (n + 1) (omega arith) in
    let q = eq_test (length (count H)) (members_of H) (length-count H) in
    let r = eq_test n (n + 1 - 1) (omega arith) in
    let e2 : is_next_of (own H b) (members_of H) ≡ true = and_true (nat_lt 0 (n + 1) && (length (count H) == members_of H)) (n == n + 1 - 1) (and_true (nat_lt 0 (n + 1)) (length (count H) == members_of H) p q) r in
    shape_chain (nat_lt (me_of H) (members_of H)) (is_next_of (own H b) (members_of H)) (is_empty b) (nat_lt (body_limit b) (body_len b)) (passes_end b) Author Context EmptyBody (TooLong (body_len b)) OffsetEnd e1 e2 e3 e4 e5

own_row : (H : History) → row H (me_of H) ≡ count H
own_row H = ap (λ b. if b then count H else acknowledged H (me_of H)) (eq_test (me_of H) (me_of H) refl)

-- every name of the tree is within the count
pub all_within : (es : List EpochName) (v : List ℕ) → ((e : EpochName) → IsIn e es → is_within e v ≡ true) → names_within es v ≡ es
all_within [] v f = refl
all_within (e ∷ es) v f =
    ap (λ b. if b then e ∷ names_within es v else names_within es v) (f e (inl refl)) ∙ ap (λ x. e ∷ x) (all_within es v (λ d p. f d (inr p)))

pub in_names : (ns : List Node) (e : EpochName) → IsIn e (names ns) → (a : ℕ) × (s : ℕ) × (e ≡ Of a s) × (has_node ns (Of a s) ≡ true)
in_names [] e p = absurd p
in_names (n ∷ ns) e (inl f) = (n.renaming.replica, n.renaming.seq, sym f, or_left (is_of n (name_of n.renaming)) (has_node ns (name_of n.renaming)) (name_eq_refl (name_of n.renaming)))
in_names (n ∷ ns) e (inr p) = let r = in_names ns e p in (r.0, r.1, r.2, or_right (is_of n (Of r.0 r.1)) (has_node ns (Of r.0 r.1)) r.3)

name_within : (H : History) → IsLegal H → (e : EpochName) → IsIn e (names (epochs H)) → is_within e (count H) ≡ true
name_within H l e p = let r = in_names (epochs H) e p in let h = named_le H l r.0 r.1 r.3 in ap (λ d. is_within d (count H)) r.2 ∙ le_test r.1 (slice_index (count H) r.0) h

pub own_epoch : (H : History) → IsLegal H → greatest_within H (count H) ≡ greatest H
unfolding greatest greatest_within tree.greatest tree.greatest_within
own_epoch H l = ap (tree.greatest_from (epochs H) Origin) (all_within (names (epochs H)) (count H) (name_within H l))

pub fit_chain : (b1 b2 b3 : Bool) (x1 x2 x3 : Reason) (r : Option Reason) → b1 ≡ false → b2 ≡ true → b3 ≡ true → r ≡ None → (if b1 then Some x1 else if not b2 then Some x2 else if not b3 then Some x3 else r) ≡ None
fit_chain b1 b2 b3 x1 x2 x3 r e1 e2 e3 e4 = rw (e1, e2, e3) e4

own_fits : (H : History) (b : Body) → IsLegal H → has_left H (me_of H) ≡ false → body_refusal H (own H b) b ≡ None → refusal H (own H b) ≡ None
unfolding refusal
own_fits H b l h r =
    let e2 : at_most (row H (me_of H)) (count H) ≡ true = ap (λ v. at_most v (count H)) (own_row H) ∙ at_most_refl (count H) in
    let e3 : name_eq (greatest H) (greatest_within H (count H)) ≡ true = ap (name_eq (greatest H)) (own_epoch H l) ∙ name_eq_refl (greatest H) in
    fit_chain (has_left H (me_of H)) (at_most (row H (me_of H)) (count H)) (name_eq (greatest H) (greatest_within H (count H))) (Left (count_of H (me_of H))) (Backward (row H (me_of H))) (WrongEpoch (greatest_within H (count H)))
    (body_refusal H (own H b) b) h e2 e3 r

pub own_legal : (H : History) (b : Body) → IsLegal H → has_left H (me_of H) ≡ false → (count_of H (me_of H) ≡ GREATEST_NUMBER → ⊥) → IsBody b → is_empty b ≡ false → nat_lt (body_limit b) (body_len b) ≡ false → passes_end b ≡ false →
    body_refusal H (own H b) b ≡ None → IsLegal (Then H (Accepted (own H b)))
own_legal H b l h n i e3 e4 e5 r =
    let f = foot H l in
    let c = count_small H l (me_of H) in
    let small : next_seq H < 2 ^ 32 = go (count_of H (me_of H)) c n in
    (l, record { author = omega (arith, f.0, f.1); seq = small; context = counts_small H l; epoch = greatest_small H l; body = i }, record { shape = own_shape H b l e3 e4 e5; next = refl; causes = at_most_refl (count H); fits = own_fits H b l h r })
  where
    go : (m : ℕ) → m < 2 ^ 32 → (m ≡ GREATEST_NUMBER → ⊥) → m + 1 < 2 ^ 32
    go m k q = omega arith

-- ---- the bodies

pub or_none : (r p : Option EditError) → or_fault r p ≡ None → (r ≡ None) × (p ≡ None)
or_none (Some e) p h = absurd (cc)
or_none None p h = (refl, h)

pub fault_split : (H : History) (edit : Edit) → edit_fault H edit ≡ None → (has_left H (me_of H) ≡ false) × (range_fault (length (idents H)) edit ≡ None) × (op_fault H edit ≡ None)
unfolding edit_fault
fault_split H edit h =
    let p = none_else (has_left H (me_of H)) faults.Left (or_fault (range_fault (length (idents H)) edit) (op_fault H edit)) h in
    let q = or_none (range_fault (length (idents H)) edit) (op_fault H edit) p.1 in
    (p.0, q.0, q.1)

unspent : (H : History) (edit : Edit) → op_fault H edit ≡ None → count_of H (me_of H) ≡ GREATEST_NUMBER → ⊥
unspent H edit h e = let p = none_else (count_of H (me_of H) == GREATEST_NUMBER) faults.NumbersSpent _ h in eq_not (count_of H (me_of H)) GREATEST_NUMBER p.0 e

pub neighbour : (xs : List (List Tuple)) → list_all is_ident xs ≡ true → (k : ℕ) → IsNeighbour (slice_get xs k)
neighbour [] h zero = tt
neighbour [] h (suc k) = tt
neighbour (x ∷ xs) h zero = and_left (is_ident x) (list_all is_ident xs) h
neighbour (x ∷ xs) h (suc k) = neighbour xs (and_right (is_ident x) (list_all is_ident xs) h) k

pub neighbour_before : (xs : List (List Tuple)) → list_all is_ident xs ≡ true → (k : ℕ) → IsNeighbour (get_before xs k)
neighbour_before xs h zero = tt
neighbour_before xs h (suc k) = neighbour xs h k

earlier : (H : History) → IsLegal H → AreEarlier (stems H) (me_of H) (next_seq H)
earlier H l q t e = let r = numbers H l (me_of H) q t e in (r.0, omega (arith, r.1), r.2)

-- targets of the text are known
text_known : (H : History) (x : List Tuple) → IsIn x (idents H) → is_known H (greatest H) x ≡ true
unfolding idents is_known
text_known H x p =
    let r = in_map (λ (y : List Tuple × ℕ). y.0) x (export H) p in
    let q = in_export H r.0 r.1 in
    let e : ident_in H (greatest H) q.0 ≡ x = ap (λ (y : List Tuple × ℕ). y.0) q.2 ∙ r.2 in
    let s : ident_eq (ident_in H (greatest H) q.0) x ≡ true = ap (λ y. ident_eq y x) e ∙ ap is_eq (tied_itself (lists_total tuple_total) x) in
    or_left (list_any (λ c. ident_eq (ident_in H (greatest H) c) x) (live H)) _ (any_in (λ c. ident_eq (ident_in H (greatest H) c) x) q.0 (live H) q.1 s)

none_unknown : (H : History) (e : EpochName) (xs : List (List Tuple)) → ((x : List Tuple) → IsIn x xs → is_known H e x ≡ true) → first_unknown H e xs ≡ None
none_unknown H e [] f = refl
none_unknown H e (x ∷ xs) f = ap (λ b. if b then first_unknown H e xs else Some (UnknownTarget x)) (f x (inl refl)) ∙ none_unknown H e xs (λ y p. f y (inr p))

insert_fits : (H : History) (at : ℕ) (cs : List ℕ) → IsLegal H → IsEdit (edits.Insert at cs) → edit_fault H (edits.Insert at cs) ≡ None → IsLegal (Then H (Accepted (own H (made_body H (edits.Insert at cs)))))
insert_fits H at cs l i h =
    let s = fault_split H (edits.Insert at cs) h in
    let p = none_else (length cs == 0) faults.EmptyEdit _ s.1 in
    let q = none_else (nat_lt (length (idents H)) at) (faults.Range at (length (idents H))) _ p.1 in
    let r = none_else (nat_lt CHARACTERS (length cs)) (faults.TooManyChars (length cs)) None q.1 in
    let g = idents_good H l in
    let b : Began (stems H) (me_of H) (next_seq H) (length cs) (first_between (stems H) (me_of H) (next_seq H) (get_before (idents H) at) (slice_get (idents H) at) (length cs)) =
    began (stems H) (me_of H) (next_seq H) (get_before (idents H) at) (slice_get (idents H) at) (length cs) (earlier H l) (not_lt_is CHARACTERS (length cs) r.0) (neighbour_before (idents H) g.0 at) (neighbour (idents H) g.0 at) in
    let x = first_between (stems H) (me_of H) (next_seq H) (get_before (idents H) at) (slice_get (idents H) at) (length cs) in
    own_legal H (Insert x cs) l s.0 (unspent H (edits.Insert at cs) s.2) (b.ident, i.1) p.0 r.0
    (not_int_lt_test (greatest_offset +ℤ pos 1) (offset_of (last_of x) +ℤ pos (length cs)) b.room)
    (ap (λ c. if c then None else Some (WrongStem (due_offset (stems H) (me_of H) (next_seq H) (last_of x)))) b.used)

delete_fits : (H : History) (at n : ℕ) → IsLegal H → edit_fault H (edits.Delete at n) ≡ None → IsLegal (Then H (Accepted (own H (made_body H (edits.Delete at n)))))
delete_fits H at n l h =
    let s = fault_split H (edits.Delete at n) h in
    let p = none_else (n == 0) faults.EmptyEdit _ s.1 in
    let q = none_else (nat_lt (length (idents H)) (at + n)) (faults.Range at (length (idents H))) _ p.1 in
    let r = none_else (nat_lt IDENTIFIERS n) (faults.TooManyChars n) None q.1 in
    let m = not_lt_is (length (idents H)) (at + n) q.0 in
    let xs = take n (drop at (idents H)) in
    let len : length xs ≡ n = omega (arith, length-take n (drop at (idents H)), length-drop at (idents H)) in
    own_legal H (Delete xs) l s.0 (unspent H (edits.Delete at n) s.2) (good_take n (drop at (idents H)) (good_drop at (idents H) (idents_good H l)))
    (ap (λ k. k == 0) len ∙ p.0) (ap (nat_lt IDENTIFIERS) len ∙ r.0) refl
    (none_unknown H (greatest H) xs (λ x u. text_known H x (in_drop at x (idents H) (in_take n x (drop at (idents H)) u))))

rename_fits : (H : History) → IsLegal H → edit_fault H edits.Rename ≡ None → IsLegal (Then H (Accepted (own H (made_body H edits.Rename))))
rename_fits H l h =
    let s = fault_split H edits.Rename h in
    let p = none_else (length (idents H) == 0) faults.EmptyDocument _ s.1 in
    let q = none_else (nat_lt IDENTIFIERS (length (idents H))) (faults.TooManyChars (length (idents H))) None p.1 in
    own_legal H (Rename (idents H)) l s.0 (unspent H edits.Rename s.2) (idents_good H l) p.0 q.0 refl refl

leave_fits : (H : History) → IsLegal H → edit_fault H edits.Leave ≡ None → IsLegal (Then H (Accepted (own H (made_body H edits.Leave))))
leave_fits H l h = let s = fault_split H edits.Leave h in own_legal H Leave l s.0 (unspent H edits.Leave s.2) tt refl refl refl refl

pub law : MadeFits
unfolding made
law H (edits.Insert at cs) l i h = insert_fits H at cs l i h
law H (edits.Delete at n) l i h = delete_fits H at n l h
law H edits.Rename l i h = rename_fits H l h
law H edits.Leave l i h = leave_fits H l h
