-- A rename makes one run of the text, which an insertion right after it lengthens at its end or at its front.
use Rattle.std.proofs.Common.{◌≡◌, ℕ, zero, suc, ◌+◌, ◌^◌, ◌≤◌, ◌<◌, true, false, List, [], ◌∷◌, ◌++◌, map, length, take, drop, refl, sym, ap, ◌∙◌, subst, ⊎_elim, arith, nat_lt, append_assoc, append-nil, length-append}
use Rattle.std.specs.Prelude.{not, ◌==◌, if◌then◌else◌, Some, None, ℤ, pos, ◌+ℤ◌, ◌-ℤ◌, ◌≤ℤ◌, slice_get}
use Rattle.std.specs.Int.RustNames.{int_le}
use Rattle.std.specs.Ordering.{int_eq}
use Rattle.std.proofs.lemmas.Int.{ints}
use Rattle.rls_ident.specs.declared.limits.TheConstants.{CHARACTERS, IDENTIFIERS, OFFSETS_END, GREATEST_OFFSET}
use Rattle.rls_ident.specs.declared.tuple.Spot.{Spot}
use Rattle.rls_ident.specs.declared.tuple.Tuple.{Tuple}
use Rattle.rls_ident.specs.declared.tuple.Tuple.TheVariants.{At}
use Rattle.rls_ident.specs.declared.epoch_name.EpochName.TheVariants.{Origin, Of}
use Rattle.rls_ident.specs.Lists.{IsIn}
use Rattle.rls_ident.specs.Identifiers.{last_of, shifted, least_offset, greatest_offset}
use Rattle.rls_ident.specs.Between.{between}
use Rattle.rls_ident.proofs.Members.{same_bool, and_true, in_left, snoc_split, in_map, map_in, in_filter, filter_in, in_any, any_in, eq_refl, int_test, not_lt_is, int_le_test, not_zero}
use Rattle.rls_ident.proofs.Shifted.{shifted_shifted, shifted_none}
use Rattle.rls_runs.specs.Runs.{run_idents, put_run, runs_of}
use Rattle.rls_rename.specs.Renaming.{Renaming, IsFormer, new_spot, new_at, new_pos, forward}
use Rattle.rls_rename.specs.Tree.{Node, AreNodes, AreBelow}
use Rattle.rls_rename.specs.Tree as tree
use Rattle.rls_rename.proofs.Growth.{kept_other, translate_child}
use Rattle.rls_rename.proofs.Laws.{meaning}
use Rattle.rls_rename.proofs.Order.{greatest_child}
use Rattle.rls_rename.proofs.Paths.{name_eq_refl}
use Rattle.rls_ops.specs.declared.op.Op.{Op}
use Rattle.rls_ops.specs.declared.op.Body.TheVariants.{Rename}
use Rattle.rls_model.specs.declared.edit.Edit.TheVariants as edits
use Rattle.rls_model.specs.declared.edit.EditError.TheVariants as faults
use Rattle.rls_model.specs.History.{Accepted, History, Then, me_of, ops}
use Rattle.rls_model.specs.Stems.{stems, stem_of, new_stem}
use Rattle.rls_model.specs.Epochs.{epochs, nodes_after, renaming_of, greatest, translate}
use Rattle.rls_model.specs.Document.{Character, chars, chars_of, targets_of, ident_in, has_ident, is_named, live, export, idents, text}
use Rattle.rls_model.specs.WellFormed.{IsText}
use Rattle.rls_model.specs.Legal.{IsLegal}
use Rattle.rls_model.specs.Editing.{own_stem, may_append, may_prepend, first_before, first_between, get_before, next_seq, made, edit_fault}
use Rattle.rls_model.specs.Laws.{edited, RenamedRun}
use Rattle.rls_model.proofs.OneTree.{nodes, parents, none_else}
use Rattle.rls_model.proofs.StemLists.{found_same}
use Rattle.rls_model.proofs.Distinct.{known, char_split}
use Rattle.rls_runs.proofs.Sorted.{Entry, same_rising}
use Rattle.rls_model.proofs.SameOps.{entry_of, live_char, op_kept, export_rises, in_export, export_in}
use Rattle.rls_model.proofs.Made as made
use Rattle.rls_model.proofs.Named.{grown_translate, char_old}
use Rattle.rls_model.proofs.Spliced.{ids, entries, chars-entries, entries_rise}
use Rattle.rls_model.proofs.Insertion.{made_first, made_export}
use Rattle.rls_runs.proofs.RunsOf.{follows_next}

-- ---- the live characters after a rename

any_op : (H : History) (c : Character) → is_named H c ≡ true → (d : Op) × IsIn d (ops H) × (has_ident (targets_of d.body) (ident_in H d.epoch c) ≡ true)
unfolding is_named
any_op H c h = in_any (λ d. has_ident (targets_of d.body) (ident_in H d.epoch c)) (ops H) h

op_any : (H : History) (c : Character) (d : Op) → IsIn d (ops H) → has_ident (targets_of d.body) (ident_in H d.epoch c) ≡ true → is_named H c ≡ true
unfolding is_named
op_any H c d p h = any_in (λ d. has_ident (targets_of d.body) (ident_in H d.epoch c)) d (ops H) p h

same_named : (G : History) (o : Op) (xs : List (List Tuple)) → IsLegal (Then G (Accepted o)) → o.body ≡ Rename xs → (c : Character) → IsIn c (chars G) → is_named (Then G (Accepted o)) c ≡ is_named G c
same_named G o xs l e c p =
    let K = Then G (Accepted o) in
    let same : (d : Op) → IsIn d (ops G) → ident_in K d.epoch c ≡ ident_in G d.epoch c = λ d q. grown_translate G (Accepted o) l c.epoch d.epoch c.ident (known G l.0 c p).1 (op_kept G l.0 d q) in
    same_bool (is_named K c) (is_named G c)
    (λ h. let r = any_op K c h in
    let d = r.0 in
    ⊎_elim (λ q. op_any G c d q (ap (has_ident (targets_of d.body)) (sym (same d q)) ∙ r.2))
    (λ q. absurd (none (sym (ap (λ b. has_ident (targets_of b) (ident_in K d.epoch c)) (sym (ap (λ (w : Op). w.body) q) ∙ e)) ∙ r.2)))
    (snoc_split d o (ops G) r.1))
    (λ h. let r = any_op G c h in
    let d = r.0 in
    op_any K c d (in_left d (ops G) (o ∷ []) r.1) (ap (has_ident (targets_of d.body)) (same d r.1) ∙ r.2))
  where
    none : false ≡ true → ⊥
    none h = absurd (cc)

no_new : (o : Op) (xs : List (List Tuple)) → o.body ≡ Rename xs → (c : Character) → IsIn c (chars_of o o.body) → ⊥
no_new o xs e c p = subst (λ b. IsIn c (chars_of o b)) e p

pub live_back : (G : History) (o : Op) (xs : List (List Tuple)) → IsLegal (Then G (Accepted o)) → o.body ≡ Rename xs → (c : Character) → IsIn c (live (Then G (Accepted o))) → IsIn c (live G)
unfolding live
live_back G o xs l e c p =
    let K = Then G (Accepted o) in
    let r = in_filter (λ c. not (is_named K c)) c (chars K) p in
    let q : IsIn c (chars G) = ⊎_elim (λ q. q) (λ q. absurd (no_new o xs e c q)) (char_split G o c r.0) in
    filter_in (λ c. not (is_named G c)) c (chars G) q (ap not (sym (same_named G o xs l e c q)) ∙ r.1)

pub live_stays : (G : History) (o : Op) (xs : List (List Tuple)) → IsLegal (Then G (Accepted o)) → o.body ≡ Rename xs → (c : Character) → IsIn c (live G) → IsIn c (live (Then G (Accepted o)))
unfolding live
live_stays G o xs l e c p =
    let K = Then G (Accepted o) in
    let r = in_filter (λ c. not (is_named G c)) c (chars G) p in
    filter_in (λ c. not (is_named K c)) c (chars K) (char_old G o c r.0) (ap not (same_named G o xs l e c r.0) ∙ r.1)

-- ---- the greatest epoch and the identifiers in it

-- the node of a rename in the greatest epoch
abbrev node_in : History → Op → List (List Tuple) → Node
node_in G o xs = record { parent = o.epoch; renaming = renaming_of o xs }

pub nodes_are : (G : History) (o : Op) (xs : List (List Tuple)) → o.body ≡ Rename xs → epochs (Then G (Accepted o)) ≡ node_in G o xs ∷ epochs G
nodes_are G o xs e = ap (nodes_after (epochs G) o) e

pub tree_of : (G : History) (o : Op) (xs : List (List Tuple)) → IsLegal (Then G (Accepted o)) → o.body ≡ Rename xs → AreNodes (node_in G o xs ∷ epochs G) × AreBelow Origin (node_in G o xs ∷ epochs G)
tree_of G o xs l e =
    let K = Then G (Accepted o) in
    (subst AreNodes (nodes_are G o xs e) (nodes K l), subst (AreBelow Origin) (nodes_are G o xs e) (parents K l))

pub greatest_renamed : (G : History) (o : Op) (xs : List (List Tuple)) → IsLegal (Then G (Accepted o)) → o.body ≡ Rename xs → o.epoch ≡ greatest G → greatest (Then G (Accepted o)) ≡ Of o.author o.seq
unfolding greatest
greatest_renamed G o xs l e h =
    let t = tree_of G o xs l e in
    ap (tree.greatest Origin) (nodes_are G o xs e) ∙ greatest_child Origin (node_in G o xs) (epochs G) t.0 t.1 h

renamed_ident : (G : History) (o : Op) (xs : List (List Tuple)) → IsLegal (Then G (Accepted o)) → o.body ≡ Rename xs → o.epoch ≡ greatest G → (c : Character) → IsIn c (chars G) →
    ident_in (Then G (Accepted o)) (greatest (Then G (Accepted o))) c ≡ forward (renaming_of o xs) (ident_in G (greatest G) c)
unfolding translate
renamed_ident G o xs l e h c p =
    let K = Then G (Accepted o) in
    let t = tree_of G o xs l e in
    let k = known G l.0 c p in
    let n = node_in G o xs in
    ap (λ ns. tree.translate ns c.epoch (greatest K) c.ident) (nodes_are G o xs e)
    ∙ (ap (λ f. tree.translate (n ∷ epochs G) c.epoch f c.ident) (greatest_renamed G o xs l e h)
    ∙ (translate_child n (epochs G) c.epoch (Of o.author o.seq) c.ident t.0 k.0 (kept_other Origin n (epochs G) c.epoch t.0 t.1 k.1) (name_eq_refl (Of o.author o.seq))
    ∙ ap (λ f. forward (renaming_of o xs) (tree.translate (epochs G) c.epoch f c.ident)) h))

-- ---- the export after a rename

-- an entry after the renaming
moved : Renaming → Entry → Entry
moved R y = (forward R y.0, y.1)

entry_moved : (G : History) (o : Op) (xs : List (List Tuple)) → IsLegal (Then G (Accepted o)) → o.body ≡ Rename xs → o.epoch ≡ greatest G → (c : Character) → IsIn c (chars G) → entry_of (Then G (Accepted o)) c ≡ moved (renaming_of o xs) (entry_of G c)
unfolding moved
entry_moved G o xs l e h c p = ap (λ z. (z, c.char)) (renamed_ident G o xs l e h c p)

new_next : (s : Spot) (i : ℕ) → shifted (pos 1) (new_at s i) ≡ new_at s (suc i)
new_next s i = let e : pos i +ℤ pos 1 ≡ pos (suc i) = omega (arith, ints) in ap (λ k. At s.pos s.replica s.seq k ∷ []) e

moved_from : (R : Renaming) → IsFormer R.former → (before : List (List Tuple)) (xs : List Entry) → R.former ≡ before ++ ids xs → map (moved R) xs ≡ entries (new_at (new_spot R) (length before)) (map (λ y. y.1) xs)
unfolding moved
moved_from R f before [] e = refl
moved_from R f before (x ∷ xs) e =
    let s = new_spot R in
    let n = length before in
    let h : forward R x.0 ≡ new_at s n = (meaning R before x.0 x.0 (ids xs) (new_at s 0) f refl).0 e in
    let l : length (before ++ (x.0 ∷ [])) ≡ suc n = length-append before (x.0 ∷ []) ∙ plus n in
    let r = moved_from R f (before ++ (x.0 ∷ [])) xs (e ∙ sym (append_assoc before (x.0 ∷ []) (ids xs))) in
    ap (λ z. (z, x.1) ∷ map (moved R) xs) h
    ∙ ap (λ zs. (new_at s n, x.1) ∷ zs) (r ∙ ap (λ z. entries z (map (λ y. y.1) xs)) (ap (new_at s) l ∙ sym (new_next s n)))
  where
    plus : (n : ℕ) → n + 1 ≡ suc n
    plus n = omega arith

-- the first new identifier
abbrev pub first_new : Op → List (List Tuple) → List Tuple
first_new o xs = new_at (new_spot (renaming_of o xs)) 0

former_good : (G : History) (o : Op) (xs : List (List Tuple)) → IsLegal (Then G (Accepted o)) → o.body ≡ Rename xs → IsFormer xs
former_good G o xs l e = (tree_of G o xs l e).0.0

moved_export : (G : History) (o : Op) → IsLegal (Then G (Accepted o)) → o.body ≡ Rename (idents G) → map (moved (renaming_of o (idents G))) (export G) ≡ entries (first_new o (idents G)) (text G)
unfolding idents text
moved_export G o l e = moved_from (renaming_of o (idents G)) (former_good G o (idents G) l e) [] (export G) refl

into_moved : (G : History) (o : Op) → IsLegal (Then G (Accepted o)) → o.body ≡ Rename (idents G) → o.epoch ≡ greatest G → (z : Entry) → IsIn z (export (Then G (Accepted o))) → IsIn z (map (moved (renaming_of o (idents G))) (export G))
into_moved G o l e h z p =
    let K = Then G (Accepted o) in
    let R = renaming_of o (idents G) in
    let r = in_export K z p in
    let q = live_back G o (idents G) l e r.0 r.1 in
    subst (λ (w : Entry). IsIn w (map (moved R) (export G))) (sym (entry_moved G o (idents G) l e h r.0 (live_char G r.0 q)) ∙ r.2) (map_in (moved R) (entry_of G r.0) (export G) (export_in G r.0 q))

from_moved : (G : History) (o : Op) → IsLegal (Then G (Accepted o)) → o.body ≡ Rename (idents G) → o.epoch ≡ greatest G → (z : Entry) → IsIn z (map (moved (renaming_of o (idents G))) (export G)) → IsIn z (export (Then G (Accepted o)))
from_moved G o l e h z p =
    let K = Then G (Accepted o) in
    let R = renaming_of o (idents G) in
    let r = in_map (moved R) z (export G) p in
    let q = in_export G r.0 r.1 in
    let c = q.0 in
    subst (λ (w : Entry). IsIn w (export K)) (entry_moved G o (idents G) l e h c (live_char G c q.1) ∙ (ap (moved R) q.2 ∙ r.2)) (export_in K c (live_stays G o (idents G) l e c q.1))

-- the export after a rename of the whole text: one run of new identifiers
pub export_rename : (G : History) (o : Op) → IsLegal (Then G (Accepted o)) → o.body ≡ Rename (idents G) → o.epoch ≡ greatest G → export (Then G (Accepted o)) ≡ entries (first_new o (idents G)) (text G)
export_rename G o l e h =
    let K = Then G (Accepted o) in
    let m = moved_export G o l e in
    let t = first_new o (idents G) in
    same_rising (export K) (entries t (text G)) (export_rises K l) (entries_rise t (text G) refl)
    (λ z p. subst (λ ys. IsIn z ys) m (into_moved G o l e h z p))
    (λ z p. from_moved G o l e h z (subst (λ ys. IsIn z ys) (sym m) p))

-- ---- one run

ids-entries : (x : List Tuple) (cs : List ℕ) → ids (entries x cs) ≡ run_idents x (length cs)
ids-entries x [] = refl
ids-entries x (c ∷ cs) = ap (λ ys. x ∷ ys) (ids-entries (shifted (pos 1) x) cs)

pub one_run : (x : List Tuple) (n : ℕ) → runs_of (run_idents x (suc n)) ≡ (x, suc n) ∷ []
one_run x zero = refl
one_run x (suc n) =
    ap (put_run x) (one_run (shifted (pos 1) x) n)
    ∙ (ap (λ b. if b then (x, suc n + 1) ∷ [] else (x, 1) ∷ (shifted (pos 1) x, suc n) ∷ []) (follows_next x) ∙ ap (λ (k : ℕ). (x, k) ∷ []) (plus n))
  where
    plus : (n : ℕ) → suc n + 1 ≡ suc (suc n)
    plus n = omega arith

pub some_run : (x : List Tuple) (n : ℕ) → 0 < n → runs_of (run_idents x n) ≡ (x, n) ∷ []
some_run x zero h = absurd (omega arith)
some_run x (suc n) h = one_run x n

-- entries that continue
entries-append : (x : List Tuple) (cs ds : List ℕ) → entries x (cs ++ ds) ≡ entries x cs ++ entries (shifted (pos (length cs)) x) ds
entries-append x [] ds = ap (λ y. entries y ds) (sym (shifted_none x))
entries-append x (c ∷ cs) ds =
    ap (λ ys. (x, c) ∷ ys) (entries-append (shifted (pos 1) x) cs ds ∙ ap (λ y. entries (shifted (pos 1) x) cs ++ entries y ds) (shifted_shifted (pos (length cs)) (pos 1) x ∙ ap (λ k. shifted k x) (sum (length cs))))
  where
    sum : (n : ℕ) → pos 1 +ℤ pos n ≡ pos (suc n)
    sum n = omega (arith, ints)

-- an export with consecutive identifiers shows one run
runs_shown : (K : History) (x : List Tuple) (cs : List ℕ) → 0 < length cs → export K ≡ entries x cs → runs_of (idents K) ≡ (x, length cs) ∷ []
unfolding idents
runs_shown K x cs h e = ap (λ ys. runs_of (ids ys)) e ∙ (ap runs_of (ids-entries x cs) ∙ some_run x (length cs) h)

text_shown : (K : History) (x : List Tuple) (cs : List ℕ) → export K ≡ entries x cs → text K ≡ cs
unfolding text
text_shown K x cs e = ap (map (λ y. y.1)) e ∙ chars-entries x cs

idents_shown : (K : History) (x : List Tuple) (cs : List ℕ) → export K ≡ entries x cs → idents K ≡ run_idents x (length cs)
unfolding idents
idents_shown K x cs e = ap ids e ∙ ids-entries x cs

-- ---- the edits

-- the history after a rename
abbrev renamed : History → History
renamed H = edited H edits.Rename

-- the first new identifier that the rename makes
abbrev pub first_made : History → List Tuple
first_made H = At (new_pos (idents H)) (me_of H) (next_seq H) (pos 0) ∷ []

renamed_export_at : (H : History) → IsLegal (renamed H) → export (renamed H) ≡ entries (first_made H) (text H)
unfolding made
renamed_export_at H l = export_rename H (made H edits.Rename) l refl refl

pub renamed_export : (H : History) → IsLegal H → edit_fault H edits.Rename ≡ None → export (renamed H) ≡ entries (first_made H) (text H)
renamed_export H l h = renamed_export_at H (made.law H edits.Rename l tt h)

length-shown : (H : History) → length (idents H) ≡ length (text H)
unfolding idents text
length-shown H = go (export H)
  where
    go : (xs : List Entry) → length (map (λ y. y.0) xs) ≡ length (map (λ y. y.1) xs)
    go [] = refl
    go (x ∷ xs) = ap suc (go xs)

-- a text that may be renamed has some characters, and not too many
text_some : (H : History) → edit_fault H edits.Rename ≡ None → (0 < length (text H)) × (length (text H) ≤ IDENTIFIERS)
text_some H h =
    let s = made.fault_split H edits.Rename h in
    let p = none_else (length (idents H) == 0) faults.EmptyDocument _ s.1 in
    let q = none_else (nat_lt IDENTIFIERS (length (idents H))) (faults.TooManyChars (length (idents H))) None p.1 in
    let e = length-shown H in
    let a = not_zero (length (idents H)) p.0 in
    let b = not_lt_is IDENTIFIERS (length (idents H)) q.0 in
    (omega arith, omega arith)

-- so has an insertion
insert_some : (H : History) (at : ℕ) (cs : List ℕ) → edit_fault H (edits.Insert at cs) ≡ None → (0 < length cs) × (length cs ≤ CHARACTERS)
insert_some H at cs h =
    let s = made.fault_split H (edits.Insert at cs) h in
    let p = none_else (length cs == 0) faults.EmptyEdit _ s.1 in
    let q = none_else (nat_lt (length (idents H)) at) (faults.Range at (length (idents H))) _ p.1 in
    let r = none_else (nat_lt CHARACTERS (length cs)) (faults.TooManyChars (length cs)) None q.1 in
    (not_zero (length cs) p.0, not_lt_is CHARACTERS (length cs) r.0)

-- the stem of the rename
renamed_stem : (H : History) → stem_of (stems (renamed H)) (me_of H) (next_seq H) ≡ Some (new_stem (me_of H) (next_seq H) (length (idents H)))
unfolding made
renamed_stem H = found_same (new_stem (me_of H) (next_seq H) (length (idents H))) (stems H)

own_new : (H : History) (k : ℤ) → own_stem (stems (renamed H)) (me_of H) (At (new_pos (idents H)) (me_of H) (next_seq H) k) ≡ Some (new_stem (me_of H) (next_seq H) (length (idents H)))
own_new H k = ap (λ b. if b then stem_of (stems (renamed H)) (me_of H) (next_seq H) else None) (eq_refl (me_of H)) ∙ renamed_stem H

run_at : (x : List Tuple) (n : ℕ) → slice_get (run_idents x (suc n)) n ≡ Some (shifted (pos n) x)
run_at x zero = ap Some (sym (shifted_none x))
run_at x (suc n) = run_at (shifted (pos 1) x) n ∙ ap Some (shifted_shifted (pos n) (pos 1) x ∙ ap (λ k. shifted k x) (sum n))
  where
    sum : (n : ℕ) → pos 1 +ℤ pos n ≡ pos (suc n)
    sum n = omega (arith, ints)

run_end : (x : List Tuple) (n : ℕ) → slice_get (run_idents x n) n ≡ None
run_end x zero = refl
run_end x (suc n) = run_end (shifted (pos 1) x) n

-- ---- at the end

appends_at : (H : History) (n : ℕ) (seq : ℕ) (cs : List ℕ) → length (idents H) ≡ suc n → suc n + length cs ≤ OFFSETS_END →
    first_between (stems (renamed H)) (me_of H) seq (Some (shifted (pos n) (first_made H))) None (length cs) ≡ shifted (pos 1) (shifted (pos n) (first_made H))
appends_at H n seq cs e m =
    let left = shifted (pos n) (first_made H) in
    let w = new_stem (me_of H) (next_seq H) (length (idents H)) in
    let a : int_eq ((pos 0 +ℤ pos n) +ℤ pos 1) (pos (length (idents H))) ≡ true = int_test ((pos 0 +ℤ pos n) +ℤ pos 1) (pos (length (idents H))) (sum n (length (idents H)) e) in
    let b : int_le ((pos 0 +ℤ pos n) +ℤ pos (length cs)) greatest_offset ≡ true = int_le_test ((pos 0 +ℤ pos n) +ℤ pos (length cs)) greatest_offset (most n (length cs) m) in
    let f : may_append (own_stem (stems (renamed H)) (me_of H) (last_of left)) left None (length cs) ≡ true =
    ap (λ o. may_append o left None (length cs)) (own_new H (pos 0 +ℤ pos n)) ∙ and_true _ true (and_true _ _ a b) refl in
    ap (λ c. if c then shifted (pos 1) left else first_before (stems (renamed H)) (me_of H) seq (Some left) None (length cs)) f
  where
    sum : (n k : ℕ) → k ≡ suc n → (pos 0 +ℤ pos n) +ℤ pos 1 ≡ pos k
    sum n k h = omega (arith, ints)

    most : (n k : ℕ) → suc n + k ≤ OFFSETS_END → ((pos 0 +ℤ pos n) +ℤ pos k) ≤ℤ GREATEST_OFFSET
    most n k h = omega (arith, ints)

appended_first : (H : History) (cs : List ℕ) (n : ℕ) → idents (renamed H) ≡ run_idents (first_made H) n → length (idents H) ≡ n → 0 < n → n + length cs ≤ OFFSETS_END → made_first (renamed H) n cs ≡ shifted (pos n) (first_made H)
appended_first H cs zero e l h m = absurd (omega arith)
appended_first H cs (suc n) e l h m =
    let K = renamed H in
    let x = first_made H in
    let b : get_before (idents K) (suc n) ≡ Some (shifted (pos n) x) = ap (λ xs. slice_get xs n) e ∙ run_at x n in
    let c : slice_get (idents K) (suc n) ≡ None = ap (λ xs. slice_get xs (suc n)) e ∙ run_end x (suc n) in
    ap (λ o. first_between (stems K) (me_of H) (next_seq K) o (slice_get (idents K) (suc n)) (length cs)) b
    ∙ (ap (λ o. first_between (stems K) (me_of H) (next_seq K) (Some (shifted (pos n) x)) o (length cs)) c
    ∙ (appends_at H n (next_seq K) cs l m ∙ (shifted_shifted (pos 1) (pos n) x ∙ ap (λ k. shifted k x) (sum n))))
  where
    sum : (n : ℕ) → pos n +ℤ pos 1 ≡ pos (suc n)
    sum n = omega (arith, ints)

pub length-entries : (x : List Tuple) (cs : List ℕ) → length (entries x cs) ≡ length cs
length-entries x [] = refl
length-entries x (c ∷ cs) = ap suc (length-entries (shifted (pos 1) x) cs)

take_all : (n : ℕ) (xs : List Entry) → length xs ≡ n → take n xs ≡ xs
take_all zero [] h = refl
take_all zero (x ∷ xs) h = absurd (omega arith)
take_all (suc n) [] h = absurd (omega arith)
take_all (suc n) (x ∷ xs) h = ap (λ ys. x ∷ ys) (take_all n xs (omega arith))

drop_all : (n : ℕ) (xs : List Entry) → length xs ≡ n → drop n xs ≡ []
drop_all zero [] h = refl
drop_all zero (x ∷ xs) h = absurd (omega arith)
drop_all (suc n) [] h = absurd (omega arith)
drop_all (suc n) (x ∷ xs) h = drop_all n xs (omega arith)

appended : (H : History) (cs : List ℕ) → IsLegal H → IsText cs → edit_fault H edits.Rename ≡ None → edit_fault (renamed H) (edits.Insert (length (text H)) cs) ≡ None → length (text H) + length cs ≤ OFFSETS_END →
    export (edited (renamed H) (edits.Insert (length (text H)) cs)) ≡ entries (first_made H) (text H ++ cs)
appended H cs l i h k m =
    let K = renamed H in
    let x = first_made H in
    let n = length (text H) in
    let T = entries x (text H) in
    let e : export K ≡ T = renamed_export H l h in
    let s = text_some H h in
    let large : n < 2 ^ 64 = omega (arith, s.1) in
    let f : made_first K n cs ≡ shifted (pos n) x = appended_first H cs n (idents_shown K x (text H) e) (length-shown H) s.0 m in
    let len = length-entries x (text H) in
    made_export K n cs (made.law H edits.Rename l tt h) (large, i) k
    ∙ (ap (λ ys. take n ys ++ (entries (made_first K n cs) cs ++ drop n ys)) e
    ∙ (ap (λ ys. ys ++ (entries (made_first K n cs) cs ++ drop n T)) (take_all n T len)
    ∙ (ap (λ ys. T ++ (entries (made_first K n cs) cs ++ ys)) (drop_all n T len)
    ∙ (ap (λ ys. T ++ ys) (append-nil (entries (made_first K n cs) cs) ∙ ap (λ y. entries y cs) f) ∙ sym (entries-append x (text H) cs)))))

-- ---- at the front

prepends_at : (H : History) (seq : ℕ) (cs : List ℕ) → length cs ≤ CHARACTERS → first_between (stems (renamed H)) (me_of H) seq None (Some (first_made H)) (length cs) ≡ shifted (pos 0 -ℤ pos (length cs)) (first_made H)
prepends_at H seq cs m =
    let x = first_made H in
    let d = pos 0 -ℤ pos (length cs) in
    let a : int_eq (pos 0) (pos 0) ≡ true = int_test (pos 0) (pos 0) refl in
    let b : int_le least_offset (pos 0 -ℤ pos (length cs)) ≡ true = int_le_test least_offset (pos 0 -ℤ pos (length cs)) (least (length cs) m) in
    let f : may_prepend (own_stem (stems (renamed H)) (me_of H) (last_of x)) None x (length cs) ≡ true =
    ap (λ o. may_prepend o None x (length cs)) (own_new H (pos 0)) ∙ and_true _ true (and_true _ _ a b) refl in
    ap (λ c. if c then shifted d x else between [] x (me_of H) seq) f
  where
    least : (k : ℕ) → k ≤ CHARACTERS → least_offset ≤ℤ (pos 0 -ℤ pos k)
    least k h = omega (arith, ints)

prepended_first : (H : History) (cs : List ℕ) (n : ℕ) → idents (renamed H) ≡ run_idents (first_made H) n → 0 < n → length cs ≤ CHARACTERS → made_first (renamed H) 0 cs ≡ shifted (pos 0 -ℤ pos (length cs)) (first_made H)
prepended_first H cs zero e h m = absurd (omega arith)
prepended_first H cs (suc n) e h m =
    let K = renamed H in
    ap (λ xs. first_between (stems K) (me_of H) (next_seq K) None (slice_get xs 0) (length cs)) e ∙ prepends_at H (next_seq K) cs m

front_back : (x : List Tuple) (n : ℕ) → shifted (pos n) (shifted (pos 0 -ℤ pos n) x) ≡ x
front_back x n = shifted_shifted (pos n) (pos 0 -ℤ pos n) x ∙ (ap (λ k. shifted k x) (sum n) ∙ shifted_none x)
  where
    sum : (n : ℕ) → (pos 0 -ℤ pos n) +ℤ pos n ≡ pos 0
    sum n = omega (arith, ints)

prepended : (H : History) (cs : List ℕ) → IsLegal H → IsText cs → edit_fault H edits.Rename ≡ None → edit_fault (renamed H) (edits.Insert 0 cs) ≡ None →
    export (edited (renamed H) (edits.Insert 0 cs)) ≡ entries (shifted (pos 0 -ℤ pos (length cs)) (first_made H)) (cs ++ text H)
prepended H cs l i h k =
    let K = renamed H in
    let x = first_made H in
    let y = shifted (pos 0 -ℤ pos (length cs)) x in
    let e : export K ≡ entries x (text H) = renamed_export H l h in
    let s = text_some H h in
    let f : made_first K 0 cs ≡ y = prepended_first H cs (length (text H)) (idents_shown K x (text H) e) s.0 (insert_some K 0 cs k).1 in
    made_export K 0 cs (made.law H edits.Rename l tt h) (omega arith, i) k
    ∙ (ap (λ z. entries z cs ++ export K) f
    ∙ (ap (λ zs. entries y cs ++ zs) (e ∙ ap (λ z. entries z (text H)) (sym (front_back x (length cs)))) ∙ sym (entries-append y cs (text H))))

pub law : RenamedRun
law H cs l i h =
    let K = renamed H in
    let x = first_made H in
    let e = renamed_export H l h in
    let s = text_some H h in (
      (runs_shown K x (text H) s.0 e, text_shown K x (text H) e),
      (λ k m. runs_shown (edited K (edits.Insert (length (text H)) cs)) x (text H ++ cs) (more (text H) cs s.0) (appended H cs l i h k m) ∙ ap (λ (n : ℕ). (x, n) ∷ []) (length-append (text H) cs)),
      (λ k. runs_shown (edited K (edits.Insert 0 cs)) (shifted (pos 0 -ℤ pos (length cs)) x) (cs ++ text H) (later cs (text H) s.0) (prepended H cs l i h k)
          ∙ (ap (λ z. (At (new_pos (idents H)) (me_of H) (next_seq H) z ∷ [], length (cs ++ text H)) ∷ []) (zero_plus (pos 0 -ℤ pos (length cs)))
          ∙ ap (λ (n : ℕ). (At (new_pos (idents H)) (me_of H) (next_seq H) (pos 0 -ℤ pos (length cs)) ∷ [], n) ∷ []) (length-append cs (text H) ∙ swap (length cs) (length (text H))))),
    )
  where
    more : (xs ys : List ℕ) → 0 < length xs → 0 < length (xs ++ ys)
    more xs ys h = let e = length-append xs ys in omega arith

    later : (xs ys : List ℕ) → 0 < length ys → 0 < length (xs ++ ys)
    later xs ys h = let e = length-append xs ys in omega arith

    zero_plus : (z : ℤ) → pos 0 +ℤ z ≡ z
    zero_plus z = omega (arith, ints)

    swap : (m n : ℕ) → m + n ≡ n + m
    swap m n = omega arith
