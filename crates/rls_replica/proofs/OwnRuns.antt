-- Typing at the end of a text that is one run of the member's own goes on with this run.
use Rattle.std.proofs.Common.{◌≡◌, ℕ, zero, suc, ◌+◌, ◌≤◌, ◌<◌, true, false, List, [], ◌∷◌, ◌++◌, length, take, drop, refl, sym, ap, ◌∙◌, subst, arith, append-nil}
use Rattle.std.specs.Prelude.{◌==◌, if◌then◌else◌, Some, None, IsTrue, ℤ, pos, ◌+ℤ◌, slice_get, slice_index}
use Rattle.std.specs.List.{list_all}
use Rattle.std.specs.Ordering.{int_eq}
use Rattle.std.specs.Int.RustNames.{int_le}
use Rattle.std.proofs.lemmas.Int.{ints}
use Rattle.std.proofs.lemmas.List.{take_all, drop_all, length-map}
use Rattle.std.proofs.lemmas.Option.{slice_get_past}
use Rattle.rls_ident.specs.declared.tuple.Tuple.{Tuple}
use Rattle.rls_ident.specs.Identifiers.{IsIdent, is_ident, last_of, shifted, greatest_offset}
use Rattle.rls_ident.specs.Tuples.{replica_of, seq_of, offset_of}
use Rattle.rls_ident.proofs.Members.{and_left, and_true, int_test, int_le_test, neq_test, eq_refl}
use Rattle.rls_ident.proofs.Shifted.{shifted_shifted, last_shifted, last_offset, raised_replica, raised_seq}
use Rattle.rls_runs.specs.Entries.{Entries, idents_in}
use Rattle.rls_runs.specs.Runs.{run_idents, runs_of, idents_of}
use Rattle.rls_runs.proofs.Finding.{run_length}
use Rattle.rls_runs.proofs.RunJoins.{run_longer}
use Rattle.rls_runs.proofs.RunsOf.{idents_of_runs}
use Rattle.rls_runs.proofs.RunOrder.{run_gets}
use Rattle.rls_runs.proofs.Sorted.{Entry}
use Rattle.rls_ops.specs.declared.op.Body.TheVariants.{Insert}
use Rattle.rls_model.specs.declared.edit.Edit.TheVariants as edits
use Rattle.rls_model.specs.declared.parts.Stem.{Stem}
use Rattle.rls_model.specs.Editing.{own_stem, may_append, first_before, first_between, get_before}
use Rattle.rls_model.specs.Stems.{stem_of, with_stem, new_stem, extended, stems_after_insert, with_extended}
use Rattle.rls_model.specs.WellFormed.{IsEdit}
use Rattle.rls_model.proofs.Began.{own_split}
use Rattle.rls_model.proofs.RenamedRun.{some_run}
use Rattle.rls_model.proofs.Spliced.{entries, append_map}
use Rattle.rls_model.proofs.StemLists.{found_is, found_same}
use Rattle.rls_seen.specs.Edits.{edit_fault_over, edited, made_over}
use Rattle.rls_seen.specs.Over.{accepted}
use Rattle.rls_seen.specs.Sane.{IsSane, IsStem}
use Rattle.rls_seen.specs.Seen.{Seen, vector, own_count, idents_over}
use Rattle.rls_seen.proofs.EditedText.{first_made, insert_made, inserted_entries}
use Rattle.rls_seen.proofs.StemNumbers.{found_stem}
use Rattle.rls_replica.specs.Editing.{IsOwnRun, HasRoom}

-- ---- the identifiers

pub idents_are : (xs : List (List Tuple)) (x : List Tuple) (n : ℕ) → runs_of xs ≡ (x, n) ∷ [] → xs ≡ run_idents x n
idents_are xs x n e = sym (idents_of_runs xs) ∙ (ap idents_of e ∙ append-nil (run_idents x n))

pub first_ident : (xs : List (List Tuple)) (x : List Tuple) (m : ℕ) → xs ≡ run_idents x (suc m) → IsTrue (list_all is_ident xs) → IsIdent x
first_ident xs x m e h = and_left (is_ident x) (list_all is_ident (run_idents (shifted (pos 1) x) m)) (subst (λ ys. IsTrue (list_all is_ident ys)) e h)

pub ids_entries : (x : List Tuple) (cs : List ℕ) → idents_in (entries x cs) ≡ run_idents x (length cs)
ids_entries x [] = refl
ids_entries x (c ∷ cs) = ap (λ ys. x ∷ ys) (ids_entries (shifted (pos 1) x) cs)

-- entries that are put at the end of a run
joined : (es : Entries) (x y : List Tuple) (n : ℕ) (cs : List ℕ) → idents_in es ≡ run_idents x n → y ≡ shifted (pos n) x →
    idents_in (take n es ++ (entries y cs ++ drop n es)) ≡ run_idents x (n + length cs)
joined es x y n cs e f =
    let id : Entry → List Tuple = λ z. z.0 in
    let l : length es ≡ n = sym (length-map es id) ∙ (ap length e ∙ run_length x n) in
    ap (λ zs. idents_in (zs ++ (entries y cs ++ drop n es))) (take_all n es (omega arith))
    ∙ ap (λ zs. idents_in (es ++ (entries y cs ++ zs))) (drop_all n es (omega arith))
    ∙ ap (λ zs. idents_in (es ++ zs)) (append-nil (entries y cs))
    ∙ append_map id es (entries y cs)
    ∙ ap (λ zs. zs ++ idents_in (entries y cs)) e
    ∙ ap (λ zs. run_idents x n ++ zs) (ids_entries y cs ∙ ap (λ z. run_idents z (length cs)) f)
    ∙ sym (run_longer x n (length cs))

-- ---- the stem

own_found : (ss : List Stem) (a : ℕ) (t : Tuple) (w : Stem) → replica_of t ≡ a → stem_of ss a (seq_of t) ≡ Some w → own_stem ss a t ≡ Some w
own_found ss a t w r h = ap (λ b. if b == a then stem_of ss a (seq_of t) else None) r ∙ (ap (λ b. if b then stem_of ss a (seq_of t) else None) (eq_refl a) ∙ h)

-- the last tuples of a run are of one stem
last_replica : (k : ℤ) (x : List Tuple) → replica_of (last_of (shifted k x)) ≡ replica_of (last_of x)
last_replica k x = ap replica_of (last_shifted k x) ∙ raised_replica k (last_of x)

last_seq : (k : ℤ) (x : List Tuple) → seq_of (last_of (shifted k x)) ≡ seq_of (last_of x)
last_seq k x = ap seq_of (last_shifted k x) ∙ raised_seq k (last_of x)

pub own_shifted : (ss : List Stem) (a : ℕ) (k : ℤ) (x : List Tuple) (w : Stem) → own_stem ss a (last_of x) ≡ Some w → own_stem ss a (last_of (shifted k x)) ≡ Some w
own_shifted ss a k x w h =
    let p = own_split ss a (last_of x) w h in
    own_found ss a (last_of (shifted k x)) w (last_replica k x ∙ p.0) (ap (stem_of ss a) (last_seq k x) ∙ p.1)

-- ---- the first identifier

after_last : (ss : List Stem) (me seq : ℕ) (x : List Tuple) (m c : ℕ) (w : Stem) → IsIdent x → own_stem ss me (last_of x) ≡ Some w → pos w.next ≡ offset_of (last_of x) +ℤ pos (suc m) → HasRoom x (suc m + c) →
    first_between ss me seq (Some (shifted (pos m) x)) None c ≡ shifted (pos (suc m)) x
after_last ss me seq x m c w i h n room =
    let left = shifted (pos m) x in
    let o : offset_of (last_of left) ≡ offset_of (last_of x) +ℤ pos m = last_offset (pos m) x i in
    let a : int_eq (offset_of (last_of left) +ℤ pos 1) (pos w.next) ≡ true = int_test (offset_of (last_of left) +ℤ pos 1) (pos w.next) (omega (arith, ints)) in
    let b : int_le (offset_of (last_of left) +ℤ pos c) greatest_offset ≡ true = int_le_test (offset_of (last_of left) +ℤ pos c) greatest_offset (omega (arith, ints)) in
    let f : may_append (own_stem ss me (last_of left)) left None c ≡ true = ap (λ o. may_append o left None c) (own_shifted ss me (pos m) x w h) ∙ and_true _ true (and_true _ _ a b) refl in
    ap (λ b. if b then shifted (pos 1) left else first_before ss me seq (Some left) None c) f ∙ (shifted_shifted (pos 1) (pos m) x ∙ ap (λ k. shifted k x) (sum m))
  where
    sum : (m : ℕ) → pos m +ℤ pos 1 ≡ pos (suc m)
    sum m = omega (arith, ints)

-- the first identifier of an insertion of n characters
abbrev pub first_at : Seen → ℕ → ℕ → List Tuple
first_at s at n = first_between s.stems s.acks.me (own_count s + 1) (get_before (idents_over s) at) (slice_get (idents_over s) at) n

pub first_is : (s : Seen) (at : ℕ) (cs : List ℕ) → first_made s at (length cs) ≡ first_at s at (length cs)
unfolding made_over
first_is s at cs = go (first_made s at (length cs)) (first_at s at (length cs)) (insert_made s at cs)
  where
    go : (x y : List Tuple) → Insert y cs ≡ Insert x cs → x ≡ y
    go x y e = cc

first_at_end : (s : Seen) (x : List Tuple) (m c : ℕ) (w : Stem) → IsIdent x → idents_over s ≡ run_idents x (suc m) → own_stem s.stems s.acks.me (last_of x) ≡ Some w → pos w.next ≡ offset_of (last_of x) +ℤ pos (suc m) → HasRoom x (suc m + c) →
    first_at s (suc m) c ≡ shifted (pos (suc m)) x
first_at_end s x m c w i e h n room =
    let b : slice_get (idents_over s) m ≡ Some (shifted (pos m) x) = ap (λ xs. slice_get xs m) e ∙ run_gets x (suc m) m (omega arith) in
    let l : length (idents_over s) ≡ suc m = ap length e ∙ run_length x (suc m) in
    let d : slice_get (idents_over s) (suc m) ≡ None = slice_get_past (idents_over s) (suc m) (omega arith) in
    ap (λ o. first_between s.stems s.acks.me (own_count s + 1) o (slice_get (idents_over s) (suc m)) c) b
    ∙ ap (λ o. first_between s.stems s.acks.me (own_count s + 1) (Some (shifted (pos m) x)) o c) d
    ∙ after_last s.stems s.acks.me (own_count s + 1) x m c w i h n room

-- ---- after the insertion

-- the stem of the member's own was begun before
pub begun_before : (s : Seen) (x : List Tuple) (w : Stem) → IsSane s → own_stem s.stems s.acks.me (last_of x) ≡ Some w → IsStem (vector s) w × (w.s0 < own_count s + 1)
begun_before s x w sane h =
    let p = own_split s.stems s.acks.me (last_of x) w h in
    let q = found_stem (vector s) s.stems s.acks.me (seq_of (last_of x)) w sane.stems p.1 in
    let u = found_is s.stems s.acks.me (seq_of (last_of x)) w p.1 in
    let k = subst (λ a. w.s0 ≤ slice_index (vector s) a) u.0 q.counted in
    (q, omega (arith, k))

-- the stem of x, which was begun before, is v after an insertion that extends it to v
pub grown_stem : (ss : List Stem) (a seq : ℕ) (k : ℤ) (x y : List Tuple) (c : ℕ) (w v : Stem) → own_stem ss a (last_of x) ≡ Some w → w.s0 < seq → y ≡ shifted k x → extended w (offset_of (last_of y)) c ≡ v → v.author ≡ w.author → v.s0 ≡ w.s0 →
    own_stem (stems_after_insert ss a seq (last_of y) c) a (last_of x) ≡ Some v
grown_stem ss a seq k x y c w v h q f e author s0 =
    let p = own_split ss a (last_of x) w h in
    let t = last_of y in
    let r : replica_of t ≡ a = ap (λ z. replica_of (last_of z)) f ∙ (last_replica k x ∙ p.0) in
    let g : seq_of t ≡ seq_of (last_of x) = ap (λ z. seq_of (last_of z)) f ∙ last_seq k x in
    let u = found_is ss a (seq_of (last_of x)) w p.1 in
    let other : (seq_of t == seq) ≡ false = neq_test (seq_of t) seq (λ i. let k1 = u.1 in absurd (omega arith)) in
    let found : stem_of ss a (seq_of t) ≡ Some w = ap (stem_of ss a) g ∙ p.1 in
    let after : stems_after_insert ss a seq t c ≡ with_stem v ss =
    ap (λ b. if b == a then (if seq_of t == seq then with_stem (new_stem a seq c) ss else with_extended (stem_of ss a (seq_of t)) (offset_of t) c ss) else ss) r
    ∙ ap (λ b. if b then (if seq_of t == seq then with_stem (new_stem a seq c) ss else with_extended (stem_of ss a (seq_of t)) (offset_of t) c ss) else ss) (eq_refl a)
    ∙ ap (λ b. if b then with_stem (new_stem a seq c) ss else with_extended (stem_of ss a (seq_of t)) (offset_of t) c ss) other
    ∙ ap (λ z. with_extended z (offset_of t) c ss) found
    ∙ ap (λ z. with_stem z ss) e in
    let same : stem_of (with_stem v ss) a (seq_of (last_of x)) ≡ Some v =
    subst (λ i. stem_of (with_stem v ss) a i ≡ Some v) (s0 ∙ u.1) (subst (λ i. stem_of (with_stem v ss) i v.s0 ≡ Some v) (author ∙ u.0) (found_same v ss)) in
    own_found (stems_after_insert ss a seq t c) a (last_of x) v p.0 (ap (λ zs. stem_of zs a (seq_of (last_of x))) after ∙ same)

-- it goes on at its end
longer_stem : (ss : List Stem) (a seq : ℕ) (x y : List Tuple) (n c : ℕ) (w : Stem) → IsIdent x → own_stem ss a (last_of x) ≡ Some w → w.s0 < seq → pos w.next ≡ offset_of (last_of x) +ℤ pos n → y ≡ shifted (pos n) x →
    own_stem (stems_after_insert ss a seq (last_of y) c) a (last_of x) ≡ Some (record w { next = w.next + c })
longer_stem ss a seq x y n c w i h q e f =
    let t = last_of y in
    let v : Stem = record w { next = w.next + c } in
    let o : offset_of t ≡ pos w.next = ap (λ z. offset_of (last_of z)) f ∙ (last_offset (pos n) x i ∙ sym e) in
    grown_stem ss a seq (pos n) x y c w v h q f (ap (λ b. if b then v else record w { low = offset_of t }) (int_test (offset_of t) (pos w.next) o)) refl refl

pub stems_inserted : (s : Seen) (at : ℕ) (cs : List ℕ) → (edited s (edits.Insert at cs)).stems ≡ stems_after_insert s.stems s.acks.me (own_count s + 1) (last_of (first_at s at (length cs))) (length cs)
unfolding accepted made_over
stems_inserted s at cs = refl

pub me_stays : (s : Seen) (at : ℕ) (cs : List ℕ) → (edited s (edits.Insert at cs)).acks.me ≡ s.acks.me
unfolding accepted made_over
me_stays s at cs = refl

pub goes_on : (s : Seen) (n : ℕ) (cs : List ℕ) (x : List Tuple) → IsSane s → IsEdit (edits.Insert n cs) → edit_fault_over s (edits.Insert n cs) ≡ None → IsOwnRun s x n → HasRoom x (n + length cs) → IsOwnRun (edited s (edits.Insert n cs)) x (n + length cs)
goes_on s zero cs x sane i h run room = let e = ap length (sym run.run ∙ ap runs_of (idents_are (idents_over s) x zero run.run)) in absurd (omega arith)
goes_on s (suc m) cs x sane i h run room =
    let n = suc m in
    let K = edited s (edits.Insert n cs) in
    let e = idents_are (idents_over s) x n run.run in
    let w = run.stem.0 in
    let j : IsIdent x = first_ident (idents_over s) x m e sane.idents.0 in
    let f = first_at_end s x m (length cs) w j e run.stem.1 run.stem.2 room in
    let g : first_made s n (length cs) ≡ shifted (pos n) x = first_is s n cs ∙ f in
    let stem = longer_stem s.stems s.acks.me (own_count s + 1) x (first_at s n (length cs)) n (length cs) w j run.stem.1 (begun_before s x w sane run.stem.1).1 run.stem.2 f in
    record {
      run = ap runs_of (ap idents_in (inserted_entries s n cs sane i h) ∙ joined s.text x (first_made s n (length cs)) n cs e g) ∙ some_run x (n + length cs) (omega arith);
      stem = (record w { next = w.next + length cs }, ap (λ a. own_stem K.stems a (last_of x)) (me_stays s n cs) ∙ (ap (λ zs. own_stem zs s.acks.me (last_of x)) (stems_inserted s n cs) ∙ stem), omega (arith, ints, run.stem.2));
    }
