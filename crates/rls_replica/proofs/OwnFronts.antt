-- Typing at the front of a text that is one run of the member's own goes on with this run there.
use Rattle.std.proofs.Common.{◌≡◌, ℕ, zero, suc, ◌+◌, ◌<◌, true, false, List, [], ◌∷◌, ◌++◌, length, refl, sym, ap, ◌∙◌, arith}
use Rattle.std.specs.Prelude.{if◌then◌else◌, Some, None, pos, ◌+ℤ◌, ◌-ℤ◌, slice_get}
use Rattle.std.specs.Ordering.{int_eq}
use Rattle.std.specs.Int.RustNames.{int_le}
use Rattle.std.proofs.lemmas.Int.{ints}
use Rattle.rls_ident.specs.declared.tuple.Tuple.{Tuple}
use Rattle.rls_ident.specs.Between.{between}
use Rattle.rls_ident.specs.Identifiers.{IsIdent, last_of, shifted, least_offset}
use Rattle.rls_ident.specs.Tuples.{offset_of}
use Rattle.rls_ident.proofs.Members.{and_true, int_is, int_test, int_le_test, not_true}
use Rattle.rls_ident.proofs.Shifted.{shifted_none, shifted_shifted, last_offset}
use Rattle.rls_runs.specs.Entries.{Entries, idents_in}
use Rattle.rls_runs.specs.Runs.{run_idents, runs_of}
use Rattle.rls_runs.proofs.RunJoins.{run_longer}
use Rattle.rls_model.specs.declared.edit.Edit.TheVariants as edits
use Rattle.rls_model.specs.declared.parts.Stem.{Stem}
use Rattle.rls_model.specs.Editing.{own_stem, may_prepend, first_between}
use Rattle.rls_model.specs.WellFormed.{IsEdit}
use Rattle.rls_model.proofs.Spliced.{entries, append_map}
use Rattle.rls_model.proofs.RenamedRun.{some_run}
use Rattle.rls_seen.specs.Edits.{edit_fault_over, edited}
use Rattle.rls_seen.specs.Sane.{IsSane}
use Rattle.rls_seen.specs.Seen.{Seen, own_count, idents_over}
use Rattle.rls_seen.proofs.EditedText.{first_made, inserted_entries}
use Rattle.rls_replica.specs.Editing.{IsOwnFront, HasRoomBelow}
use Rattle.rls_replica.proofs.OwnRuns.{begun_before, first_at, first_ident, first_is, grown_stem, idents_are, ids_entries, me_stays, own_shifted, stems_inserted}

-- so many identifiers before x
abbrev below : ℕ → List Tuple → List Tuple
below c x = shifted (pos 0 -ℤ pos c) x

-- ---- the identifiers

and_back : (x : List Tuple) (c : ℕ) → shifted (pos c) (below c x) ≡ x
and_back x c = shifted_shifted (pos c) (pos 0 -ℤ pos c) x ∙ (ap (λ k. shifted k x) (omega (arith, ints)) ∙ shifted_none x)

-- entries that are put before a run
joined : (es : Entries) (x y : List Tuple) (n : ℕ) (cs : List ℕ) → idents_in es ≡ run_idents x n → y ≡ below (length cs) x → idents_in (entries y cs ++ es) ≡ run_idents y (length cs + n)
joined es x y n cs e f =
    let c = length cs in
    append_map (λ z. z.0) (entries y cs) es
    ∙ ap (λ zs. zs ++ idents_in es) (ids_entries y cs)
    ∙ ap (λ zs. run_idents y c ++ zs) (e ∙ ap (λ z. run_idents z n) (sym (ap (shifted (pos c)) f ∙ and_back x c)))
    ∙ sym (run_longer y c n)

-- identifiers that are a run show one
shown : (xs : List (List Tuple)) (y z : List Tuple) (m n : ℕ) → xs ≡ run_idents y m → y ≡ z → m ≡ n → 0 < m → runs_of xs ≡ (z, n) ∷ []
shown xs y z m n e f g some = ap runs_of e ∙ (some_run y m some ∙ (ap (λ u. (u, m) ∷ []) f ∙ ap (λ (k : ℕ). (z, k) ∷ []) g))

-- ---- the first identifier

before_first : (ss : List Stem) (me seq : ℕ) (x : List Tuple) (c : ℕ) (w : Stem) → own_stem ss me (last_of x) ≡ Some w → w.low ≡ offset_of (last_of x) → HasRoomBelow x c → first_between ss me seq None (Some x) c ≡ below c x
before_first ss me seq x c w h l room =
    let a : int_eq (offset_of (last_of x)) w.low ≡ true = int_test (offset_of (last_of x)) w.low (sym l) in
    let b : int_le least_offset (offset_of (last_of x) -ℤ pos c) ≡ true = int_le_test least_offset (offset_of (last_of x) -ℤ pos c) room in
    let f : may_prepend (own_stem ss me (last_of x)) None x c ≡ true = ap (λ o. may_prepend o None x c) h ∙ and_true _ true (and_true _ _ a b) refl in
    ap (λ b. if b then below c x else between [] x me seq) f

first_at_front : (s : Seen) (x : List Tuple) (m c : ℕ) (w : Stem) → idents_over s ≡ run_idents x (suc m) → own_stem s.stems s.acks.me (last_of x) ≡ Some w → w.low ≡ offset_of (last_of x) → HasRoomBelow x c → first_at s 0 c ≡ below c x
first_at_front s x m c w e h l room = ap (λ xs. first_between s.stems s.acks.me (own_count s + 1) None (slice_get xs 0) c) e ∙ before_first s.stems s.acks.me (own_count s + 1) x c w h l room

-- ---- after the insertion

pub goes_before : (s : Seen) (n : ℕ) (cs : List ℕ) (x : List Tuple) → IsSane s → IsEdit (edits.Insert 0 cs) → edit_fault_over s (edits.Insert 0 cs) ≡ None → IsOwnFront s x n → HasRoomBelow x (length cs) → IsOwnFront (edited s (edits.Insert 0 cs)) (below (length cs) x) (n + length cs)
goes_before s zero cs x sane i h front room = let e = ap length (sym front.run ∙ ap runs_of (idents_are (idents_over s) x zero front.run)) in absurd (omega arith)
goes_before s (suc m) cs x sane i h front room =
    let n = suc m in
    let c = length cs in
    let K = edited s (edits.Insert 0 cs) in
    let y = first_at s 0 c in
    let e = idents_are (idents_over s) x n front.run in
    let w = front.stem.0 in
    let j : IsIdent x = first_ident (idents_over s) x m e sane.idents.0 in
    let f : y ≡ below c x = first_at_front s x m c w e front.stem.1 front.stem.2 room in
    let o : offset_of (last_of y) ≡ offset_of (last_of x) +ℤ (pos 0 -ℤ pos c) = ap (λ z. offset_of (last_of z)) f ∙ last_offset (pos 0 -ℤ pos c) x j in
    let b = begun_before s x w sane front.stem.1 in
    let low = b.0.low in
    let some = b.0.some in
    let same = front.stem.2 in
    let v : Stem = record w { low = offset_of (last_of y) } in
    let not_end : int_eq (offset_of (last_of y)) (pos w.next) ≡ false = not_true (int_eq (offset_of (last_of y)) (pos w.next)) (λ q. let is = int_is (offset_of (last_of y)) (pos w.next) q in absurd (omega (arith, ints))) in
    let stem = grown_stem s.stems s.acks.me (own_count s + 1) (pos 0 -ℤ pos c) x y c w v front.stem.1 b.1 f (ap (λ b. if b then record w { next = w.next + c } else v) not_end) refl refl in
    let here : own_stem K.stems K.acks.me (last_of x) ≡ Some v = ap (λ a. own_stem K.stems a (last_of x)) (me_stays s 0 cs) ∙ (ap (λ zs. own_stem zs s.acks.me (last_of x)) (stems_inserted s 0 cs) ∙ stem) in
    record {
      run = shown (idents_over K) (first_made s 0 c) (below c x) (c + n) (n + c) (ap idents_in (inserted_entries s 0 cs sane i h) ∙ joined s.text x (first_made s 0 c) n cs e (first_is s 0 cs ∙ f)) (first_is s 0 cs ∙ f) (swap c n) (omega arith);
      stem = (v, own_shifted K.stems K.acks.me (pos 0 -ℤ pos c) x v here, ap (λ z. offset_of (last_of z)) f);
    }
  where
    swap : (c n : ℕ) → c + n ≡ n + c
    swap c n = omega arith
