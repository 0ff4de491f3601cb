-- What an own edit changes is the edit itself.
use Rattle.std.proofs.Common.{◌≡◌, ℕ, ◌+◌, ◌-◌, ◌<◌, ◌==◌, false, List, [], ◌∷◌, ◌++◌, map, length, take, drop, refl, sym, ap, ◌∙◌, subst, arith, inl, inr}
use Rattle.std.specs.Prelude.{None}
use Rattle.std.proofs.lemmas.List.{length-map, take-append-drop, length-drop, length-take-le}
use Rattle.rls_ident.specs.declared.tuple.Tuple.{Tuple}
use Rattle.rls_ident.specs.Lists.{IsIn}
use Rattle.rls_ident.proofs.Agreeing.{map_itself}
use Rattle.rls_ident.proofs.Lists.{Lt}
use Rattle.rls_ident.proofs.Members.{in_drop, in_left, in_take, not_zero}
use Rattle.rls_ident.proofs.Tuples.{tuples}
use Rattle.rls_rename.proofs.Growth.{translate_same}
use Rattle.rls_runs.specs.Entries.{Entries, idents_in, chars_in}
use Rattle.rls_runs.specs.Places.{below_count}
use Rattle.rls_runs.proofs.RunOrder.{AllLess, AllMore, Rising, rising_of, rising_left, rising_right}
use Rattle.rls_runs.proofs.RunPlaces.{tells_append, tells_less, tells_more}
use Rattle.rls_runs.proofs.Sorted.{Entry, Rises, rises_of_increasing}
use Rattle.rls_model.specs.declared.edit.Edit.TheVariants as edits
use Rattle.rls_model.specs.declared.edit.EditError.TheVariants as faults
use Rattle.rls_ops.specs.declared.op.Body.{Body}
use Rattle.rls_model.specs.WellFormed.{IsEdit}
use Rattle.rls_model.proofs.OneTree.{none_else}
use Rattle.rls_model.proofs.Spliced.{ids, entries, chars-entries, take_map, drop_map}
use Rattle.rls_model.proofs.RenamedRun.{length-entries}
use Rattle.rls_seen.specs.Edits.{made_over, edit_fault_over, edited}
use Rattle.rls_seen.specs.Over.{added_over, placed_over}
use Rattle.rls_seen.specs.Sane.{IsSane}
use Rattle.rls_seen.specs.Seen.{Seen, greatest_over, idents_over}
use Rattle.rls_seen.proofs.EditedText.{cross, delete_place, first_ident, first_made, insert_made, insert_place, inserted_entries, rises_right, take_drop_drop, added_is, range_none}
use Rattle.rls_seen.proofs.Making.{edited_sane}
use Rattle.rls_seen.proofs.TextLists.{ident_in}
use Rattle.rls_changes.specs.declared.change.Change.{Change}
use Rattle.rls_changes.specs.declared.change.Change.TheVariants.{Insert, Delete}
use Rattle.rls_changes.specs.Changes.{with_change, with_changes, puts, cuts, changes_by, changes_over}
use Rattle.rls_changes.specs.ChangesLaws.{OwnChanges}
use Rattle.rls_changes.specs.Places.{AreAt}
use Rattle.rls_changes.proofs.Putting.{next_puts}
use Rattle.rls_changes.proofs.Cutting.{next_cut, none_cut}

-- ---- an insertion

all_less : (es : Entries) (z : List Tuple) → ((y : Entry) → IsIn y es → Lt tuples y.0 z) → AllLess (ids es) z
all_less [] z f = tt
all_less (e ∷ es) z f = (f e (inl refl), all_less es z (λ y p. f y (inr p)))

all_more : (z : List Tuple) (es : Entries) → ((y : Entry) → IsIn y es → Lt tuples z y.0) → AllMore z (ids es)
all_more z [] f = tt
all_more z (e ∷ es) f = (f e (inl refl), all_more z es (λ y p. f y (inr p)))

-- what an own insertion puts in at a place has as many identifiers below it
at_place : (s : Seen) (at : ℕ) (cs : List ℕ) → IsSane s → IsEdit (edits.Insert at cs) → edit_fault_over s (edits.Insert at cs) ≡ None → (y : Entry) → IsIn y (entries (first_made s at (length cs)) cs) → below_count (idents_over s) y.0 ≡ at
at_place s at cs sane i h y q =
    let M = entries (first_made s at (length cs)) cs in
    let A = take at s.text in
    let B = drop at s.text in
    let r : Rises (A ++ (M ++ B)) = subst Rises (inserted_entries s at cs sane i h) (rises_of_increasing (edited s (edits.Insert at cs)).text (edited_sane s (edits.Insert at cs) sane i h).idents.1) in
    let front = all_less A y.0 (λ z p. cross A (M ++ B) r z y p (in_left y M B q)) in
    let back = all_more y.0 B (λ z p. cross M B (rises_right A (M ++ B) r) y z q p) in
    let t = tells_append (ids A) (ids B) y.0 false false (length (ids A)) 0 (tells_less (ids A) y.0 front) (tells_more (ids B) y.0 back) in
    let e : ids A ++ ids B ≡ idents_over s = ap (λ xs. xs ++ ids B) (take_map (λ (x : Entry). x.0) at s.text) ∙ (ap (λ xs. take at (ids s.text) ++ xs) (drop_map (λ (x : Entry). x.0) at s.text) ∙ take-append-drop at (ids s.text)) in
    let n = length-map A (λ (x : Entry). x.0) in
    let m = length-take-le at s.text (insert_place s at cs h) in
    let k : length (ids A) + 0 ≡ at = omega arith in
    sym (ap (λ xs. below_count xs y.0) e) ∙ (t.1 ∙ k)

at_from : (g : ℕ) (xs : List (List Tuple)) (es : Entries) → ((y : Entry) → IsIn y es → below_count xs y.0 ≡ g) → AreAt g xs (idents_in es)
at_from g xs [] f = tt
at_from g xs (e ∷ es) f = (f e (inl refl), at_from g xs es (λ y p. f y (inr p)))

pub some_chars : (s : Seen) (at : ℕ) (cs : List ℕ) → edit_fault_over s (edits.Insert at cs) ≡ None → 0 < length cs
some_chars s at cs h = not_zero (length cs) (none_else (length cs == 0) faults.EmptyEdit _ (range_none s (edits.Insert at cs) h)).0

own_insert : (s : Seen) (at : ℕ) (cs : List ℕ) → IsSane s → IsEdit (edits.Insert at cs) → edit_fault_over s (edits.Insert at cs) ≡ None
    → with_changes [] (puts 0 (idents_over s) (added_over s (greatest_over s) (first_made s at (length cs)) cs)) ≡ Insert at cs ∷ []
own_insert s at cs sane i h =
    let x = first_made s at (length cs) in
    let es = entries x cs in
    let some = some_chars s at cs h in
    let l = length-entries x cs in
    let are : AreAt at (idents_over s) (idents_in es) = at_from at (idents_over s) es (λ y p. at_place s at cs sane i h y p) in
    let n : at + 0 ≡ at = omega arith in
    ap (λ zs. with_changes [] (puts 0 (idents_over s) zs)) (added_is s x cs sane (first_ident s at cs sane i h))
    ∙ (next_puts (idents_over s) [] es at (omega arith) are
    ∙ (ap (λ k. Insert k (chars_in es) ∷ []) n ∙ ap (λ zs. Insert at zs ∷ []) (chars-entries x cs)))

-- ---- a deletion

pub some_count : (s : Seen) (at n : ℕ) → edit_fault_over s (edits.Delete at n) ≡ None → 0 < n
some_count s at n h = not_zero n (none_else (n == 0) faults.EmptyEdit _ (range_none s (edits.Delete at n) h)).0

own_delete : (s : Seen) (at n : ℕ) → IsSane s → edit_fault_over s (edits.Delete at n) ≡ None
    → with_changes [] (cuts 0 (map (placed_over s (greatest_over s)) (take n (drop at (idents_over s)))) (idents_over s)) ≡ Delete at n ∷ []
own_delete s at n sane h =
    let xs = idents_over s in
    let m = take n (drop at xs) in
    let same : map (placed_over s (greatest_over s)) m ≡ m = map_itself (placed_over s (greatest_over s)) m (λ x p. translate_same s.epochs.nodes (greatest_over s) x sane.epochs.nodes (ident_in xs sane.idents x (in_drop at x xs (in_take n x (drop at xs) p)))) in
    let whole : take at xs ++ (m ++ drop (at + n) xs) ≡ xs = take_drop_drop n at xs in
    let place = (delete_place s at n h).0 in
    let some = some_count s at n h in
    let l = length-map s.text (λ (y : Entry). y.0) in
    let front : length (take at xs) ≡ at = length-take-le at xs (omega arith) in
    let dropped = length-drop at xs in
    let part : length m ≡ n = length-take-le n (drop at xs) (omega arith) in
    let rising : Rising (take at xs ++ (m ++ drop (at + n) xs)) = subst Rising (sym whole) (rising_of xs sane.idents.1) in
    let own : Rising ([] ++ m) = rising_left m (drop (at + n) xs) (rising_right (take at xs) (m ++ drop (at + n) xs) rising) in
    let none = none_cut 0 (take at xs ++ (m ++ drop (at + n) xs)) in
    let zero_cut : length (cuts 0 [] (take at xs ++ (m ++ drop (at + n) xs))) ≡ 0 = ap length none in
    let cut = next_cut [] m (take at xs) (drop (at + n) xs) (omega arith) own rising (omega arith) in
    let k : length (take at xs) - length (cuts 0 [] (take at xs ++ (m ++ drop (at + n) xs))) ≡ at = omega arith in
    ap (λ ts. with_changes [] (cuts 0 ts xs)) same
    ∙ (sym (ap (λ zs. with_changes [] (cuts 0 m zs)) whole)
    ∙ (cut
    ∙ (ap (λ (cs : List Change). with_change (with_changes [] cs) (Delete (length (take at xs) - length (cuts 0 [] (take at xs ++ (m ++ drop (at + n) xs)))) (length m))) none
    ∙ (ap (λ i. Delete i (length m) ∷ []) k ∙ ap (λ i. Delete at i ∷ []) part))))

-- ---- all

pub own_are : OwnChanges
unfolding changes_over made_over
own_are s (edits.Insert at cs) sane i h = ap (λ (b : Body). changes_by (placed_over s) (idents_over s) (greatest_over s) b) (insert_made s at cs) ∙ own_insert s at cs sane i h
own_are s (edits.Delete at n) sane i h = own_delete s at n sane h
own_are s edits.Rename sane i h = refl
own_are s edits.Leave sane i h = refl
