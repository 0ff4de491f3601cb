-- The changes of an operation lead from the text before it to the text after it.
use Rattle.std.proofs.Common.{◌≡◌, ℕ, ◌+◌, Bool, true, false, List, [], ◌∷◌, map, length, refl, sym, ap, ◌∙◌, subst, arith}
use Rattle.std.specs.Prelude.{if◌then◌else◌}
use Rattle.std.proofs.lemmas.List.{length-map}
use Rattle.std.proofs.lemmas.Slice.Zip.{firsts-zip, seconds-zip}
use Rattle.rls_ident.specs.declared.tuple.Tuple.{Tuple}
use Rattle.rls_ident.specs.Lists.{IsIn}
use Rattle.rls_ident.proofs.Members.{map_in}
use Rattle.rls_runs.specs.Entries.{Entries, idents_in, chars_in, put_all, without_all, with_idents}
use Rattle.rls_runs.specs.Runs.{run_idents, is_increasing}
use Rattle.rls_runs.proofs.Finding.{run_length}
use Rattle.rls_runs.proofs.Sorted.{Entry, rises_of_increasing}
use Rattle.rls_ops.specs.declared.op.Op.{Op}
use Rattle.rls_ops.specs.declared.op.Body.{Body}
use Rattle.rls_ops.specs.declared.op.Body.TheVariants as body
use Rattle.rls_seen.specs.Over.{accepted, added_over, is_greatest_over, placed_over, renamed_over, text_after}
use Rattle.rls_seen.specs.Sane.{IsSane, MayApply}
use Rattle.rls_seen.specs.Seen.{Seen, idents_over, text_over}
use Rattle.rls_seen.proofs.Written.{newborn}
use Rattle.rls_changes.specs.Changes.{played, inserted_by, deleted_by, with_changes, puts, cuts, changes_by, changes_over}
use Rattle.rls_changes.specs.ChangesLaws.{ChangesPlayed, ChangesExact}
use Rattle.rls_changes.proofs.Joining.{played_all, inserted_all, deleted_all}
use Rattle.rls_changes.proofs.Putting.{puts_played, puts_insert, puts_delete}
use Rattle.rls_changes.proofs.Cutting.{cuts_played, cuts_insert, cuts_delete, cuts_gone}

-- ---- what an insertion adds

pub placed_length : (s : Seen) (o : Op) (first : List Tuple) (text : List ℕ) → length text ≡ length (map (placed_over s o.epoch) (run_idents first (length text)))
placed_length s o first text = sym (length-map (run_idents first (length text)) (placed_over s o.epoch) ∙ run_length first (length text))

pub added_idents : (s : Seen) (o : Op) (first : List Tuple) (text : List ℕ) → idents_in (added_over s o.epoch first text) ≡ map (placed_over s o.epoch) (run_idents first (length text))
added_idents s o first text = firsts-zip (map (placed_over s o.epoch) (run_idents first (length text))) text (placed_length s o first text)

pub added_chars : (s : Seen) (o : Op) (first : List Tuple) (text : List ℕ) → chars_in (added_over s o.epoch first text) ≡ text
added_chars s o first text = seconds-zip (map (placed_over s o.epoch) (run_idents first (length text))) text (placed_length s o first text)

insert_plays : (s : Seen) (o : Op) (first : List Tuple) (text : List ℕ) → IsSane s → MayApply s o → o.body ≡ body.Insert first text
    → played (with_changes [] (puts 0 (idents_over s) (added_over s o.epoch first text))) (text_over s) ≡ chars_in (put_all (added_over s o.epoch first text) s.text)
insert_plays s o first text sane m e =
    let es = added_over s o.epoch first text in
    let n = newborn s o first text sane m e in
    let ids = added_idents s o first text in
    played_all [] (puts 0 (idents_over s) es) (text_over s)
    ∙ puts_played 0 (idents_over s) es s.text (rises_of_increasing s.text sane.idents.1) (rises_of_increasing es (subst (λ xs. is_increasing xs ≡ true) (sym ids) n.idents.1))
    (λ x z p q h. n.new x.0 (subst (IsIn x.0) ids (map_in (λ (y : Entry). y.0) x es p)) (subst (λ y. IsIn y (idents_over s)) (sym h) (map_in (λ (y : Entry). y.0) z s.text q)))
    (λ x p. omega arith)

pub chars_with : (f : List Tuple → List Tuple) (es : Entries) → chars_in (with_idents f es) ≡ chars_in es
chars_with f [] = refl
chars_with f (e ∷ es) = ap (λ cs. e.1 ∷ cs) (chars_with f es)

renames : (s : Seen) (o : Op) (former : List (List Tuple)) (b : Bool) → chars_in s.text ≡ chars_in (if b then with_idents (renamed_over s o former) s.text else s.text)
renames s o former true = sym (chars_with (renamed_over s o former) s.text)
renames s o former false = refl

by_body : (s : Seen) (o : Op) (b : Body) → IsSane s → MayApply s o → o.body ≡ b → played (changes_by (placed_over s) (idents_over s) o.epoch b) (text_over s) ≡ chars_in (text_after s o b)
by_body s o (body.Insert first text) sane m e = insert_plays s o first text sane m e
by_body s o (body.Delete targets) sane m e =
    let ts = map (placed_over s o.epoch) targets in
    played_all [] (cuts 0 ts (idents_over s)) (text_over s) ∙ cuts_played 0 ts [] s.text refl
by_body s o (body.Rename former) sane m e = renames s o former (is_greatest_over s o)
by_body s o body.Leave sane m e = refl

pub changes_played : ChangesPlayed
unfolding changes_over accepted
changes_played s o sane m = by_body s o o.body sane m refl

-- ---- just what is inserted, and just what is gone

insert_exact : (s : Seen) (o : Op) (first : List Tuple) (text : List ℕ) → let cs = changes_by (placed_over s) (idents_over s) o.epoch (body.Insert first text) in (inserted_by cs ≡ text) × (deleted_by cs ≡ 0)
insert_exact s o first text =
    let es = added_over s o.epoch first text in (
      inserted_all [] (puts 0 (idents_over s) es) ∙ (puts_insert 0 (idents_over s) es ∙ added_chars s o first text),
      deleted_all [] (puts 0 (idents_over s) es) ∙ (ap (λ n. 0 + n) (puts_delete 0 (idents_over s) es)),
    )

delete_exact : (s : Seen) (o : Op) (targets : List (List Tuple)) → let cs = changes_by (placed_over s) (idents_over s) o.epoch (body.Delete targets) in
    (inserted_by cs ≡ []) × (deleted_by cs + length (chars_in (text_after s o (body.Delete targets))) ≡ length (text_over s))
delete_exact s o targets =
    let ts = map (placed_over s o.epoch) targets in
    let a = deleted_all [] (cuts 0 ts (idents_over s)) in
    let b = cuts_delete 0 ts (idents_over s) in
    let c = cuts_gone 0 ts s.text in
    let d = length-map (without_all ts s.text) (λ (y : Entry). y.1) in
    let f = length-map s.text (λ (y : Entry). y.1) in
    (inserted_all [] (cuts 0 ts (idents_over s)) ∙ cuts_insert 0 ts (idents_over s), omega arith)

pub changes_exact : ChangesExact
unfolding changes_over accepted
changes_exact s o = (
  λ first text e. subst (λ (b : Body). let cs = changes_by (placed_over s) (idents_over s) o.epoch b in (inserted_by cs ≡ text) × (deleted_by cs ≡ 0)) (sym e) (insert_exact s o first text),
  λ targets e. subst (λ (b : Body). let cs = changes_by (placed_over s) (idents_over s) o.epoch b in (inserted_by cs ≡ []) × (deleted_by cs + length (chars_in (text_after s o b)) ≡ length (text_over s))) (sym e) (delete_exact s o targets),
  λ former e. ap (λ (b : Body). changes_by (placed_over s) (idents_over s) o.epoch b) e,
  λ e. ap (λ (b : Body). changes_by (placed_over s) (idents_over s) o.epoch b) e,
)
