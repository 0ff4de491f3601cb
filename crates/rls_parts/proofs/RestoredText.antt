-- The text of the replica that has given parts.
use Rattle.std.proofs.Common.{◌≡◌, ℕ, zero, suc, ◌+◌, ◌*◌, ◌-◌, ◌^◌, ◌≤◌, ◌&&◌, nat_lt, true, List, [], ◌∷◌, ◌++◌, length, map, refl, sym, ap, ◌∙◌, subst, arith, inl, inr, ⊎_elim, Option, Some, None, if◌then◌else◌, length-append}
use Rattle.std.specs.Prelude.{pos, ◌+ℤ◌, zip}
use Rattle.std.specs.Int.RustNames.{int_le}
use Rattle.std.specs.List.{list_all}
use Rattle.std.proofs.lemmas.Int.{ints}
use Rattle.std.proofs.lemmas.List.{map-append}
use Rattle.std.proofs.lemmas.Slice.Zip.{firsts-zip, length-zip}
use Rattle.rls_ident.specs.declared.tuple.Tuple.{Tuple}
use Rattle.rls_ident.specs.Identifiers.{is_ident, is_bounded, last_of, shifted, follows}
use Rattle.rls_ident.specs.Lists.{IsIn}
use Rattle.rls_ident.specs.Tuples.{offset_of}
use Rattle.rls_ident.proofs.Members.{and_left, and_right, in_split, bool_cases}
use Rattle.rls_ident.proofs.Shifted.{shifted_none, shifted_shifted}
use Rattle.rls_ident.proofs.Ends.{eq_same, least_last}
use Rattle.rls_runs.specs.Entries.{Entries, idents_in}
use Rattle.rls_runs.specs.Runs.{AreIdents, run_idents, run_last, idents_of, is_apart, are_apart, is_run, past_offsets}
use Rattle.rls_runs.proofs.Finding.{run_length}
use Rattle.rls_runs.proofs.RunEnds.{run_limit}
use Rattle.rls_runs.proofs.RunOrder.{all_idents, idents_rise, increasing_of}
use Rattle.rls_runs.proofs.RunsOf.{IsFree, follows_next, free_of}
use Rattle.rls_model.specs.declared.parts.TextRun.{TextRun}
use Rattle.rls_model.specs.Parts.{put_text, text_runs}
use Rattle.rls_parts.specs.Given.{HaveTexts, AreTextRuns}
use Rattle.rls_parts.specs.Restored.{entries_of}

-- ---- the identifiers

-- those of the runs
abbrev pub runs_in : List TextRun → List (List Tuple × ℕ)
runs_in rs = map (λ r. r.run) rs

pub idents_restored : (rs : List TextRun) → HaveTexts rs → idents_in (entries_of rs) ≡ idents_of (runs_in rs)
idents_restored [] h = refl
idents_restored (r ∷ rs) h =
    let e : length r.text ≡ length (run_idents r.run.0 r.run.1) = h.0 ∙ sym (run_length r.run.0 r.run.1) in
    map-append (λ (x : List Tuple × ℕ). x.0) (zip (run_idents r.run.0 r.run.1) r.text) (entries_of rs)
    ∙ (ap (λ xs. xs ++ idents_in (entries_of rs)) (firsts-zip (run_idents r.run.0 r.run.1) r.text e)
    ∙ ap (λ xs. run_idents r.run.0 r.run.1 ++ xs) (idents_restored rs h.1))

pub are_idents : (rs : List TextRun) → AreTextRuns rs → list_all is_run (runs_in rs) ≡ true → AreIdents (idents_in (entries_of rs))
are_idents rs h k =
    subst AreIdents (sym (idents_restored rs h.1))
    (all_idents (runs_in rs) k, increasing_of (idents_of (runs_in rs)) (idents_rise None (runs_in rs) h.0 k))

-- an identifier of the text is one of some run
pub in_some_run : (rs : List TextRun) (x : List Tuple) → IsIn x (idents_of (runs_in rs)) → (r : TextRun) × IsIn r rs × IsIn x (run_idents r.run.0 r.run.1)
in_some_run [] x q = absurd q
in_some_run (r ∷ rs) x q =
    ⊎_elim (λ h. (r, inl refl, h)) (λ h. let w = in_some_run rs x h in (w.0, inr w.1, w.2)) (in_split x (run_idents r.run.0 r.run.1) (idents_of (runs_in rs)) q)

-- ---- how many characters

pub total_restored : (rs : List TextRun) → list_all is_run (runs_in rs) ≡ true → length (entries_of rs) ≤ length rs * 2 ^ 31
total_restored [] h = omega arith
total_restored (r ∷ rs) h =
    let n = run_limit r.run (and_left (is_run r.run) (list_all is_run (runs_in rs)) h) in
    let k = total_restored rs (and_right (is_run r.run) (list_all is_run (runs_in rs)) h) in
    let a = length-append (zip (run_idents r.run.0 r.run.1) r.text) (entries_of rs) in
    let b = length-zip (run_idents r.run.0 r.run.1) r.text in
    let c = run_length r.run.0 r.run.1 in
    omega arith

-- ---- the runs of the entries are the runs

put_alone : (x : List Tuple) (c : ℕ) (rs : List TextRun) → IsFree x (runs_in rs) → put_text (x, c) rs ≡ record { run = (x, 1); text = c ∷ [] } ∷ rs
put_alone x c [] free = refl
put_alone x c (r ∷ rs) free = ap (λ b. if b then record { run = (x, r.run.1 + 1); text = c ∷ r.text } ∷ rs else record { run = (x, 1); text = c ∷ [] } ∷ r ∷ rs) free

put_before : (x : List Tuple) (c : ℕ) (r : TextRun) (rs : List TextRun) → follows r.run.0 x ≡ true → put_text (x, c) (r ∷ rs) ≡ record { run = (x, r.run.1 + 1); text = c ∷ r.text } ∷ rs
put_before x c r rs e = ap (λ b. if b then record { run = (x, r.run.1 + 1); text = c ∷ r.text } ∷ rs else record { run = (x, 1); text = c ∷ [] } ∷ r ∷ rs) e

-- one run before others that it doesn't touch
text_of_run : (n : ℕ) (x : List Tuple) (cs : List ℕ) (tail : Entries) (rs : List TextRun) → length cs ≡ suc n → text_runs tail ≡ rs → IsFree (shifted (pos n) x) (runs_in rs)
    → text_runs (zip (run_idents x (suc n)) cs ++ tail) ≡ record { run = (x, suc n); text = cs } ∷ rs
text_of_run n x [] tail rs l e free = absurd (omega arith)
text_of_run zero x (c ∷ []) tail rs l e free = ap (put_text (x, c)) e ∙ put_alone x c rs (subst (λ y. IsFree y (runs_in rs)) (shifted_none x) free)
text_of_run zero x (c ∷ (d ∷ cs)) tail rs l e free = absurd (omega arith)
text_of_run (suc n) x (c ∷ cs) tail rs l e free =
    let there : shifted (pos n) (shifted (pos 1) x) ≡ shifted (pos (suc n)) x = shifted_shifted (pos n) (pos 1) x ∙ ap (λ z. shifted z x) (omega (arith, ints)) in
    let run : TextRun = record { run = (shifted (pos 1) x, suc n); text = cs } in
    let rest : text_runs (zip (run_idents (shifted (pos 1) x) (suc n)) cs ++ tail) ≡ run ∷ rs = text_of_run n (shifted (pos 1) x) cs tail rs (omega arith) e (subst (λ y. IsFree y (runs_in rs)) (sym there) free) in
    let one : suc n + 1 ≡ suc (suc n) = omega arith in
    ap (put_text (x, c)) rest ∙ (put_before x c run rs (follows_next x) ∙ ap (λ k. record { run = (x, k); text = c ∷ cs } ∷ rs) one)

run_is : (r : TextRun) (x : List Tuple) (n : ℕ) → r.run ≡ (x, n) → record { run = (x, n); text = r.text } ≡ r
run_is r x n e = ap (λ q. record { run = q; text = r.text }) (sym e)

text_back : (before : Option (List Tuple × ℕ)) (rs : List TextRun) → are_apart before (runs_in rs) ≡ true → HaveTexts rs → text_runs (entries_of rs) ≡ rs
text_back before [] c h = refl
text_back before (r ∷ rs) c h =
    let some = and_left (nat_lt 0 r.run.1) (is_apart before r.run) (and_left (nat_lt 0 r.run.1 && is_apart before r.run) (are_apart (Some r.run) (runs_in rs)) c) in
    let later = and_right (nat_lt 0 r.run.1 && is_apart before r.run) (are_apart (Some r.run) (runs_in rs)) c in
    go r.run.1 refl some (text_back (Some r.run) rs later h.1) (free_of r.run (runs_in rs) later)
  where
    go : (n : ℕ) → r.run.1 ≡ n → nat_lt 0 r.run.1 ≡ true → text_runs (entries_of rs) ≡ rs → IsFree (run_last r.run) (runs_in rs) → text_runs (entries_of (r ∷ rs)) ≡ r ∷ rs
    go zero e some ih free = absurd (let x = ap (nat_lt 0) e in cc)
    go (suc n) e some ih free =
        let k : r.run.1 - 1 ≡ n = omega arith in
        ap (λ m. text_runs (zip (run_idents r.run.0 m) r.text ++ entries_of rs)) e
        ∙ (text_of_run n r.run.0 r.text (entries_of rs) rs (h.0 ∙ e) ih (subst (λ m. IsFree (shifted (pos m) r.run.0) (runs_in rs)) k free)
        ∙ ap (λ q. q ∷ rs) (run_is r r.run.0 (suc n) (ap (λ m. (r.run.0, m)) e)))

pub text_restored : (rs : List TextRun) → AreTextRuns rs → text_runs (entries_of rs) ≡ rs
text_restored rs h = text_back None rs h.0 h.1

-- ---- and the entries of the runs are the entries

put_entries : (e : List Tuple × ℕ) (rs : List TextRun) → entries_of (put_text e rs) ≡ e ∷ entries_of rs
put_entries e [] = refl
put_entries e (r ∷ rs) = bool_cases (follows r.run.0 e.0) (λ h. joins h) (λ h. ap entries_of (ap (λ b. if b then record { run = (e.0, r.run.1 + 1); text = e.1 ∷ r.text } ∷ rs else record { run = (e.0, 1); text = e.1 ∷ [] } ∷ r ∷ rs) h))
  where
    joins : follows r.run.0 e.0 ≡ true → entries_of (put_text e (r ∷ rs)) ≡ e ∷ entries_of (r ∷ rs)
    joins h =
        let one : r.run.1 + 1 ≡ suc r.run.1 = omega arith in
        ap entries_of (put_before e.0 e.1 r rs h)
        ∙ (ap (λ n. zip (run_idents e.0 n) (e.1 ∷ r.text) ++ entries_of rs) one
        ∙ ap (λ x. e ∷ zip (run_idents x r.run.1) r.text ++ entries_of rs) (sym (eq_same r.run.0 (shifted (pos 1) e.0) h)))

pub entries_again : (es : Entries) → entries_of (text_runs es) ≡ es
entries_again [] = refl
entries_again (e ∷ es) = put_entries e (text_runs es) ∙ ap (λ xs. e ∷ xs) (entries_again es)
