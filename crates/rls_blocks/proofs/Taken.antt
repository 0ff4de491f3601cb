-- Runs and the characters that belong to each, one after another.
use Rattle.std.proofs.Common.{◌≡◌, ℕ, zero, suc, ◌+◌, List, [], ◌∷◌, ◌++◌, length, take, drop, Some, slice_get, refl, sym, ap, ◌∙◌, arith}
use Rattle.std.specs.Prelude.{zip}
use Rattle.std.proofs.lemmas.List.{append-nil}
use Rattle.std.proofs.Math.Seq.{take-append_seam, drop-append_seam}
use Rattle.rls_ident.specs.declared.tuple.Tuple.{Tuple}
use Rattle.rls_ident.proofs.Members.{some_is}
use Rattle.rls_runs.specs.Runs.{run_idents, idents_of}
use Rattle.rls_runs.proofs.Finding.{run_length}
use Rattle.rls_runs.proofs.RunOrder.{idents_append as runs_append}
use Rattle.rls_runs.proofs.RunPlaces.{split_at}
use Rattle.rls_blocks.specs.Trees.{piece_entries}

pub single_run : (rs : List (List Tuple × ℕ)) (r : List Tuple × ℕ) → length rs ≡ 1 → slice_get rs 0 ≡ Some r → idents_of rs ≡ run_idents r.0 r.1
single_run [] r n g = absurd (omega arith)
single_run (q ∷ []) r n g = append-nil (run_idents q.0 q.1) ∙ ap (λ (z : List Tuple × ℕ). run_idents z.0 z.1) (some_is q r g)
single_run (q ∷ (s ∷ rs)) r n g = absurd (omega (arith, n))

pub run_taken : (rs : List (List Tuple × ℕ)) (k at : ℕ) (r : List Tuple × ℕ) (cs part : List ℕ) → slice_get rs k ≡ Some r → at ≡ length (idents_of (take k rs)) → length (idents_of rs) ≡ length cs → part ≡ take r.1 (drop at cs) → piece_entries (r, part) ≡ take r.1 (drop at (zip (idents_of rs) cs))
run_taken rs k at r cs part g h m p =
    let ids = idents_of rs in
    let e : drop at ids ≡ run_idents r.0 r.1 ++ idents_of (drop (k + 1) rs) =
    ap (λ xs. drop at (idents_of xs)) (sym (split_at rs k r g)) ∙ ap (drop at) (runs_append (take k rs) (r ∷ drop (k + 1) rs)) ∙ ap (λ n. drop n (idents_of (take k rs) ++ idents_of (r ∷ drop (k + 1) rs))) h ∙ drop-append_seam (idents_of (take k rs)) (idents_of (r ∷ drop (k + 1) rs)) in
    let l = run_length r.0 r.1 in
    let own : take r.1 (drop at ids) ≡ run_idents r.0 r.1 = ap (take r.1) e ∙ ap (λ n. take n (run_idents r.0 r.1 ++ idents_of (drop (k + 1) rs))) (sym l) ∙ take-append_seam (run_idents r.0 r.1) (idents_of (drop (k + 1) rs)) in
    ap (λ xs. zip xs part) (sym own) ∙ ap (zip (take r.1 (drop at ids))) p ∙ sym (zip_take r.1 (drop at ids) (drop at cs)) ∙ ap (take r.1) (sym (zip_drop at ids cs))
  where
    zip_take : (n : ℕ) (xs : List (List Tuple)) (cs : List ℕ) → take n (zip xs cs) ≡ zip (take n xs) (take n cs)
    zip_take zero xs cs = refl
    zip_take (suc n) [] cs = refl
    zip_take (suc n) (x ∷ xs) [] = refl
    zip_take (suc n) (x ∷ xs) (c ∷ cs) = ap (λ es. (x, c) ∷ es) (zip_take n xs cs)

    zip_none : (xs : List (List Tuple)) → zip {X = ℕ} xs [] ≡ []
    zip_none [] = refl
    zip_none (x ∷ xs) = refl

    zip_drop : (n : ℕ) (xs : List (List Tuple)) (cs : List ℕ) → drop n (zip xs cs) ≡ zip (drop n xs) (drop n cs)
    zip_drop zero xs cs = refl
    zip_drop (suc n) [] cs = refl
    zip_drop (suc n) (x ∷ xs) [] = sym (zip_none (drop n xs))
    zip_drop (suc n) (x ∷ xs) (c ∷ cs) = zip_drop n xs cs
