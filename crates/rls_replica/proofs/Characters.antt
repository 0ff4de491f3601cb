-- Characters that are collected one by one.
use Rattle.std.proofs.Common.{◌≡◌, ◌∙◌, ◌<◌, ◌+◌, ◌-◌, ℕ, suc, List, [], ◌∷◌, ◌++◌, take, drop, Some, sym, ap, arith, append_assoc}
use Rattle.std.specs.Prelude.{slice_get}
use Rattle.rls_ident.proofs.Loops.{drop_reads}

-- one more of those from place i to place e
pub next_char : (xs front all : List ℕ) (i e x : ℕ) → i < e → slice_get xs i ≡ Some x → front ++ take (e - i) (drop i xs) ≡ all → (front ++ x ∷ []) ++ take (e - (i + 1)) (drop (i + 1) xs) ≡ all
next_char xs front all i e x l g h =
    let k : e - i ≡ suc (e - (i + 1)) = omega arith in
    append_assoc front (x ∷ []) (take (e - (i + 1)) (drop (i + 1) xs))
    ∙ (ap (λ ys. front ++ ys) (sym (ap (λ n. take n (drop i xs)) k ∙ ap (take (suc (e - (i + 1)))) (drop_reads xs i x g))) ∙ h)
