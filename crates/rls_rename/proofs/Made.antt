-- What the making of a renaming needs.
use Rattle.std.proofs.Common.{◌≡◌, ℕ, ◌+◌, ◌<◌, Bool, true, false, List, [], ◌∷◌, length, drop, Some, slice_get, refl, ap, sym, ◌∙◌, arith}
use Rattle.std.specs.Prelude.{if◌then◌else◌}
use Rattle.rls_ident.specs.declared.tuple.Tuple.{Tuple}
use Rattle.rls_ident.specs.Identifiers.{follows}
use Rattle.rls_runs.specs.Runs.{AreIdents, put_run, runs_of}
use Rattle.rls_rename.specs.Renaming.{IsFormer, first_pos, new_pos}
use Rattle.rls_ident.proofs.Loops.{drop_reads}
use Rattle.rls_rename.proofs.Former.{former_of}

pub former_is : (xs : List (List Tuple)) → AreIdents xs → (length xs ≡ 0 → ⊥) → IsFormer xs
former_is xs h l = former_of xs (omega arith) h

pub former_some : (xs : List (List Tuple)) → IsFormer xs → 0 < length xs
former_some [] h = absurd h
former_some (a ∷ xs) h = omega arith

-- the run that an identifier is put into begins with it
put_first : (x : List Tuple) (rs : List (List Tuple × ℕ)) → (r : List Tuple × ℕ) × (rest : List (List Tuple × ℕ)) × (put_run x rs ≡ r ∷ rest) × (r.0 ≡ x)
put_first x [] = ((x, 1), [], refl, refl)
put_first x (r ∷ rs) = go (follows r.0 x)
  where
    go : (b : Bool) → (s : List Tuple × ℕ) × (rest : List (List Tuple × ℕ)) × ((if b then (x, r.1 + 1) ∷ rs else (x, 1) ∷ ((r.0, r.1) ∷ rs)) ≡ s ∷ rest) × (s.0 ≡ x)
    go true = ((x, r.1 + 1), rs, refl, refl)
    go false = ((x, 1), (r.0, r.1) ∷ rs, refl, refl)

pub first_of_run : (xs : List (List Tuple)) (r : List Tuple × ℕ) → slice_get (runs_of xs) 0 ≡ Some r → new_pos xs ≡ first_pos r.0
first_of_run [] r e = cc
first_of_run (x ∷ xs) r e =
    let p = put_first x (runs_of xs) in
    let q : slice_get (p.0 ∷ p.1) 0 ≡ Some r = sym (ap (λ rs. slice_get rs 0) p.2) ∙ e in
    let s : p.0 ≡ r = cc in
    ap first_pos (sym p.3 ∙ ap (λ t. t.0) s)

pub read_pos : (x : List Tuple) (i n p : ℕ) (t : Tuple) → slice_get x i ≡ Some t → first_pos (drop i x) ≡ n → first_pos (t ∷ drop (i + 1) x) ≡ p → p ≡ n
read_pos x i n p t e h k = sym k ∙ (ap first_pos (sym (drop_reads x i t e)) ∙ h)
