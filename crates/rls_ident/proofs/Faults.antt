-- Lists of tuples without a fault.
use Rattle.std.proofs.Common.{◌≡◌, ℕ, ◌+◌, List, [], ◌∷◌, ◌++◌, None, IsTrue}
use Rattle.std.specs.List.{All}
use Rattle.std.proofs.lemmas.List.Elements.{All-nil, All-cons}
use Rattle.rls_ident.specs.declared.tuple.Tuple.{Tuple}
use Rattle.rls_ident.specs.Identifiers.{first_fault, is_inner_bounded, is_last_bounded}
use Rattle.rls_ident.proofs.Members.{went_on}

pub without_fault : (front : List Tuple) (t : Tuple) (i : ℕ) → first_fault i (front ++ t ∷ []) ≡ None → All (λ u. IsTrue (is_inner_bounded u)) front × IsTrue (is_last_bounded t)
without_fault [] t i h = (All-nil (λ u. IsTrue (is_inner_bounded u)), (went_on (is_last_bounded t) None i h).0)
without_fault (x ∷ []) t i h =
    let g = went_on (is_inner_bounded x) (first_fault (i + 1) (t ∷ [])) i h in
    let r = without_fault [] t (i + 1) g.1 in
    (All-cons (λ u. IsTrue (is_inner_bounded u)) x [] g.0 r.0, r.1)
without_fault (x ∷ y ∷ front) t i h =
    let g = went_on (is_inner_bounded x) (first_fault (i + 1) (y ∷ front ++ t ∷ [])) i h in
    let r = without_fault (y ∷ front) t (i + 1) g.1 in
    (All-cons (λ u. IsTrue (is_inner_bounded u)) x (y ∷ front) g.0 r.0, r.1)
