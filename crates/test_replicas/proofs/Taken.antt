-- Identifiers that were taken out.
use Rattle.std.proofs.Common.{◌≡◌, Bool, true, false, not, cond, List, [], ◌∷◌, inl, inr, refl, sym}
use Rattle.rls_ident.specs.declared.tuple.Tuple.{Tuple}
use Rattle.rls_ident.specs.Identifiers.{ident_eq}
use Rattle.rls_ident.specs.Lists.{IsIn}
use Rattle.rls_ident.proofs.Members.{any_in}
use Rattle.rls_ident.proofs.Ends.{same_eq}
use Rattle.rls_runs.specs.Entries.{Entries, idents_in, has_ident, without_all}
use Rattle.rls_doc.specs.Documents.{AreNew}
use Rattle.rls_doc.proofs.Added.{are_new}

-- none of them is there
gone : (xs : List (List Tuple)) (es : Entries) (x : List Tuple) → IsIn x xs → IsIn x (idents_in (without_all xs es)) → ⊥
gone xs [] x p q = q
gone xs (e ∷ es) x p q = go (has_ident xs e.0) refl (gone xs es x p) q
  where
    go : (b : Bool) → has_ident xs e.0 ≡ b → (IsIn x (idents_in (without_all xs es)) → ⊥) → IsIn x (idents_in (cond (not b) (e ∷ without_all xs es) (without_all xs es))) → ⊥
    go true h later q = later q
    go false h later (inl k) = absurd (cc (any_in (λ y. ident_eq y e.0) x xs p (same_eq x e.0 (sym k)), h))
    go false h later (inr k) = later k

pub taken_new : (xs : List (List Tuple)) (es : Entries) → AreNew xs (idents_in (without_all xs es))
taken_new xs es = are_new xs (idents_in (without_all xs es)) (gone xs es)
