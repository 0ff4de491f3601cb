-- Lists of identifiers with characters that rise strictly.
use Rattle.std.proofs.Common.{◌≡◌, true, List, [], ◌∷◌, map, refl, subst, inl, inr}
use Rattle.std.specs.List.{list_all}
use Rattle.rls_ident.specs.declared.tuple.Tuple.{Tuple}
use Rattle.rls_ident.specs.Identifiers.{IsIdent, is_ident}
use Rattle.rls_ident.specs.Lists.{IsIn}
use Rattle.rls_ident.proofs.Members.{and_left, and_right, and_true, in_map, map_in}
use Rattle.rls_runs.specs.Runs.{AreIdents}
use Rattle.rls_runs.proofs.Sorted.{Entry, IsBelow, AreAbove, Rises, increasing_of_rises}

-- the identifiers
abbrev pub ids : List Entry → List (List Tuple)
ids es = map (λ e. e.0) es

pub all_idents : (xs : List (List Tuple)) → ((x : List Tuple) → IsIn x xs → IsIdent x) → list_all is_ident xs ≡ true
all_idents [] f = refl
all_idents (x ∷ xs) f = and_true (is_ident x) (list_all is_ident xs) (f x (inl refl)) (all_idents xs (λ y p. f y (inr p)))

pub ident_in : (xs : List (List Tuple)) → AreIdents xs → (x : List Tuple) → IsIn x xs → IsIdent x
ident_in xs h x p = go xs h.0 p
  where
    go : (ys : List (List Tuple)) → list_all is_ident ys ≡ true → IsIn x ys → IsIdent x
    go [] a q = absurd q
    go (y ∷ ys) a (inl e) = subst IsIdent e (and_left (is_ident y) (list_all is_ident ys) a)
    go (y ∷ ys) a (inr q) = go ys (and_right (is_ident y) (list_all is_ident ys) a) q

-- rising entries with identifiers
pub idents_of : (es : List Entry) → Rises es → ((x : List Tuple) → IsIn x (ids es) → IsIdent x) → AreIdents (ids es)
idents_of es r f = (all_idents (ids es) f, increasing_of_rises es r)

-- each identifier by a map that keeps the order
abbrev pub moved : (List Tuple → List Tuple) → Entry → Entry
moved f e = (f e.0, e.1)

above_map : (f : List Tuple → List Tuple) (x : Entry) (ys : List Entry) → ((y : Entry) → IsIn y ys → IsBelow x y → IsBelow (moved f x) (moved f y)) → AreAbove x ys → AreAbove (moved f x) (map (moved f) ys)
above_map f x [] k a = tt
above_map f x (y ∷ ys) k a = (k y (inl refl) a.0, above_map f x ys (λ z p. k z (inr p)) a.1)

pub rises_map : (f : List Tuple → List Tuple) (es : List Entry) → ((x y : Entry) → IsIn x es → IsIn y es → IsBelow x y → IsBelow (moved f x) (moved f y)) → Rises es → Rises (map (moved f) es)
rises_map f [] k r = tt
rises_map f (x ∷ xs) k r = (above_map f x xs (λ y p. k x y (inl refl) (inr p)) r.0, rises_map f xs (λ y z p q. k y z (inr p) (inr q)) r.1)

-- an identifier among them, with its entry
pub entry_in : (es : List Entry) (x : List Tuple) → IsIn x (ids es) → (e : Entry) × IsIn e es × (e.0 ≡ x)
entry_in es x p = in_map (λ (e : Entry). e.0) x es p

pub in_entry : (es : List Entry) (e : Entry) → IsIn e es → IsIn e.0 (ids es)
in_entry es e p = map_in (λ (e : Entry). e.0) e es p
