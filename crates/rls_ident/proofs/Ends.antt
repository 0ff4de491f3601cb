-- The last tuple of an identifier.
use Rattle.std.proofs.Common.{◌≡◌, true, false, List, [], ◌∷◌, ◌++◌, refl, ap, sym, ◌∙◌, IsTrue}
use Rattle.std.specs.Prelude.{ℤ, ◌≤ℤ◌}
use Rattle.std.specs.declared.cmp.Ordering.{Ordering}
use Rattle.std.specs.declared.cmp.Ordering.TheVariants.{Less, Equal, Greater}
use Rattle.std.specs.Ordering.{is_eq}
use Rattle.std.proofs.lemmas.Cmp.{lists_total, tied_itself}
use Rattle.std.specs.List.{All}
use Rattle.std.proofs.lemmas.List.Elements.{All-head, All-tail}
use Rattle.std.specs.Int.RustNames.{int_le}
use Rattle.rls_ident.specs.declared.tuple.Spot.{Spot}
use Rattle.rls_ident.specs.declared.tuple.Tuple.{Tuple}
use Rattle.rls_ident.specs.Tuples.{at_spot, raised, offset_of}
use Rattle.rls_ident.specs.Identifiers.{last_of, is_ident, is_bounded, is_inner_bounded, is_last_bounded, shifted, ident_cmp, ident_eq, IsIdent, least_offset, greatest_offset}
use Rattle.rls_ident.proofs.Members.{and_true, same_bool, not_true, int_le_is, and_left, and_right}
use Rattle.rls_ident.proofs.Lists.{lists_same}
use Rattle.rls_ident.proofs.Tuples.{tuples, tuple_total}
use Rattle.rls_ident.specs.declared.tuple.Tuple.TheVariants.{Low, At, High}

pub last_of_pushed : (f : List Tuple) (l : Tuple) → last_of (f ++ l ∷ []) ≡ l
last_of_pushed [] l = refl
last_of_pushed (t ∷ []) l = refl
last_of_pushed (t ∷ (u ∷ f)) l = last_of_pushed (u ∷ f) l

pub ident_of_ending : (f : List Tuple) (s : Spot) → is_ident (f ++ at_spot s ∷ []) ≡ true
ident_of_ending [] s = refl
ident_of_ending (t ∷ []) s = refl
ident_of_ending (t ∷ (u ∷ f)) s = ident_of_ending (u ∷ f) s

pub bounded_of_ending : (f : List Tuple) (l : Tuple) → All (λ t. IsTrue (is_inner_bounded t)) f → is_last_bounded l ≡ true → is_bounded (f ++ l ∷ []) ≡ true
bounded_of_ending [] l a b = b
bounded_of_ending (t ∷ []) l a b = and_true (is_inner_bounded t) (is_last_bounded l) (All-head (λ t. IsTrue (is_inner_bounded t)) t [] a) b
bounded_of_ending (t ∷ (u ∷ f)) l a b =
    and_true (is_inner_bounded t) (is_bounded (u ∷ f ++ l ∷ [])) (All-head (λ t. IsTrue (is_inner_bounded t)) t (u ∷ f) a) (bounded_of_ending (u ∷ f) l (All-tail (λ t. IsTrue (is_inner_bounded t)) t (u ∷ f) a) b)

pub least_last : (x : List Tuple) → IsIdent x → is_bounded x ≡ true → least_offset ≤ℤ offset_of (last_of x)
least_last [] i b = absurd (cc)
least_last (Low ∷ []) i b = absurd (cc)
least_last (At p r s o ∷ []) i b = int_le_is least_offset o (and_left (int_le least_offset o) (int_le o greatest_offset) b)
least_last (High ∷ []) i b = absurd (cc)
least_last (t ∷ (u ∷ x)) i b = least_last (u ∷ x) i (and_right (is_inner_bounded t) (is_bounded (u ∷ x)) b)

-- the last tuple alone is raised
pub shifted_of_pushed : (k : ℤ) (f : List Tuple) (l : Tuple) → shifted k (f ++ l ∷ []) ≡ f ++ raised k l ∷ []
shifted_of_pushed k [] l = refl
shifted_of_pushed k (t ∷ []) l = refl
shifted_of_pushed k (t ∷ (u ∷ f)) l = ap (λ x. t ∷ x) (shifted_of_pushed k (u ∷ f) l)

-- what an identifier's fields say of its tuples

pub last_of_ending : (f : List Tuple) (s : Spot) (x : List Tuple) → f ++ at_spot s ∷ [] ≡ x → last_of x ≡ at_spot s
last_of_ending f s x e = ap last_of (sym e) ∙ last_of_pushed f (at_spot s)

pub offset_of_ending : (f : List Tuple) (s : Spot) (x : List Tuple) → f ++ at_spot s ∷ [] ≡ x → offset_of (last_of x) ≡ s.offset
offset_of_ending f s x e = ap offset_of (last_of_ending f s x e)

pub shifted_of_ending : (k : ℤ) (f g : List Tuple) (s t : Spot) (x : List Tuple) → f ++ at_spot s ∷ [] ≡ x → g ≡ f → at_spot t ≡ raised k (at_spot s) → g ++ at_spot t ∷ [] ≡ shifted k x
shifted_of_ending k f g s t x e h r = ap (λ u. u ++ at_spot t ∷ []) h ∙ ap (λ u. f ++ u ∷ []) r ∙ sym (shifted_of_pushed k f (at_spot s)) ∙ ap (shifted k) e

-- ---- one that follows another

end_same : (f g : List Tuple) (u v : Tuple) → f ++ u ∷ [] ≡ g ++ v ∷ [] → (f ≡ g) × (u ≡ v)
end_same [] [] u v e = (refl, cc)
end_same [] (y ∷ []) u v e = absurd (cc)
end_same [] (y ∷ (z ∷ g)) u v e = absurd (cc)
end_same (x ∷ []) [] u v e = absurd (cc)
end_same (x ∷ (z ∷ f)) [] u v e = absurd (cc)
end_same (x ∷ f) (y ∷ g) u v e =
    let h : f ++ u ∷ [] ≡ g ++ v ∷ [] = cc in
    let k : x ≡ y = cc in
    let r = end_same f g u v h in
    (let q = r.0 in cc, r.1)

pub eq_same : (x y : List Tuple) → ident_eq x y ≡ true → x ≡ y
eq_same x y h = go (ident_cmp x y) refl h
  where
    go : (o : Ordering) → ident_cmp x y ≡ o → is_eq o ≡ true → x ≡ y
    go Less e k = absurd (cc)
    go Equal e k = lists_same tuples x y e
    go Greater e k = absurd (cc)

pub same_eq : (x y : List Tuple) → x ≡ y → ident_eq x y ≡ true
same_eq x y e = ap (λ z. ident_eq x z) (sym e) ∙ ap is_eq (tied_itself (lists_total tuple_total) x)

pub ident_eq_refl : (x : List Tuple) → ident_eq x x ≡ true
ident_eq_refl x = same_eq x x refl

pub further_at : (k : ℤ) (f g : List Tuple) (s t : Spot) (x y : List Tuple) → f ++ at_spot s ∷ [] ≡ x → g ++ at_spot t ∷ [] ≡ y → at_spot s ≡ raised k (at_spot t) → ident_eq f g ≡ ident_eq x (shifted k y)
further_at k f g s t x y e h n =
    let next : shifted k y ≡ g ++ at_spot s ∷ [] = ap (shifted k) (sym h) ∙ shifted_of_pushed k g (at_spot t) ∙ ap (λ u. g ++ u ∷ []) (sym n) in
    same_bool (ident_eq f g) (ident_eq x (shifted k y))
    (λ q. same_eq x (shifted k y) (sym e ∙ ap (λ u. u ++ at_spot s ∷ []) (eq_same f g q) ∙ sym next))
    (λ q. same_eq f g (end_same f g (at_spot s) (at_spot s) (e ∙ eq_same x (shifted k y) q ∙ next)).0)

pub further_not : (k : ℤ) (f g : List Tuple) (s t : Spot) (x y : List Tuple) → f ++ at_spot s ∷ [] ≡ x → g ++ at_spot t ∷ [] ≡ y → (at_spot s ≡ raised k (at_spot t) → ⊥) → false ≡ ident_eq x (shifted k y)
further_not k f g s t x y e h n =
    let next : shifted k y ≡ g ++ raised k (at_spot t) ∷ [] = ap (shifted k) (sym h) ∙ shifted_of_pushed k g (at_spot t) in
    sym (not_true (ident_eq x (shifted k y)) (λ q. n (end_same f g (at_spot s) (raised k (at_spot t)) (e ∙ eq_same x (shifted k y) q ∙ next)).1))
