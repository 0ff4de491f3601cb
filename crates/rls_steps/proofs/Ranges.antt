-- The places of labels that stand one right after another.
use Rattle.std.proofs.Common.{◌≡◌, ℕ, zero, suc, ◌+◌, Bool, true, false, List, [], ◌∷◌, ◌++◌, map, length, inl, inr, refl, ap, ◌∙◌, arith}
use Rattle.std.specs.Prelude.{◌==◌, if◌then◌else◌}
use Rattle.rls_ident.specs.Lists.{IsIn}
use Rattle.rls_ident.proofs.Members.{not_true, in_any, any_in, eq_is, eq_refl}
use Rattle.rls_undo.specs.Plans.{put_place, ranges_of}
use Rattle.rls_steps.specs.Marks.{Mark, Known, Unknown, is_one_of, label_places, numbers_from}

-- they are one range
pub one_range : (i n : ℕ) → ranges_of (numbers_from i (suc n)) ≡ (i, suc n) ∷ []
one_range i zero = refl
one_range i (suc n) = ap (put_place i) (one_range (suc i) n) ∙ ap (λ (b : Bool). if b then (i, suc (suc n)) ∷ [] else (i, 1) ∷ (suc i, suc n) ∷ []) (eq_refl (suc i))

-- a mark that is one of the labels
pub one_in : (labels : List ℕ) (m : Mark) → is_one_of labels m ≡ true → IsIn m (map Known labels)
one_in labels (Known n) h =
    let f = in_any (λ k. k == n) labels h in
    go labels f.0 f.1 (eq_is f.0 n f.2)
  where
    go : (ls : List ℕ) (k : ℕ) → IsIn k ls → k ≡ n → IsIn (Known n) (map Known ls)
    go [] k p e = absurd p
    go (l ∷ ls) k (inl q) e = inl (ap Known (q ∙ e))
    go (l ∷ ls) k (inr p) e = inr (go ls k p e)
one_in labels (Unknown x) h = absurd (cc)

pub in_one : (labels : List ℕ) (n : ℕ) → IsIn n labels → is_one_of labels (Known n) ≡ true
in_one labels n p = any_in (λ k. k == n) n labels p (eq_refl n)

-- where none is, there is no place
pub places_none : (i : ℕ) (labels : List ℕ) (ms : List Mark) → ((m : Mark) → IsIn m ms → IsIn m (map Known labels) → ⊥) → label_places i labels ms ≡ []
places_none i labels [] h = refl
places_none i labels (m ∷ ms) h =
    ap (λ (b : Bool). if b then i ∷ label_places (suc i) labels ms else label_places (suc i) labels ms) (not_true (is_one_of labels m) (λ q. h m (inl refl) (one_in labels m q)))
    ∙ places_none (suc i) labels ms (λ k p. h k (inr p))

-- the labels themselves have each place
pub places_all : (i : ℕ) (labels ns : List ℕ) → ((n : ℕ) → IsIn n ns → IsIn n labels) → label_places i labels (map Known ns) ≡ numbers_from i (length ns)
places_all i labels [] h = refl
places_all i labels (n ∷ ns) h =
    ap (λ (b : Bool). if b then i ∷ label_places (suc i) labels (map Known ns) else label_places (suc i) labels (map Known ns)) (in_one labels n (h n (inl refl)))
    ∙ ap (λ is. i ∷ is) (places_all (suc i) labels ns (λ k p. h k (inr p)))

pub places_append : (i : ℕ) (labels : List ℕ) (ms ks : List Mark) → label_places i labels (ms ++ ks) ≡ label_places i labels ms ++ label_places (length ms + i) labels ks
places_append i labels [] ks = let none : i ≡ 0 + i = omega arith in ap (λ j. label_places j labels ks) none
places_append i labels (m ∷ ms) ks =
    let same : length ms + suc i ≡ suc (length ms) + i = omega arith in
    go (is_one_of labels m) (places_append (suc i) labels ms ks ∙ ap (λ j. label_places (suc i) labels ms ++ label_places j labels ks) same)
  where
    go : (b : Bool) → label_places (suc i) labels (ms ++ ks) ≡ label_places (suc i) labels ms ++ label_places (suc (length ms) + i) labels ks
        → (if b then i ∷ label_places (suc i) labels (ms ++ ks) else label_places (suc i) labels (ms ++ ks)) ≡ (if b then i ∷ label_places (suc i) labels ms else label_places (suc i) labels ms) ++ label_places (suc (length ms) + i) labels ks
    go true e = ap (λ is. i ∷ is) e
    go false e = e
