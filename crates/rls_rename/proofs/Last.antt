-- The last tuple is kept.
use Rattle.std.proofs.Common.{◌≡◌, ℕ, suc, ◌+◌, length, Bool, true, false, cond, List, [], ◌∷◌, ◌++◌, refl, sym, ap, ◌∙◌, subst, arith, append_assoc, length-append}
use Rattle.rls_ident.specs.declared.tuple.Spot.{Spot}
use Rattle.rls_ident.specs.declared.tuple.Tuple.{Tuple}
use Rattle.rls_ident.specs.declared.tuple.Tuple.TheVariants.{Low, High}
use Rattle.rls_ident.specs.Identifiers.{IsIdent, last_of, pred}
use Rattle.rls_ident.specs.Tuples.{tuple_cmp, at_offset}
use Rattle.rls_rename.specs.Renaming.{IsFormer, IsNoneOf, new_at, old_below, old_below_inverse, old_between_inverse, old_above_inverse, new_below, new_between, new_above, forward_above, forward_by, back_by, new_from}
use Rattle.rls_ident.specs.Maps.{under, low, high}
use Rattle.rls_ident.proofs.Lists.{Lt}
use Rattle.rls_ident.proofs.Glue.{Side, Before, Here, After, side}
use Rattle.rls_ident.proofs.Tuples.{tuples}
use Rattle.rls_rename.proofs.Places.{stop, skip, forward_former}
use Rattle.rls_rename.proofs.Increasing.{old_below_iso, old_between_iso, old_above_iso, former_first, forward_iso}

last_append : (p y : List Tuple) → IsIdent y → last_of (p ++ y) ≡ last_of y
last_append [] y i = refl
last_append (t ∷ []) [] i = cc
last_append (t ∷ []) (u ∷ y) i = refl
last_append (t ∷ (u ∷ p)) y i = last_append (u ∷ p) y i

last_cond : (b : Bool) (p y : List Tuple) → IsIdent y → (last_of (cond b (p ++ y) y) ≡ last_of y) × (last_of (cond b y (p ++ y)) ≡ last_of y)
last_cond true p y i = (last_append p y i, refl)
last_cond false p y i = (refl, last_append p y i)

pub low_last : (p y : List Tuple) → IsIdent y → last_of (low tuple_cmp p y) ≡ last_of y
unfolding low
low_last p y i = (last_cond (under tuple_cmp y p) p y i).0

pub high_last : (p y : List Tuple) → IsIdent y → last_of (high tuple_cmp p y) ≡ last_of y
unfolding high
high_last p y i = (last_cond (under tuple_cmp y p) p y i).1

below_last : (s : Spot) (a x : List Tuple) → IsIdent a → IsIdent x → Lt tuples x a → last_of (new_below s (old_below_inverse a x)) ≡ last_of x
below_last s a x h i l =
    let m = old_below_iso a h in
    let j = m.onto x (i, l) in
    high_last (at_offset s _ ∷ []) (old_below_inverse a x) j ∙ (sym (high_last (pred a ++ (High ∷ [])) (old_below_inverse a x) j) ∙ ap last_of (m.back x (i, l)))

above_last : (s : Spot) (n : ℕ) (a x : List Tuple) → IsIdent x → Lt tuples a x → last_of (new_above s n (old_above_inverse a x)) ≡ last_of x
above_last s n a x i l =
    let m = old_above_iso a in
    let j = m.onto x (i, l) in
    low_last (new_at s n) (old_above_inverse a x) j ∙ (sym (low_last (a ++ (Low ∷ [])) (old_above_inverse a x) j) ∙ ap last_of (m.back x (i, l)))

between_last : (s : Spot) (n : ℕ) (a b x : List Tuple) → IsIdent b → Lt tuples a b → IsIdent x → Lt tuples a x → Lt tuples x b → last_of (new_between s n (old_between_inverse a b x)) ≡ last_of x
between_last s n a b x h k i l r =
    let m = old_between_iso a b h k in
    let j = m.onto x ((i, l), r) in
    let o = old_above_iso a in
    let c = old_above_inverse a b in
    let e = old_below_iso c (o.onto b (h, k)) in
    last_append (new_at s n) (old_between_inverse a b x) j
    ∙ (sym (high_last (pred c ++ (High ∷ [])) (old_between_inverse a b x) j)
    ∙ (sym (low_last (a ++ (Low ∷ [])) (old_below c (old_between_inverse a b x)) (e.into (old_between_inverse a b x) j).0) ∙ ap last_of (m.back x ((i, l), r))))

last_at : (s : Spot) (n : ℕ) (a b : List Tuple) (rest : List (List Tuple)) (x : List Tuple) → IsFormer (a ∷ (b ∷ rest)) → IsIdent x → Lt tuples a x → Side tuples b x → (x ≡ b → ⊥) →
    (Lt tuples b x → last_of (forward_above s (n + 1) b rest x) ≡ last_of x) → last_of (forward_above s n a (b ∷ rest) x) ≡ last_of x
unfolding forward_above
last_at s n a b rest x h i l (Before r) e k =
    ap last_of (stop b x (new_between s n (old_between_inverse a b x)) (new_at s (n + 1)) (forward_above s (n + 1) b rest x) r) ∙ between_last s n a b x (former_first b rest h.2) (record { less = h.1 }) i l r
last_at s n a b rest x h i l (Here q) e k = absurd (e q)
last_at s n a b rest x h i l (After r) e k =
    ap last_of (skip b x (new_between s n (old_between_inverse a b x)) (new_at s (n + 1)) (forward_above s (n + 1) b rest x) r) ∙ k r

above_kept : (s : Spot) (n : ℕ) (a : List Tuple) (rest : List (List Tuple)) (x : List Tuple) → IsFormer (a ∷ rest) → IsIdent x → Lt tuples a x → IsNoneOf x rest → last_of (forward_above s n a rest x) ≡ last_of x
unfolding forward_above
above_kept s n a [] x h i l e = above_last s n a x i l
above_kept s n a (b ∷ rest) x h i l e = last_at s n a b rest x h i l (side tuples b x) e.0 (λ r. above_kept s (n + 1) b rest x h.2 i r e.1)

kept_at : (s : Spot) (a : List Tuple) (rest : List (List Tuple)) (x : List Tuple) → IsFormer (a ∷ rest) → IsIdent x → Side tuples a x → IsNoneOf x (a ∷ rest) → last_of (forward_by s (a ∷ rest) x) ≡ last_of x
unfolding forward_by
kept_at s a rest x h i (Before r) e = ap last_of (stop a x (new_below s (old_below_inverse a x)) (new_at s 0) (forward_above s 0 a rest x) r) ∙ below_last s a x (former_first a rest h) i r
kept_at s a rest x h i (Here q) e = absurd (e.0 q)
kept_at s a rest x h i (After r) e = ap last_of (skip a x (new_below s (old_below_inverse a x)) (new_at s 0) (forward_above s 0 a rest x) r) ∙ above_kept s 0 a rest x h i r e.1

pub last_kept : (s : Spot) (former : List (List Tuple)) (x : List Tuple) → IsFormer former → IsIdent x → IsNoneOf x former → last_of (forward_by s former x) ≡ last_of x
last_kept s [] x h i e = absurd h
last_kept s (a ∷ rest) x h i e = kept_at s a rest x h i (side tuples a x) e

-- ---- back keeps it too: what back takes to a former identifier is a new one

back_none : (s : Spot) (before rest : List (List Tuple)) (z : List Tuple) → IsFormer (before ++ rest) → IsIdent z → IsNoneOf z (new_from s (length before) rest) → IsNoneOf (back_by s (before ++ rest) z) rest
back_none s before [] z h i n = tt
back_none s before (a ∷ rest) z h i n =
    let e : (before ++ (a ∷ [])) ++ rest ≡ before ++ (a ∷ rest) = append_assoc before (a ∷ []) rest in
    let l : length (before ++ (a ∷ [])) ≡ suc (length before) = let m = length-append before (a ∷ []) in omega arith in
    let k = back_none s (before ++ (a ∷ [])) rest z (subst IsFormer (sym e) h) i (subst (λ m. IsNoneOf z (new_from s m rest)) (sym l) n.1) in (
      (λ q. n.0 (sym ((forward_iso s (before ++ (a ∷ rest)) h).back z i) ∙ (ap (forward_by s (before ++ (a ∷ rest))) q ∙ forward_former s before a rest h))),
      subst (λ f. IsNoneOf (back_by s f z) rest) e k,
    )

pub last_kept_back : (s : Spot) (former : List (List Tuple)) (z : List Tuple) → IsFormer former → IsIdent z → IsNoneOf z (new_from s 0 former) → last_of (back_by s former z) ≡ last_of z
last_kept_back s former z h i n =
    let m = forward_iso s former h in
    sym (last_kept s former (back_by s former z) h (m.onto z i) (back_none s [] former z h i n)) ∙ ap last_of (m.back z i)
