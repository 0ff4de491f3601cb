-- What is new to a set of last tuples is not renamed on the way up, and what is in the set stays in it on the way down. On the way up it stays in it
-- if the set holds all former identifiers.
use Rattle.std.proofs.Common.{◌≡◌, ℕ, suc, ◌+◌, ◌<◌, length, List, [], ◌∷◌, ◌++◌, refl, sym, ap, ◌∙◌, subst, arith, inl, inr, ◌⊎◌, length-append}
use Rattle.std.specs.Prelude.{ℤ, pos}
use Rattle.rls_ident.specs.declared.tuple.Tuple.{Tuple}
use Rattle.rls_ident.specs.declared.epoch_name.EpochName.{EpochName}
use Rattle.rls_ident.specs.Tuples.{replica_of, seq_of, offset_of}
use Rattle.rls_ident.specs.Identifiers.{IsIdent, last_of}
use Rattle.rls_ident.specs.Lists.{IsIn}
use Rattle.rls_ident.proofs.Members.{in_right}
use Rattle.rls_ident.proofs.Lists.{Lt, lt_irrefl, tri}
use Rattle.rls_ident.proofs.Tuples.{tuples}
use Rattle.rls_rename.specs.Renaming.{Renaming, IsFormer, IsNoneOf, new_spot, new_at, new_from, forward, back}
use Rattle.rls_rename.specs.Tree.{Node, AreNodes, path, forward_all, back_all, translate}
use Rattle.rls_rename.proofs.Laws.{meaning, last_kept}
use Rattle.rls_rename.proofs.Paths.{IsAmong, AreAmong, former_among, path-among, renaming_iso, translate_is}

-- the last tuple is in the set of triples (replica, seq, offset)
abbrev pub HasLast : (ℕ → ℕ → ℤ → Type 0) → List Tuple → Type 0
HasLast U x = U (replica_of (last_of x)) (seq_of (last_of x)) (offset_of (last_of x))

-- each new identifier of a renaming is in the set
abbrev pub IsCovered : (ℕ → ℕ → ℤ → Type 0) → Renaming → Type 0
IsCovered U R = (j : ℕ) → j < length R.former → U R.replica R.seq (pos j)

abbrev pub AreCovered : (ℕ → ℕ → ℤ → Type 0) → List Node → Type 0
AreCovered U nodes = (R : Renaming) → IsAmong nodes R → IsCovered U R

-- each former identifier of a renaming has its last tuple in the set
abbrev pub HasFormer : (ℕ → ℕ → ℤ → Type 0) → Renaming → Type 0
HasFormer U R = (x : List Tuple) → IsIn x R.former → HasLast U x

abbrev pub HaveFormer : (ℕ → ℕ → ℤ → Type 0) → List Node → Type 0
HaveFormer U nodes = (R : Renaming) → IsAmong nodes R → HasFormer U R

-- ---- one renaming

cons_split : (x a : List Tuple) (rest : List (List Tuple)) → (b : List (List Tuple)) × (c : List (List Tuple)) × (rest ≡ b ++ (x ∷ c)) → (b : List (List Tuple)) × (c : List (List Tuple)) × (a ∷ rest ≡ b ++ (x ∷ c))
cons_split x a rest p = (a ∷ p.0, p.1, ap (λ r. a ∷ r) p.2)

-- x is one of these, or none
pub one_or_none : (x : List Tuple) (xs : List (List Tuple)) → IsNoneOf x xs ⊎ ((b : List (List Tuple)) × (c : List (List Tuple)) × (xs ≡ b ++ (x ∷ c)))
one_or_none x [] = inl tt
one_or_none x (a ∷ rest) = head (tri tuples x a) (one_or_none x rest)
  where
    later : (x ≡ a → ⊥) → IsNoneOf x rest ⊎ ((b : List (List Tuple)) × (c : List (List Tuple)) × (rest ≡ b ++ (x ∷ c))) → IsNoneOf x (a ∷ rest) ⊎ ((b : List (List Tuple)) × (c : List (List Tuple)) × (a ∷ rest ≡ b ++ (x ∷ c)))
    later n (inl h) = inl (n, h)
    later n (inr p) = inr (cons_split x a rest p)

    head : Lt tuples x a ⊎ (x ≡ a) ⊎ Lt tuples a x → IsNoneOf x rest ⊎ ((b : List (List Tuple)) × (c : List (List Tuple)) × (rest ≡ b ++ (x ∷ c))) → IsNoneOf x (a ∷ rest) ⊎ ((b : List (List Tuple)) × (c : List (List Tuple)) × (a ∷ rest ≡ b ++ (x ∷ c)))
    head (inl l) r = later (λ e. lt_irrefl (subst (λ t. Lt tuples t a) e l)) r
    head (inr (inl e)) r = inr ([], rest, ap (λ t. t ∷ rest) (sym e))
    head (inr (inr l)) r = later (λ e. lt_irrefl (subst (λ t. Lt tuples a t) e l)) r

pub forward_in : (U : ℕ → ℕ → ℤ → Type 0) (R : Renaming) (x : List Tuple) → IsFormer R.former → IsIdent x → IsCovered U R → HasLast U x → HasLast U (forward R x)
forward_in U R x h i c u = go (one_or_none x R.former)
  where
    go : IsNoneOf x R.former ⊎ ((b : List (List Tuple)) × (d : List (List Tuple)) × (R.former ≡ b ++ (x ∷ d))) → HasLast U (forward R x)
    go (inl n) = let e = (last_kept R x h i).0 n in subst (λ t. U (replica_of t) (seq_of t) (offset_of t)) (sym e) u
    go (inr p) =
        let e : forward R x ≡ new_at (new_spot R) (length p.0) = (meaning R p.0 x x p.1 x h i).0 p.2 in
        let m = ap length p.2 in
        let k = length-append p.0 (x ∷ p.1) in
        let l : length p.0 < length R.former = omega arith in
        subst (λ z. HasLast U z) (sym e) (c (length p.0) l)

none_new : (U : ℕ → ℕ → ℤ → Type 0) (R : Renaming) (x : List Tuple) → (HasLast U x → ⊥) → (i : ℕ) (rest : List (List Tuple)) → ((j : ℕ) → j < i + length rest → U R.replica R.seq (pos j)) → IsNoneOf x (new_from (new_spot R) i rest)
none_new U R x n i [] c = tt
none_new U R x n i (a ∷ rest) c =
    let l : i < i + length (a ∷ rest) = omega arith in
    ((λ e. n (subst (λ z. HasLast U z) (sym e) (c i l))), none_new U R x n (suc i) rest (λ j m. c j (omega arith)))

-- what is not in the set keeps its last tuple on the way back
pub back_new : (U : ℕ → ℕ → ℤ → Type 0) (R : Renaming) (x : List Tuple) → IsFormer R.former → IsIdent x → IsCovered U R → (HasLast U x → ⊥) → last_of (back R x) ≡ last_of x
back_new U R x h i c n = (last_kept R x h i).1 (none_new U R x n 0 R.former (λ j l. c j (omega arith)))

-- back from a new identifier to a former one, which is in the set, and else the last tuple is kept
pub back_in : (U : ℕ → ℕ → ℤ → Type 0) (R : Renaming) (x : List Tuple) → IsFormer R.former → IsIdent x → HasFormer U R → HasLast U x → HasLast U (back R x)
back_in U R x h i c u = go (one_or_none (back R x) R.former)
  where
    go : IsNoneOf (back R x) R.former ⊎ ((b : List (List Tuple)) × (d : List (List Tuple)) × (R.former ≡ b ++ (back R x ∷ d))) → HasLast U (back R x)
    go (inl n) =
        let m = renaming_iso R h in
        let e = sym ((last_kept R (back R x) h (m.onto x i)).0 n) ∙ ap last_of (m.back x i) in
        subst (λ t. U (replica_of t) (seq_of t) (offset_of t)) (sym e) u
    go (inr p) = c (back R x) (subst (IsIn (back R x)) (sym p.2) (in_right (back R x) p.0 (back R x ∷ p.1) (inl refl)))

-- ---- paths

pub up_new : (U : ℕ → ℕ → ℤ → Type 0) (nodes : List Node) → AreNodes nodes → AreCovered U nodes → (Rs : List Renaming) → AreAmong nodes Rs → (x : List Tuple) → IsIdent x → (HasLast U x → ⊥) →
    IsIdent (back_all Rs x) × (last_of (back_all Rs x) ≡ last_of x)
unfolding back_all
up_new U nodes n c [] a x i h = (i, refl)
up_new U nodes n c (R ∷ Rs) a x i h =
    let f = former_among nodes n R a.0 in
    let p = up_new U nodes n c Rs a.1 x i h in
    let new : HasLast U (back_all Rs x) → ⊥ = λ u. h (subst (λ t. U (replica_of t) (seq_of t) (offset_of t)) p.1 u) in
    ((renaming_iso R f).onto (back_all Rs x) p.0, back_new U R (back_all Rs x) f p.0 (c R a.0) new ∙ p.1)

pub down_in : (U : ℕ → ℕ → ℤ → Type 0) (nodes : List Node) → AreNodes nodes → AreCovered U nodes → (Rs : List Renaming) → AreAmong nodes Rs → (x : List Tuple) → IsIdent x → HasLast U x → HasLast U (forward_all Rs x)
unfolding forward_all
down_in U nodes n c [] a x i u = u
down_in U nodes n c (R ∷ Rs) a x i u =
    let f = former_among nodes n R a.0 in
    down_in U nodes n c Rs a.1 (forward R x) ((renaming_iso R f).into x i) (forward_in U R x f i (c R a.0) u)

-- an identifier that is new to U and in V is in V in every epoch
pub newborn_in : (U V : ℕ → ℕ → ℤ → Type 0) (nodes : List Node) (e f : EpochName) (x : List Tuple) → AreNodes nodes → AreCovered U nodes → AreCovered V nodes → IsIdent x → (HasLast U x → ⊥) → HasLast V x →
    HasLast V (translate nodes e f x)
newborn_in U V nodes e f x n c d i h u =
    let p = up_new U nodes n c (path nodes e) (path-among nodes e) x i h in
    let v = subst (λ t. V (replica_of t) (seq_of t) (offset_of t)) (sym p.1) u in
    subst (λ z. HasLast V z) (sym (translate_is nodes e f x n i)) (down_in V nodes n d (path nodes f) (path-among nodes f) (back_all (path nodes e) x) p.0 v)

up_in : (U : ℕ → ℕ → ℤ → Type 0) (nodes : List Node) → AreNodes nodes → HaveFormer U nodes → (Rs : List Renaming) → AreAmong nodes Rs → (x : List Tuple) → IsIdent x → HasLast U x → IsIdent (back_all Rs x) × HasLast U (back_all Rs x)
unfolding back_all
up_in U nodes n c [] a x i u = (i, u)
up_in U nodes n c (R ∷ Rs) a x i u =
    let f = former_among nodes n R a.0 in
    let p = up_in U nodes n c Rs a.1 x i u in
    ((renaming_iso R f).onto (back_all Rs x) p.0, back_in U R (back_all Rs x) f p.0 (c R a.0) p.1)

-- where a set holds the last tuples of all former and all new identifiers, what is in it in one epoch is in it in every epoch
pub stays_in : (U : ℕ → ℕ → ℤ → Type 0) (nodes : List Node) (e f : EpochName) (x : List Tuple) → AreNodes nodes → HaveFormer U nodes → AreCovered U nodes → IsIdent x → HasLast U x → HasLast U (translate nodes e f x)
stays_in U nodes e f x n c d i u =
    let p = up_in U nodes n c (path nodes e) (path-among nodes e) x i u in
    subst (λ z. HasLast U z) (sym (translate_is nodes e f x n i)) (down_in U nodes n d (path nodes f) (path-among nodes f) (back_all (path nodes e) x) p.0 p.1)
