-- Identifiers with their last offset raised.
use Rattle.std.proofs.Common.{◌≡◌, true, List, [], ◌∷◌, refl, ap, arith, ◌∙◌}
use Rattle.std.specs.Prelude.{ℤ, pos, ◌+ℤ◌, ◌<ℤ◌}
use Rattle.std.specs.declared.cmp.Ordering.TheVariants.{Less}
use Rattle.std.specs.Ordering.{int_cmp}
use Rattle.std.proofs.lemmas.Cmp.{tied_itself, nat_cmp_total, int_ranked}
use Rattle.std.proofs.lemmas.Int.{ints}
use Rattle.rls_ident.specs.declared.tuple.Tuple.{Tuple}
use Rattle.rls_ident.specs.declared.tuple.Tuple.TheVariants.{Low, At, High}
use Rattle.rls_ident.specs.Tuples.{spot_cmp, tuple_cmp, raised, is_at, offset_of, replica_of, seq_of}
use Rattle.rls_ident.specs.Identifiers.{IsIdent, shifted, last_of}
use Rattle.rls_ident.proofs.Lists.{Lt, lt_cons}
use Rattle.rls_ident.proofs.Tuples.{tuples, int_less}

raised_raised : (j k : ℤ) (t : Tuple) → raised j (raised k t) ≡ raised (k +ℤ j) t
raised_raised j k Low = refl
raised_raised j k (At p r s o) = let e : (o +ℤ k) +ℤ j ≡ o +ℤ (k +ℤ j) = omega (arith, ints) in ap (At p r s) e
raised_raised j k High = refl

pub shifted_shifted : (j k : ℤ) (x : List Tuple) → shifted j (shifted k x) ≡ shifted (k +ℤ j) x
shifted_shifted j k [] = refl
shifted_shifted j k (t ∷ []) = ap (λ u. u ∷ []) (raised_raised j k t)
shifted_shifted j k (t ∷ (u ∷ [])) = ap (λ v. t ∷ v ∷ []) (raised_raised j k u)
shifted_shifted j k (t ∷ (u ∷ (v ∷ x))) = ap (λ y. t ∷ y) (shifted_shifted j k (u ∷ (v ∷ x)))

raised_none : (t : Tuple) → raised (pos 0) t ≡ t
raised_none Low = refl
raised_none (At p r s o) = let e : o +ℤ pos 0 ≡ o = omega (arith, ints) in ap (At p r s) e
raised_none High = refl

pub shifted_none : (x : List Tuple) → shifted (pos 0) x ≡ x
shifted_none [] = refl
shifted_none (t ∷ []) = ap (λ u. u ∷ []) (raised_none t)
shifted_none (t ∷ (u ∷ x)) = ap (λ y. t ∷ y) (shifted_none (u ∷ x))

raised_less : (j k : ℤ) (t : Tuple) → is_at t ≡ true → j <ℤ k → tuple_cmp (raised j t) (raised k t) ≡ Less
unfolding tuple_cmp spot_cmp
raised_less j k Low i h = absurd (cc)
raised_less j k (At p r s o) i h =
    let a = tied_itself nat_cmp_total p in
    let b = tied_itself nat_cmp_total r in
    let c = tied_itself nat_cmp_total s in
    let l : (o +ℤ j) <ℤ (o +ℤ k) = omega (arith, ints) in
    let d = int_less (o +ℤ j) (o +ℤ k) (int_cmp (o +ℤ j) (o +ℤ k)) (int_ranked (o +ℤ j) (o +ℤ k) (int_cmp (o +ℤ j) (o +ℤ k)) refl) l in
    simp (a, b, c) d
raised_less j k High i h = absurd (cc)

-- the more it is raised, the greater it is
pub shifted_less : (j k : ℤ) (x : List Tuple) → IsIdent x → j <ℤ k → Lt tuples (shifted j x) (shifted k x)
shifted_less j k [] i h = absurd (cc)
shifted_less j k (t ∷ []) i h = record { less = let e = raised_less j k t i h in rw e refl }
shifted_less j k (t ∷ (u ∷ x)) i h = lt_cons tuples t (shifted_less j k (u ∷ x) i h)

pub raised_at : (k : ℤ) (t : Tuple) → is_at t ≡ true → is_at (raised k t) ≡ true
raised_at k Low h = h
raised_at k (At p r s o) h = refl
raised_at k High h = h

-- it stays an identifier
pub ident_shifted : (k : ℤ) (x : List Tuple) → IsIdent x → IsIdent (shifted k x)
ident_shifted k [] h = h
ident_shifted k (t ∷ []) h = raised_at k t h
ident_shifted k (t ∷ (u ∷ [])) h = raised_at k u h
ident_shifted k (t ∷ (u ∷ (v ∷ x))) h = ident_shifted k (u ∷ (v ∷ x)) h

-- ---- the last tuple

pub raised_replica : (k : ℤ) (t : Tuple) → replica_of (raised k t) ≡ replica_of t
raised_replica k Low = refl
raised_replica k (At p r s o) = refl
raised_replica k High = refl

pub raised_seq : (k : ℤ) (t : Tuple) → seq_of (raised k t) ≡ seq_of t
raised_seq k Low = refl
raised_seq k (At p r s o) = refl
raised_seq k High = refl

pub raised_offset : (k : ℤ) (t : Tuple) → is_at t ≡ true → offset_of (raised k t) ≡ offset_of t +ℤ k
raised_offset k Low h = absurd (cc)
raised_offset k (At p r s o) h = refl
raised_offset k High h = absurd (cc)

pub last_shifted : (k : ℤ) (x : List Tuple) → last_of (shifted k x) ≡ raised k (last_of x)
last_shifted k [] = refl
last_shifted k (t ∷ []) = refl
last_shifted k (t ∷ (u ∷ [])) = refl
last_shifted k (t ∷ (u ∷ (v ∷ x))) = last_shifted k (u ∷ (v ∷ x))

pub last_at : (x : List Tuple) → IsIdent x → is_at (last_of x) ≡ true
last_at [] h = absurd (cc)
last_at (t ∷ []) h = h
last_at (t ∷ (u ∷ x)) h = last_at (u ∷ x) h

pub last_offset : (k : ℤ) (x : List Tuple) → IsIdent x → offset_of (last_of (shifted k x)) ≡ offset_of (last_of x) +ℤ k
last_offset k x i = ap offset_of (last_shifted k x) ∙ raised_offset k (last_of x) (last_at x i)
