-- The stable vector of rows, and that no step lowers it.
use Rattle.std.proofs.Common.{◌≡◌, ℕ, zero, suc, ◌<◌, ◌==◌, ◌&&◌, ◌||◌, not, Bool, true, false, cond, List, [], ◌∷◌, length, get_or, set, refl, sym, ap, ◌∙◌, subst, arith, inl, if◌then◌else◌}
use Rattle.std.proofs.lemmas.List.{get_or-set_same, get_or-set_other}
use Rattle.rls_ident.specs.Lists.{IsIn}
use Rattle.rls_ident.specs.Vectors.{at_most, join, raise}
use Rattle.rls_ident.proofs.Members.{bool_cases, eq_is, eq_not, in_left, in_right}
use Rattle.rls_ident.proofs.Vectors.{length-raise, at_most_refl, at_most_trans, at_most-join, at_most-raise}
use Rattle.rls_ops.specs.declared.op.Body.{Body}
use Rattle.rls_ops.specs.Rows.{AcksSeen, AreRows, row_of, left, awaits, awaited, stable_of, noted}
use Rattle.rls_model.specs.History.{is_leave}
use Rattle.rls_model.proofs.Stable.{at_most-least_of, least_of-each, IsBelow, least_greatest, below_append}
use Rattle.rls_seen.specs.Over.{acks_after}
use Rattle.rls_seen.proofs.Accepting.{acks_me, acks_mine, left_after, row_after}
use Rattle.rls_ops.proofs.KeptRows.{row_length}

-- ---- the stable vector

-- it is at most the own row
pub stable_mine : (acks : AcksSeen) → at_most (stable_of acks) acks.mine ≡ true
unfolding stable_of
stable_mine acks = at_most-least_of acks.mine (awaited acks (length acks.mine))

awaited_in : (acks : AcksSeen) (n a : ℕ) → a < n → awaits acks a ≡ true → IsIn (row_of acks a) (awaited acks n)
awaited_in acks zero a l h = absurd (omega arith)
awaited_in acks (suc n) a l h =
    bool_cases (a == n)
    (λ e. let f = eq_is a n e in
    in_right (row_of acks a) (awaited acks n) (if awaits acks n then row_of acks n ∷ [] else [])
    (subst (λ m. IsIn (row_of acks a) (if awaits acks m then row_of acks m ∷ [] else [])) f (subst (λ b. IsIn (row_of acks a) (if b then row_of acks a ∷ [] else [])) (sym h) (inl refl))))
    (λ e. let f = eq_not a n e in let m : a < n = omega arith in in_left (row_of acks a) (awaited acks n) (if awaits acks n then row_of acks n ∷ [] else []) (awaited_in acks n a m h))

-- and at most each awaited row
pub stable_row : (acks : AcksSeen) (a : ℕ) → a < length acks.mine → awaits acks a ≡ true → at_most (stable_of acks) (row_of acks a) ≡ true
unfolding stable_of
stable_row acks a l h = least_of-each acks.mine (row_of acks a) (awaited acks (length acks.mine)) (awaited_in acks (length acks.mine) a l h)

below_awaited : (u : List ℕ) (acks : AcksSeen) (n : ℕ) → ((a : ℕ) → a < n → awaits acks a ≡ true → at_most u (row_of acks a) ≡ true) → IsBelow u (awaited acks n)
below_awaited u acks zero f = tt
below_awaited u acks (suc n) f =
    below_append u (awaited acks n) (if awaits acks n then row_of acks n ∷ [] else []) (below_awaited u acks n (λ a l h. f a (omega arith) h)) (go (awaits acks n) refl)
  where
    go : (b : Bool) → awaits acks n ≡ b → IsBelow u (cond b (row_of acks n ∷ []) [])
    go true e = (f n (omega arith) e, tt)
    go false e = tt

-- it is the greatest such
pub stable_most : (u : List ℕ) (acks : AcksSeen) → at_most u acks.mine ≡ true → ((a : ℕ) → a < length acks.mine → awaits acks a ≡ true → at_most u (row_of acks a) ≡ true) → at_most u (stable_of acks) ≡ true
unfolding stable_of
stable_most u acks h f = least_greatest u acks.mine (awaited acks (length acks.mine)) h (below_awaited u acks (length acks.mine) f)

-- ---- no step lowers it

was_awaited : (x y z : Bool) → y ≡ (z || y) → (x || not y) ≡ true → (x || not z) ≡ true
was_awaited true y z e h = refl
was_awaited false true z e h = absurd (cc)
was_awaited false false true e h = absurd (cc)
was_awaited false false false e h = refl

or_again : (b c d : Bool) → b ≡ (c || d) → b ≡ (c || b)
or_again b true d e = e
or_again b false d e = refl

row_grows : (b : Bool) (mine x : List ℕ) (a : ℕ) → at_most (cond b mine x) (cond b (raise mine a) x) ≡ true
row_grows true mine x a = at_most-raise mine a
row_grows false mine x a = at_most_refl x

-- an operation is accepted
pub stable_accepted : (acks : AcksSeen) (a : ℕ) (b : Body) → AreRows acks → a < length acks.mine → at_most (stable_of acks) (stable_of (acks_after acks a b)) ≡ true
stable_accepted acks a b h l =
    let new = acks_after acks a b in
    let m = acks_mine acks a b in
    stable_most (stable_of acks) new
    (ap (at_most (stable_of acks)) m ∙ at_most_trans (stable_of acks) acks.mine (raise acks.mine a) (stable_mine acks) (at_most-raise acks.mine a))
    (λ c k w.
    let e : left new c ≡ (left acks c || ((a == c) && is_leave b)) = left_after acks a b c (let x = h.marks in omega arith) in
    let v : ((c == acks.me) || not (left new c)) ≡ true = ap (λ me. (c == me) || not (left new c)) (sym (acks_me acks a b)) ∙ w in
    let q : awaits acks c ≡ true = was_awaited (c == acks.me) (left new c) (left acks c) (or_again (left new c) (left acks c) ((a == c) && is_leave b) e) v in
    let n : c < length acks.mine = let x = ap length m in let y : length (raise acks.mine a) ≡ length acks.mine = length-raise acks.mine a in omega arith in
    at_most_trans (stable_of acks) (row_of acks c) (row_of new c) (stable_row acks c n q)
    (ap (at_most (row_of acks c)) (row_after acks a b c) ∙ row_grows (c == acks.me) acks.mine (get_or acks.others c []) a))

-- an acknowledgement is noted
pub stable_noted : (acks : AcksSeen) (a : ℕ) (v : List ℕ) → AreRows acks → a < length acks.mine → length v ≡ length acks.mine → at_most (stable_of acks) (stable_of (noted acks a v)) ≡ true
stable_noted acks a v h l e =
    stable_most (stable_of acks) (noted acks a v) (stable_mine acks)
    (λ c k w. at_most_trans (stable_of acks) (row_of acks c) (row_of (noted acks a v) c) (stable_row acks c k w) (grows c))
  where
    new : List ℕ
    new = join (get_or acks.others a []) v

    go : (b : Bool) (x y : List ℕ) → at_most x y ≡ true → at_most (cond b acks.mine x) (cond b acks.mine y) ≡ true
    go true x y k = at_most_refl acks.mine
    go false x y k = k

    grows : (c : ℕ) → at_most (row_of acks c) (row_of (noted acks a v) c) ≡ true
    grows c =
        let q : a < length acks.others = let x = h.rows in omega arith in
        let g : length (get_or acks.others a []) ≡ length acks.mine = row_length (length acks.mine) acks.others a [] h.counts_are q in
        go (c == acks.me) (get_or acks.others c []) (get_or (set acks.others a new) c [])
        (bool_cases (c == a)
        (λ f. let p : a ≡ c = sym (eq_is c a f) in
        subst (λ d. at_most (get_or acks.others d []) (get_or (set acks.others a new) d []) ≡ true) p
        (ap (at_most (get_or acks.others a [])) (get_or-set_same acks.others a new [] q) ∙ at_most-join (get_or acks.others a []) v (omega arith)))
        (λ f. ap (at_most (get_or acks.others c [])) (get_or-set_other acks.others a c new [] (eq_not c a f)) ∙ at_most_refl (get_or acks.others c [])))
