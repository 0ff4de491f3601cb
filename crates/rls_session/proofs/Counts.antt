-- Counts in a line, one after another.
use Rattle.std.proofs.Common.{◌≡◌, ◌∙◌, ℕ, List, [], ◌∷◌, ◌++◌, append_assoc, Option, Some, None, refl, sym, ap}
use Rattle.rls_places.specs.Words.{parts_by}
use Rattle.rls_places.proofs.Pieces.{at_parts, no_parts}
use Rattle.rls_script.specs.Scripts.{is_space, parts_of}
use Rattle.rls_session.specs.Orders.{counts_of, counts_of_pieces, member_of, put_count}

-- these before the others, if those are there
abbrev pub after : List ℕ → Option (List ℕ) → Option (List ℕ)
after ns None = None
after ns (Some ms) = Some (ns ++ ms)

after_one : (ns : List ℕ) (n : ℕ) (o : Option (List ℕ)) → after ns (put_count (Some n) o) ≡ after (ns ++ n ∷ []) o
after_one ns n None = refl
after_one ns n (Some ms) = ap (λ x. Some x) (sym (append_assoc ns (n ∷ []) ms))

-- one more
pub goes_on : (ns : List ℕ) (bytes all : List ℕ) (x : List ℕ × List ℕ) (n : ℕ) → after ns (counts_of bytes) ≡ counts_of all → parts_of bytes ≡ Some x → member_of x.0 ≡ Some n → after (ns ++ n ∷ []) (counts_of x.1) ≡ counts_of all
goes_on ns bytes all x n h e is =
    sym (after_one ns n (counts_of x.1))
    ∙ (ap (λ o. after ns (put_count o (counts_of x.1))) (sym is) ∙ (ap (λ ps. after ns (counts_of_pieces ps)) (sym (at_parts is_space bytes x e).0) ∙ h))

-- none
pub is_bad : (ns : List ℕ) (bytes all : List ℕ) (x : List ℕ × List ℕ) → after ns (counts_of bytes) ≡ counts_of all → parts_of bytes ≡ Some x → member_of x.0 ≡ None → None ≡ counts_of all
is_bad ns bytes all x h e is = ap (λ o. after ns (put_count o (counts_of x.1))) (sym is) ∙ (ap (λ ps. after ns (counts_of_pieces ps)) (sym (at_parts is_space bytes x e).0) ∙ h)

-- the last one
pub ends : (ns : List ℕ) (bytes all : List ℕ) (n : ℕ) → after ns (counts_of bytes) ≡ counts_of all → parts_of bytes ≡ None → member_of bytes ≡ Some n → Some (ns ++ n ∷ []) ≡ counts_of all
ends ns bytes all n h e is = ap (λ o. after ns (put_count o (Some []))) (sym is) ∙ (ap (λ ps. after ns (counts_of_pieces ps)) (sym (no_parts is_space bytes e)) ∙ h)

pub ends_bad : (ns : List ℕ) (bytes all : List ℕ) → after ns (counts_of bytes) ≡ counts_of all → parts_of bytes ≡ None → member_of bytes ≡ None → None ≡ counts_of all
ends_bad ns bytes all h e is = ap (λ o. after ns (put_count o (Some []))) (sym is) ∙ (ap (λ ps. after ns (counts_of_pieces ps)) (sym (no_parts is_space bytes e)) ∙ h)

pub none_yet : (o : Option (List ℕ)) → after [] o ≡ o
none_yet None = refl
none_yet (Some ms) = refl
