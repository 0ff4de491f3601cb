-- The least of the awaited rows, row by row.
use Rattle.std.proofs.Common.{◌≡◌, ℕ, ◌+◌, true, List, [], ◌∷◌, ◌++◌, refl, add-one}
use Rattle.rls_ident.specs.Vectors.{meet}
use Rattle.rls_ops.specs.Rows.{AcksSeen, row_of, awaits, awaited, least_of}

pub least_of-append : (v : List ℕ) (ws us : List (List ℕ)) → least_of v (ws ++ us) ≡ least_of (least_of v ws) us
least_of-append v [] us = refl
least_of-append v (w ∷ ws) us = least_of-append (meet v w) ws us

-- one more member's row
pub awaits_row : (acks : AcksSeen) (v : List ℕ) (a : ℕ) (w : List ℕ) → awaits acks a ≡ true → w ≡ row_of acks a → meet (least_of v (awaited acks a)) w ≡ least_of v (awaited acks (a + 1))
awaits_row acks v a w e f = rw (add-one, e, f, least_of-append v (awaited acks a) (row_of acks a ∷ [])) refl
