-- Which identifier an insertion begins with.
use Rattle.std.proofs.Common.{◌≡◌, ℕ, Bool, List, ap, ◌∙◌, Option, Some}
use Rattle.std.specs.Prelude.{pos, ◌+ℤ◌, ◌-ℤ◌, ◌≤ℤ◌}
use Rattle.rls_ident.specs.declared.tuple.Tuple.{Tuple}
use Rattle.rls_ident.specs.Identifiers.{last_of, shifted, least_offset, greatest_offset}
use Rattle.rls_ident.specs.Tuples.{offset_of}
use Rattle.rls_ident.proofs.Members.{int_test, int_le_test}
use Rattle.rls_model.specs.declared.parts.Stem.{Stem}
use Rattle.rls_model.specs.Editing.{ends_below, is_above, may_append, may_prepend}

-- where the stem ends at the left neighbour, with room for n more
pub appends : (o : Option Stem) (t : Stem) (left x : List Tuple) (right : Option (List Tuple)) (n : ℕ) (b : Bool) → Some t ≡ o → offset_of (last_of left) +ℤ pos 1 ≡ pos t.next
    → (offset_of (last_of left) +ℤ pos n) ≤ℤ greatest_offset → x ≡ shifted (pos n) left → b ≡ ends_below x right → b ≡ may_append o left right n
appends o t left x right n b e f l s k =
    let i = int_test (offset_of (last_of left) +ℤ pos 1) (pos t.next) f in
    let j = int_le_test (offset_of (last_of left) +ℤ pos n) greatest_offset l in
    rw (← e, i, j) (k ∙ ap (λ y. ends_below y right) s)

-- where the stem begins at the right neighbour, with room for n in front
pub prepends : (o : Option Stem) (t : Stem) (left : Option (List Tuple)) (right x : List Tuple) (n : ℕ) (b : Bool) → Some t ≡ o → offset_of (last_of right) ≡ t.low
    → least_offset ≤ℤ (offset_of (last_of right) -ℤ pos n) → x ≡ shifted (pos 0 -ℤ pos n) right → b ≡ is_above left x → b ≡ may_prepend o left right n
prepends o t left right x n b e f l s k =
    let i = int_test (offset_of (last_of right)) t.low f in
    let j = int_le_test least_offset (offset_of (last_of right) -ℤ pos n) l in
    rw (← e, i, j) (k ∙ ap (λ y. is_above left y) s)
