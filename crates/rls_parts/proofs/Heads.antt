-- Rule 5 of an operation, by its head and its context.
use Rattle.std.proofs.Common.{◌≡◌, ◌∙◌, ℕ, ◌+◌, true, not, ◌&&◌, ◌||◌, ◌==◌, nat_lt, slice_index, List, length, Option, Some, None, refl, sym, ap, subst}
use Rattle.rls_ident.specs.Vectors.{at_most}
use Rattle.rls_ident.proofs.Members.{and_left, and_right, and_true, eq_is, eq_test, lt_test, same_bool}
use Rattle.rls_ops.specs.declared.op.Op.{Op}
use Rattle.rls_ops.specs.declared.op.Body.{Body}
use Rattle.rls_ops.specs.declared.op.Body.TheVariants.{Insert, Delete, Rename, Leave}
use Rattle.rls_ops.specs.declared.op.Shape.{Shape}
use Rattle.rls_ops.specs.Shapes.{shape_fault}
use Rattle.rls_ops.proofs.Shaped.{shaped}
use Rattle.rls_log.specs.declared.head.OpHead.{OpHead}
use Rattle.rls_log.specs.Heads.{kind_in, is_shaped, IsHeadOf}
use Rattle.rls_model.specs.declared.parts.Parts.{Parts}
use Rattle.rls_model.specs.History.{is_leave}
use Rattle.rls_parts.specs.Reading.{has_member}
use Rattle.rls_parts.specs.Rules.{is_fine, is_kept_name, is_next}
use Rattle.rls_parts.specs.Tested.{is_leaving, is_head_next}

none_of : (x : Option Shape) → is_fine x ≡ true → x ≡ None
none_of None e = refl
none_of (Some y) e = absurd cc

-- an operation has the right shape where its author is a member, its context counts all, and it has the right shape among as many
shape_head : (n : ℕ) (o : Op) → (nat_lt o.author n && (length o.context == n) && is_shaped o) ≡ is_fine (shape_fault n o)
shape_head n o = same_bool (nat_lt o.author n && (length o.context == n) && is_shaped o) (is_fine (shape_fault n o)) to from
  where
    to : (nat_lt o.author n && (length o.context == n) && is_shaped o) ≡ true → is_fine (shape_fault n o) ≡ true
    to e =
        let a = and_left (nat_lt o.author n && (length o.context == n)) (is_shaped o) e in
        let m = eq_is (length o.context) n (and_right (nat_lt o.author n) (length o.context == n) a) in
        subst (λ k. is_fine (shape_fault k o) ≡ true) m (and_right (nat_lt o.author n && (length o.context == n)) (is_shaped o) e)

    from : is_fine (shape_fault n o) ≡ true → (nat_lt o.author n && (length o.context == n) && is_shaped o) ≡ true
    from e =
        let s = shaped n o (none_of (shape_fault n o) e) in
        and_true (nat_lt o.author n && (length o.context == n)) (is_shaped o) (and_true (nat_lt o.author n) (length o.context == n) (lt_test o.author n s.author) (eq_test (length o.context) n s.context)) (subst (λ k. is_fine (shape_fault k o) ≡ true) (sym s.context) e)

leaving : (b : Body) → is_leaving (kind_in b) ≡ is_leave b
leaving (Insert x cs) = refl
leaving (Delete xs) = refl
leaving (Rename xs) = refl
leaving Leave = refl

pub head_next : (p : Parts) (v : List ℕ) (h : OpHead) (o : Op) → IsHeadOf h o → is_head_next p v h o.context ≡ is_next p v o
head_next p v h o k =
    rw (k.author, k.seq, k.epoch, k.members, k.kind, k.shaped)
    (ap (λ b. b && (o.seq == slice_index v o.author + 1) && at_most o.context v && is_kept_name p o.epoch && (not (is_leaving (kind_in o.body)) || (has_member p.left o.author && (o.seq == slice_index p.vector o.author)))) (shape_head p.members o)
    ∙ ap (λ b. is_fine (shape_fault p.members o) && (o.seq == slice_index v o.author + 1) && at_most o.context v && is_kept_name p o.epoch && (not b || (has_member p.left o.author && (o.seq == slice_index p.vector o.author)))) (leaving o.body))
