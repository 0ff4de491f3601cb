-- The unstable operations of a sane replica pass their rules.
use Rattle.std.proofs.Common.{◌≡◌, ℕ, suc, ◌+◌, ◌<◌, ◌==◌, ◌&&◌, not, slice_index, true, List, [], ◌∷◌, refl, sym, ap, ◌∙◌, subst, inl, inr, Some, None, if◌then◌else◌}
use Rattle.rls_ident.specs.Lists.{IsIn}
use Rattle.rls_ident.specs.Vectors.{at_most, raise}
use Rattle.rls_ident.proofs.Members.{and_true, bool_cases, eq_test, or_left, or_right}
use Rattle.rls_ops.specs.declared.op.Op.{Op}
use Rattle.rls_ops.specs.Shapes.{shape_fault}
use Rattle.rls_model.specs.declared.parts.Parts.{Parts}
use Rattle.rls_model.specs.History.{is_leave}
use Rattle.rls_model.proofs.OneTree.{author_below}
use Rattle.rls_seen.specs.Sane.{Follow, IsLast}
use Rattle.rls_ops.specs.Rows.{AcksSeen, left}
use Rattle.rls_parts.specs.Reading.{has_member}
use Rattle.rls_parts.specs.Rules.{is_fine, log_fault, is_next, is_kept_name, is_last, raised_by}

-- each operation comes next
pub log_passes : (p : Parts) (v : List ℕ) (i : ℕ) (os : List Op) (to : List ℕ) → Follow p.members v os to → ((o : Op) → IsIn o os → is_kept_name p o.epoch ≡ true) → ((o : Op) → IsIn o os → is_last p o ≡ true) → log_fault p v i os ≡ None
log_passes p v i [] to f k l = refl
log_passes p v i (o ∷ os) to f k l =
    let a = is_fine (shape_fault p.members o) in
    let b = o.seq == slice_index v o.author + 1 in
    let c = at_most o.context v in
    let d = is_kept_name p o.epoch in
    let e = is_last p o in
    let t : is_next p v o ≡ true =
    and_true (a && b && c && d) e
    (and_true (a && b && c) d
    (and_true (a && b) c (and_true a b (ap is_fine f.1) (eq_test o.seq (slice_index v o.author + 1) f.2)) f.3) (k o (inl refl))) (l o (inl refl)) in
    ap (λ x. if x then log_fault p (raise v o.author) (suc i) os else Some i) t
    ∙ log_passes p (raise v o.author) (suc i) os to f.4 (λ x q. k x (inr q)) (λ x q. l x (inr q))

-- and they lead there
pub log_ends : (n : ℕ) (v : List ℕ) (os : List Op) (to : List ℕ) → Follow n v os to → raised_by v os ≡ to
log_ends n v [] to f = f
log_ends n v (o ∷ os) to f = log_ends n (raise v o.author) os to f.4

-- the authors are members
pub authors_below : (n : ℕ) (v : List ℕ) (os : List Op) (to : List ℕ) → Follow n v os to → (o : Op) → IsIn o os → o.author < n
authors_below n v [] to f o q = absurd q
authors_below n v (x ∷ os) to f o (inl e) = subst (λ (y : Op). y.author < n) e (author_below n x f.1)
authors_below n v (x ∷ os) to f o (inr q) = authors_below n (raise v x.author) os to f.4 o q

-- a leave is its author's last
pub last_passes : (p : Parts) (acks : AcksSeen) (o : Op) → p.vector ≡ acks.mine → (has_member p.left o.author ≡ left acks o.author) → (is_leave o.body ≡ true → IsLast acks o) → is_last p o ≡ true
last_passes p acks o v m h =
    let b = has_member p.left o.author && (o.seq == slice_index p.vector o.author) in
    bool_cases (is_leave o.body)
    (λ e. let w = h e in
    or_right (not (is_leave o.body)) b
    (and_true (has_member p.left o.author) (o.seq == slice_index p.vector o.author) (m ∙ w.left)
    (eq_test o.seq (slice_index p.vector o.author) (w.last ∙ ap (λ u. slice_index u o.author) (sym v)))))
    (λ e. or_left (not (is_leave o.body)) b (ap not e))
