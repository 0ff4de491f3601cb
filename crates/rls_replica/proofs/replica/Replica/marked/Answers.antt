use Rattle.std.proofs.Common.{◌≡◌, ◌∙◌, ◌+◌, ◌++◌, ◌∷◌, [], ℕ, true, false, List, map, Some, drop, sym, ap, subst, append_assoc}
use Rattle.std.specs.Prelude.{slice_get}
use Rattle.rls_ident.specs.declared.epoch_name.EpochName.{EpochName}
use Rattle.rls_ops.specs.declared.op.Op.{Op}
use Rattle.rls_ops.specs.Rows.{is_covered, missing_for}
use Rattle.rls_seen.specs.Seen.{Seen, stable_over}
use Rattle.rls_log.proofs.Uncovered.{covered_step, uncovered_step}
use Rattle.rls_replica.proofs.replica.Replica.marked.Goals as goal

pub loop-i-preserved-then-is_covered : goal.loop-i-preserved-then-is_covered
loop-i-preserved-then-is_covered c =
    let s = c.args.self.now in
    let h = c.head-head.ensures.head in
    let here = subst (λ (u : Seen). slice_get u.log c.loop-i.i ≡ Some h.0) c.self.view_is h.1 in
    let stable : c.stable.result.now ≡ stable_over s = c.stable.ensures.stable ∙ ap (λ (u : Seen). stable_over u) c.self.view_is in
    let below : is_covered c.stable.result.now h.0 ≡ true = sym (c.is_covered.ensures.covered h.0 h.2) ∙ c.if-is_covered.true in
    ap (λ (os : List Op). c.loop-i.names.items ++ map (λ (x : Op). x.epoch) os) (covered_step (stable_over s) s.log c.loop-i.i h.0 here (subst (λ (v : List ℕ). is_covered v h.0 ≡ true) stable below)) ∙ c.loop-i.invariant

pub loop-i-preserved : goal.loop-i-preserved
loop-i-preserved c =
    let s = c.args.self.now in
    let h = c.head-head.ensures.head in
    let here = subst (λ (u : Seen). slice_get u.log c.loop-i.i ≡ Some h.0) c.self.view_is h.1 in
    let stable : c.stable.result.now ≡ stable_over s = c.stable.ensures.stable ∙ ap (λ (u : Seen). stable_over u) c.self.view_is in
    let above : is_covered c.stable.result.now h.0 ≡ false = sym (c.is_covered.ensures.covered h.0 h.2) ∙ c.if-is_covered.false in
    let rest = map (λ (x : Op). x.epoch) (missing_for (stable_over s) (drop (c.loop-i.i + 1) s.log)) in
    ap (λ (es : List EpochName). es ++ rest) (c.in_ok-push.ensures.items ∙ ap (λ (e : EpochName). c.loop-i.names.items ++ e ∷ []) h.2.epoch)
    ∙ (append_assoc c.loop-i.names.items (h.0.epoch ∷ []) rest
    ∙ (ap (λ (os : List Op). c.loop-i.names.items ++ map (λ (x : Op). x.epoch) os) (uncovered_step (stable_over s) s.log c.loop-i.i h.0 here (subst (λ (v : List ℕ). is_covered v h.0 ≡ false) stable above)) ∙ c.loop-i.invariant))
