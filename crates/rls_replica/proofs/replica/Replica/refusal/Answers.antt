use Rattle.std.proofs.Common.{◌≡◌, ◌∙◌, true, sym, subst, ap}
use Rattle.rls_ident.proofs.Named.{name_eq_is}
use Rattle.rls_rename.specs.Tree.{is_kept}
use Rattle.rls_rename.proofs.Kept.{greatest_within_kept}
use Rattle.rls_seen.specs.Seen.{Seen}
use Rattle.rls_replica.proofs.replica.Replica.refusal.Goals as goal

pub body_refusal-requires : goal.body_refusal-requires
body_refusal-requires c =
    let E = c.self.inside.epochs.epochs in
    let o = c.args.op.now in
    let due = name_eq_is o.epoch c.greatest_in-due.result (sym c.same.ensures.same ∙ c.if-not-same.false) in
    let kept : is_kept E.top E.nodes o.epoch ≡ true = ap (is_kept E.top E.nodes) (due ∙ c.greatest_in-due.ensures.greatest) ∙ greatest_within_kept E.top E.nodes o.context in
    record { kept = subst (λ (s : Seen). is_kept s.epochs.top s.epochs.nodes o.epoch ≡ true) c.self.view_is kept }
