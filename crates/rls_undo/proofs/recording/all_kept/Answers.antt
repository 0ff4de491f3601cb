use Rattle.std.proofs.Common.{◌≡◌, ◌∙◌, ◌+◌, drop, ap, sym, Some, Err}
use Rattle.rls_ident.proofs.Members.{some_is}
use Rattle.rls_replica.specs.declared.translating.PastError.TheVariants.{Dropped}
use Rattle.rls_undo.specs.Undoing.{dropped_or, first_dropped}
use Rattle.rls_undo.proofs.Keeping.{dropped_here}
use Rattle.rls_undo.proofs.recording.all_kept.Goals as goal

pub returns-then-not-keeps-clause-dropped : goal.returns-then-not-keeps-clause-dropped
returns-then-not-keeps-clause-dropped c = λ e.
    let q = sym c.entries.invariant ∙ (dropped_here c.args.replica.now c.args.entries.now c.entries.i c.epoch-epoch.result c.epoch-epoch.ensures.epoch ∙ ap (λ b. dropped_or b c.epoch-epoch.result (first_dropped c.args.replica.now (drop (c.entries.i + 1) c.args.entries.now))) (sym c.if-not-keeps.ensures.keeps)) in
    (λ h. let same : c.epoch-epoch.result ≡ e = cc in q ∙ ap (λ x. Some x) same, λ h. let same : c.epoch-epoch.result ≡ e = some_is c.epoch-epoch.result e (sym q ∙ h) in ap (λ x. Err (Dropped x)) same)

pub entries-preserved : goal.entries-preserved
entries-preserved c =
    sym (dropped_here c.args.replica.now c.args.entries.now c.entries.i c.epoch-epoch.result c.epoch-epoch.ensures.epoch ∙ ap (λ b. dropped_or b c.epoch-epoch.result (first_dropped c.args.replica.now (drop (c.entries.i + 1) c.args.entries.now))) (sym c.if-not-keeps.ensures.keeps))
    ∙ c.entries.invariant
