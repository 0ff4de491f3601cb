use Rattle.std.proofs.Common.{◌∙◌}
use Rattle.rls_changes.proofs.Calls.{if_ok}
use Rattle.rls_changes.proofs.Told.{message_told, told_leads}
use Rattle.rls_changes.proofs.bytes.take_bytes.Goals as goal

pub returns-clause-taken : goal.returns-clause-taken
returns-clause-taken c =
    if_ok c.take_bytes_watched-taken.result _ _ _
    (λ taken p q. (p.0, p.1, p.2, p.3, p.4, message_told c.args.replica.now p.0 _ c.args.changes.now.items _ c.after-telling.ensures.changes (q p.0 p.1)))
    c.take_bytes_watched-taken.ensures.taken c.take_bytes_watched-taken.ensures.told

pub returns-clause-malformed : goal.returns-clause-malformed
returns-clause-malformed c = λ at h.
    let e = c.take_bytes_watched-taken.ensures.malformed at h in
    (e.0, e.1, c.take_bytes_watched-taken.ensures.untold at h ∙ c.after-telling.ensures.changes)

pub returns-clause-other_group : goal.returns-clause-other_group
returns-clause-other_group c = λ g n h.
    let e = c.take_bytes_watched-taken.ensures.other_group g n h in
    (e.0, e.1, e.2, e.3, e.4, e.5, c.take_bytes_watched-taken.ensures.untold_foreign g n h ∙ c.after-telling.ensures.changes)

pub returns-clause-lead : goal.returns-clause-lead
returns-clause-lead c = told_leads _ _ _ _ _ c.after-telling.ensures.changes c.take_bytes_watched-taken.ensures.steps
