-- The report of a replica's numbers is that of each history that it stands for.
use Rattle.std.proofs.Common.{◌≡◌, ◌∙◌, ap}
use Rattle.rls_model.specs.History.{group_of, me_of, members_of, count}
use Rattle.rls_model.specs.Receiving.{State}
use Rattle.rls_report.specs.Reports.{stat_text}
use Rattle.rls_report.specs.Stat.{stat_of, stat_over}
use Rattle.rls_seen.specs.Kept.{counts_over}
use Rattle.rls_seen.specs.Seen.{Seen, members, vector}
use Rattle.rls_seen.specs.Stands.{StandsFor}
use Rattle.rls_seen.proofs.Alike.{members_alike}
use Rattle.rls_seen.proofs.Keeping.{counts_alike}

pub stat_alike : (s : Seen) (t : State) → StandsFor s t → stat_over s ≡ stat_of t
stat_alike s t h =
    let H = t.history in
    ap (λ g. stat_text g s.acks.me (members s) (vector s) (counts_over s)) h.group
    ∙ (ap (λ me. stat_text (group_of H) me (members s) (vector s) (counts_over s)) h.me
    ∙ (ap (λ n. stat_text (group_of H) (me_of H) n (vector s) (counts_over s)) (members_alike s t h)
    ∙ (ap (λ v. stat_text (group_of H) (me_of H) (members_of H) v (counts_over s)) h.vector
    ∙ ap (stat_text (group_of H) (me_of H) (members_of H) (count H)) (counts_alike s t h))))
