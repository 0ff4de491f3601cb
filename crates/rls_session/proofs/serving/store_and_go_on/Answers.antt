use Rattle.std.proofs.Common.{subst, sym}
use Rattle.rls_seen.specs.Seen.{Seen}
use Rattle.rls_seen.specs.Kept.{dropped}
use Rattle.rls_session.specs.Answers.{Sitting}
use Rattle.rls_undo.specs.Undoing.{last_entries}
use Rattle.rls_session.specs.declared.desk.TheConstants.{KEPT_ENTRIES}
use Rattle.rls_session.specs.Desks.{IsWhole}
use Rattle.rls_file.specs.Stored.{AreWritable}
use Rattle.rls_file.proofs.Files.{dropped_writable}
use Rattle.rls_session.proofs.Resumed.{whole_left}
use Rattle.rls_session.proofs.serving.store_and_go_on.Goals as goal

pub drop_stable-requires : goal.drop_stable-requires
drop_stable-requires g c =
    let d = c.args.desk.now in
    record { lasts = subst (λ (x : Sitting Seen). IsWhole (dropped x.state) x.entries x.cursors) (sym c.in_default.ensures.settled) (whole_left d.state (last_entries KEPT_ENTRIES d.entries) d.cursors c.in_default.ensures.sane) }

pub returns-in-Ok-clause-writable : goal.returns-in-Ok-clause-writable
returns-in-Ok-clause-writable g c =
    subst (λ (x : Sitting Seen). AreWritable x.state) (sym c.drop_stable.ensures.dropped)
    (subst (λ (x : Seen). AreWritable (dropped x)) (sym c.in_default.ensures.state) (dropped_writable c.args.desk.now.state c.requires.writable))
