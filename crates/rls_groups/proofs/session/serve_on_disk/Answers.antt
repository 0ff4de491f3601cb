use Rattle.std.proofs.Common.{◌≡◌}
use Rattle.rls_journal.specs.Keeper.{disk_of, file_told}
use Rattle.rls_session.specs.Due.{due}
use Rattle.rls_groups.proofs.SessionsOnDisk.{last_kept, rests_after, stores_survived}
use Rattle.rls_groups.proofs.session.serve_on_disk.Goals as goal

pub returns-clause-any_moment : goal.returns-clause-any_moment
returns-clause-any_moment g c =
    let e = c.serve.ensures.ends in
    stores_survived g.D.Disk.retries g.D.Disk.seen g.D.Disk.may_leave g.D.Disk.moment g.D.Disk.left_since g.met.D.Disk.only_now g.D.Disk.answers disk_of e.stores ((c.serve.new.input ≡ c.args.input.now) × (c.serve.new.output ≡ c.args.output.now)) c.serve.result c.args.keeper.now c.serve.new.keeper
    (due (file_told g.D.Disk.seen c.args.keeper.now) (g.S.Source.left c.args.input.now)) e.calls e.files

pub returns-clause-stored : goal.returns-clause-stored
returns-clause-stored g c = λ zero.
    let e = c.serve.ensures.ends in
    last_kept g.D.Disk.retries g.D.Disk.seen g.D.Disk.may_leave g.D.Disk.moment g.D.Disk.left_since g.met.D.Disk.only_now g.D.Disk.answers disk_of e.stores ((c.serve.new.input ≡ c.args.input.now) × (c.serve.new.output ≡ c.args.output.now)) c.serve.result c.args.keeper.now c.serve.new.keeper
    (due (file_told g.D.Disk.seen c.args.keeper.now) (g.S.Source.left c.args.input.now)) e.calls (e.some zero) (e.all zero) zero

pub returns-clause-rest : goal.returns-clause-rest
returns-clause-rest g c =
    let e = c.serve.ensures.ends in
    rests_after g.D.Disk.retries g.D.Disk.seen g.D.Disk.may_leave g.D.Disk.moment g.D.Disk.left_since g.met.D.Disk.only_now g.D.Disk.answers disk_of e.stores ((c.serve.new.input ≡ c.args.input.now) × (c.serve.new.output ≡ c.args.output.now)) c.serve.result c.args.keeper.now c.serve.new.keeper e.calls
