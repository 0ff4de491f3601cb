use Rattle.std.proofs.Common.{◌≡◌, map, string_bytes}
use Rattle.rls_journal.specs.Keeper.{disk_of, file_told}
use Rattle.rls_top.specs.Calls.{IsDueOf}
use Rattle.rls_top.specs.Due.{calls_keeper, due, may_store}
use Rattle.rls_top.specs.Endings.{IsStored}
use Rattle.rls_top.specs.Words.{command_of}
use Rattle.rls_groups.proofs.Survived.{kept_due, rests_again, survived}
use Rattle.rls_groups.proofs.Stored.{stored_apart}
use Rattle.rls_groups.proofs.command.run_on_disk.Goals as goal

pub returns-clause-any_moment : goal.returns-clause-any_moment
returns-clause-any_moment g c =
    survived g.D.Disk.retries g.D.Disk.seen g.D.Disk.may_leave g.D.Disk.moment g.D.Disk.left_since g.met.D.Disk.only_now g.D.Disk.answers disk_of (calls_keeper (command_of (map string_bytes c.args.words.now))) (may_store (command_of (map string_bytes c.args.words.now)))
    (IsDueOf (due (map string_bytes c.args.words.now) (file_told g.D.Disk.seen c.args.keeper.now) (g.S.Source.left c.args.input.now))) IsStored IsStored (c.run.new.input ≡ c.args.input.now) c.run.result c.args.keeper.now c.run.new.keeper c.run.ensures.ends.calls

pub returns-clause-stored : goal.returns-clause-stored
returns-clause-stored g c =
    kept_due g.D.Disk.retries g.D.Disk.seen g.D.Disk.may_leave g.D.Disk.moment g.D.Disk.left_since g.met.D.Disk.only_now g.D.Disk.answers disk_of (calls_keeper (command_of (map string_bytes c.args.words.now))) (may_store (command_of (map string_bytes c.args.words.now)))
    (IsDueOf (due (map string_bytes c.args.words.now) (file_told g.D.Disk.seen c.args.keeper.now) (g.S.Source.left c.args.input.now))) IsStored IsStored (c.run.new.input ≡ c.args.input.now) c.run.result c.args.keeper.now c.run.new.keeper c.run.ensures.ends.calls (stored_apart c.run.result)

pub returns-clause-rest : goal.returns-clause-rest
returns-clause-rest g c =
    rests_again g.D.Disk.retries g.D.Disk.seen g.D.Disk.may_leave g.D.Disk.moment g.D.Disk.left_since g.met.D.Disk.only_now g.D.Disk.answers disk_of (calls_keeper (command_of (map string_bytes c.args.words.now))) (may_store (command_of (map string_bytes c.args.words.now)))
    (IsDueOf (due (map string_bytes c.args.words.now) (file_told g.D.Disk.seen c.args.keeper.now) (g.S.Source.left c.args.input.now))) IsStored IsStored (c.run.new.input ≡ c.args.input.now) c.run.result c.args.keeper.now c.run.new.keeper c.run.ensures.ends.calls
