use Rattle.rls_journal.specs.Keeper.{StoreGives}
use Rattle.rls_groups.proofs.Runs.{stops_leave}
use Rattle.rls_groups.proofs.StoppedStores.{stopped_stores}
use Rattle.rls_groups.proofs.laws.stops_are_events.Goals as goal

pub returns : goal.returns
returns g c =
    let stores_so = StoreGives g.D.Disk.retries g.D.Disk.seen g.D.Disk.may_leave g.D.Disk.moment g.D.Disk.left_since in
    record { stops = stops_leave g.D.Disk.moment g.D.Disk.left_since stores_so; stores = stopped_stores g.D.Disk.moment g.D.Disk.left_since stores_so }
