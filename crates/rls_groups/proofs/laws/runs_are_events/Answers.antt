use Rattle.rls_io.specs.Device.{LoadsWith}
use Rattle.rls_groups.proofs.Runs.{commands_leave, sessions_leave}
use Rattle.rls_groups.proofs.Stores.{stores_leave}
use Rattle.rls_groups.proofs.laws.runs_are_events.Goals as goal

pub returns : goal.returns
returns g c = record { commands = commands_leave g.K.Keeper.file g.K.Keeper.faults (LoadsWith g.K.Keeper.load_gives) g.K.Keeper.store_gives g.S.Source.left g.S.Source.faults g.W.Sink.told g.W.Sink.faults; sessions = sessions_leave _ _ (LoadsWith g.K.Keeper.load_gives) g.K.Keeper.store_gives; stores = stores_leave _ _ (LoadsWith g.K.Keeper.load_gives) g.K.Keeper.store_gives }
