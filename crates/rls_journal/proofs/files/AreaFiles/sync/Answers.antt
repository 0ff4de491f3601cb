use Rattle.rls_journal.specs.Calls.{Sync}
use Rattle.rls_journal.proofs.Called.{did_done, did_not_open, sync_both, sync_fails}
use Rattle.rls_journal.proofs.files.AreaFiles.sync.Goals as goal

pub returns-in_err-found : goal.returns-in_err-found
returns-in_err-found g c =
    let gives = g.C.AreaCalls.gives in
    record { did = did_done gives _ c.from_residual.result (Sync c.args.area) c.args.self.now c.open.new.self c.from_residual.ensures.1 (did_not_open gives (Sync c.args.area) c.args.self.now c.open.new.self c.in_err-found.ensures.opens) }

pub returns-in_err-sync_file : goal.returns-in_err-sync_file
returns-in_err-sync_file g c =
    let gives = g.C.AreaCalls.gives in
    record {
      did = did_done gives _ c.from_residual-in_err-sync_file.result (Sync c.args.area) c.args.self.now c.sync_file.new.self c.from_residual-in_err-sync_file.ensures.1
          (sync_fails gives c.in_ok-found.found c.args.self.now c.open.new.self c.in_ok-found.ensures.opens c.args.area c.sync_file.new.self c.in_err-sync_file.ensures.syncs);
    }

pub returns : goal.returns
returns g c = record { did = sync_both g.C.AreaCalls.gives c.in_ok-found.found c.args.self.now c.open.new.self c.in_ok-found.ensures.opens c.args.area c.sync_folder.result c.sync_file.new.self c.sync_folder.new.self c.in_ok-sync_file.ensures.syncs c.sync_folder.ensures.syncs }
