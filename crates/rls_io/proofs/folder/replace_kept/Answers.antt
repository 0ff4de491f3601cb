use Rattle.std.proofs.Common.{[], ◌∷◌, ◌++◌, false, inl, is_ok, refl}
use Rattle.rls_io.specs.Calls.{Done}
use Rattle.rls_io.specs.Folder.{Rename, SyncFolder, fresh_steps}
use Rattle.rls_io.proofs.Runs.{runs_last, runs_not, runs_on}
use Rattle.rls_io.proofs.folder.replace_kept.Goals as goal

pub returns-in_err-rename : goal.returns-in_err-rename
returns-in_err-rename g c =
    let gives = g.C.FileCalls.gives in
    let rest = (Rename, Done) ∷ (SyncFolder, Done) ∷ [] in
    record {
      calls = runs_not gives _ (fresh_steps c.args.bytes.now ++ rest) c.from_residual-in_err-rename.result c.args.calls.now c.rename.new.self c.from_residual-in_err-rename.ensures.1
          (runs_on gives (fresh_steps c.args.bytes.now) rest false c.args.calls.now c.write_fresh.new.calls c.rename.new.self c.in_ok-write_fresh.ensures.calls (inl c.in_err-rename.ensures.gives));
    }

pub returns : goal.returns
returns g c =
    let gives = g.C.FileCalls.gives in
    record {
      calls = runs_on gives (fresh_steps c.args.bytes.now) ((Rename, Done) ∷ (SyncFolder, Done) ∷ []) (is_ok c.sync_folder.result) c.args.calls.now c.write_fresh.new.calls c.sync_folder.new.self c.in_ok-write_fresh.ensures.calls
          (runs_on gives ((Rename, Done) ∷ []) ((SyncFolder, Done) ∷ []) (is_ok c.sync_folder.result) c.write_fresh.new.calls c.rename.new.self c.sync_folder.new.self (c.rename.new.self, c.in_ok-rename.ensures.gives, refl) (runs_last gives SyncFolder c.sync_folder.result c.rename.new.self c.sync_folder.new.self c.sync_folder.ensures.gives));
    }
