use Rattle.std.proofs.Common.{inl, inr}
use Rattle.rls_io.specs.Folder.{OpenFile}
use Rattle.rls_io.proofs.Runs.{loads_not, was_opened}
use Rattle.rls_io.proofs.folder.read_kept.Goals as goal

pub returns-in_err-bytes-clause-calls : goal.returns-in_err-bytes-clause-calls
returns-in_err-bytes-clause-calls g c =
    let gives = g.C.FileCalls.gives in
    let here = was_opened gives OpenFile c.open.result c.in_ok-file.field-0 c.in-Some.file c.sync_folder.new.self c.open.new.self c.in_ok-file.was c.in-Some.is c.open.ensures.gives in
    loads_not _ gives c.saturating_add.result c.from_residual-in_err-bytes.result c.args.calls.now c.read.new.self c.from_residual-in_err-bytes.ensures.1
    (inr (c.sync_folder.new.self, c.in_ok-sync_folder.ensures.gives, inr (c.open.new.self, here, inl c.in_err-bytes.ensures.gives)))
