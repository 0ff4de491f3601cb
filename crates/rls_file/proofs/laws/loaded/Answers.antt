use Rattle.rls_file.proofs.Loaded.{loaded_writable}
use Rattle.rls_file.proofs.laws.loaded.Goals as goal

pub returns : goal.returns
returns c = record { loaded = loaded_writable }
