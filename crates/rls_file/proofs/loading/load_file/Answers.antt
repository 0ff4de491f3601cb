use Rattle.rls_file.proofs.Loaded.{loads_bytes}
use Rattle.rls_file.proofs.loading.load_file.Goals as goal

pub returns : goal.returns
returns c = record { loads = loads_bytes _ _ c.load_bytes.ensures.bytes c.load_bytes.ensures.loads }
