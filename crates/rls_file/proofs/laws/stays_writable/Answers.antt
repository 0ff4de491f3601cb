use Rattle.rls_file.proofs.Storable as laws
use Rattle.rls_file.proofs.laws.stays_writable.Goals as goal

pub returns : goal.returns
returns g c = record { fresh = laws.fresh_writable; lines = laws.lines_writable; taken = laws.taken_writable }
