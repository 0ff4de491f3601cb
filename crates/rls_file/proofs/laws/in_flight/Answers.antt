use Rattle.rls_file.proofs.InFlight as laws
use Rattle.rls_file.proofs.laws.in_flight.Goals as goal

pub returns : goal.returns
returns c = record { in_flight = laws.law }
