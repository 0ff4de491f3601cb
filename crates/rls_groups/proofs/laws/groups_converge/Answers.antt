use Rattle.rls_groups.proofs.Law as laws
use Rattle.rls_groups.proofs.laws.groups_converge.Goals as goal

pub returns : goal.returns
returns c = record { groups_converge = laws.law }
