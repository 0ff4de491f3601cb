use Rattle.rls_top.proofs.Groups as laws
use Rattle.rls_top.proofs.laws.groups_clean.Goals as goal

pub returns : goal.returns
returns c = record { groups_clean = laws.law }
