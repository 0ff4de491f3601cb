use Rattle.rls_model.proofs.WorldsCommands as laws
use Rattle.rls_model.proofs.laws.commands_clean.Goals as goal

pub returns : goal.returns
returns c = record { commands_clean = laws.law }
