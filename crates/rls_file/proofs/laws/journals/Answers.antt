use Rattle.rls_file.proofs.LegalJournals as laws
use Rattle.rls_file.proofs.laws.journals.Goals as goal

pub returns : goal.returns
returns c = record { journals = laws.journals_are_read }
