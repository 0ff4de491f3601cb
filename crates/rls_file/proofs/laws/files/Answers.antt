use Rattle.rls_file.proofs.FileFormats as laws
use Rattle.rls_file.proofs.laws.files.Goals as goal

pub returns : goal.returns
returns c = record { spelled = laws.file_reads; read = laws.file_takes }
