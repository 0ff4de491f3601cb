use Rattle.rls_file.proofs.HistoryFields.{storable_again}
use Rattle.rls_file.proofs.HistoryMessages.{sent_is_message, told_is_message}
use Rattle.rls_file.proofs.HistoryRuns.{fresh_storable, lines_storable, taken_storable}
use Rattle.rls_file.proofs.laws.histories_are_stored.Goals as goal

pub returns : goal.returns
returns g c = record { fresh = fresh_storable; lines = lines_storable; taken = taken_storable; sent = sent_is_message; told = told_is_message; read_back = storable_again }
