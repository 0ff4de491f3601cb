use Rattle.rls_groups.proofs.Exchanged as commands
use Rattle.rls_groups.proofs.SessionsExchanged as sessions
use Rattle.rls_groups.proofs.Rounds as laws
use Rattle.rls_groups.proofs.laws.one_round.Goals as goal

pub returns : goal.returns
returns c =
    record { sends_tell = commands.sends_tell; takes_receive = commands.takes_receive; sessions_exchange = sessions.law; all_told = laws.all_told; one_round = laws.one_round; one_hub = laws.one_hub }
