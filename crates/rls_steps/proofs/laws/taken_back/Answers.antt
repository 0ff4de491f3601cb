use Rattle.rls_steps.proofs.Backing.{put_back, cut_back, returns_beside}
use Rattle.rls_steps.proofs.laws.taken_back.Goals as goal

pub returns : goal.returns
returns c = record { put = put_back; cut = cut_back; beside = returns_beside }
