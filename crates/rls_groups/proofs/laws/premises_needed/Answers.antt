use Rattle.rls_groups.proofs.Premises.{put_back, unsaved_handed_on, used_twice}
use Rattle.rls_groups.proofs.laws.premises_needed.Goals as goal

pub returns : goal.returns
returns c = record { unsaved = unsaved_handed_on; put_back = put_back; twice = used_twice }
