use Rattle.std.proofs.Common.{⊎_elim}
use Rattle.rls_replica.proofs.replica.Replica.with_known.Goals as goal

pub images_of_known-requires-clause-known : goal.images_of_known-requires-clause-known
images_of_known-requires-clause-known c = λ x p. let s = c.in_ok-front.ensures.front x p in c.requires.front s.0 x s.2 s.3

pub returns : goal.returns
returns c = record { known = λ x p out. ⊎_elim (λ q. c.with_room-lists.ensures.known x q out) (c.in_ok-ids.ensures.known x) (c.in_ok-add.ensures.only x p) }
