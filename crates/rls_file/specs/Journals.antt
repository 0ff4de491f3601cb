-- What a replica consists of to which the events of a journal have happened.
use Rattle.std.specs.Prelude.{◌≡◌}
use Rattle.rls_model.specs.History.{Accepted, Acknowledged, History, Fresh, Then}
use Rattle.rls_model.specs.Receiving.{State}
use Rattle.rls_seen.specs.Over.{accepted, acknowledged, holding}
use Rattle.rls_seen.specs.Seen.{Seen, fresh}
use Rattle.rls_seen.specs.Stands.{StandsFor}

-- what a replica consists of to which this has happened, and that has dropped nothing
abbrev pub seen_after : History → Seen
seen_after (Fresh group me members) = fresh group me members
seen_after (Then H (Accepted o)) = accepted (seen_after H) o
seen_after (Then H (Acknowledged a v)) = acknowledged (seen_after H) a v

-- with what waits
abbrev pub seen_with : State → Seen
seen_with t = holding (seen_after t.history) t.waiting

-- the replica is the one to which the history has happened, with what waits, and stands for them
pub record IsReplayOf (t : State) (s : Seen) : Type 0 where
  pub is : s ≡ seen_with t
  pub stands : StandsFor s t
