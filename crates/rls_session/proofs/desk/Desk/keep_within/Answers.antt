use Rattle.std.proofs.Common.{◌∙◌, ap}
use Rattle.rls_seen.specs.Seen.{Seen}
use Rattle.rls_steps.specs.Recorded.{Recorded}
use Rattle.rls_session.specs.Answers.{Sitting, with_recorded}
use Rattle.rls_session.specs.Desks.{sitting_of}
use Rattle.rls_session.specs.Sessions.{by_parts}
use Rattle.rls_session.proofs.desk.Desk.keep_within.Goals as goal

pub returns : goal.returns
returns c =
    let s = c.self.inside in
    record {
      kept = ap (λ (r : Recorded). sitting_of s.replica s.undo s.cursors r s.tells) c.in-Ok.ensures.kept ∙ ap (λ (x : Sitting Seen). with_recorded x (by_parts.kept x.state x.recorded)) c.self.view_is;
    }
