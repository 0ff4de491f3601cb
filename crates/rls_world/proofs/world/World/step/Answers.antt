use Rattle.rls_world.proofs.Answering.{step_fault, step_fits, step_outcome, step_after, step_err, step_refused, step_answer, step_stands, step_part, step_clean}
use Rattle.rls_world.proofs.world.World.step.Goals as goal

pub returns : goal.returns
returns c =
    let s = c.args.self.now in
    let t = c.step_exactly.new.self in
    let e = c.args.event.now in
    let r = c.step_exactly.result in
    let step = c.step_exactly.ensures.step in
    let whole = c.step_exactly.ensures.whole in
    let g = c.step_exactly.ensures.one_group in
    record {
      fault = step_fault s t e r step;
      fits = step_fits s t e r step;
      outcome = step_outcome s t e r step;
      after = step_after s t e r step;
      err = step_err s t e r step;
      refused = step_refused s t e r step;
      answer = step_answer s t e g.0 r g.1 step;
      stands = step_stands s t e g.0 r whole g.1 step;
      part = step_part s t e g.0 r whole g.1 step;
      clean = step_clean s t e g.0 r whole g.1 step;
    }
