use Rattle.std.proofs.Common.{true, false, refl, rules}
use Rattle.rls_session.proofs.Taking.{taken_none, taken_on}
use Rattle.rls_session.proofs.intake.Intake.find_bytes.Goals as goal

pub loop-self-init : goal.loop-self-init
loop-self-init g c = record {
  same = search rules;
  used = search rules;
  few = search rules;
  known = search rules;
  stays_ended = λ e. e;
  ahead = search rules;
  given = taken_none g.S.Source.read_gives true c.args.self.now c.args.self.now c.args.source.now refl;
  never_falls = search rules;
}

pub loop-self-preserved : goal.loop-self-preserved
loop-self-preserved g c = record {
  same = search rules;
  used = search rules;
  few = search rules;
  known = search rules;
  stays_ended = search rules;
  ahead = search rules;
  given = taken_on g.S.Source.read_gives true c.args.self.now c.loop-self.self c.take_more.new.self c.args.source.now c.loop-self.source c.take_more.new.source c.loop-self.invariant.given c.in-Ok-true.ensures.given;
  never_falls = search rules;
}

pub returns-in-Err-clause-given : goal.returns-in-Err-clause-given
returns-in-Err-clause-given g c = taken_on g.S.Source.read_gives false c.args.self.now c.loop-self.self c.take_more.new.self c.args.source.now c.loop-self.source c.take_more.new.source c.loop-self.invariant.given c.in-Err.ensures.given

pub returns-in-Ok-false-clause-given : goal.returns-in-Ok-false-clause-given
returns-in-Ok-false-clause-given g c = taken_on g.S.Source.read_gives true c.args.self.now c.loop-self.self c.take_more.new.self c.args.source.now c.loop-self.source c.take_more.new.source c.loop-self.invariant.given c.in-Ok-false.ensures.given
