use Rattle.std.proofs.Common.{◌≡◌, OnOk, subst}
use Rattle.rls_seen.specs.Seen.{Seen}
use Rattle.rls_session.specs.Answers.{Sitting, made_sitting}
use Rattle.rls_session.specs.Sessions.{by_parts}
use Rattle.rls_session.proofs.seat.make_two.Goals as goal

pub returns : goal.returns
returns c = record {
  made = subst (λ (x : Sitting Seen). OnOk c.make_own-2.result (c.make_own-2.new.self ≡ made_sitting by_parts x c.args.second.now)) c.in_ok-make_own.ensures.made c.make_own-2.ensures.made;
}
