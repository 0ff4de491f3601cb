use Rattle.std.proofs.Common.{◌≡◌, OnOk, arith, subst, sym}
use Rattle.rls_seen.specs.Seen.{Seen}
use Rattle.rls_session.specs.Answers.{Sitting}
use Rattle.rls_session.proofs.Drafting.{made_replacing}
use Rattle.rls_session.proofs.seat.make_edits.Goals as goal

pub returns-then-len-gt0 : goal.returns-then-len-gt0
returns-then-len-gt0 c = record {
  made = subst (λ (x : Sitting Seen). OnOk c.replace.result (c.replace.new.desk ≡ x)) (sym (made_replacing c.args.desk.now c.args.draft (omega arith) (omega arith))) c.replace.ensures.made;
}
