use Rattle.std.proofs.Common.{sym, ap, ◌∙◌}
use Rattle.std.proofs.lemmas.Result.{err_from_is_err_and}
use Rattle.rls_model.specs.History.{Accepted, Then}
use Rattle.rls_file.specs.ReadingFiles.{applies}
use Rattle.rls_file.proofs.Events.{op_fails, op_applied, op_refused}
use Rattle.rls_file.proofs.Replaying.{after_members, alone, applied}
use Rattle.rls_file.proofs.reading.accept.Goals as goal

pub returns-in_err-op : goal.returns-in_err-op
returns-in_err-op c = record {
  read = λ H h.
      let same = after_members H c.args.replica.now c.members.result h c.members.ensures.members in
      let p = err_from_is_err_and c.from_residual.result c.from_residual.ensures.1 in
      rw (p.1, p.2) (op_fails c.in_err-op.field-0.0 H c.members.result c.args.bytes.now same c.in_err-op.ensures.read);
}

pub returns-then-not-is_applied : goal.returns-then-not-is_applied
returns-then-not-is_applied c = record {
  read = λ H h.
      let same = after_members H c.args.replica.now c.members.result h c.members.ensures.members in
      let law = c.in_ok-replay.ensures.stands (alone H) h.stands in
      op_refused H c.members.result c.args.bytes.now c.in_ok-op.rest.now c.in_ok-op.op same c.in_ok-op.ensures.read (ap applies (sym law.0) ∙ sym c.is_applied.ensures.applied ∙ c.if-not-is_applied.true);
}

pub returns : goal.returns
returns c = record {
  read = λ H h.
      let e = c.in_ok-replay.ensures in
      let same = after_members H c.args.replica.now c.members.result h c.members.ensures.members in
      let law = e.stands (alone H) h.stands in
      let next = ap applies (sym law.0) ∙ sym c.is_applied.ensures.applied ∙ c.if-not-is_applied.false in (
        Then H (Accepted c.in_ok-op.op),
        op_applied _ _ _ _ _ same c.in_ok-op.ensures.read next,
        applied _ _ _ _ h e.after next (sym e.answer ∙ law.0) law.1,
      );
}
