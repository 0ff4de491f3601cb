use Rattle.std.proofs.Common.{false, true, sym, ap, ◌∙◌}
use Rattle.std.proofs.lemmas.Result.{err_from_is_err_and}
use Rattle.rls_model.specs.History.{Acknowledged, Then}
use Rattle.rls_file.proofs.Events.{kind_ok, kind_fails, kind_zero, noted_fails, noted_read}
use Rattle.rls_file.proofs.Replaying.{after_members, alone, counted}
use Rattle.rls_file.proofs.reading.event.Goals as goal

pub returns-in_err-kind : goal.returns-in_err-kind
returns-in_err-kind c = record {
  read = λ H h.
      let p = err_from_is_err_and c.from_residual.result c.from_residual.ensures.1 in
      rw (p.1, p.2) (kind_fails c.in_err-kind.field-0.0 H c.args.bytes.now c.in_err-kind.ensures.read);
}

pub returns-then-kind-eq0 : goal.returns-then-kind-eq0
returns-then-kind-eq0 c = record {
  read = λ H h.
      let rest = c.in_ok-kind.rest.now in
      let zero = c.in_ok-kind.ensures.read ∙ ap (λ k. kind_ok k rest) c.if-kind-eq0.true in
      rw (kind_zero H c.args.bytes.now rest zero) (c.accept.ensures.read H h);
}

pub returns-in_err-from : goal.returns-in_err-from
returns-in_err-from c = record {
  read = λ H h.
      let same = after_members H c.args.replica.now c.members.result h c.members.ensures.members in
      let p = err_from_is_err_and c.from_residual-in_err-from.result c.from_residual-in_err-from.ensures.1 in
      rw (p.1, p.2) (noted_fails c.in_err-from.field-0.0 H c.args.bytes.now c.in_ok-kind.rest.now c.in_ok-kind.kind c.members.result c.in_ok-kind.ensures.read c.if-kind-eq0.false same c.in_err-from.ensures.read);
}

pub returns-then-not-acknowledge : goal.returns-then-not-acknowledge
returns-then-not-acknowledge c = record {
  read = λ H h.
      let same = after_members H c.args.replica.now c.members.result h c.members.ensures.members in
      let law = c.acknowledge.ensures.stands (alone H) h.stands in
      noted_read H c.args.bytes.now c.in_ok-kind.rest.now c.in_ok-from.rest.now c.in_ok-kind.kind c.members.result c.in_ok-from.from c.in_ok-from.vector false c.in_ok-kind.ensures.read c.if-kind-eq0.false same c.in_ok-from.ensures.read (sym c.if-not-acknowledge.true ∙ law.0);
}

pub returns : goal.returns
returns c = record {
  read = λ H h.
      let same = after_members H c.args.replica.now c.members.result h c.members.ensures.members in
      let law = c.acknowledge.ensures.stands (alone H) h.stands in
      let counts = sym c.if-not-acknowledge.false ∙ law.0 in (
        Then H (Acknowledged c.in_ok-from.from c.in_ok-from.vector),
        noted_read _ _ _ _ _ _ _ _ true c.in_ok-kind.ensures.read c.if-kind-eq0.false same c.in_ok-from.ensures.read counts,
        counted _ _ _ _ _ h c.acknowledge.ensures.after (sym counts) law.1,
      );
}
