use Rattle.std.proofs.Common.{◌++◌, ◌∷◌, [], sym, ap, ◌∙◌}
use Rattle.std.proofs.lemmas.Result.{err_from_is_err_and}
use Rattle.rls_parts.specs.Rules.{waits_behind}
use Rattle.rls_seen.proofs.Alike.{members_alike}
use Rattle.rls_file.specs.ReadingJournals.{waits, last_of}
use Rattle.rls_file.proofs.Holding.{hold_fails, hold_before, hold_other, hold_done, holds}
use Rattle.rls_file.proofs.reading.hold.Goals as goal

pub returns-in_err-op : goal.returns-in_err-op
returns-in_err-op c = record {
  read = λ t h.
      let same = c.members.ensures.members ∙ members_alike c.args.replica.now t h.stands in
      let p = err_from_is_err_and c.from_residual.result c.from_residual.ensures.1 in
      rw (p.1, p.2) (hold_fails c.in_err-op.field-0.0 t c.members.result c.args.bytes.now same c.in_err-op.ensures.read);
}

pub returns-then-not-comes_last : goal.returns-then-not-comes_last
returns-then-not-comes_last c = record {
  read = λ t h.
      let same = c.members.ensures.members ∙ members_alike c.args.replica.now t h.stands in
      let behind = ap (λ W. waits_behind (last_of W) c.in_ok-op.op) (sym (c.held.ensures.held ∙ h.stands.waiting)) ∙ sym c.comes_last.ensures.last ∙ c.if-not-comes_last.true in
      hold_before t _ _ _ _ h.stands.sound same c.in_ok-op.ensures.read behind;
}

pub returns-then-not-is_held : goal.returns-then-not-is_held
returns-then-not-is_held c = record {
  read = λ t h.
      let same = c.members.ensures.members ∙ members_alike c.args.replica.now t h.stands in
      let behind = ap (λ W. waits_behind (last_of W) c.in_ok-op.op) (sym (c.held.ensures.held ∙ h.stands.waiting)) ∙ sym c.comes_last.ensures.last ∙ c.if-not-comes_last.false in
      let law = c.in_ok-receive.ensures.stands t h.stands in
      hold_other _ _ _ _ _ h.stands.sound same c.in_ok-op.ensures.read behind (ap waits (sym law.0) ∙ sym c.is_held.ensures.held ∙ c.if-not-is_held.true);
}

pub returns : goal.returns
returns c = record {
  read = λ t h.
      let e = c.in_ok-receive.ensures in
      let same = c.members.ensures.members ∙ members_alike c.args.replica.now t h.stands in
      let behind = ap (λ W. waits_behind (last_of W) c.in_ok-op.op) (sym (c.held.ensures.held ∙ h.stands.waiting)) ∙ sym c.comes_last.ensures.last ∙ c.if-not-comes_last.false in
      let law = e.stands t h.stands in
      let held = ap waits (sym law.0) ∙ sym c.is_held.ensures.held ∙ c.if-not-is_held.false in (
        t.waiting ++ c.in_ok-op.op ∷ [],
        hold_done _ _ _ _ _ h.stands.sound same c.in_ok-op.ensures.read behind held,
        holds _ _ _ _ h e.after (sym e.answer ∙ law.0) behind held law.1,
      );
}
