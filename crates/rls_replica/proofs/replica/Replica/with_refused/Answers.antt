use Rattle.std.proofs.Common.{◌∙◌, Some, sym, ap, arith}
use Rattle.std.proofs.lemmas.Option.{slice_get_within}
use Rattle.rls_model.specs.declared.receipt.Refusal.{Refusal}
use Rattle.rls_model.specs.Answers.{reason_of}
use Rattle.rls_seen.specs.Over.{body_refusal_over}
use Rattle.rls_replica.proofs.Remembering.{before_unknown, unknown_refused}
use Rattle.rls_replica.proofs.replica.Replica.with_refused.Goals as goal

pub with_known-requires-clause-kept : goal.with_known-requires-clause-kept
with_known-requires-clause-kept c =
    (unknown_refused c.args.self.now c.args.op.now c.in-UnknownTarget.id (c.requires.refused ∙ ap (λ (r : Refusal). Some (reason_of r)) c.in-UnknownTarget.is)).0

pub with_known-requires-clause-within : goal.with_known-requires-clause-within
with_known-requires-clause-within c = let l = slice_get_within c.in-Delete.targets c.in-Ok.place c.in-UnknownTarget.id c.in-Ok.ensures.there in omega (arith, l)

pub with_known-requires-clause-front : goal.with_known-requires-clause-front
with_known-requires-clause-front c =
    let s = c.args.self.now in
    let o = c.args.op.now in
    let x = c.in-UnknownTarget.id in
    let h = (unknown_refused s o x (c.requires.refused ∙ ap (λ (r : Refusal). Some (reason_of r)) c.in-UnknownTarget.is)).1 in
    before_unknown s o.epoch c.in-Delete.targets c.in-Ok.place x c.total-total.ensures.idents (ap (body_refusal_over s o) (sym c.in-Delete.is) ∙ h) c.in-Ok.ensures.there
