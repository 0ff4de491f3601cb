use Rattle.std.proofs.Common.{◌∙◌, subst, sym}
use Rattle.rls_model.specs.WellFormed.{IsText}
use Rattle.rls_seen.specs.Sane.{IsSane}
use Rattle.rls_session.specs.declared.draft.Draft.{Draft}
use Rattle.rls_session.proofs.Drafting.{made_so, rested_so}
use Rattle.rls_session.proofs.seat.make.Goals as goal

pub returns-clause-made : goal.returns-clause-made
returns-clause-made c = rested_so c.rest.result c.args.desk.now c.make_edits.new.desk c.rest.new.self c.args.draft.now c.replace-draft.result c.replace-draft.ensures.value (sym c.is_none.ensures.none ∙ c.if-is_none.false) c.in_ok-make_edits.ensures.made c.rest.ensures.rested

pub returns-clause-writable : goal.returns-clause-writable
returns-clause-writable c =
    λ w. made_so c.rest.result c.args.desk.now c.rest.new.self c.args.draft.now (subst IsSane c.replica.ensures.replica c.sane.ensures.sane) (subst (λ (x : Draft). IsText x.text) c.replace-draft.ensures.value c.len-len.ensures.scalars) c.requires.drafted (returns-clause-made c) w
