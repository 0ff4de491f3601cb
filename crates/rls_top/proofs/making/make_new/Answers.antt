use Rattle.std.proofs.Common.{◌∙◌, Err, ap, rules, subst, sym}
use Rattle.rls_report.specs.declared.failures.CommandError.TheVariants.{BadMembers, BadMe}
use Rattle.rls_stages.specs.Errors.{of_open}
use Rattle.rls_file.specs.Stored.{AreWritable}
use Rattle.rls_file.proofs.Storable.{fresh_writable}
use Rattle.rls_top.specs.Stages.{IsDue}
use Rattle.rls_top.proofs.Pieces.{called, new_due, no_me, no_member, no_members, numbers_due, uncounted}
use Rattle.rls_top.proofs.making.make_new.Goals as goal

pub returns-in-Err-Members-clause-due : goal.returns-in-Err-Members-clause-due
returns-in-Err-Members-clause-due g c =
    let e = c.in-Err-Members in
    let cause = (c.new.ensures.members e.members).0 (e.is ∙ ap Err e.field-0-is) in
    numbers_due c.args.group c.args.me c.args.members (g.K.Keeper.file c.args.keeper.now) _ (BadMembers c.args.members) (no_members c.args.me c.args.members cause.1) (ap BadMembers (e.members-is ∙ cause.0))

pub returns-in-Err-Me-clause-due : goal.returns-in-Err-Me-clause-due
returns-in-Err-Me-clause-due g c =
    let e = c.in-Err-Me in
    let cause = (c.new.ensures.me e.me).0 (e.is ∙ ap Err e.field-0-is) in
    numbers_due c.args.group c.args.me c.args.members (g.K.Keeper.file c.args.keeper.now) _ (BadMe c.args.me) (no_me c.args.me c.args.members cause.1) (ap BadMe (e.me-is ∙ cause.0))

pub returns-in-Err-Members-clause-calls : goal.returns-in-Err-Members-clause-calls
returns-in-Err-Members-clause-calls g c = λ h. let e = c.in-Err-Members in uncounted c.args.group c.args.me c.args.members ((c.new.ensures.members e.members).0 (e.is ∙ ap Err e.field-0-is)).1 h

pub returns-in-Err-Me-clause-calls : goal.returns-in-Err-Me-clause-calls
returns-in-Err-Me-clause-calls g c = λ h. let e = c.in-Err-Me in no_member c.args.group c.args.me c.args.members ((c.new.ensures.me e.me).0 (e.is ∙ ap Err e.field-0-is)).1 h

pub returns-in-Err-Members-clause-found : goal.returns-in-Err-Members-clause-found
returns-in-Err-Members-clause-found g c = λ h. let e = c.in-Err-Members in uncounted c.args.group c.args.me c.args.members ((c.new.ensures.members e.members).0 (e.is ∙ ap Err e.field-0-is)).1 h

pub returns-in-Err-Me-clause-found : goal.returns-in-Err-Me-clause-found
returns-in-Err-Me-clause-found g c = λ h. let e = c.in-Err-Me in no_member c.args.group c.args.me c.args.members ((c.new.ensures.me e.me).0 (e.is ∙ ap Err e.field-0-is)).1 h

pub make_first-requires : goal.make_first-requires
make_first-requires g c = record { fresh = c.in-Ok.ensures.ok; writable = subst AreWritable (sym c.in-Ok.ensures.ok) (fresh_writable c.args.group c.args.me c.args.members) }

pub returns-in-Ok-clause-due : goal.returns-in-Ok-clause-due
returns-in-Ok-clause-due g c = new_due c.args.group c.args.me c.args.members (g.K.Keeper.file c.args.keeper.now) (IsDue of_open c.make_first.result) (search rules) c.make_first.ensures.due

pub returns-in-Ok-clause-uncalled : goal.returns-in-Ok-clause-uncalled
returns-in-Ok-clause-uncalled g c = λ h. called c.args.group c.args.me c.args.members (search rules) h
