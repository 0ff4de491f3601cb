use Rattle.std.proofs.Common.{ap, refl, subst, sym}
use Rattle.std.specs.Prelude.{◌==◌}
use Rattle.std.proofs.lemmas.Bool.{eqb-true}
use Rattle.rls_ident.proofs.Members.{and_right}
use Rattle.rls_codec.specs.Reading.{message_of}
use Rattle.rls_replica.specs.declared.taking.TakeError.TheVariants.{OtherGroup}
use Rattle.rls_seen.specs.Seen.{members}
use Rattle.rls_file.specs.Stored.{AreWritable}
use Rattle.rls_file.proofs.Storable.{taken_writable}
use Rattle.rls_sync.proofs.Groups.{not_taken, refused}
use Rattle.rls_stages.proofs.Kept.{is_ours}
use Rattle.rls_top.proofs.Messages.{foreign_due, taken_due}
use Rattle.rls_top.proofs.taking.take.Goals as goal

pub returns-in-Err-OtherGroup : goal.returns-in-Err-OtherGroup
returns-in-Err-OtherGroup c =
    let e = c.in-Err-OtherGroup in
    let cause = (e.ensures.other_group e.group e.members).0 (ap refused e.field-0-is) in
    record { due = foreign_due c.args.replica.now c.in-Ok.message (message_of c.args.bytes.items) e.group e.members _ _ c.in-Ok.ensures.decoded cause.2 cause.0 cause.1 e.group-is e.members-is; stored = tt }

pub returns-in-Ok-take-clause-due : goal.returns-in-Ok-take-clause-due
returns-in-Ok-take-clause-due c =
    let m = c.in-Ok.message in
    let e = c.in-Ok-take.ensures in
    taken_due c.args.replica.now c.take.new.self m (message_of c.args.bytes.items) c.in-Ok-take.taken c.report_taken.result c.in-Ok.ensures.decoded
    (λ f. not_taken c.in-Ok-take.taken (OtherGroup m.group m.members) ((e.other_group m.group m.members).1 (refl, refl, f))) e.taken e.after c.report_taken.ensures.due

-- what the message made may be written
pub report_taken-requires : goal.report_taken-requires
report_taken-requires c =
    let s = c.args.replica.now in
    let m = c.in-Ok.message in
    let e = c.in-Ok-take.ensures in
    let ours = is_ours s m (λ f. not_taken c.in-Ok-take.taken (OtherGroup m.group m.members) ((e.other_group m.group m.members).1 (refl, refl, f))) in
    let as_many = eqb-true m.members (members s) (and_right (m.group == s.group) (m.members == members s) ours) in
    record { writable = subst AreWritable (sym e.after) (taken_writable s c.args.bytes.items m c.requires.sane c.requires.writable c.in-Ok.ensures.message as_many).1 }
