use Rattle.std.proofs.Common.{◌+◌, ◌^◌, ◌<◌, List, length, Option, IsSome, subst}
use Rattle.rls_rename.specs.Renaming.{Renaming}
use Rattle.rls_rename.specs.Tree.{Epochs}
use Rattle.rls_epoch.specs.Seen.{former_sum}
use Rattle.rls_model.specs.declared.parts.Stem.{Stem}
use Rattle.rls_parts.specs.Tables.{IsNewest}
use Rattle.rls_replica.specs.Changing.{former_in, MayRename}
use Rattle.rls_replica.proofs.Changes.{newest, may_add, add_room}
use Rattle.rls_replica.proofs.applying.finish.Goals as goal

pub note-requires-clause-newest : goal.note-requires-clause-newest
note-requires-clause-newest c =
    let m = c.requires.may in
    subst (λ (ss : List Stem). IsNewest ss c.args.op.now.author c.args.op.now.seq) m.stems_are (newest m.replica c.args.op.now m.sane m.may)

pub add_epoch-requires-clause-may : goal.add_epoch-requires-clause-may
add_epoch-requires-clause-may c = λ h.
    let m = c.requires.may in
    subst (λ (E : Epochs). MayRename E c.args.op.now (former_in c.args.op.now.body)) m.epochs_are (may_add m.replica c.args.op.now m.sane m.may (subst (λ (r : Option Renaming). IsSome r) c.requires.renaming h))

pub add_epoch-requires-clause-total : goal.add_epoch-requires-clause-total
add_epoch-requires-clause-total c = λ h.
    let m = c.requires.may in
    subst (λ (E : Epochs). former_sum E.nodes + length (former_in c.args.op.now.body) < 2 ^ 64) m.epochs_are (add_room m.replica c.args.op.now m.sane m.may (subst (λ (r : Option Renaming). IsSome r) c.requires.renaming h))
