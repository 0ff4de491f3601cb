use Rattle.std.proofs.Common.{◌≡◌, subst, true}
use Rattle.std.specs.Prelude.{IfSome}
use Rattle.rls_rename.specs.Tree.{Epochs, is_kept}
use Rattle.rls_runs.specs.Entries.{Entries}
use Rattle.rls_ops.specs.declared.op.Body.{Body}
use Rattle.rls_seen.proofs.Fitting.{facts}
use Rattle.rls_replica.specs.Changing.{IsPlaceOf, MayInsert, MayRename}
use Rattle.rls_replica.proofs.Changes.{insert_may, rename_may}
use Rattle.rls_blocks.specs.Trees.{entries_of}
use Rattle.rls_replica.proofs.applying.change.Goals as goal

pub insert-requires : goal.insert-requires
insert-requires c =
    let m = c.requires.may in
    let o = c.args.op.now in
    record {
      may =
          subst (λ (E : Epochs). MayInsert E (entries_of c.args.document.now.blocks) o.epoch c.in-Insert.first c.in-Insert.text) m.epochs_are
          (subst (λ (es : Entries). MayInsert m.replica.epochs es o.epoch c.in-Insert.first c.in-Insert.text) m.text_is
          (insert_may m.replica o c.in-Insert.first c.in-Insert.text m.sane m.may c.in-Insert.is));
      place = subst (λ (b : Body). IfSome c.args.place (λ i. IsPlaceOf c.args.epochs.now.epochs (entries_of c.args.document.now.blocks) o.epoch b i)) c.in-Insert.is c.requires.place;
    }

pub delete-requires : goal.delete-requires
delete-requires c =
    let m = c.requires.may in
    record { kept = subst (λ (E : Epochs). is_kept E.top E.nodes c.args.op.now.epoch ≡ true) m.epochs_are (facts m.replica c.args.op.now m.may).kept }

pub rename-requires : goal.rename-requires
rename-requires c =
    let m = c.requires.may in
    record { may = subst (λ (E : Epochs). MayRename E c.args.op.now c.in-Rename.former) m.epochs_are (rename_may m.replica c.args.op.now c.in-Rename.former m.sane m.may c.in-Rename.is) }
