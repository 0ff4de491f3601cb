use Rattle.std.proofs.Common.{◌≡◌, List, [], ◌++◌, subst, None, sym}
use Rattle.std.proofs.lemmas.List.{append-nil}
use Rattle.std.proofs.lemmas.List.Elements.{All-nil}
use Rattle.std.specs.Char.{IsScalar}
use Rattle.rls_model.specs.declared.edit.Edit.{Edit}
use Rattle.rls_seen.specs.Edits.{edit_fault_over}
use Rattle.rls_seen.proofs.EditedText.{delete_place}
use Rattle.rls_undo.specs.declared.entry.Entry.{Entry}
use Rattle.rls_undo.specs.UndoLaws.{AreWhole}
use Rattle.rls_undo.proofs.AtOnce.{inserted_entry, deleted_entry, rename_entry, leave_entry, whole_by}
use Rattle.rls_undo.proofs.Keeping.{on_ok}
use Rattle.rls_undo.proofs.recording.put_own.Goals as goal

pub text_of-requires : goal.text_of-requires
text_of-requires c =
    let s = c.args.replica.now in
    let f = subst (λ (e : Edit). edit_fault_over s e ≡ None) c.in-Delete.is c.requires.fits in
    record { places = (delete_place s c.in-Delete.at c.in-Delete.count f).0 }

pub returns-in-Insert-clause-ok : goal.returns-in-Insert-clause-ok
returns-in-Insert-clause-ok c =
    on_ok c.put_insertion.result _ _
    (inserted_entry c.args.replica.now c.args.edit.now c.in-Insert.at c.in-Insert.text c.args.op.now (λ (es : List Entry). c.put_insertion.new.entries ≡ c.args.entries.now ++ es) c.requires.op c.in-Insert.is)
    c.put_insertion.ensures.ok

pub returns-in-Insert-clause-whole : goal.returns-in-Insert-clause-whole
returns-in-Insert-clause-whole c =
    on_ok c.put_insertion.result _ _
    (λ h. inserted_entry c.args.replica.now c.args.edit.now c.in-Insert.at c.in-Insert.text c.args.op.now AreWhole c.requires.op c.in-Insert.is (λ first ds e. whole_by c.args.op.now.epoch c.args.op.now.body [] (All-nil IsScalar)))
    c.put_insertion.ensures.ok

pub returns-in_ok-gone-in-Delete-clause-ok : goal.returns-in_ok-gone-in-Delete-clause-ok
returns-in_ok-gone-in-Delete-clause-ok c =
    on_ok c.put_deletion.result _ _
    (deleted_entry c.args.replica.now c.args.edit.now c.in-Delete.at c.in-Delete.count c.in_ok-gone-in-Delete.gone c.args.op.now (λ (es : List Entry). c.put_deletion.new.entries ≡ c.args.entries.now ++ es) c.requires.op c.in-Delete.is
    c.in_ok-gone-in-Delete.ensures.text)
    c.put_deletion.ensures.ok

pub returns-in_ok-gone-in-Delete-clause-whole : goal.returns-in_ok-gone-in-Delete-clause-whole
returns-in_ok-gone-in-Delete-clause-whole c =
    on_ok c.put_deletion.result _ _
    (λ h. deleted_entry c.args.replica.now c.args.edit.now c.in-Delete.at c.in-Delete.count c.in_ok-gone-in-Delete.gone c.args.op.now AreWhole c.requires.op c.in-Delete.is c.in_ok-gone-in-Delete.ensures.text
    (λ targets e. whole_by c.args.op.now.epoch c.args.op.now.body c.in_ok-gone-in-Delete.gone c.len-len.ensures.scalars))
    c.put_deletion.ensures.ok

pub returns-in-Rename-clause-ok : goal.returns-in-Rename-clause-ok
returns-in-Rename-clause-ok c = subst (λ (es : List Entry). c.args.entries.now ≡ c.args.entries.now ++ es) (rename_entry c.args.replica.now c.args.edit.now c.in-Rename.is) (sym (append-nil c.args.entries.now))

pub returns-in-Rename-clause-whole : goal.returns-in-Rename-clause-whole
returns-in-Rename-clause-whole c = subst AreWhole (rename_entry c.args.replica.now c.args.edit.now c.in-Rename.is) tt

pub returns-in-Leave-clause-ok : goal.returns-in-Leave-clause-ok
returns-in-Leave-clause-ok c = subst (λ (es : List Entry). c.args.entries.now ≡ c.args.entries.now ++ es) (leave_entry c.args.replica.now c.args.edit.now c.in-Leave.is) (sym (append-nil c.args.entries.now))

pub returns-in-Leave-clause-whole : goal.returns-in-Leave-clause-whole
returns-in-Leave-clause-whole c = subst AreWhole (leave_entry c.args.replica.now c.args.edit.now c.in-Leave.is) tt
