use Rattle.std.proofs.Common.{◌≡◌, ◌+◌, ◌∙◌, ap, sym, subst, None}
use Rattle.rls_model.specs.declared.edit.Edit.{Edit}
use Rattle.rls_model.specs.declared.edit.Edit.TheVariants as edits
use Rattle.rls_model.specs.WellFormed.{IsEdit}
use Rattle.rls_seen.specs.Edits.{edit_fault_over, made_over}
use Rattle.rls_seen.specs.Seen.{text_over}
use Rattle.rls_seen.proofs.Editing.{edited_stands, edit_faults_alike, own_alike}
use Rattle.rls_replica.proofs.EditLaws.{one_run, text-edited}
use Rattle.rls_replica.proofs.OwnFronts.{goes_before}
use Rattle.rls_replica.proofs.OwnRuns.{goes_on}
use Rattle.rls_replica.proofs.KeptNames.{accepted_names, names_unchanged}
use Rattle.rls_replica.proofs.replica.Replica.accept_own.Goals as goal

pub returns-clause-answer : goal.returns-clause-answer
returns-clause-answer c = λ t h.
    (sym (edit_faults_alike c.args.self.now t c.args.edit.now h) ∙ c.requires.fits, c.in_ok-seq.ensures.seq ∙ ap (λ n. n + 1) (own_alike c.args.self.now t h))

pub returns-clause-text : goal.returns-clause-text
returns-clause-text c =
    let e = c.in_ok-seq.ensures in
    ap text_over e.after ∙ text-edited c.args.self.now c.args.edit.now e.sane e.whole c.requires.fits

pub returns-clause-stands : goal.returns-clause-stands
returns-clause-stands c = λ t h.
    let e = c.in_ok-seq.ensures in
    rw e.after (edited_stands c.args.self.now t c.args.edit.now e.whole c.requires.fits h)

pub returns-clause-one_run : goal.returns-clause-one_run
returns-clause-one_run c = λ is t h.
    let f = subst (λ (x : Edit). edit_fault_over c.args.self.now x ≡ None) is c.requires.fits in
    rw (c.in_ok-seq.ensures.after, is) (one_run c.args.self.now t h f)

pub returns-clause-typed : goal.returns-clause-typed
returns-clause-typed c = λ first n cs is run room.
    let e = c.in_ok-seq.ensures in
    let i : IsEdit (edits.Insert n cs) = subst IsEdit is e.whole in
    let f = subst (λ (x : Edit). edit_fault_over c.args.self.now x ≡ None) is c.requires.fits in
    rw (e.after, is) (goes_on c.args.self.now n cs first e.sane i f run room)

pub returns-clause-fronted : goal.returns-clause-fronted
returns-clause-fronted c = λ first n cs is run room.
    let e = c.in_ok-seq.ensures in
    let i : IsEdit (edits.Insert 0 cs) = subst IsEdit is e.whole in
    let f = subst (λ (x : Edit). edit_fault_over c.args.self.now x ≡ None) is c.requires.fits in
    rw (e.after, is) (goes_before c.args.self.now n cs first e.sane i f run room)

pub returns-in_err-seq-clause-names : goal.returns-in_err-seq-clause-names
returns-in_err-seq-clause-names c = names_unchanged c.args.self.now _ c.in_err-seq.ensures.err

pub returns-clause-names : goal.returns-clause-names
returns-clause-names c = rw c.in_ok-seq.ensures.after (accepted_names c.args.self.now (made_over c.args.self.now c.args.edit.now))
