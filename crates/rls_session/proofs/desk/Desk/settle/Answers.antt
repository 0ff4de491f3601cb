use Rattle.std.proofs.Common.{◌∙◌, Err, List, ap, subst, sym}
use Rattle.rls_undo.specs.declared.entry.Entry.{Entry}
use Rattle.rls_session.specs.declared.desk.TheConstants.{KEPT_ENTRIES}
use Rattle.rls_session.specs.Desks.{IsWhole}
use Rattle.rls_session.proofs.Resumed.{none_dropped, whole_entries}
use Rattle.rls_session.proofs.Whole.{whole_last}
use Rattle.rls_session.proofs.desk.Desk.settle.Goals as goal

pub unsettled-requires : goal.unsettled-requires
unsettled-requires c =
    let s = c.self.inside in
    let whole = whole_last s.replica s.undo c.keep_last.new.self s.cursors KEPT_ENTRIES c.keep_last.ensures.entries c.self.invariant in
    record { kept = λ e is. none_dropped s.replica c.keep_last.new.self e whole.undoable ((c.settle.ensures.dropped e).0 (c.in-Err.is ∙ ap Err is)) }

pub invariant_of-self : goal.invariant_of-self
invariant_of-self c =
    let s = c.self.inside in
    subst (λ (es : List Entry). IsWhole s.replica es s.cursors) (sym c.in-Err.ensures.stays) (whole_last s.replica s.undo c.keep_last.new.self s.cursors KEPT_ENTRIES c.keep_last.ensures.entries c.self.invariant)

pub invariant_of-self-2 : goal.invariant_of-self-2
invariant_of-self-2 c =
    let s = c.self.inside in
    let whole = whole_last s.replica s.undo c.keep_last.new.self s.cursors KEPT_ENTRIES c.keep_last.ensures.entries c.self.invariant in
    subst (λ (es : List Entry). IsWhole s.replica es s.cursors) (sym c.in_default.ensures.entries) (whole_entries s.replica c.keep_last.new.self s.cursors whole)
