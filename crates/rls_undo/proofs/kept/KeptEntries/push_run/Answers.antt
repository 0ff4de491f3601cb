use Rattle.std.proofs.Common.{to_z, of_z, w32, ◌∙◌, ap, sym, arith, length, List}
use Rattle.rls_ident.specs.declared.tuple.Tuple.{Tuple}
use Rattle.rls_ident.specs.Tuples.{offset_of}
use Rattle.rls_ident.specs.Identifiers.{last_of}
use Rattle.rls_runs.specs.Runs.{run_idents}
use Rattle.rls_undo.specs.declared.entry.Entry.TheVariants.{Inserted}
use Rattle.rls_undo.proofs.Keeping.{kept_longer, kept_pushed, same_entries, entries_pushed, run_range, run_entry, on_err, cast_spot}
use Rattle.rls_undo.proofs.kept.KeptEntries.push_run.Goals as goal

pub invariant_of-self : goal.invariant_of-self
invariant_of-self c = kept_longer 0 (length c.self.inside.bases.items) (length c.put_base.new.bases.items) c.self.inside.entries.items c.self.invariant c.put_base.ensures.longer

pub returns-in_err-base-clause-err : goal.returns-in_err-base-clause-err
returns-in_err-base-clause-err c =
    on_err c.from_residual.result _
    (same_entries 0 (length c.self.inside.bases.items) c.self.inside.bases.items c.put_base.new.bases.items c.self.inside.entries.items c.put_base.ensures.others c.self.invariant ∙ c.self.view_is)

pub invariant_of-self-in_err-push : goal.invariant_of-self-in_err-push
invariant_of-self-in_err-push c =
    rw c.in_err-push.ensures.items (kept_longer 0 (length c.self.inside.bases.items) (length c.put_base.new.bases.items) c.self.inside.entries.items c.self.invariant c.put_base.ensures.longer)

pub returns-in_err-push-clause-err : goal.returns-in_err-push-clause-err
returns-in_err-push-clause-err c =
    on_err c.from_residual-in_err-push.result _
    (rw c.in_err-push.ensures.items
    (same_entries 0 (length c.self.inside.bases.items) c.self.inside.bases.items c.put_base.new.bases.items c.self.inside.entries.items c.put_base.ensures.others c.self.invariant ∙ c.self.view_is))

pub invariant_of-self-2 : goal.invariant_of-self-2
invariant_of-self-2 c =
    let place = c.in_ok-base.ensures.place in
    let longer = c.put_base.ensures.longer in
    rw c.in_ok-push.ensures.items
    (kept_pushed 0 (length c.self.inside.bases.items) (length c.put_base.new.bases.items) c.self.inside.entries.items _ c.self.invariant (run_range c.args.run.now c.first-2.result.now (to_z w32 (of_z w32 c.last.result.offset)) c.len.result c.len-len.ensures.run c.first-2.ensures.first (ap offset_of c.last.ensures.last ∙ sym (cast_spot c.last.result c.last.ensures.last_bounded)) c.len.ensures.len) (omega arith) (omega arith))

pub returns-clause-ok : goal.returns-clause-ok
returns-clause-ok c =
    rw c.in_ok-push.ensures.items
    (entries_pushed (length c.self.inside.bases.items) c.self.inside.bases.items c.put_base.new.bases.items c.self.inside.entries.items _ c.args.self.now (Inserted c.args.epoch (run_idents c.args.run.now.0 c.args.run.now.1)) c.put_base.ensures.others c.self.invariant c.self.view_is (run_entry _ c.args.epoch c.first.result.now c.args.run.now.0 (to_z w32 (of_z w32 c.last.result.offset)) c.len.result c.args.run.now.1 c.in_ok-base.ensures.base (ap (λ (x : List Tuple). offset_of (last_of x)) (c.first.ensures.first ∙ sym c.first-2.ensures.first) ∙ (ap offset_of c.last.ensures.last ∙ sym (cast_spot c.last.result c.last.ensures.last_bounded))) c.first.ensures.first c.len.ensures.len))
