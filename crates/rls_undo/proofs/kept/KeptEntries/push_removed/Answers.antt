use Rattle.std.proofs.Common.{to_z, of_z, w32, subst, ◌∙◌, ap, sym, arith, length}
use Rattle.rls_ident.specs.Tuples.{offset_of}
use Rattle.std.specs.Prelude.{◌≤ℤ◌}
use Rattle.rls_ident.specs.Identifiers.{least_offset, greatest_offset}
use Rattle.rls_undo.specs.declared.entry.Entry.TheVariants.{Removed}
use Rattle.rls_undo.proofs.Keeping.{kept_longer, kept_pushed, same_entries, entries_pushed, removed_entry, on_err, cast_spot, spot_range}
use Rattle.rls_undo.proofs.kept.KeptEntries.push_removed.Goals as goal

pub invariant_of-self : goal.invariant_of-self
invariant_of-self c = kept_longer 0 (length c.self.inside.bases.items) (length c.put_base.new.bases.items) c.self.inside.entries.items c.self.invariant c.put_base.ensures.longer

pub returns-in_err-base-clause-err : goal.returns-in_err-base-clause-err
returns-in_err-base-clause-err c =
    on_err c.from_residual-in_err-base.result _
    (same_entries 0 (length c.self.inside.bases.items) c.self.inside.bases.items c.put_base.new.bases.items c.self.inside.entries.items c.put_base.ensures.others c.self.invariant ∙ c.self.view_is)

pub invariant_of-self-in_err-push : goal.invariant_of-self-in_err-push
invariant_of-self-in_err-push c =
    rw c.in_err-push.ensures.items (kept_longer 0 (length c.self.inside.bases.items) (length c.put_base.new.bases.items) c.self.inside.entries.items c.self.invariant c.put_base.ensures.longer)

pub returns-in_err-push-clause-err : goal.returns-in_err-push-clause-err
returns-in_err-push-clause-err c =
    on_err c.from_residual-in_err-push.result _
    (rw c.in_err-push.ensures.items
    (same_entries 0 (length c.self.inside.bases.items) c.self.inside.bases.items c.put_base.new.bases.items c.self.inside.entries.items c.put_base.ensures.others c.self.invariant ∙ c.self.view_is))

pub invariant_of-self-2 : goal.invariant_of-self-2
invariant_of-self-2 c =
    let place = c.in_ok-base.ensures.place in
    let longer = c.put_base.ensures.longer in
    rw c.in_ok-push.ensures.items
    (kept_pushed 0 (length c.self.inside.bases.items) (length c.put_base.new.bases.items) c.self.inside.entries.items _ c.self.invariant (subst (λ o. (least_offset ≤ℤ o) × (o ≤ℤ greatest_offset)) (sym (cast_spot c.last-offset.result c.last-offset.ensures.last_bounded)) (spot_range c.last-offset.result c.last-offset.ensures.last_bounded)) (omega arith) (omega arith))

pub returns-clause-ok : goal.returns-clause-ok
returns-clause-ok c =
    rw c.in_ok-push.ensures.items
    (entries_pushed (length c.self.inside.bases.items) c.self.inside.bases.items c.put_base.new.bases.items c.self.inside.entries.items _ c.args.self.now (Removed c.args.epoch c.args.first.now c.args.text) c.put_base.ensures.others c.self.invariant c.self.view_is (removed_entry _ c.args.epoch c.args.first.now (to_z w32 (of_z w32 c.last-offset.result.offset)) c.in_ok-text.text.value c.in_ok-base.ensures.base (ap offset_of c.last-offset.ensures.last ∙ sym (cast_spot c.last-offset.result c.last-offset.ensures.last_bounded)) ∙ ap (λ cs. Removed c.args.epoch c.args.first.now cs) c.in_ok-text.ensures.ok))
