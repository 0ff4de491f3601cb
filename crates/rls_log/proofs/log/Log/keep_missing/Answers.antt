use Rattle.std.proofs.Common.{◌≡◌, ◌∙◌, ap, not, rules}
use Rattle.std.specs.List.{filter}
use Rattle.std.proofs.lemmas.List.Elements.{All-filter, All-same}
use Rattle.std.proofs.lemmas.Fn.{filter_same}
use Rattle.rls_ops.specs.Rows.{missing_for}
use Rattle.rls_log.specs.declared.entry.Entry.{Entry}
use Rattle.rls_log.specs.Heads.{is_head_covered}
use Rattle.rls_log.specs.declared.large.LargeDeletion.{LargeDeletion}
use Rattle.rls_log.specs.Encoded.{IsEntry, ops_in}
use Rattle.rls_log.specs.Large.{IsLarge}
use Rattle.rls_log.proofs.Bounds.{bounds_kept}
use Rattle.rls_log.proofs.Entries.{uncovered, covers}
use Rattle.rls_log.proofs.log.Log.keep_missing.Goals as goal

module _ (c : goal.After-drop_covered) where
  kept : c.retain.new.self.items ≡ filter (λ (e : Entry). not (is_head_covered c.args.vector.now e.head)) c.self.inside.entries.items
  kept = filter_same _ _ _ (λ x b f' k. search rules) _ _ c.retain.ensures.filtered

  left : ops_in c.self.inside.bytes.items c.retain.new.self.items ≡ missing_for c.args.vector.now (ops_in c.self.inside.bytes.items c.self.inside.entries.items)
  left =
      let bytes = c.self.inside.bytes.items in
      let v = c.args.vector.now in
      ap (ops_in bytes) kept ∙ uncovered bytes v (λ (e : Entry). is_head_covered v e.head) c.self.inside.entries.items c.self.invariant.entries (covers bytes v)

pub invariant_of-self : goal.invariant_of-self
invariant_of-self c =
    let bytes = c.self.inside.bytes.items in
    let es = c.self.inside.entries.items in
    let v = c.args.vector.now in
    record {
      entries = All-same (IsEntry bytes) _ _ (kept c) (All-filter (λ (e : Entry). not (is_head_covered v e.head)) (IsEntry bytes) es c.self.invariant.entries);
      values = All-same (IsLarge bytes) _ _ c.drop_covered.ensures.kept (All-filter (λ (x : LargeDeletion). not (is_head_covered v x.entry.head)) (IsLarge bytes) c.self.inside.values.items c.self.invariant.values);
      latest = bounds_kept c.self.inside.latest v (ops_in bytes es) (ops_in bytes c.retain.new.self.items) (left c) c.self.invariant.latest;
    }

pub returns : goal.returns
returns c =
    record { kept = left c ∙ ap (missing_for c.args.vector.now) c.self.view_is }
