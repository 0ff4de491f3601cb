use Rattle.std.proofs.Common.{◌≡◌, ◌∙◌, ◌<◌, ◌++◌, ◌∷◌, [], List, ℕ, Some, length, take, refl, ap, sym, subst, arith}
use Rattle.std.specs.Prelude.{slice_get}
use Rattle.std.proofs.lemmas.List.Elements.{All-nil, All-head}
use Rattle.std.proofs.lemmas.List.{take_all, length-map}
use Rattle.std.proofs.lemmas.Option.{slice_get_read}
use Rattle.rls_ops.specs.declared.op.Op.{Op}
use Rattle.rls_ops.specs.Rows.{is_covered, missing_for}
use Rattle.rls_log.specs.declared.entry.Entry.{Entry}
use Rattle.rls_log.specs.Encoded.{part_of, op_in, IsEntry, AreEntries, ops_in}
use Rattle.rls_log.specs.declared.large.LargeDeletion.{LargeDeletion}
use Rattle.rls_log.specs.Large.{IsLarge, AreLarge}
use Rattle.rls_log.proofs.Entries.{copied, covers, at_place, entry_at_place}
use Rattle.rls_log.proofs.Larges.{copied_is, value_put, values_after}
use Rattle.rls_log.proofs.Steps.{taken_covered, taken_uncovered}
use Rattle.rls_log.proofs.log.Log.missing.Goals as goal

pub loop-i-init : goal.loop-i-init
loop-i-init c = record {
  entries = subst (λ (es : List Entry). AreEntries c.new-bytes.result.items es) (sym c.new-entries.ensures.items) (All-nil (IsEntry c.new-bytes.result.items));
  values = subst (λ (vs : List LargeDeletion). AreLarge c.new-bytes.result.items vs) (sym c.new-values.ensures.items) (All-nil (IsLarge c.new-bytes.result.items));
  missing = ap (ops_in c.new-bytes.result.items) c.new-entries.ensures.items;
}

pub loop-i-preserved-then-is_covered : goal.loop-i-preserved-then-is_covered
loop-i-preserved-then-is_covered c =
    let bytes = c.self.inside.bytes.items in
    let es = c.self.inside.entries.items in
    let lt : c.loop-i.i < length es = omega (arith, c.loop-i-test.true, c.len-i-end.ensures, c.self.inside.entries.ok.0) in
    let got : slice_get es c.loop-i.i ≡ Some c.index-entry.result.now = slice_get_read es (length es) c.loop-i.i c.index-entry.result.now refl lt c.index-entry.ensures in
    let test = sym (covers bytes c.args.vector.now c.index-entry.result.now (entry_at_place bytes es c.loop-i.i c.index-entry.result.now got c.self.invariant.entries)) ∙ sym c.is_covered.ensures.test ∙ c.if-is_covered.true in
    record { entries = c.loop-i.invariant.entries; values = c.loop-i.invariant.values; missing = c.loop-i.invariant.missing ∙ sym (taken_covered c.args.vector.now (ops_in bytes es) c.loop-i.i (op_in bytes c.index-entry.result.now) (at_place bytes es c.loop-i.i c.index-entry.result.now got) test) }

cons_is : (o p : Op) → o ∷ [] ≡ p ∷ [] → o ≡ p
cons_is o p e = cc

pub loop-i-preserved : goal.loop-i-preserved
loop-i-preserved c =
    let v = c.args.vector.now in
    let bytes = c.self.inside.bytes.items in
    let es = c.self.inside.entries.items in
    let i = c.loop-i.i in
    let e = c.index-entry.result.now in
    let lt : i < length es = omega (arith, c.loop-i-test.true, c.len-i-end.ensures, c.self.inside.entries.ok.0) in
    let got : slice_get es i ≡ Some e = slice_get_read es (length es) i e refl lt c.index-entry.ensures in
    let k = entry_at_place bytes es i e got c.self.invariant.entries in
    let test : is_covered v (op_in bytes e) ≡ _ = sym (covers bytes v e k) ∙ sym c.is_covered.ensures.test ∙ c.if-is_covered.false in
    let m = c.moved_to-moved.ensures in
    let d = c.moved_to-moved.result in
    let out = c.loop-i.bytes.items in
    let p = copied out c.loop-i.entries.items bytes e d c.loop-i.invariant.entries k m.head (m.start ∙ c.len.ensures ∙ c.loop-i.bytes.ok.0) m.len in
    let put = copied out [] bytes e d (All-nil (IsEntry out)) k m.head (m.start ∙ c.len.ensures ∙ c.loop-i.bytes.ok.0) m.len in
    let all = out ++ part_of bytes e in
    let same : op_in all d ≡ op_in bytes e = cons_is (op_in all d) (op_in bytes e) put.1 in
    let value = copied_is c.in_ok-copy_of_value.field-0 (op_in bytes e) (op_in all d) (c.in_ok-copy_of_value.ensures.copy bytes (subst (AreLarge bytes) (sym c.deref-in-loop-i.ensures.value) c.self.invariant.values)) same in
    let from : c.extend_from_slice.new.self.items ≡ out ++ part_of bytes e = c.in_ok-extend_from_slice.ensures.items ∙ ap (λ (w : List ℕ). out ++ w) (c.part.ensures.part ∙ ap (λ (w : List ℕ). part_of w e) c.deref.ensures.value) in
    rw (from, c.in_ok-push.ensures.items, c.in_ok-keep_value.ensures.ok) record {
      entries = p.0;
      values = value_put all c.loop-i.values.items d c.in_ok-copy_of_value.field-0 (All-head (IsEntry all) d [] put.0) value (values_after out (part_of bytes e) c.loop-i.values.items c.loop-i.invariant.values);
      missing = p.1 ∙ ap (λ (os : List Op). os ++ op_in bytes e ∷ []) c.loop-i.invariant.missing ∙ sym (taken_uncovered v (ops_in bytes es) i (op_in bytes e) (at_place bytes es i e got) test);
    }

pub returns : goal.returns
returns c =
    let os = ops_in c.self.inside.bytes.items c.self.inside.entries.items in
    let all : take c.loop-i.i os ≡ os = take_all c.loop-i.i os (omega (arith, length-map c.self.inside.entries.items (op_in c.self.inside.bytes.items), c.loop-i-test.false, c.len-i-end.ensures, c.self.inside.entries.ok.0)) in
    record { missing = c.in_ok-log.ensures.ops ∙ c.loop-i.invariant.missing ∙ ap (missing_for c.args.vector.now) (all ∙ c.self.view_is) }
