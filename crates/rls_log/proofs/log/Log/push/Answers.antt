use Rattle.std.proofs.Common.{◌≡◌, ◌∙◌, ◌-◌, ◌++◌, ◌∷◌, [], List, ap, length, arith}
use Rattle.std.specs.Prelude.{is_ok, if◌then◌else◌}
use Rattle.std.proofs.lemmas.List.{length-append}
use Rattle.std.proofs.lemmas.Result.{err_from_is_err_and}
use Rattle.std.proofs.lemmas.List.Elements.{All-head, All-nil}
use Rattle.rls_ops.specs.declared.op.Op.{Op}
use Rattle.rls_ops.specs.Spelling.{op_bytes}
use Rattle.rls_codec.proofs.SizeLaws.{op_length}
use Rattle.rls_log.specs.declared.entry.Entry.{Entry}
use Rattle.rls_log.specs.Encoded.{IsEntry, AreEntries, op_in, ops_in}
use Rattle.rls_log.specs.Large.{AreLarge, with_value}
use Rattle.rls_log.proofs.Bounds.{bounds_same}
use Rattle.rls_log.proofs.Entries.{pushed, more_after}
use Rattle.rls_log.proofs.Larges.{copied_is, value_put, values_after}
use Rattle.rls_log.proofs.log.Log.push.Goals as goal

pub overflow_cast-entry : goal.overflow_cast-entry
overflow_cast-entry c =
    let o = c.args.op.now in
    omega (arith, c.len-3.ensures, c.len-start.ensures, c.encode_op.new.out.ok.0, c.self.inside.bytes.ok.0, ap length c.in_ok-encode_op.ensures.ok, length-append c.self.inside.bytes.items (op_bytes o), op_length o, c.is_short.ensures.short c.if-not-is_short.false)

cons_is : (o p : Op) → o ∷ [] ≡ p ∷ [] → o ≡ p
cons_is o p e = cc

module _ (c : goal.After-unwrap) where
  abbrev entry : Entry
  entry = record { head = c.of.result; start = c.len-start.result; len = c.len-3.result - c.len-start.result }

  entries : c.push.new.self.items ≡ c.self.inside.entries.items ++ entry ∷ []
  entries = c.push.ensures.items ∙ ap (λ r. if is_ok r then c.reserve.new.self.items ++ entry ∷ [] else c.reserve.new.self.items) c.unwrap.ensures ∙ ap (λ (es : List Entry). es ++ entry ∷ []) c.reserve.ensures.items

  after : (es : List Entry) → AreEntries c.self.inside.bytes.items es → AreEntries (c.self.inside.bytes.items ++ op_bytes c.args.op.now) (es ++ entry ∷ [])
      × (ops_in (c.self.inside.bytes.items ++ op_bytes c.args.op.now) (es ++ entry ∷ []) ≡ ops_in c.self.inside.bytes.items es ++ c.args.op.now ∷ [])
  after es are =
      let o = c.args.op.now in
      let bytes = c.self.inside.bytes.items in
      pushed bytes es o entry are (c.in_ok-encode_op.ensures.fields c.fits.ensures.whole.body) c.of.ensures.head (omega (arith, c.len-start.ensures, c.self.inside.bytes.ok.0))
      (omega (arith, c.len-3.ensures, c.len-start.ensures, c.encode_op.new.out.ok.0, c.self.inside.bytes.ok.0, ap length c.in_ok-encode_op.ensures.ok, length-append bytes (op_bytes o)))

  values : AreLarge (c.self.inside.bytes.items ++ op_bytes c.args.op.now) (with_value c.self.inside.values.items entry c.in_ok-keep_large.ensures.ok.0)
  values =
      let o = c.args.op.now in
      let bytes = c.self.inside.bytes.items in
      let all = bytes ++ op_bytes o in
      let own = after [] (All-nil (IsEntry bytes)) in
      value_put all c.self.inside.values.items entry c.in_ok-keep_large.ensures.ok.0 (All-head (IsEntry all) entry [] own.0) (copied_is c.in_ok-keep_large.ensures.ok.0 o (op_in all entry) c.in_ok-keep_large.ensures.ok.1 (cons_is (op_in all entry) o own.1))
      (values_after bytes (op_bytes o) c.self.inside.values.items c.self.invariant.values)

pub invariant_of-self-2 : goal.invariant_of-self-2
invariant_of-self-2 c =
    let before = ops_in c.self.inside.bytes.items c.self.inside.entries.items in
    let put = after c c.self.inside.entries.items c.self.invariant.entries in
    rw (entries c, c.in_ok-encode_op.ensures.ok, c.in_ok-keep_large.ensures.ok.2) record {
      entries = put.0;
      values = values c;
      latest = bounds_same c.note.new.self (before ++ c.args.op.now ∷ []) _ put.1 (c.note.ensures.noted before c.args.op.now c.of.ensures.head (c.reserve-2.ensures.same before c.self.invariant.latest));
    }

pub returns-clause-ok : goal.returns-clause-ok
returns-clause-ok c = rw (entries c, c.in_ok-encode_op.ensures.ok) ((after c c.self.inside.entries.items c.self.invariant.entries).1 ∙ ap (λ (os : List Op). os ++ c.args.op.now ∷ []) c.self.view_is)

-- ---- a value for which there was no memory

pub invariant_of-self-in_err-keep_large : goal.invariant_of-self-in_err-keep_large
invariant_of-self-in_err-keep_large c =
    let bytes = c.self.inside.bytes.items in
    let es = c.self.inside.entries.items in
    let more = more_after bytes (op_bytes c.args.op.now) es c.self.invariant.entries in
    rw (c.reserve.ensures.items, c.in_ok-encode_op.ensures.ok, c.in_err-keep_large.ensures.err) record {
      entries = more.0;
      values = values_after bytes (op_bytes c.args.op.now) c.self.inside.values.items c.self.invariant.values;
      latest = bounds_same c.reserve-2.new.self (ops_in bytes es) _ more.1 (c.reserve-2.ensures.same (ops_in bytes es) c.self.invariant.latest);
    }

pub returns-in_err-keep_large-clause-err : goal.returns-in_err-keep_large-clause-err
returns-in_err-keep_large-clause-err c =
    let bytes = c.self.inside.bytes.items in
    let es = c.self.inside.entries.items in
    let p = err_from_is_err_and c.from_residual-in_err-keep_large.result c.from_residual-in_err-keep_large.ensures.1 in
    rw (p.1, c.reserve.ensures.items, c.in_ok-encode_op.ensures.ok) ((more_after bytes (op_bytes c.args.op.now) es c.self.invariant.entries).1 ∙ c.self.view_is)
