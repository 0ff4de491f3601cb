use Rattle.std.proofs.Common.{◌≡◌, ◌-◌, [], List, length, sym, subst, None, arith}
use Rattle.std.proofs.lemmas.List.Elements.{All-nil}
use Rattle.std.proofs.lemmas.Result.{err_from_is_err_and}
use Rattle.rls_codec.specs.Reading.{op_at, chain_at}
use Rattle.rls_codec.proofs.Loop.{ends}
use Rattle.rls_log.specs.declared.entry.Entry.{Entry}
use Rattle.rls_log.specs.declared.large.LargeDeletion.{LargeDeletion}
use Rattle.rls_log.specs.Encoded.{op_in, ops_in}
use Rattle.rls_log.specs.Large.{IsLargeWithin, AreLargeWithin}
use Rattle.rls_log.proofs.Entries.{SoFar, none_yet, one_more, no_more}
use Rattle.rls_log.proofs.FoundOut.{op_fails, fields_of}
use Rattle.rls_log.proofs.Larges.{value_put_within}
use Rattle.rls_log.proofs.reading.entry_list.Goals as goal

pub loop-init : goal.loop-init
loop-init c =
    let n : c.args.count ≡ c.args.count - 0 = omega arith in
    let none = length c.args.bytes.now - length c.args.bytes.now in
    record {
      found = subst (λ (es : List Entry). SoFar c.args.bytes.now c.args.members (c.args.count - 0) (chain_at (λ before. op_at c.args.members) None c.args.count c.args.bytes.now) es c.args.bytes.now) (sym c.in_ok-entries.ensures.items)
          (subst (λ m. SoFar c.args.bytes.now c.args.members m (chain_at (λ before. op_at c.args.members) None c.args.count c.args.bytes.now) [] c.args.bytes.now) n (none_yet c.args.bytes.now c.args.members c.args.count));
      values = subst (λ (vs : List LargeDeletion). AreLargeWithin c.args.bytes.now none vs) (sym c.new-values.ensures.items) (All-nil (IsLargeWithin c.args.bytes.now none));
    }

pub entry_at-requires-clause-short : goal.entry_at-requires-clause-short
entry_at-requires-clause-short c = c.loop.invariant.found.short

pub entry_at-requires-clause-back : goal.entry_at-requires-clause-back
entry_at-requires-clause-back c = c.loop.invariant.found.back

pub returns-in_err-entry-clause-fails : goal.returns-in_err-entry-clause-fails
returns-in_err-entry-clause-fails c =
    let p = err_from_is_err_and c.from_residual-in_err-entry.result c.from_residual-in_err-entry.ensures.1 in
    rw (p.1, p.2) (ends (λ before. op_at c.args.members) c.in_err-entry.field-0.0 (ops_in c.args.bytes.now c.loop.entries.items) None c.args.count c.loop.counter c.loop.rest.now _ c.loop-test.true c.in_err-entry.ensures.fails c.loop.invariant.found.read)

pub returns-in_err-read_large-clause-fails : goal.returns-in_err-read_large-clause-fails
returns-in_err-read_large-clause-fails c =
    let p = err_from_is_err_and c.from_residual-in_err-read_large.result c.from_residual-in_err-read_large.ensures.1 in
    let fails = op_fails c.args.members c.loop.rest.now c.in_err-read_large.field-0.0 c.in_err-read_large.ensures.fails in
    rw (p.1, p.2) (ends (λ before. op_at c.args.members) c.in_err-read_large.field-0.0 (ops_in c.args.bytes.now c.loop.entries.items) None c.args.count c.loop.counter c.loop.rest.now _ c.loop-test.true fails c.loop.invariant.found.read)

pub loop-preserved : goal.loop-preserved
loop-preserved c =
    let f = c.in_ok-entry.ensures.found in
    let k = c.in_ok-read_large.ensures.ok in
    rw k.2 record {
      found = one_more c.args.bytes.now c.args.members c.args.count c.loop.counter _ c.loop.entries.items c.push.new.self.items c.loop.rest.now c.in_ok-entry.after.now c.in_ok-entry.entry c.loop-test.true c.loop.invariant.found f c.in_ok-push.ensures.items;
      values = value_put_within c.args.bytes.now (length c.args.bytes.now - length c.loop.rest.now) (length c.args.bytes.now - length c.in_ok-entry.after.now) c.loop.values.items c.in_ok-entry.entry k.0 (omega (arith, f.cut, f.short)) f.entry (omega (arith, f.end))
          (k.1 (op_in c.args.bytes.now c.in_ok-entry.entry) c.in_ok-entry.after.now (fields_of c.args.members c.loop.rest.now (op_in c.args.bytes.now c.in_ok-entry.entry) c.in_ok-entry.after.now f.read)) c.loop.invariant.values;
    }

pub returns-clause-found : goal.returns-clause-found
returns-clause-found c = no_more c.args.bytes.now c.args.members c.args.count c.loop.counter c.loop.entries.items c.loop.rest.now c.loop-test.false c.loop.invariant.found
