use Rattle.std.proofs.Common.{ap, refl, arith}
use Rattle.std.proofs.lemmas.Result.{err_from_is_err_and}
use Rattle.rls_log.specs.declared.head.OpHead.{OpHead}
use Rattle.rls_log.proofs.Entries.{entry_found}
use Rattle.rls_log.proofs.FoundOut.{head_found, head_tells, head_fails, head_within, head_members, limit_kept, limit_broken, op_fails}
use Rattle.rls_log.proofs.reading.entry_at.Goals as goal

pub overflow_sub-len : goal.overflow_sub-len
overflow_sub-len c = head_within c.args.members c.args.bytes.now c.in_ok-head.head c.in_ok-head.rest.now (λ i. omega (arith, c.type_inv.bytes i)) c.in_ok-head.ensures.read

pub returns-in_err-head-clause-fails : goal.returns-in_err-head-clause-fails
returns-in_err-head-clause-fails c =
    let p = err_from_is_err_and c.from_residual.result c.from_residual.ensures.1 in
    rw (p.1, p.2) (op_fails c.args.members c.args.bytes.now c.in_err-head.field-0.0 (head_fails c.args.members c.args.bytes.now c.in_err-head.field-0.0 c.in_err-head.ensures.read))

pub returns-then-len-clause-fails : goal.returns-then-len-clause-fails
returns-then-len-clause-fails c =
    let o = head_found c.args.members c.args.bytes.now c.in_ok-head.head c.in_ok-head.rest.now c.in_ok-head.ensures.read in
    limit_broken c.args.members c.args.bytes.now o.0 c.in_ok-head.rest.now o.1 (omega (arith, c.if-len.true))

pub returns-clause-found : goal.returns-clause-found
returns-clause-found c =
    let m = c.args.members in
    let bytes = c.args.bytes.now in
    let rest = c.in_ok-head.rest.now in
    let h = c.in_ok-head.head in
    let o = head_found m bytes h rest c.in_ok-head.ensures.read in
    let counts = head_members m bytes o.0 rest (λ i. omega (arith, c.type_inv.bytes i)) o.1 in
    entry_found c.args.all.now bytes m o.0 rest _ (λ i. omega (arith, c.type_inv.bytes i)) c.requires.short c.requires.back (limit_kept m bytes o.0 rest o.1 (omega (arith, c.if-len.false))) (head_tells m o.0 h o.2 counts)
    (ap (λ (x : OpHead). x.members) o.2) refl refl
