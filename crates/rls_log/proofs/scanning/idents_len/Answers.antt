use Rattle.std.proofs.Common.{◌∙◌, ap, Ok}
use Rattle.std.proofs.lemmas.Result.{err_from_is_err_and}
use Rattle.rls_log.proofs.FoundOut.{idents_len_fails, one_run_fails, one_run_len}
use Rattle.rls_log.proofs.scanning.idents_len.Goals as goal

pub returns-in_err-count : goal.returns-in_err-count
returns-in_err-count c =
    let p = err_from_is_err_and c.from_residual.result c.from_residual.ensures.1 in
    rw (p.1, p.2) record { read = idents_len_fails c.in_err-count.field-0.0 c.args.bytes.now c.in_err-count.ensures.read }

pub returns-in_err-len : goal.returns-in_err-len
returns-in_err-len c =
    let p = err_from_is_err_and c.from_residual-in_err-len.result c.from_residual-in_err-len.ensures.1 in
    rw (p.1, p.2) record { read = one_run_fails c.args.bytes.now c.in_ok-count.rest.now c.in_err-len.field-0.0 (c.in_ok-count.ensures.read ∙ ap (λ n. Ok (n, c.in_ok-count.rest.now)) c.if-count-eq1.true) c.in_err-len.ensures.read }

pub returns-then-count-eq1 : goal.returns-then-count-eq1
returns-then-count-eq1 c =
    record { read = one_run_len c.args.bytes.now c.in_ok-count.rest.now c.in_ok-len.after.now c.in_ok-len.len (c.in_ok-count.ensures.read ∙ ap (λ n. Ok (n, c.in_ok-count.rest.now)) c.if-count-eq1.true) c.in_ok-len.ensures.read }
