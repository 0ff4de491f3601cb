use Rattle.std.proofs.lemmas.Result.{err_from_is_err_and}
use Rattle.rls_model.specs.History.{Fresh}
use Rattle.rls_file.proofs.Filling.{journal_fails, journal_done}
use Rattle.rls_file.proofs.reading.journal.Goals as goal

pub returns-in_err-rest-clause-err : goal.returns-in_err-rest-clause-err
returns-in_err-rest-clause-err c =
    let group = c.in_ok-group.group in
    let me = c.in_ok-me.me in
    let members = c.in_ok-members.members in
    let p = err_from_is_err_and c.from_residual-in_err-rest.result c.from_residual-in_err-rest.ensures.1 in
    let read = c.in_err-rest.ensures.read (Fresh group me members) (record { is = c.in-Ok.ensures.ok; stands = c.in-Ok.ensures.stands }) in
    rw (p.1, p.2) (journal_fails c.in_err-rest.field-0.0 group me members c.args.bytes.now c.in_ok-group.rest.now c.in_ok-members.rest.now c.in_ok-me.rest.now c.in_ok-group.ensures.read c.in_ok-members.ensures.read c.in_ok-me.ensures.read read)

pub returns-clause-ok : goal.returns-clause-ok
returns-clause-ok c =
    let group = c.in_ok-group.group in
    let me = c.in_ok-me.me in
    let members = c.in_ok-members.members in
    let e = c.in_ok-rest.ensures.read (Fresh group me members) (record { is = c.in-Ok.ensures.ok; stands = c.in-Ok.ensures.stands }) in
    (e.0, journal_done group me members c.args.bytes.now c.in_ok-group.rest.now c.in_ok-members.rest.now c.in_ok-me.rest.now c.in_ok-rest.rest.now e.0 c.in_ok-group.ensures.read c.in_ok-members.ensures.read c.in_ok-me.ensures.read e.1, e.2)
