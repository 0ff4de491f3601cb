use Rattle.std.proofs.Common.{sym, subst, arith, Err}
use Rattle.std.proofs.lemmas.Result.{err_from_is_err_and}
use Rattle.rls_file.specs.declared.loading.FileError.{FileError}
use Rattle.rls_file.specs.Loading.{Loads}
use Rattle.rls_file.proofs.WholeFiles.{journal_is}
use Rattle.rls_file.proofs.Loaded.{given, head_fails, fault_loads}
use Rattle.rls_file.proofs.loading.read.Goals as goal

pub returns-in-Err : goal.returns-in-Err
returns-in-Err c = record {
  bytes = λ i. omega (arith, c.type_inv.bytes i);
  given = tt;
  read = subst (λ (e : FileError). Loads (Err e) c.args.bytes.now) (sym c.damage.ensures.damage) (head_fails c.in-Err.error c.args.bytes.now c.in-Err.ensures.read);
}

pub returns-in_err-parts : goal.returns-in_err-parts
returns-in_err-parts c =
    let p = err_from_is_err_and c.from_residual.result c.from_residual.ensures.1 in
    rw (p.1, p.2) record { bytes = λ i. omega (arith, c.type_inv.bytes i); given = tt; read = fault_loads c.in-Ok.found.0 c.in_err-parts.field-0.0 c.args.bytes.now c.in_err-parts.ensures.read }

pub returns-then-form-gt1 : goal.returns-then-form-gt1
returns-then-form-gt1 c = record {
  bytes = λ i. omega (arith, c.type_inv.bytes i);
  read = c.in_ok-parts.ensures.read;
  given = given c.args.bytes.now c.in-Ok.found.0 c.in_ok-parts.parts (λ i. omega (arith, c.type_inv.bytes i)) c.in_ok-parts.ensures.read;
}

pub load_journal-requires : goal.load_journal-requires
load_journal-requires c = record { form = journal_is c.args.bytes.now c.in-Ok.found.1.now c.in-Ok.found.0 c.in-Ok.ensures.read c.if-form-gt1.false }
