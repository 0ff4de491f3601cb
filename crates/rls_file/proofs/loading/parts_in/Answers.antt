use Rattle.std.proofs.Common.{◌<◌, ◌≤◌, length, sym, subst, arith, Err}
use Rattle.rls_file.specs.declared.loading.FileError.{FileError}
use Rattle.rls_file.specs.Loading.{ReadsParts}
use Rattle.rls_file.proofs.Loaded.{parts_fail, parts_surplus, parts_done}
use Rattle.rls_file.proofs.loading.parts_in.Goals as goal

pub returns-in-empty : goal.returns-in-empty
returns-in-empty c =
    let none : length c.in-Ok.after.now ≤ 0 = omega (arith, c.in-empty.len_below) in
    record { read = parts_done c.args.bytes.now c.args.rest.now c.in-Ok.after.now c.args.form c.in-Ok.parts c.requires.form c.requires.later c.in-Ok.ensures.read none }

pub returns-in-len1-up : goal.returns-in-len1-up
returns-in-len1-up c =
    let some : 0 < length c.in-Ok.after.now = omega (arith, c.in-len1-up.len_at_least) in
    record {
      read = subst (λ (e : FileError). ReadsParts c.args.form (Err e) c.args.bytes.now) (sym c.surplus.ensures.surplus)
          (parts_surplus c.args.bytes.now c.args.rest.now c.in-Ok.after.now c.args.form c.in-Ok.parts c.requires.form c.requires.later c.in-Ok.ensures.read some);
    }

pub returns-in-Err : goal.returns-in-Err
returns-in-Err c = record {
  read = subst (λ (e : FileError). ReadsParts c.args.form (Err e) c.args.bytes.now) (sym c.damage.ensures.damage)
      (parts_fail c.in-Err.error c.args.bytes.now c.args.rest.now c.args.form c.requires.form c.requires.later c.in-Err.ensures.read);
}
