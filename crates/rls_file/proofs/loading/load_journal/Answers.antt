use Rattle.std.proofs.Common.{◌<◌, ◌≤◌, ◌∙◌, length, sym, subst, arith, Err}
use Rattle.rls_ident.proofs.Members.{eq_is, eq_not}
use Rattle.rls_file.specs.declared.loading.FileError.{FileError}
use Rattle.rls_file.specs.Loading.{Loads}
use Rattle.rls_file.proofs.Loaded.{journal_fails, journal_loaded, journal_surplus}
use Rattle.rls_file.proofs.loading.load_journal.Goals as goal

pub returns-in-Err : goal.returns-in-Err
returns-in-Err c = record {
  loads = subst (λ (e : FileError). Loads (Err e) c.args.bytes.now) (sym c.damage.ensures.damage) (journal_fails c.in-Err.error c.args.bytes.now c.args.rest.now c.requires.form c.in-Err.ensures.err);
}

pub returns-then-not-is_empty : goal.returns-then-not-is_empty
returns-then-not-is_empty c =
    let after = c.in-Ok.read.1.now in
    let read = c.in-Ok.ensures.ok in
    let not_none = eq_not (length after) 0 (sym c.is_empty.ensures ∙ c.if-not-is_empty.true) in
    let some : 0 < length after = omega (arith, not_none) in
    record {
      loads = subst (λ (e : FileError). Loads (Err e) c.args.bytes.now) (sym c.surplus.ensures.surplus) (journal_surplus c.args.bytes.now c.args.rest.now after read.0 c.requires.form read.1 some);
    }

pub returns : goal.returns
returns c =
    let after = c.in-Ok.read.1.now in
    let read = c.in-Ok.ensures.ok in
    let empty = eq_is (length after) 0 (sym c.is_empty.ensures ∙ c.if-not-is_empty.false) in
    let none : length after ≤ 0 = omega (arith, empty) in
    record { loads = journal_loaded c.args.bytes.now c.args.rest.now after read.0 c.in-Ok.read.0 c.drop_stable.new.self c.requires.form read.1 none read.2 c.drop_stable.ensures.after }
