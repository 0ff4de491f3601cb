use Rattle.std.proofs.Common.{ap, Err}
use Rattle.rls_file.proofs.Loaded.{parts_loaded, broken_loads}
use Rattle.rls_file.proofs.loading.of_parts.Goals as goal

pub returns-in-Ok-from_tested : goal.returns-in-Ok-from_tested
returns-in-Ok-from_tested c = record {
  loads = λ bytes small len read. parts_loaded bytes c.args.form c.args.parts c.in-Ok-from_tested.replica read c.in-Ok.ensures.made.unbroken c.in-Ok-from_tested.ensures.replica c.in-Ok-from_tested.ensures.stands;
}

pub returns-in-Err-Broken : goal.returns-in-Err-Broken
returns-in-Err-Broken c =
    let e = c.in-Err-Broken in
    record {
      loads = λ bytes small len read. broken_loads bytes c.args.form e.rule e.index _ _ c.place_of_broken.result c.args.parts small len read
          (e.ensures.broken e.rule e.index (ap (λ e. Err e) e.field-0-is)) e.rule-is e.index-is c.place_of_broken.ensures.place;
    }
