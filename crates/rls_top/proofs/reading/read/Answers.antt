use Rattle.std.proofs.Common.{Err, ap, inl, subst, sym, ℕ}
use Rattle.std.specs.Prelude.{Vec}
use Rattle.std.specs.declared.alloc.Global.{Global}
use Rattle.rls_stages.specs.Errors.{GivesError}
use Rattle.rls_top.specs.declared.stages.InputError.{InputError}
use Rattle.rls_top.specs.Answered.{ReadsUnlessFailed}
use Rattle.rls_top.specs.Due.{read}
use Rattle.rls_top.specs.Stages.{of_input}
use Rattle.rls_top.proofs.Answered.{came_more, came_whole}
use Rattle.rls_top.proofs.reading.read.Goals as goal

pub returns-in-Ok-clause-came : goal.returns-in-Ok-clause-came
returns-in-Ok-clause-came g c = came_whole g.S.Source.read_gives c.args.input.now c.read_all.new.source c.in-Ok.bytes.items c.in-Ok.ensures.within c.in-Ok.ensures.gives

pub returns-in-Err-TooLarge-clause-came : goal.returns-in-Err-TooLarge-clause-came
returns-in-Err-TooLarge-clause-came g c =
    let e = c.in-Err-TooLarge in
    let more = e.ensures.gives_more (ap Err e.field-0-is) in
    let Came : InputError → Type 0 = λ error. ReadsUnlessFailed {X = Vec ℕ Global} g.S.Source.read_gives (λ given. GivesError (of_input error) (read given)) (Err error) c.args.input.now c.read_all.new.source in
    subst Came (sym c.from.ensures) (came_more g.S.Source.read_gives c.args.input.now c.read_all.new.source more.0 more.1 more.2)

pub returns-in-Err-OutOfMemory-clause-came : goal.returns-in-Err-OutOfMemory-clause-came
returns-in-Err-OutOfMemory-clause-came g c =
    let e = c.in-Err-OutOfMemory in
    let some = e.ensures.gives_some (ap Err e.field-0-is) in
    rw c.from-in-Err-OutOfMemory.ensures (some.0, inl some.2)
