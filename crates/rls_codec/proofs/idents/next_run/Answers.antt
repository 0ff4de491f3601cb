use Rattle.std.proofs.Common.{ap, refl, Err}
use Rattle.rls_codec.proofs.RunSteps.{put_run_behind, below_fails, touching_fails, ok_err}
use Rattle.rls_codec.proofs.idents.next_run.Goals as goal

pub returns-in-Ok-clause-puts : goal.returns-in-Ok-clause-puts
returns-in-Ok-clause-puts c =
    let told = c.in-Ok.ensures in
    put_run_behind c.args.runs.now c.in_ok-found.found c.args.bytes.now c.in_ok-found.rest.now c.requires.apart c.in_ok-found.ensures.read c.push.new.self c.in_ok-found.ensures.len c.in_ok-found.ensures.short told.ok
    (λ f. ok_err _ _ _ refl (told.not_above.1 f)) (λ a t. ok_err _ _ _ refl (told.touching.1 (a, t)))

pub returns-in-Err-NotAbove-clause-fails : goal.returns-in-Err-NotAbove-clause-fails
returns-in-Err-NotAbove-clause-fails c =
    below_fails c.args.runs.now c.in_ok-found.found c.args.bytes.now c.in_ok-found.rest.now c.requires.apart c.in_ok-found.ensures.read
    (c.in-Err-NotAbove.ensures.not_above.0 (ap (λ e. Err e) c.in-Err-NotAbove.field-0-is))

pub returns-in-Err-Touching-clause-fails : goal.returns-in-Err-Touching-clause-fails
returns-in-Err-Touching-clause-fails c =
    let both = c.in-Err-Touching.ensures.touching.0 (ap (λ e. Err e) c.in-Err-Touching.field-0-is) in
    touching_fails c.args.runs.now c.in_ok-found.found c.args.bytes.now c.in_ok-found.rest.now c.requires.apart c.in_ok-found.ensures.read both.0 both.1
