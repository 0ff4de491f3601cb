use Rattle.std.proofs.Common.{◌≡◌, ℕ, List, Ok, Option, Result, subst, sym}
use Rattle.std.specs.Prelude.{Vec}
use Rattle.std.specs.declared.alloc.Global.{Global}
use Rattle.rls_io.specs.Memory.{bytes_of}
use Rattle.rls_report.specs.declared.failures.CommandError.{CommandError}
use Rattle.rls_stages.specs.Calls.{Finds}
use Rattle.rls_stages.specs.Errors.{Gives, of_open}
use Rattle.rls_stages.specs.KeptFile.{loaded, replica_in}
use Rattle.rls_stages.proofs.Found.{found_on}
use Rattle.rls_stages.proofs.loading.open.Goals as goal

pub returns-in-Ok-Some-clause-found : goal.returns-in-Ok-Some-clause-found
returns-in-Ok-Some-clause-found g c =
    let old = c.args.keeper.now in
    let new = c.load.new.keeper in
    let Given : Result (Option (List ℕ)) CommandError → Type 0 = λ l. Gives of_open (λ replica. replica) c.decoded.result (replica_in l) in
    let Found : Option (Vec ℕ Global) → Type 0 = λ o. Finds g.K.Keeper.load_gives (λ kept. loaded kept ≡ Ok (bytes_of o)) old new in
    found_on g.K.Keeper.load_gives old new (λ kept. loaded kept ≡ Ok (bytes_of c.in-Ok-Some.field-0)) (λ kept. Given (loaded kept)) c.decoded.result c.in-Ok-Some.ensures.found c.decoded.ensures.memory
    (λ kept is. subst Given (sym (subst (λ (o : Option (Vec ℕ Global)). loaded kept ≡ Ok (bytes_of o)) c.in-Ok-Some.field-0-is is)) c.decoded.ensures.replica)
