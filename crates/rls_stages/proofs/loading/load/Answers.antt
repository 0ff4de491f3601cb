use Rattle.std.proofs.Common.{Ok, subst}
use Rattle.rls_ident.specs.declared.limits.TheConstants.{FILE_BYTES}
use Rattle.rls_io.specs.declared.devices.Found.{Found}
use Rattle.rls_io.specs.Device.{IsWithin}
use Rattle.rls_stages.proofs.Found.{found_bytes, found_longer}
use Rattle.rls_stages.proofs.loading.load.Goals as goal

pub returns-in-Ok-Longer-clause-found : goal.returns-in-Ok-Longer-clause-found
returns-in-Ok-Longer-clause-found g c =
    let Answered : Found → Type 0 = λ found. g.K.Keeper.load_gives c.args.keeper.now (Ok found) c.load.new.self in
    found_longer g.K.Keeper.load_gives c.args.keeper.now c.load.new.self (subst Answered c.in-Ok-Longer.field-0-is c.in-Ok-Longer.ensures.gives)

pub returns-in-Ok-Bytes-clause-found : goal.returns-in-Ok-Bytes-clause-found
returns-in-Ok-Bytes-clause-found g c =
    let Answered : Found → Type 0 = λ found. g.K.Keeper.load_gives c.args.keeper.now (Ok found) c.load.new.self in
    let is = c.in-Ok-Bytes.field-0-is in
    found_bytes g.K.Keeper.load_gives c.args.keeper.now c.load.new.self c.in-Ok-Bytes.bytes (subst Answered is c.in-Ok-Bytes.ensures.gives) (subst (IsWithin FILE_BYTES) is c.in-Ok-Bytes.ensures.within)
