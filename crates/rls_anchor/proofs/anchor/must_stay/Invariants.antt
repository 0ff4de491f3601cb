use Rattle.std.proofs.Common.{◌≡◌, false, take}
use Rattle.rls_anchor.specs.Elsewhere.{has_epoch}
use Rattle.rls_anchor.proofs.anchor.must_stay.Given as goal

-- none of the first ones is the epoch
abbrev pub invariant-loop-name : goal.invariant-loop-name
invariant-loop-name l = has_epoch (take l.name-index l.name-items) l.epoch ≡ false
