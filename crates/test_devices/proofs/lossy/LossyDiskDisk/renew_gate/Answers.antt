use Rattle.std.proofs.Common.{true, ◌∙◌, ap}
use Rattle.test_devices.specs.Lossy.{Moments, marked, state_of}
use Rattle.test_devices.proofs.Losing.{marked_stays}
use Rattle.test_devices.proofs.lossy.LossyDiskDisk.renew_gate.Goals as goal

pub returns-clause-time : goal.returns-clause-time
returns-clause-time c =
    marked_stays c.args.self.now.moments c.mark.new.self 2 true (c.mark.ensures.marked ∙ ap (λ (m : Moments). marked m 2 (record { read = (state_of m.areas 2).read; left = (state_of m.areas 2).left; dirty = true })) c.works.ensures.same)
