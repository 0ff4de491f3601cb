use Rattle.std.proofs.Common.{◌≡◌, ◌∙◌, ap}
use Rattle.test_devices.specs.Lossy.{Moments, changed, state_of, wrote}
use Rattle.test_devices.proofs.Losing.{goes_on, written_follows}
use Rattle.test_devices.proofs.lossy.LossyDiskDisk.write.Goals as goal

written : (c : goal.In-Ok) → c.write.new.self ≡ changed c.args.self.now.moments c.args.area (wrote (state_of c.args.self.now.moments.areas c.args.area) c.args.at c.args.bytes.now)
written c = c.in-Ok.ensures.wrote ∙ ap (λ (m : Moments). changed m c.args.area (wrote (state_of m.areas c.args.area) c.args.at c.args.bytes.now)) c.works.ensures.same

pub returns-in-Ok-clause-crash : goal.returns-in-Ok-clause-crash
returns-in-Ok-clause-crash c = written_follows c.args.self.now.moments c.write.new.self c.args.area c.args.at c.args.bytes.now c.requires.within (ap (λ (m : Moments). m.areas) (written c))

pub returns-in-Ok-clause-time : goal.returns-in-Ok-clause-time
returns-in-Ok-clause-time c = goes_on c.args.self.now.moments c.write.new.self (ap (λ (m : Moments). m.past) (written c))
