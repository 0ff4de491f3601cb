use Rattle.std.proofs.Common.{◌≡◌, false, ◌∙◌, ap}
use Rattle.test_devices.specs.Lossy.{Moments, changed, marked, state_of, synced}
use Rattle.test_devices.proofs.Losing.{goes_on, marked_stays, still_dirty}
use Rattle.test_devices.proofs.lossy.LossyDiskDisk.sync.Goals as goal

-- after a sync that succeeded
written : (c : goal.In-Ok) → c.sync.new.self ≡ changed c.args.self.now.moments c.args.area (synced (state_of c.args.self.now.moments.areas c.args.area))
written c = c.in-Ok.ensures.synced ∙ ap (λ (m : Moments). changed m c.args.area (synced (state_of m.areas c.args.area))) c.enter.ensures.same

-- after one that failed
lost : (c : goal.After-fail-in-Some-false) → c.mark.new.self ≡ marked c.args.self.now.moments c.args.area (record { read = (state_of c.args.self.now.moments.areas c.args.area).read; left = (state_of c.args.self.now.moments.areas c.args.area).left; dirty = false })
lost c = c.mark.ensures.marked ∙ ap (λ (m : Moments). marked m c.args.area (record { read = (state_of m.areas c.args.area).read; left = (state_of m.areas c.args.area).left; dirty = false })) c.enter.ensures.same

pub returns-in-Ok-clause-dirty : goal.returns-in-Ok-clause-dirty
returns-in-Ok-clause-dirty c = λ other at n ne d. still_dirty c.args.self.now.moments c.sync.new.self c.args.area other _ (ap (λ (m : Moments). m.areas) (written c)) c.requires.area ne d

pub returns-in-Ok-clause-time : goal.returns-in-Ok-clause-time
returns-in-Ok-clause-time c = goes_on c.args.self.now.moments c.sync.new.self (ap (λ (m : Moments). m.past) (written c))

pub returns-in-Some-false-clause-dirty : goal.returns-in-Some-false-clause-dirty
returns-in-Some-false-clause-dirty c = λ other at n ne d. still_dirty c.args.self.now.moments c.mark.new.self c.args.area other _ (ap (λ (m : Moments). m.areas) (lost c)) c.requires.area ne d

pub returns-in-Some-false-clause-time : goal.returns-in-Some-false-clause-time
returns-in-Some-false-clause-time c = marked_stays c.args.self.now.moments c.mark.new.self c.args.area false (lost c)
