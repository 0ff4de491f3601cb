use Rattle.rls_rename.specs.Renaming.{forward}
use Rattle.rls_epoch.proofs.Moving.{image_on}
use Rattle.rls_epoch.proofs.epochs.Epochs.translate_run_by.Goals as goal

pub returns : goal.returns
returns c = rw (← c.self.view_is) record { renamed = image_on (forward c.args.renaming.now) c.args.run.now c.run_led_by.result c.in_ok-steps.ensures.way c.deref.ensures.value c.len-len.ensures.run c.run_led_by.ensures.led }
