use Rattle.rls_epoch.proofs.Moving.{image_on}
use Rattle.rls_epoch.proofs.epochs.Epochs.translate_run.Goals as goal

pub returns : goal.returns
returns c = rw (← c.self.view_is) record { translated = image_on (λ x. x) c.args.run.now c.run_led.result c.in_ok-steps.ensures.way c.deref.ensures.value c.len-len.ensures.run c.run_led.ensures.led }
