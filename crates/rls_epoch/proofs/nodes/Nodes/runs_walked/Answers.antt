use Rattle.rls_epoch.proofs.Moving.{map_on}
use Rattle.rls_epoch.proofs.nodes.Nodes.runs_walked.Goals as goal

pub returns : goal.returns
returns c = record { translated = map_on c.args.ids.now c.runs_led.result c.in_ok-steps.ensures.way c.deref.ensures.value (c.total-total.ensures.idents).0 c.runs_led.ensures.led }
