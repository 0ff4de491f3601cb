use Rattle.std.proofs.Common.{subst}
use Rattle.std.specs.Prelude.{All}
use Rattle.rls_codec.specs.Spelled.{IsSpelledIfFit}
use Rattle.rls_log.specs.Fitting.{AreFit}
use Rattle.rls_log.proofs.Entries.{all_fit, all_spelled}
use Rattle.rls_log.proofs.log.Log.fits.Goals as goal

pub returns-clause-whole : goal.returns-clause-whole
returns-clause-whole c = subst AreFit c.self.view_is (all_fit c.self.inside.bytes.items c.self.inside.entries.items c.self.invariant.entries)

pub returns-clause-spelled : goal.returns-clause-spelled
returns-clause-spelled c = subst (All IsSpelledIfFit) c.self.view_is (all_spelled c.self.inside.bytes.items c.self.inside.entries.items c.self.invariant.entries)
