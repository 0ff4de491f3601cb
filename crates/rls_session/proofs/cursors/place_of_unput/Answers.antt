use Rattle.std.proofs.Common.{◌≡◌, refl}
use Rattle.rls_anchor.specs.Anchors.{place_over}
use Rattle.rls_session.proofs.cursors.place_of_unput.Goals as goal

pub returns-then-number-eq0 : goal.returns-then-number-eq0
unfolding place_over
returns-then-number-eq0 c = record { place = λ s. let is : c.args.number ≡ 0 = c.if-number-eq0.true in rw is refl }
