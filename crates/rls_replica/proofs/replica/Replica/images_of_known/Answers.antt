use Rattle.std.proofs.Common.{◌∙◌, map, subst, ap}
use Rattle.rls_rename.proofs.Kept.{greatest_kept}
use Rattle.rls_seen.specs.Sane.{IsSane}
use Rattle.rls_seen.specs.Seen.{Seen, greatest_over, translate_over}
use Rattle.rls_replica.specs.View.{seen}
use Rattle.rls_replica.proofs.Remembering.{images_known}
use Rattle.rls_replica.proofs.replica.Replica.images_of_known.Goals as goal

pub translate_runs-requires-clause-to : goal.translate_runs-requires-clause-to
translate_runs-requires-clause-to c = rw c.greatest.ensures.greatest (greatest_kept c.self.inside.epochs.epochs.top c.self.inside.epochs.epochs.nodes)

pub returns : goal.returns
returns c =
    let i = seen c.self.inside in
    let s = c.args.self.now in
    let e = c.args.epoch in
    let ids = c.args.ids.now in
    let m = c.in_ok-images.ensures.translated ∙ (ap (λ f. map (translate_over i e f) ids) c.greatest.ensures.greatest ∙ ap (λ (u : Seen). map (translate_over u e (greatest_over u)) ids) c.self.view_is) in
    record { known = images_known s e ids c.in_ok-images.images (subst IsSane c.self.view_is c.self.invariant.sane) c.total-total.ensures.idents m c.requires.known }
