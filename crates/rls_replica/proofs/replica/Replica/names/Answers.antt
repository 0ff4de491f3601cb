use Rattle.rls_doc.proofs.Places.{found_known}
use Rattle.rls_replica.specs.Lookups.{is_named_by}
use Rattle.std.proofs.Common.{◌≡◌, ◌∙◌, ◌&&◌, not, false, sym, subst, ap}
use Rattle.rls_ops.specs.Rows.{is_covered}
use Rattle.rls_seen.specs.Seen.{Seen, stable_over, translate_over}
use Rattle.rls_replica.specs.View.{seen}
use Rattle.rls_replica.proofs.Targets.{named_there, unstable_seen}
use Rattle.rls_replica.proofs.replica.Replica.names.Goals as goal

pub translate-requires-clause-to : goal.translate-requires-clause-to
translate-requires-clause-to c = c.self.invariant.sane.unstable c.args.op.now (unstable_seen c.args.op.now c.self.view_is c.requires.logged (sym c.is_stable.ensures.covered ∙ c.if-is_stable.false))

pub returns : goal.returns
returns c =
    let i = seen c.self.inside in
    let o = c.args.op.now in
    let x = c.args.target.now in
    let free = subst (λ (s : Seen). is_covered (stable_over s) o ≡ false) (sym c.self.view_is) (sym c.is_stable.ensures.covered ∙ c.if-is_stable.false) in
    let named = named_there i c.args.epoch x o c.in-Delete.targets c.self.invariant.sane.epochs.nodes c.last-last.ensures.ident c.total-total.ensures.idents c.in-Delete.is in
    let found : c.is_ok.result ≡ is_named_by i c.args.epoch x o =
    c.is_ok.ensures.value ∙ rw (c.find.ensures.find, c.in_ok-there.ensures.translated) (found_known c.in-Delete.targets (translate_over i c.args.epoch o.epoch x) ∙ named) in
    record {
      names = rw (← c.self.view_is) (found ∙ ap (λ b. not b && is_named_by i c.args.epoch x o) (sym free));
    }
