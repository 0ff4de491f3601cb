use Rattle.std.proofs.Common.{◌∙◌, sym, ap}
use Rattle.rls_ident.proofs.Members.{some_is}
use Rattle.rls_model.specs.History.{count}
use Rattle.rls_model.specs.Receiving.{State}
use Rattle.rls_world.proofs.Courses.{told}
use Rattle.rls_world.proofs.Standing.{all_length}
use Rattle.rls_world.proofs.trials.summarize.Goals as goal

pub returns : goal.returns
returns c = record {
  summary = λ w h.
      let a = c.replica.ensures.stands w h in
      let b = c.replica-2.ensures.stands w h in
      let d = c.replica-3.ensures.stands w h in
      let e = c.replica-4.ensures.stands w h in
      told w a.0 b.0 d.0 c.accepted.result c.in_ok-first.first c.in_ok-second.second c.in_ok-third.third (sym (all_length c.args.world.now.replicas w.states h.states) ∙ c.requires.three) a.1 b.1 d.1
      (c.accepted.ensures.counts ∙ (c.vector.ensures.stands e.0 e.2 ∙ ap (λ (t : State). count t.history) (some_is e.0 a.0 (sym e.1 ∙ a.1))))
      (c.in_ok-first.ensures.stands a.0 a.2) (c.in_ok-second.ensures.stands b.0 b.2) (c.in_ok-third.ensures.stands d.0 d.2);
}
