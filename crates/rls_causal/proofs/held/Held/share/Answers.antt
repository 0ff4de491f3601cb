use Rattle.std.proofs.Common.{◌≡◌, Some, sym, ap, ◌∙◌}
use Rattle.std.specs.Option.{option_copied_mut}
use Rattle.std.specs.Prelude.{nat_eq}
use Rattle.std.specs.Map.{values_of}
use Rattle.std.proofs.lemmas.Map.Steps.{set_value_same}
use Rattle.rls_causal.specs.Queues.{joined}
use Rattle.rls_causal.proofs.Queues.{own_queue, found_under}
use Rattle.rls_causal.proofs.held.Held.share.Goals as goal

-- what was found was written back as it was
entries_still : (c : goal.After-self-2-1) → (c.get_mut.follows.lender c.share.new.self).entries ≡ c.self.inside.queues.entries
entries_still c =
    let w = c.share.new.self in
    (c.get_mut.follows.holds w).0 ∙ set_value_same (nat_eq c.args.author) c.self.inside.queues.entries w (sym (ap Some c.share.ensures.same ∙ c.in-Some.ensures.value))

pub returns-in_default-clause-copy : goal.returns-in_default-clause-copy
returns-in_default-clause-copy c =
    found_under c.args.author c.args.seq _ _ _ c.self.invariant.queues c.self.view_is (sym (ap option_copied_mut c.in_default.is) ∙ c.get_mut.ensures.value)

pub invariant_of-self-2 : goal.invariant_of-self-2
invariant_of-self-2 c = rw (entries_still c) c.self.invariant

pub returns-clause-same : goal.returns-clause-same
returns-clause-same c = ap (λ es. joined (values_of es)) (entries_still c) ∙ c.self.view_is

pub returns-clause-copy : goal.returns-clause-copy
returns-clause-copy c =
    let e = sym (found_under c.args.author c.args.seq _ _ _ c.self.invariant.queues c.self.view_is c.in-Some.ensures.value) in
    rw e (c.share.ensures.copy c.args.author (own_queue c.args.author c.self.inside.queues.entries c.in-Some.queue.now c.self.invariant.queues.own (sym c.in-Some.ensures.value)))
