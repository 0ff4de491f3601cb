use Rattle.std.proofs.Common.{◌≡◌, Some, sym, ap, ◌∙◌}
use Rattle.std.specs.Option.{option_copied_mut}
use Rattle.std.specs.Ordering.{nat_cmp}
use Rattle.std.specs.Map.{values_of}
use Rattle.std.specs.BTreeMap.{is_at}
use Rattle.std.proofs.lemmas.Map.Steps.{set_value_same}
use Rattle.rls_causal.specs.Queued.{numbered, IsQueue}
use Rattle.rls_causal.proofs.Queued.{looked_up}
use Rattle.rls_causal.proofs.queue.Queue.share.Goals as goal
use Rattle.rls_causal.proofs.queue.Queue.share.Goals.{After-share}

-- what was found was written back as it was
entries_still : (c : After-share) → (c.get_mut.follows.lender c.share.new.self).entries ≡ c.self.inside.ops.entries
entries_still c =
    let w = c.share.new.self in
    (c.get_mut.follows.holds w).0 ∙ set_value_same (is_at (nat_cmp c.args.seq)) c.self.inside.ops.entries w (sym (ap Some c.share.ensures.same ∙ c.in-Some.ensures.value))

queue_still : (c : After-share) → IsQueue (c.get_mut.follows.lender c.share.new.self).entries c.self.inside.regular
queue_still c = rw (entries_still c) c.self.invariant

pub returns-in_default-clause-copy : goal.returns-in_default-clause-copy
returns-in_default-clause-copy c = λ a by. sym (ap option_copied_mut c.in_default.is) ∙ (c.get_mut.ensures.value ∙ looked_up c.self.inside.ops.entries c.args.self.now (c.self.invariant.own ∙ ap numbered c.self.view_is) a c.args.seq by)

pub invariant_of-self-in_err-copy : goal.invariant_of-self-in_err-copy
invariant_of-self-in_err-copy c = queue_still c.before.before.before.before

pub returns-in_err-copy-clause-same : goal.returns-in_err-copy-clause-same
returns-in_err-copy-clause-same c = ap values_of (entries_still c.before.before.before.before) ∙ c.self.view_is

pub invariant_of-self-2 : goal.invariant_of-self-2
invariant_of-self-2 c = queue_still c.before.before.before

pub returns-clause-same : goal.returns-clause-same
returns-clause-same c = ap values_of (entries_still c.before.before.before) ∙ c.self.view_is

pub returns-clause-copy : goal.returns-clause-copy
returns-clause-copy c = λ a by. ap Some c.in_ok-copy.ensures.copy ∙ (c.in-Some.ensures.value ∙ looked_up c.self.inside.ops.entries c.args.self.now (c.self.invariant.own ∙ ap numbered c.self.view_is) a c.args.seq by)
