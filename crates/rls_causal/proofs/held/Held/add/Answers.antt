use Rattle.std.proofs.Common.{◌≡◌, ℕ, List, Some, Result, Ok, Err, OnErr, length, refl, sym, ap, ◌∙◌, arith}
use Rattle.std.specs.Map.{values_of}
use Rattle.std.specs.Prelude.{nat_eq}
use Rattle.std.proofs.lemmas.Map.Steps.{set_value_same}
use Rattle.rls_ops.specs.declared.op.Op.{Op}
use Rattle.rls_ops.specs.Waiting.{waiting_under, with_waiting}
use Rattle.rls_causal.specs.Queues.{joined}
use Rattle.rls_causal.proofs.Queued.{length-with}
use Rattle.rls_causal.proofs.Queues.{own_queue, added_joined, added_queues, found_under}
use Rattle.rls_causal.proofs.held.Held.add.Goals as goal

on_err : {A E P : Type 0} (r : Result A E) → P → OnErr r P
on_err (Ok x) p = tt
on_err (Err e) p = p

pub add-requires-clause-author : goal.add-requires-clause-author
add-requires-clause-author c = own_queue c.args.op.author c.open.new.queues.entries c.in-Some-get_mut.queue.now c.in_ok-open.ensures.queues.own (sym c.in-Some-get_mut.ensures.value)

pub add-requires-clause-absent : goal.add-requires-clause-absent
add-requires-clause-absent c =
    found_under c.args.op.author c.args.op.seq _ _ _ c.in_ok-open.ensures.queues (c.in_ok-open.ensures.same ∙ c.self.view_is) c.in-Some-get_mut.ensures.value ∙ c.requires.absent

-- without memory the queue was written back as it was
entries_still : (c : goal.After-from_residual-in_err-add) → (c.get_mut.follows.lender c.add.new.self).entries ≡ c.open.new.queues.entries
entries_still c =
    (c.get_mut.follows.holds c.add.new.self).0 ∙ set_value_same (nat_eq c.args.op.author) c.open.new.queues.entries c.add.new.self (sym c.in-Some-get_mut.ensures.value ∙ ap Some (sym c.in_err-add.ensures.err))

pub invariant_of-self-in_err-add : goal.invariant_of-self-in_err-add
invariant_of-self-in_err-add c = rw (entries_still c) record { queues = c.in_ok-open.ensures.queues; len = c.self.invariant.len ∙ ap length (sym c.in_ok-open.ensures.same) }

pub returns-in_err-add-clause-err : goal.returns-in_err-add-clause-err
returns-in_err-add-clause-err c = on_err c.from_residual-in_err-add.result (ap (λ cs. joined (values_of cs)) (entries_still c) ∙ c.in_ok-open.ensures.same ∙ c.self.view_is)

-- otherwise the operation is in it
module _ (c : goal.After-self-3-1) where
  abbrev es : List (ℕ × List Op)
  es = c.open.new.queues.entries

  abbrev ds : List (ℕ × List Op)
  ds = (c.get_mut.follows.lender c.add.new.self).entries

  joined_now : joined (values_of ds) ≡ with_waiting c.args.op (joined (values_of es))
  joined_now = added_joined c.args.op.author es ds c.in-Some-get_mut.queue.now c.add.new.self c.in_ok-open.ensures.queues (sym c.in-Some-get_mut.ensures.value) (c.get_mut.follows.holds c.add.new.self).0 c.args.op refl c.in_ok-add.ensures.ok

pub invariant_of-self-2 : goal.invariant_of-self-2
invariant_of-self-2 c =
    let o = c.args.op in
    let absent = ap (λ U. waiting_under U o.author o.seq) (c.in_ok-open.ensures.same ∙ c.self.view_is) ∙ c.requires.absent in
    let sum = c.in-Some.ensures.1 in
    let before = c.self.invariant.len in
    let same_length = ap length c.in_ok-open.ensures.same in
    let longer = ap length (joined_now c) ∙ length-with o (joined (values_of (es c))) in
    record {
      queues = added_queues o.author (es c) (ds c) c.in-Some-get_mut.queue.now c.add.new.self c.in_ok-open.ensures.queues (sym c.in-Some-get_mut.ensures.value) (c.get_mut.follows.holds c.add.new.self).0 o refl c.in_ok-add.ensures.ok absent;
      len = omega (arith, sum, before, same_length, longer);
    }

pub returns-clause-ok : goal.returns-clause-ok
returns-clause-ok c = joined_now c ∙ ap (with_waiting c.args.op) (c.in_ok-open.ensures.same ∙ c.self.view_is)
