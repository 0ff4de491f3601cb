use Rattle.std.proofs.Common.{◌≡◌, true, sym, ap, ◌∙◌}
use Rattle.std.specs.List.{list_all}
use Rattle.std.specs.Map.{values_of}
use Rattle.std.specs.BTreeMap.{insert_entry}
use Rattle.std.specs.Ordering.{nat_cmp}
use Rattle.rls_ident.proofs.Members.{eq_refl}
use Rattle.rls_ops.specs.Waiting.{waiting_under, with_waiting, is_in_order}
use Rattle.rls_causal.specs.Queued.{is_by, counts_own, numbered}
use Rattle.rls_causal.proofs.Queued.{inserted, own_is, values_is, with_new, with_passing}
use Rattle.rls_causal.proofs.queue.Queue.add.Goals as goal
use Rattle.rls_causal.proofs.queue.Queue.add.Goals.{then-self, else-self}

pub invariant_of-self-2 : goal.invariant_of-self-2
invariant_of-self-2 c =
    let o = c.args.op in
    let h = c.self.invariant in
    let W = values_of c.self.inside.ops.entries in
    let es = c.insert.new.self.entries in
    let by = ap (list_all (is_by o.author)) c.self.view_is ∙ c.requires.author in
    let absent = ap (λ V. waiting_under V o.author o.seq) c.self.view_is ∙ c.requires.absent in
    let e = inserted c.self.inside.ops.entries W h.own o es by absent (c.in_ok-insert.ensures.entries ∙ ap (insert_entry nat_cmp c.self.inside.ops.entries o.seq) c.new.ensures.op) in
    let v = values_is es (with_waiting o W) e in
    let own : c.if-self.regular ≡ true → counts_own o ≡ true = λ r. elim c.if-self.branch [ then-self w ↦ w.counts_own-regular.ensures.counts (sym w.regular-is ∙ r) | else-self w ↦ absurd (cc) ] in
    let regular : c.if-self.regular ≡ true → c.self.inside.regular ≡ true = λ r. elim c.if-self.branch [ then-self w ↦ w.if-self.true | else-self w ↦ absurd (cc) ] in
    record {
      author = o.author;
      by = ap (list_all (is_by o.author)) v ∙ with_passing (is_by o.author) o W (eq_refl o.author) by;
      own = own_is es (with_waiting o W) e;
      order = ap is_in_order v ∙ with_new o W h.order absent;
      counted = λ r. ap (list_all counts_own) v ∙ with_passing counts_own o W (own r) (h.counted (regular r));
    }

pub returns-clause-ok : goal.returns-clause-ok
returns-clause-ok c =
    let o = c.args.op in
    let V = c.args.self.now in
    let e = inserted c.self.inside.ops.entries V (c.self.invariant.own ∙ ap numbered c.self.view_is) o c.insert.new.self.entries c.requires.author c.requires.absent (c.in_ok-insert.ensures.entries ∙ ap (insert_entry nat_cmp c.self.inside.ops.entries o.seq) c.new.ensures.op) in
    values_is c.insert.new.self.entries (with_waiting o V) e
