use Rattle.std.proofs.Common.{◌≡◌, ◌-◌, ◌≤◌, ℕ, List, arith, sym, ap, ◌∙◌, subst}
use Rattle.rls_ident.specs.declared.tuple.Tuple.{Tuple}
use Rattle.rls_ident.specs.Lists.{IsIn}
use Rattle.rls_steps.specs.NameRuns.{Stretch, label_by, name_at, names_of}
use Rattle.rls_steps.proofs.Stretches.{first_by, labels_down, labels_up, order_down, order_up}
use Rattle.rls_steps.proofs.name_run.NameRun.labels.Goals as goal

-- the last label
last_label : (r q : Stretch) (n l : ℕ) → r ≡ q → n ≡ q.len → l ≡ (name_at q (n - 1)).1 → l ≡ label_by r.down r.label (r.len - 1)
last_label r q n l e m h = h ∙ (ap (λ (s : Stretch). (name_at s (n - 1)).1) (sym e) ∙ ap (λ k. label_by r.down r.label (k - 1)) (m ∙ ap (λ (s : Stretch). s.len) (sym e)))

pub returns-then-self-clause-labels : goal.returns-then-self-clause-labels
returns-then-self-clause-labels c = λ n p.
    let s = c.self.inside in
    let w = labels_down s.down s.first s.label s.len n c.if-self.true (subst (λ (r : Stretch). IsIn n (names_of r)) (sym c.self.view_is) p) in
    let last = last_label _ _ c.len-count.result c.label-last.result c.self.view_is c.len-count.ensures.len c.label-last.ensures.label in
    (subst (λ k. k ≤ n.1) (sym last) w.0, w.1)

pub returns-clause-labels : goal.returns-clause-labels
returns-clause-labels c = λ n p.
    let s = c.self.inside in
    let w = labels_up s.down s.first s.label s.len n c.if-self.false (subst (λ (r : Stretch). IsIn n (names_of r)) (sym c.self.view_is) p) in
    let last = last_label _ _ c.len-count.result c.label-last.result c.self.view_is c.len-count.ensures.len c.label-last.ensures.label in
    (w.0, subst (λ k. n.1 ≤ k) (sym last) w.1)

pub returns-then-self-clause-order : goal.returns-then-self-clause-order
returns-then-self-clause-order c =
    let s = c.self.inside in
    let last = last_label _ _ c.len-count.result c.label-last.result c.self.view_is c.len-count.ensures.len c.label-last.ensures.label in
    subst (λ k. k ≤ s.label) (sym last) (order_down s.down s.label (s.len - 1) c.if-self.true)

pub returns-clause-order : goal.returns-clause-order
returns-clause-order c =
    let s = c.self.inside in
    let last = last_label _ _ c.len-count.result c.label-last.result c.self.view_is c.len-count.ensures.len c.label-last.ensures.label in
    subst (λ k. s.label ≤ k) (sym last) (order_up s.down s.label (s.len - 1) c.if-self.false)

pub returns-then-self-clause-least : goal.returns-then-self-clause-least
returns-then-self-clause-least c =
    (c.len-count.result - 1, omega (arith, c.len-count.ensures.some, c.len-count.ensures.len), sym c.label-last.ensures.label)

pub returns-then-self-clause-greatest : goal.returns-then-self-clause-greatest
returns-then-self-clause-greatest c =
    let r = c.args.self.now in
    (0, omega (arith, c.len-count.ensures.some, c.len-count.ensures.len), ap (λ (n : List Tuple × ℕ). n.1) (first_by r.down r.first r.label) ∙ sym (ap (λ (q : Stretch). q.label) c.self.view_is))

pub returns-clause-least : goal.returns-clause-least
returns-clause-least c =
    let r = c.args.self.now in
    (0, omega (arith, c.len-count.ensures.some, c.len-count.ensures.len), ap (λ (n : List Tuple × ℕ). n.1) (first_by r.down r.first r.label) ∙ sym (ap (λ (q : Stretch). q.label) c.self.view_is))

pub returns-clause-greatest : goal.returns-clause-greatest
returns-clause-greatest c =
    (c.len-count.result - 1, omega (arith, c.len-count.ensures.some, c.len-count.ensures.len), sym c.label-last.ensures.label)
