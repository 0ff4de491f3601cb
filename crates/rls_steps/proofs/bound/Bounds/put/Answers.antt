use Rattle.std.proofs.Common.{◌≡◌, ◌≤◌, ◌++◌, ◌∷◌, [], ℕ, List, length, take, sym, ap, ◌∙◌, arith}
use Rattle.rls_steps.specs.declared.bound.Bounds.{Bounds}
use Rattle.rls_steps.proofs.Bounded.{bounded_long, bounded_more}
use Rattle.rls_steps.proofs.bound.Bounds.put.Goals as goal

-- one more count, behind those of the first runs
older_put : (os cut new : List ℕ) (n count : ℕ) {m : ℕ} → n ≡ m → cut ≡ take m os → new ≡ cut ++ count ∷ [] → new ≡ take n os ++ count ∷ []
older_put os cut new n count size c e = e ∙ (ap (λ (ks : List ℕ). ks ++ count ∷ []) c ∙ ap (λ k. take k os ++ count ∷ []) (sym size))

pub returns-in_err-put_counts-clause-kept : goal.returns-in_err-put_counts-clause-kept
returns-in_err-put_counts-clause-kept c = λ rs size o.
    let count = let w = c.in-Some-checked_add.ensures in w in
    let olders = older_put c.args.self.now.olders.items _ _ (length rs) c.args.span.count size c.truncate.ensures.items c.in_ok-push.ensures.items in
    bounded_long rs c.args.self.now _ c.args.span.count o (c.put_counts.ensures.kept rs c.max-self.result o.counted (omega (arith, size, count)) (omega (arith, c.max-self.ensures)) (omega (arith, c.max-self.ensures))) olders

pub returns-clause-kept : goal.returns-clause-kept
returns-clause-kept c = λ rs size o.
    let count = let w = c.in-Some-checked_add.ensures in w in
    let olders = older_put c.args.self.now.olders.items _ _ (length rs) c.args.span.count size c.truncate.ensures.items c.in_ok-push.ensures.items in
    bounded_long rs c.args.self.now _ c.args.span.count o (c.put_counts.ensures.kept rs c.max-self.result o.counted (omega (arith, size, count)) (omega (arith, c.max-self.ensures)) (omega (arith, c.max-self.ensures))) olders

pub returns-clause-put : goal.returns-clause-put
returns-clause-put c = λ rs r size o none own.
    let b' : Bounds = record { counts = c.put_counts.new.counts; above = c.max-self.result; olders = c.push.new.self } in
    let count = let w = c.in-Some-checked_add.ensures in w in
    let next = let w = c.in-Some.ensures in w in
    let most = c.max-self.ensures in
    let over : c.in-Some.next ≤ c.max-self.result = omega (arith, most) in
    let olders = older_put c.args.self.now.olders.items _ _ (length rs) c.args.span.count size c.truncate.ensures.items c.in_ok-push.ensures.items in
    let counted = c.put_counts.ensures.kept rs c.max-self.result o.counted (omega (arith, size, count)) (omega (arith, most)) over in
    bounded_more rs r c.args.self.now b' c.args.span.count c.args.low c.args.high c.in-Some-checked_add.count c.args.span.low c.args.span.high o counted olders none c.requires.low c.requires.high own (omega (arith, next, over)) (omega (arith, size, count))
    (λ l h g. c.in_ok-put_counts.ensures.put l h (omega (arith, next, g)))
