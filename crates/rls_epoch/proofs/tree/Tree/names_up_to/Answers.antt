use Rattle.std.proofs.Common.{◌≡◌, ◌+◌, ◌-◌, ◌/◌, ℕ, sym, ap, ◌∙◌, subst, arith, ⊎_elim}
use Rattle.std.specs.declared.cmp.Ordering.TheVariants.{Less}
use Rattle.std.proofs.lemmas.Bool.{cases_lt}
use Rattle.rls_epoch.specs.Climbing.{name_cmp}
use Rattle.rls_epoch.specs.Maxima.{name_in}
use Rattle.rls_epoch.proofs.Indices.{rising_at}
use Rattle.rls_epoch.proofs.Ordering.{names_order}
use Rattle.rls_epoch.proofs.tree.Tree.names_up_to.Goals as goal

pub loop-low-preserved-in-Less : goal.loop-low-preserved-in-Less
loop-low-preserved-in-Less c =
    let i = c.loop-low.invariant in
    let ps = c.args.self.now.nodes.placed in
    let places = c.args.self.now.by_name.items in
    let e = c.args.name in
    let m = c.loop-low.low + (c.loop-low.high - c.loop-low.low) / 2 in
    let h : name_cmp e (name_in ps places m) ≡ Less = ap (name_cmp e) (sym c.name_by_name.ensures.name) ∙ sym c.in-Less.ensures.order in
    record {
      order = omega arith;
      in_range = omega arith;
      below = i.below;
      above = λ a l w.
          ⊎_elim (λ g. names_order.trans e (name_in ps places m) (name_in ps places a) h (rising_at name_cmp ps places c.args.self.now.by_name_is.rising m a g w))
          (λ g. let q : m ≡ a = omega arith in subst (λ (j : ℕ). name_cmp e (name_in ps places j) ≡ Less) q h) (cases_lt m a);
    }

pub loop-low-preserved : goal.loop-low-preserved
loop-low-preserved c =
    let i = c.loop-low.invariant in
    let ps = c.args.self.now.nodes.placed in
    let places = c.args.self.now.by_name.items in
    let e = c.args.name in
    let m = c.loop-low.low + (c.loop-low.high - c.loop-low.low) / 2 in
    let here : name_cmp e (name_in ps places m) ≡ Less → ⊥ = λ k. c.in_default.not-Less (c.compare_names.ensures.order ∙ (ap (name_cmp e) c.name_by_name.ensures.name ∙ k)) in
    record {
      order = omega arith;
      in_range = i.in_range;
      below = λ a l k.
          ⊎_elim (λ g. here (names_order.trans e (name_in ps places a) (name_in ps places m) k (rising_at name_cmp ps places c.args.self.now.by_name_is.rising a m g (omega arith))))
          (λ g. let q : a ≡ m = omega arith in here (subst (λ (j : ℕ). name_cmp e (name_in ps places j) ≡ Less) q k)) (cases_lt a m);
      above = i.above;
    }
