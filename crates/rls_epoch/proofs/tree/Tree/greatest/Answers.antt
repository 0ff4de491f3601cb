use Rattle.std.proofs.Common.{rules, ◌≡◌, ◌<◌, ◌++◌, ◌∷◌, [], List, ℕ, length, sym, subst, ◌∙◌, inl, refl, arith}
use Rattle.std.proofs.lemmas.Grind.{common_steps}
use Rattle.rls_ident.specs.Lists.{IsIn}
use Rattle.rls_ident.proofs.Members.{in_right}
use Rattle.rls_epoch.proofs.Sorting.{nothing}
use Rattle.rls_epoch.proofs.Orders.{greatest_last, greatest_none}
use Rattle.rls_epoch.proofs.tree.Tree.greatest.Goals as goal

pub name_of-requires : goal.name_of-requires
name_of-requires c =
    let k = c.in-Some.place.now in
    let lesser = c.in-Some.field-0-1.now in
    let q : c.args.self.now.order.items ≡ lesser ++ (k ∷ []) = search rules in
    record { place = c.args.self.now.order_is.within k (subst (λ (xs : List ℕ). IsIn k xs) (sym q) (in_right k lesser (k ∷ []) (inl refl))) }

pub returns-in-None : goal.returns-in-None
returns-in-None c =
    let short : length c.args.self.now.order.items < 1 = grind (arith, common_steps) in
    record { greatest = c.epoch_of.ensures.name ∙ greatest_none c.count-count.ensures.laid c.args.self.now.order_is (nothing c.args.self.now.order.items short) }

pub returns-in-Some : goal.returns-in-Some
returns-in-Some c =
    let k = c.in-Some.place.now in
    let lesser = c.in-Some.field-0-1.now in
    let q : c.args.self.now.order.items ≡ lesser ++ (k ∷ []) = search rules in
    record { greatest = c.name_of.ensures.name ∙ greatest_last c.count-count.ensures.laid c.args.self.now.order_is lesser k q }
