use Rattle.std.proofs.Common.{rules, ◌≡◌, ◌<◌, ◌++◌, ◌∷◌, [], List, ℕ, true, length, sym, ap, subst, ◌∙◌, arith, ⊎_elim}
use Rattle.std.proofs.lemmas.Grind.{common_steps}
use Rattle.rls_ident.specs.declared.epoch_name.EpochName.{EpochName}
use Rattle.rls_ident.specs.EpochNames.{is_of_member, is_within, name_eq}
use Rattle.rls_ident.specs.Lists.{IsIn}
use Rattle.rls_ident.proofs.Members.{or_right}
use Rattle.rls_rename.specs.Tree.{has_node, greatest_within}
use Rattle.rls_epoch.specs.Marks.{AreReached}
use Rattle.rls_epoch.specs.Seen.{nodes_of}
use Rattle.rls_epoch.specs.Sorted.{place_name, names_at}
use Rattle.rls_epoch.proofs.Needed.{ArePassed, last_left, passed_set, reached_all, reached_at}
use Rattle.rls_epoch.proofs.Orders.{place_kept}
use Rattle.rls_epoch.proofs.Sorting.{nothing}
use Rattle.rls_epoch.proofs.tree.Tree.mark_reached.Goals as goal

pub name_of-name-requires : goal.name_of-name-requires
name_of-name-requires c =
    let lesser = c.in-Some.lesser.now in
    let q : c.loop-place.rest.now ≡ lesser ++ (c.in-Some.place.now ∷ []) = search rules in
    record { place = (last_left c.args.self.now.order_is c.loop-place.rest.now lesser c.in-Some.place.now c.loop-place.invariant.0 c.loop-place.invariant.1 q).1 }

pub overflow_add-place : goal.overflow_add-place
overflow_add-place c =
    let q : c.loop-place.rest.now ≡ c.in-Some.lesser.now ++ (c.in-Some.place.now ∷ []) = search rules in
    let w = (last_left c.args.self.now.order_is c.loop-place.rest.now c.in-Some.lesser.now c.in-Some.place.now c.loop-place.invariant.0 c.loop-place.invariant.1 q).1 in
    omega (arith, w)

pub within-requires : goal.within-requires
within-requires c =
    let ps = c.args.self.now.nodes.placed in
    let k = c.in-Some.place.now in
    let q : c.loop-place.rest.now ≡ c.in-Some.lesser.now ++ (k ∷ []) = search rules in
    let w = (last_left c.args.self.now.order_is c.loop-place.rest.now c.in-Some.lesser.now k c.loop-place.invariant.0 c.loop-place.invariant.1 q).1 in
    let e = place_name ps k in
    let m = c.requires.members e (or_right (name_eq e c.args.self.now.nodes.top) (has_node (nodes_of ps) e) (place_kept ps k w)) in
    record { member = subst (λ (f : EpochName). is_of_member (length c.args.v.now) f ≡ true) (sym c.name_of-name.ensures.name) m }

pub mark_epoch-requires : goal.mark_epoch-requires
mark_epoch-requires c =
    let q : c.loop-place.rest.now ≡ c.in-Some.lesser.now ++ (c.in-Some.place.now ∷ []) = search rules in
    let w = (last_left c.args.self.now.order_is c.loop-place.rest.now c.in-Some.lesser.now c.in-Some.place.now c.loop-place.invariant.0 c.loop-place.invariant.1 q).1 in
    let n = c.requires.whole in
    record { within = omega arith }

pub returns-then-within : goal.returns-then-within
returns-then-within c =
    let k = c.in-Some.place.now in
    let q : c.loop-place.rest.now ≡ c.in-Some.lesser.now ++ (k ∷ []) = search rules in
    let left = last_left c.args.self.now.order_is c.loop-place.rest.now c.in-Some.lesser.now k c.loop-place.invariant.0 c.loop-place.invariant.1 q in
    let w = left.1 in
    let n = c.requires.whole in
    let reached = ap (λ (f : EpochName). is_within f c.args.v.now) (sym c.name_of-name.ensures.name) ∙ (sym c.within.ensures.within ∙ c.if-within.true) in
    record {
      reached = reached_at c.args.self.now.nodes.top c.args.self.now.nodes.placed c.count-count.ensures.laid c.args.self.now.order.items c.args.self.now.order_is c.args.v.now c.args.marks.now c.mark_epoch.new.marks c.in-Some.lesser.now k c.loop-place.invariant.0 left.0 reached c.loop-place.invariant.2
          (passed_set c.mark_epoch.new.marks k c.mark_epoch.ensures.set (omega (arith, w, n)) c.loop-place.invariant.3);
    }

pub loop-place-preserved : goal.loop-place-preserved
loop-place-preserved c =
    let not = ap (λ (f : EpochName). is_within f c.args.v.now) (sym c.name_of-name.ensures.name) ∙ (sym c.within.ensures.within ∙ c.if-within.false) in
    let n = c.requires.whole in
    let q : c.loop-place.rest.now ≡ c.in-Some.lesser.now ++ (c.in-Some.place.now ∷ []) = search rules in
    let left = last_left c.args.self.now.order_is c.loop-place.rest.now c.in-Some.lesser.now c.in-Some.place.now c.loop-place.invariant.0 c.loop-place.invariant.1 q in
    let w = left.1 in (
      c.in-Some.place.now ∷ c.loop-place.invariant.0,
      left.0,
      λ f p. ⊎_elim (λ h. ap (λ (g : EpochName). is_within g c.args.v.now) (sym h) ∙ not) (λ h. c.loop-place.invariant.2 f h) p,
      passed_set c.mark_epoch.new.marks c.in-Some.place.now c.mark_epoch.ensures.set (omega (arith, w, n)) c.loop-place.invariant.3,
    )

pub returns : goal.returns
returns c =
    let i = c.loop-place.invariant in
    let top = c.args.self.now.nodes.top in
    let ps = c.args.self.now.nodes.placed in
    let old = c.args.marks.now in
    let ms = c.loop-place.marks in
    let short : length c.loop-place.rest.now < 1 = grind (arith, common_steps) in
    let none = nothing c.loop-place.rest.now short in
    let whole = i.1 ∙ ap (λ (xs : List ℕ). xs ++ i.0) none in
    let n = c.requires.whole in
    let all = reached_all top ps c.count-count.ensures.laid c.args.self.now.order.items c.args.self.now.order_is c.args.v.now old ms
    (λ e p. i.2 e (subst (λ (xs : List ℕ). IsIn e (names_at ps xs)) whole p)) (subst (λ (xs : List ℕ). ArePassed old ms xs) (sym whole) i.3) (omega arith) in
    record { reached = subst (λ (xs : List ℕ). AreReached top ps old xs (greatest_within top (nodes_of ps) c.args.v.now)) (sym c.mark_epoch-2.ensures.set) all }
