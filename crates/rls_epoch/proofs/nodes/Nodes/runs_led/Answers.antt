use Rattle.std.proofs.Common.{◌≡◌, ◌<◌, ◌-◌, ◌*◌, ◌^◌, ◌++◌, suc, List, map, length, sym, ap, ◌∙◌, subst, arith}
use Rattle.std.specs.Prelude.{IfOk}
use Rattle.std.proofs.lemmas.Grind.{common_steps}
use Rattle.std.proofs.lemmas.List.{append-nil}
use Rattle.rls_ident.specs.declared.tuple.Tuple.{Tuple}
use Rattle.rls_runs.specs.Runs.{AreIdents, idents_of}
use Rattle.rls_runs.proofs.RunsOf.{idents_of_runs}
use Rattle.rls_epoch.specs.declared.parts.Part.{Part}
use Rattle.rls_epoch.specs.declared.ways.Step.{Step}
use Rattle.rls_epoch.specs.Parts.{ends, work, AreUnderWay}
use Rattle.rls_epoch.specs.Ways.{led}
use Rattle.rls_epoch.proofs.Sorting.{nothing}
use Rattle.rls_epoch.proofs.Moving.{map_none}
use Rattle.rls_epoch.proofs.Parting.{end_fits, end_increasing, end_popped, push_popped, way_pop, work_push}
use Rattle.rls_epoch.proofs.nodes.Nodes.runs_led.Goals as goal

pub returns-then-is_empty : goal.returns-then-is_empty
returns-then-is_empty c =
    let ps = c.args.self.now.placed in
    let short : length c.args.steps.now < 1 = grind (arith, common_steps) in
    let none = nothing c.args.steps.now short in
    record {
      led = subst (λ (ss : List Step). IfOk c.copy.result (λ xs. xs ≡ map (led ps ss) c.args.ids.now)) (sym none)
          (subst (λ (ys : List (List Tuple)). IfOk c.copy.result (λ xs. xs ≡ ys)) (sym (map_none ps c.args.ids.now)) c.copy.ensures.copy);
    }

pub push_parts-requires-clause-idents : goal.push_parts-requires-clause-idents
push_parts-requires-clause-idents c = subst AreIdents (sym (ap idents_of c.as_slice.ensures.runs ∙ idents_of_runs c.args.ids.now)) c.total-total.ensures.idents

pub push_parts-requires-clause-total : goal.push_parts-requires-clause-total
push_parts-requires-clause-total c =
    let e = ap length (ap idents_of c.as_slice.ensures.runs ∙ idents_of_runs c.args.ids.now) in
    let t = c.total-total.ensures.total in
    omega arith

pub loop-ids-init : goal.loop-ids-init
loop-ids-init c =
    let ps = c.args.self.now.placed in
    let steps = c.args.steps.now in
    let f = led ps steps in
    let xs = idents_of c.as_slice.result.now in
    let e = ap idents_of c.as_slice.ensures.runs ∙ idents_of_runs c.args.ids.now in
    let n : ends ps steps c.push_parts.new.parts.items ≡ map f xs ++ ends ps steps c.new-parts.result.items = c.in_ok-push_parts.ensures.ends in
    record {
      under_way = c.in_ok-push_parts.ensures.under_way;
      ends = ap (λ (ys : List (List Tuple)). ys ++ ends ps steps c.push_parts.new.parts.items) c.new-at_end.ensures.empty
          ∙ (n ∙ (ap (λ (parts : List Part). map f xs ++ ends ps steps parts) c.new-parts.ensures.items ∙ (append-nil (map f xs) ∙ ap (map f) e)));
    }

pub push_parts-requires-then-done-steps-clause-idents : goal.push_parts-requires-then-done-steps-clause-idents
push_parts-requires-then-done-steps-clause-idents c = subst AreIdents (sym (ap idents_of c.as_slice-then-done-steps.ensures.runs ∙ idents_of_runs c.in-Some.field-0.ids)) c.total-total-in-Some.ensures.idents

pub push_parts-requires-then-done-steps-clause-total : goal.push_parts-requires-then-done-steps-clause-total
push_parts-requires-then-done-steps-clause-total c =
    let e = ap length (ap idents_of c.as_slice-then-done-steps.ensures.runs ∙ idents_of_runs c.in-Some.field-0.ids) in
    let t = c.total-total-in-Some.ensures.total in
    omega arith

pub push_parts-requires-then-done-steps-clause-under_way : goal.push_parts-requires-then-done-steps-clause-under_way
push_parts-requires-then-done-steps-clause-under_way c =
    let n = length c.args.steps.now in
    (way_pop n c.pop.new.self.items c.in-Some.field-0 (subst (AreUnderWay n) c.in-Some.ensures.items c.loop-ids.invariant.under_way)).0

pub loop-ids-smaller-then-done-steps : goal.loop-ids-smaller-then-done-steps
loop-ids-smaller-then-done-steps c =
    let n = length c.args.steps.now in
    let front = c.pop.new.self.items in
    let x : Part = c.in-Some.field-0 in
    let some = (way_pop n front x (subst (AreUnderWay n) c.in-Some.ensures.items c.loop-ids.invariant.under_way)).1 in
    let p = ap (work n) c.in-Some.ensures.items ∙ work_push n front x in
    let e : length (idents_of c.as_slice-then-done-steps.result.now) ≡ length x.ids = ap length (ap idents_of c.as_slice-then-done-steps.ensures.runs ∙ idents_of_runs x.ids) in
    let q = ap (λ m. m * suc (n - x.done)) e in
    let w = c.in_ok-push_parts-2.ensures.less in
    let r : work n c.push_parts-then-done-steps.new.parts.items < work n c.loop-ids.parts.items = omega (arith, some, p, e, q, w) in
    r

pub loop-ids-preserved-then-done-steps : goal.loop-ids-preserved-then-done-steps
loop-ids-preserved-then-done-steps c =
    let ps = c.args.self.now.placed in
    let steps = c.args.steps.now in
    let e = rw c.as_slice-then-done-steps.ensures.runs at c.in_ok-push_parts-2.ensures.ends in
    record {
      under_way = c.in_ok-push_parts-2.ensures.under_way;
      ends = push_popped ps steps c.loop-ids.parts.items c.pop.new.self.items c.in-Some.field-0 (ends ps steps c.push_parts-then-done-steps.new.parts.items) _ c.loop-ids.at_end c.in-Some.ensures.items e c.loop-ids.invariant.ends;
    }

pub with_all-requires-clause-above : goal.with_all-requires-clause-above
with_all-requires-clause-above c =
    let ps = c.args.self.now.placed in
    let steps = c.args.steps.now in
    let x : Part = c.in-Some.field-0 in
    let h = end_popped ps steps c.loop-ids.parts.items c.pop.new.self.items x _ c.loop-ids.at_end c.in-Some.ensures.items (omega arith) c.loop-ids.invariant.ends in
    end_increasing ps steps c.args.ids.now (c.loop-ids.at_end ++ x.ids) (ends ps steps c.pop.new.self.items) c.count-count.ensures.laid.nodes c.requires.within c.total-total.ensures.idents h

pub with_all-requires-clause-total : goal.with_all-requires-clause-total
with_all-requires-clause-total c =
    let after = ends c.args.self.now.placed c.args.steps.now c.pop.new.self.items in
    let h = end_popped c.args.self.now.placed c.args.steps.now c.loop-ids.parts.items c.pop.new.self.items c.in-Some.field-0 _ c.loop-ids.at_end c.in-Some.ensures.items (omega arith) c.loop-ids.invariant.ends in
    let t = c.total-total.ensures.total in
    end_fits c.args.self.now.placed c.args.steps.now c.args.ids.now c.loop-ids.at_end c.in-Some.field-0.ids after (2 ^ 64) (omega arith) h

pub loop-ids-smaller : goal.loop-ids-smaller
loop-ids-smaller c =
    let n = length c.args.steps.now in
    let front = c.pop.new.self.items in
    let x : Part = c.in-Some.field-0 in
    let some = (way_pop n front x (subst (AreUnderWay n) c.in-Some.ensures.items c.loop-ids.invariant.under_way)).1 in
    let p = ap (work n) c.in-Some.ensures.items ∙ work_push n front x in
    let q = ap (λ m. length x.ids * suc m) (let z : n - x.done ≡ 0 = omega arith in z) in
    let r : work n front < work n c.loop-ids.parts.items = omega (arith, some, p, q) in
    r

pub loop-ids-preserved : goal.loop-ids-preserved
loop-ids-preserved c =
    let ps = c.args.self.now.placed in
    let steps = c.args.steps.now in
    let n = length steps in
    let front = c.pop.new.self.items in
    let x : Part = c.in-Some.field-0 in
    record {
      under_way = (way_pop n front x (subst (AreUnderWay n) c.in-Some.ensures.items c.loop-ids.invariant.under_way)).0;
      ends = ap (λ (ys : List (List Tuple)). ys ++ ends ps steps front) c.in_ok-at_end.ensures.all
          ∙ end_popped ps steps c.loop-ids.parts.items front x _ c.loop-ids.at_end c.in-Some.ensures.items (omega arith) c.loop-ids.invariant.ends;
    }
