use Rattle.std.proofs.Common.{rules, ◌≡◌, List, [], ◌∷◌, ◌++◌, length, sym, ap, ◌∙◌, subst, arith, length-append}
use Rattle.rls_ident.specs.declared.epoch_name.EpochName.{EpochName}
use Rattle.rls_rename.specs.Tree.{epoch_cmp}
use Rattle.rls_epoch.specs.declared.placed.Placed.{Placed}
use Rattle.rls_epoch.specs.Maxima.{AreMaxima}
use Rattle.rls_epoch.specs.Seen.{EpochsSeen, former_sum, marks_of, nodes_of}
use Rattle.rls_epoch.proofs.Shrinking.{written}
use Rattle.rls_epoch.proofs.Whole.{marks_more, sum_more}
use Rattle.rls_epoch.proofs.epochs.Epochs.add.Goals as goal

pub returns-clause-marks : goal.returns-clause-marks
returns-clause-marks c =
    let s = c.self.inside in
    let p : Placed = record { parent = c.args.parent; up = c.number_of-up.result; renaming = c.args.renaming } in
    let marked : c.push-2.new.self.items ≡ s.marks.items ++ 0 ∷ [] = search rules in
    ap (λ (e : EpochName). marks_of e c.add-index.new.self.nodes.placed c.push-2.new.self.items) c.add-index.ensures.top
    ∙ (ap (λ (xs : List Placed). marks_of s.tree.nodes.top xs c.push-2.new.self.items) c.add-index.ensures.placed
    ∙ (ap (marks_of s.tree.nodes.top (s.tree.nodes.placed ++ p ∷ [])) marked ∙ (marks_more s.tree.nodes.top s.tree.nodes.placed p s.marks.items c.self.invariant.marks_whole ∙ ap (λ (z : EpochsSeen). z.marks) c.self.view_is)))

pub invariant_of-self : goal.invariant_of-self
invariant_of-self c =
    let s = c.self.inside in
    let ps = s.tree.nodes.placed in
    let p : Placed = record { parent = c.args.parent; up = c.number_of-up.result; renaming = c.args.renaming } in
    let t = c.add-index.new.self in
    let new = c.add_maximum.new.maxima in
    let put : c.push.new.self.items ≡ s.maxima.items ++ 0 ∷ [] = search rules in
    let marked : c.push-2.new.self.items ≡ s.marks.items ++ 0 ∷ [] = search rules in
    let maxima_long = ap length put ∙ length-append s.maxima.items (0 ∷ []) in
    let marks_long = ap length marked ∙ length-append s.marks.items (0 ∷ []) in
    let size = ap length c.add-index.ensures.placed ∙ length-append ps (p ∷ []) in
    let old = c.self.invariant.maxima_are.whole in
    let whole = c.add_maximum.ensures.maxima.whole in
    let marks_old = c.self.invariant.marks_whole in
    record {
      laid = c.add-index.ensures.laid;
      maxima_are = subst (AreMaxima (epoch_cmp (nodes_of t.nodes.placed)) t.nodes.top t.nodes.placed) (sym (written new c.push.new.self.items c.push.new.self.len (omega arith) (omega arith))) c.add_maximum.ensures.maxima;
      marks_whole = omega arith;
      sum = sum_more ps p s.total c.total.result c.self.invariant.sum c.total.ensures.total ∙ sym (ap (λ (xs : List Placed). former_sum (nodes_of xs)) c.add-index.ensures.placed);
    }
