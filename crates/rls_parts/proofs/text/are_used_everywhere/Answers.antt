use Rattle.std.proofs.Common.{◌≡◌, ◌-◌, ◌<◌, length, map, true, sym, ap, ◌∙◌, subst, refl, arith}
use Rattle.std.proofs.lemmas.List.{take_all}
use Rattle.std.specs.List.{list_all}
use Rattle.rls_rename.specs.Tree.{greatest, is_kept, translate}
use Rattle.rls_rename.proofs.Kept.{greatest_kept}
use Rattle.rls_parts.specs.Reading.{names_of}
use Rattle.rls_parts.proofs.Faults.{name_at_place}
use Rattle.rls_parts.proofs.TextEpochs.{images_on, taken_ends, taken_on, used_in, used_moved}
use Rattle.rls_parts.proofs.text.are_used_everywhere.Goals as goal

pub loop-left-init : goal.loop-left-init
loop-left-init c =
    let E = c.args.epochs.now.epochs in
    let g = c.greatest-here.ensures.greatest in
    let ids = c.args.ids in
    record {
      within = omega arith;
      kept = subst (λ e. is_kept E.top E.nodes e ≡ true) (sym g) (greatest_kept E.top E.nodes);
      images = λ f. ap (λ e. map (translate E.nodes e f) ids) g;
      rest = λ p s e. ap (λ es. list_all (used_in p ids) (names_of es)) (take_all (length c.args.list.now) c.args.list.now (omega arith));
    }

pub translate_runs-requires-clause-to : goal.translate_runs-requires-clause-to
translate_runs-requires-clause-to c =
    let list = c.args.list.now in
    c.requires.kept _ (name_at_place list list (c.loop-left.left - 1) c.index-list-left.result refl (omega (arith, c.loop-left.invariant.within, c.loop-left-test.true)))

pub returns-then-not-are_used : goal.returns-then-not-are_used
returns-then-not-are_used c =
    let list = c.args.list.now in
    let ids = c.args.ids in
    record {
      used = λ p s e.
          let here = used_moved p c.args.epochs.now.epochs _ ids c.in_ok-images.images c.are_used.result e (c.in_ok-images.ensures.translated ∙ c.loop-left.invariant.images _) (c.are_used.ensures.used p s) in
          taken_ends (used_in p ids) list c.loop-left.left (c.loop-left.left - 1) c.index-list-left.result (list_all (used_in p ids) (names_of list)) (omega (arith, c.loop-left-test.true)) (omega (arith, c.loop-left.invariant.within, c.loop-left-test.true)) (sym here ∙ c.if-not-are_used.true) (c.loop-left.invariant.rest p s e);
    }

pub loop-left-preserved : goal.loop-left-preserved
loop-left-preserved c =
    let E = c.args.epochs.now.epochs in
    let list = c.args.list.now in
    let i = c.loop-left.left - 1 in
    let fits : i < length list = omega (arith, c.loop-left.invariant.within, c.loop-left-test.true) in
    let ids = c.args.ids in
    let images = c.in_ok-images.images in
    let from = c.in_ok-images.ensures.translated ∙ c.loop-left.invariant.images _ in
    record {
      within = omega (arith, c.loop-left.invariant.within);
      kept = c.requires.kept _ (name_at_place list list i c.index-list-left.result refl fits);
      images = images_on E.nodes (greatest E.top E.nodes) _ ids images c.count-count.ensures.tree.0 c.total-total.ensures.idents.0 from;
      rest = λ p s e.
          let here = used_moved p E _ ids images c.are_used.result e from (c.are_used.ensures.used p s) in
          taken_on (used_in p ids) list c.loop-left.left i c.index-list-left.result (list_all (used_in p ids) (names_of list)) (omega (arith, c.loop-left-test.true)) fits (sym here ∙ c.if-not-are_used.false) (c.loop-left.invariant.rest p s e);
    }
