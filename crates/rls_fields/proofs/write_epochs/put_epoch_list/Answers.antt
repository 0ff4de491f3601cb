use Rattle.std.proofs.Common.{◌≡◌, ◌∷◌, ◌∙◌, ◌++◌, refl, map, sym, ap, arith, rules}
use Rattle.std.proofs.lemmas.List.{append-nil}
use Rattle.rls_ident.specs.declared.epoch_name.EpochName.{EpochName}
use Rattle.rls_ident.specs.declared.epoch_name.EpochName.TheVariants.{Origin}
use Rattle.rls_ops.specs.Spelling.{name_bytes}
use Rattle.rls_model.specs.Parts.{epoch_part, epoch_parts, node_of, top_part}
use Rattle.rls_parts.proofs.NamedNodes.{name_in}
use Rattle.rls_fields.specs.Fields.{epoch_bytes}
use Rattle.rls_fields.specs.FieldSizes.{epoch_size}
use Rattle.rls_fields.specs.Written.{FitsFormer}
use Rattle.rls_fields.proofs.Puts.{put_next, fit_next, list_is, top_fits, none_left, sum_next, map_next, map_length, few_names}
use Rattle.rls_fields.proofs.write_epochs.put_epoch_list.Goals as goal

pub put_epoch-requires-clause-kept : goal.put_epoch-requires-clause-kept
put_epoch-requires-clause-kept c =
    let all : c.args.places.now ≡ c.in-Some.top.now ∷ c.in-Some.others.now = search (rules) in
    c.requires.kept _ (name_in c.loop-name.name-index all c.loop-name-test.true)

pub put_epoch-requires-clause-few : goal.put_epoch-requires-clause-few
put_epoch-requires-clause-few c = few_names c.args.epochs.now.epochs.nodes c.args.places.now c.requires.small

pub put_epoch-requires-clause-small : goal.put_epoch-requires-clause-small
put_epoch-requires-clause-small c =
    let part = λ (e : EpochName). epoch_part c.args.places.now e (node_of c.args.epochs.now.epochs.nodes e) in
    let next = map_next part c.in-Some.others.now _ Origin c.loop-name-test.true in
    omega (arith, sum_next epoch_size _ _ _ next, c.loop-name.invariant.small)

pub loop-name-preserved : goal.loop-name-preserved
loop-name-preserved c =
    let part = λ (e : EpochName). epoch_part c.args.places.now e (node_of c.args.epochs.now.epochs.nodes e) in
    let next = map_next part c.in-Some.others.now _ Origin c.loop-name-test.true in
    record {
      bytes = put_next epoch_bytes _ _ _ _ _ _ next c.in_ok-put_epoch.ensures.ok c.loop-name.invariant.bytes;
      fits = fit_next FitsFormer _ _ _ next c.in_ok-put_epoch.ensures.fits c.loop-name.invariant.fits;
      small = omega (arith, sum_next epoch_size _ _ _ next, c.loop-name.invariant.small);
    }

pub loop-name-init : goal.loop-name-init
loop-name-init c =
    let all : c.args.places.now ≡ c.in-Some.top.now ∷ c.in-Some.others.now = search (rules) in
    let names = c.args.places.now in
    let top = c.in-Some.top.now in
    let nodes = c.args.epochs.now.epochs.nodes in
    let rest = map (λ (e : EpochName). epoch_part names e (node_of nodes e)) c.in-Some.others.now in
    let is = list_is nodes names c.in-Some.others.now top all in
    record {
      bytes = put_next epoch_bytes (top_part top) rest (epoch_parts nodes names) c.args.out.now.items c.put_name.new.out.items _ is (c.in_ok-put_name.ensures.ok ∙ ap (λ w. c.args.out.now.items ++ w) (sym (append-nil (name_bytes top)))) refl;
      fits = fit_next FitsFormer (top_part top) rest (epoch_parts nodes names) is (top_fits top) (λ a. a);
      small = omega (arith, sum_next epoch_size (top_part top) rest (epoch_parts nodes names) is, c.requires.small);
    }

pub returns-clause-fits : goal.returns-clause-fits
returns-clause-fits c =
    let others = c.in-Some.others.now in
    let part = λ (e : EpochName). epoch_part c.args.places.now e (node_of c.args.epochs.now.epochs.nodes e) in
    c.loop-name.invariant.fits (none_left FitsFormer c.loop-name.name-index (map part others) (omega (arith, map_length part others, c.loop-name-test.false)))
