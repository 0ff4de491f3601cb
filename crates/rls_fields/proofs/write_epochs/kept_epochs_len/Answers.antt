use Rattle.std.proofs.Common.{◌≡◌, ◌∷◌, map, sum_by, ap, arith, rules}
use Rattle.std.proofs.lemmas.List.{drop_all}
use Rattle.rls_ident.specs.declared.epoch_name.EpochName.{EpochName}
use Rattle.rls_ident.specs.declared.epoch_name.EpochName.TheVariants.{Origin}
use Rattle.rls_model.specs.Parts.{epoch_part, node_of}
use Rattle.rls_parts.proofs.NamedNodes.{name_in}
use Rattle.rls_fields.specs.FieldSizes.{epoch_size}
use Rattle.rls_fields.proofs.Puts.{sum_next, map_next, map_length}
use Rattle.rls_fields.proofs.write_epochs.kept_epochs_len.Goals as goal

pub epoch_len-requires : goal.epoch_len-requires
epoch_len-requires c =
    let all : c.args.places.now ≡ c.in-Some.top.now ∷ c.in-Some.others.now = search (rules) in
    record { kept = c.requires.kept _ (name_in c.loop-name.name-index all c.loop-name-test.true) }

pub loop-name-preserved : goal.loop-name-preserved
loop-name-preserved c =
    let part = λ (e : EpochName). epoch_part c.args.places.now e (node_of c.args.epochs.now.epochs.nodes e) in
    let next = map_next part c.in-Some.others.now _ Origin c.loop-name-test.true in
    record { size = omega (arith, sum_next epoch_size _ _ _ next, c.epoch_len.ensures.size, c.saturating_add-total.ensures, c.loop-name.invariant.size); fits = omega (arith, c.saturating_add-total.ensures) }

pub returns : goal.returns
returns c =
    let others = c.in-Some.others.now in
    let part = λ (e : EpochName). epoch_part c.args.places.now e (node_of c.args.epochs.now.epochs.nodes e) in
    let none = ap (sum_by epoch_size) (drop_all c.loop-name.name-index (map part others) (omega (arith, map_length part others, c.loop-name-test.false))) in
    record { size = omega (arith, none, c.loop-name.invariant.size, c.loop-name.invariant.fits) }
