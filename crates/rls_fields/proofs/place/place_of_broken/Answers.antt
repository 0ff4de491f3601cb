use Rattle.std.proofs.Common.{◌≡◌, ◌-◌, ◌^◌, min, ◌∙◌, ap, sym, rules, arith, take}
use Rattle.std.specs.Prelude.{sum_by}
use Rattle.rls_ops.specs.Sizes.{op_size}
use Rattle.rls_fields.specs.FieldSizes.{row_size, epoch_size, text_run_size}
use Rattle.rls_fields.proofs.PlaceSums.{at_row, at_stem, at_epoch, at_text_run, at_logged, at_log, at_epochs, at_other, named}
use Rattle.rls_fields.proofs.place.place_of_broken.Goals as goal

pub returns-in-1 : goal.returns-in-1
returns-in-1 c = record { place = omega (arith, named c.args.form c.args.parts.now c.args.rule 1 c.args.index c.in-1.is ∙ at_row c.args.form c.args.parts.now c.args.index, ap (sum_by row_size) (c.front.ensures.front ∙ ap (take c.args.index) c.as_slice.ensures.items)) }

pub returns-in-2 : goal.returns-in-2
returns-in-2 c =
    let place = named c.args.form c.args.parts.now c.args.rule 2 c.args.index c.in-2.is ∙ at_stem c.args.form c.args.parts.now c.args.index in
    record { place = c.before_stem.ensures.before ∙ ap (λ n. min n (2 ^ 64 - 1)) (sym place) }

pub returns-in-3 : goal.returns-in-3
returns-in-3 c = record { place = omega (arith, named c.args.form c.args.parts.now c.args.rule 3 c.args.index c.in-3.is ∙ at_epoch c.args.form c.args.parts.now c.args.index, ap (sum_by epoch_size) (c.front-in-3.ensures.front ∙ ap (take c.args.index) c.as_slice-in-3.ensures.items)) }

pub returns-in-4 : goal.returns-in-4
returns-in-4 c = record { place = omega (arith, named c.args.form c.args.parts.now c.args.rule 4 c.args.index c.in-4.is ∙ at_text_run c.args.form c.args.parts.now c.args.index, ap (sum_by text_run_size) (c.front-in-4.ensures.front ∙ ap (take c.args.index) c.as_slice-in-4.ensures.items)) }

pub returns-in-5 : goal.returns-in-5
returns-in-5 c = record { place = omega (arith, named c.args.form c.args.parts.now c.args.rule 5 c.args.index c.in-5.is ∙ at_logged c.args.form c.args.parts.now c.args.index) }

pub returns-in-6 : goal.returns-in-6
returns-in-6 c = record { place = omega (arith, named c.args.form c.args.parts.now c.args.rule 6 c.args.index c.in-6.is ∙ at_log c.args.form c.args.parts.now c.args.index) }

pub returns-in-7 : goal.returns-in-7
returns-in-7 c = record { place = omega (arith, named c.args.form c.args.parts.now c.args.rule 7 c.args.index c.in-7.is ∙ at_epochs c.args.form c.args.parts.now c.args.index) }

pub returns-in_default : goal.returns-in_default
returns-in_default c =
    let not_1 : c.args.rule ≡ 1 → ⊥ = search rules in
    let not_2 : c.args.rule ≡ 2 → ⊥ = search rules in
    let not_3 : c.args.rule ≡ 3 → ⊥ = search rules in
    let not_4 : c.args.rule ≡ 4 → ⊥ = search rules in
    let not_5 : c.args.rule ≡ 5 → ⊥ = search rules in
    let not_6 : c.args.rule ≡ 6 → ⊥ = search rules in
    let not_7 : c.args.rule ≡ 7 → ⊥ = search rules in
    let place = at_other c.args.form c.args.parts.now c.args.rule c.args.index not_1 not_2 not_3 not_4 not_5 not_6 not_7 in
    let front = ap (sum_by op_size) (c.front-in_default.ensures.front ∙ ap (take c.args.index) c.as_slice-in_default.ensures.ops) in
    record { place = omega (arith, place, front) }
