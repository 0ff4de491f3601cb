use Rattle.std.proofs.Common.{◌≡◌, ◌+◌, ◌∷◌, [], sym, refl, ap, ◌∙◌, drop, length, slice_get, arith, length-append, length-drop}
use Rattle.std.proofs.lemmas.Bool.Decides.{nat_tests}
use Rattle.rls_ident.specs.Tuples.{at_spot}
use Rattle.rls_ident.specs.Identifiers.{last_of}
use Rattle.rls_runs.specs.Fronts.{front_of}
use Rattle.rls_runs.proofs.Finding.{step_less, step_equal, step_greater, left_nothing, left_last}
use Rattle.rls_runs.proofs.Fronts.{front_is, shared_most, left_behind, last_equal}
use Rattle.rls_runs.proofs.run.find_behind.Goals as goal

pub tuple-tuple-requires : goal.tuple-tuple-requires
tuple-tuple-requires c =
    let id = c.args.id.now in
    let own = c.front.result.now in
    let most = shared_most c.args.front.now (front_of id) in
    let is = ap length (front_is id own (last_of id) c.front.ensures.front) in
    let all = ap length c.front.ensures.front ∙ length-append own (last_of id ∷ []) in
    record { place = omega (arith, c.requires.at, most.1, is, all) }

pub returns-then-front-at : goal.returns-then-front-at
returns-then-front-at c =
    let front = c.args.front.now in
    let id = c.args.id.now in
    let own = c.front.result.now in
    let most = shared_most front (front_of id) in
    let end : c.args.at ≡ length front = omega (arith, c.requires.at, most.0) in
    let all = ap length c.front.ensures.front ∙ length-append own (last_of id ∷ []) in
    let behind = length-drop (length front + 1) id in
    let last = left_last front (at_spot c.args.first) c.args.len id c.args.at c.tuple-tuple.result end (ap (slice_get id) (sym end) ∙ c.tuple-tuple.ensures.found) in
    let found = c.find_by_tuple.ensures.find (drop (length front + 1) id) (λ h. grind (arith, nat_tests, behind, all, end, h), λ h. grind (arith, nat_tests, behind, all, end, h)) in
    record { find = found ∙ sym last ∙ left_behind front (at_spot c.args.first) c.args.len id c.args.at c.requires.at }

pub returns-in-Less : goal.returns-in-Less
returns-in-Less c =
    record { find = sym (step_less c.args.front.now (at_spot c.args.first) c.args.len c.args.id.now c.args.at _ _ c.tuple-tuple.result (omega arith) refl c.tuple-tuple.ensures.found (sym c.compare.ensures.order ∙ c.in-Less.is)) ∙ left_behind c.args.front.now (at_spot c.args.first) c.args.len c.args.id.now c.args.at c.requires.at }

pub returns-in-Equal : goal.returns-in-Equal
returns-in-Equal c =
    let front = c.args.front.now in
    let last = at_spot c.args.first in
    let id = c.args.id.now in
    let equal = sym c.compare.ensures.order ∙ c.in-Equal.is in
    let more = step_equal front last c.args.len id c.args.at _ _ c.tuple-tuple.result (omega arith) refl c.tuple-tuple.ensures.found equal in
    let none = left_nothing front last c.args.len id (c.args.at + 1) (last_equal front id c.args.at c.tuple-tuple.result _ c.requires.at (omega arith) c.tuple-tuple.ensures.found equal) in
    record { find = sym (more ∙ none) ∙ left_behind front last c.args.len id c.args.at c.requires.at }

pub returns-in-Greater : goal.returns-in-Greater
returns-in-Greater c =
    record { find = sym (step_greater c.args.front.now (at_spot c.args.first) c.args.len c.args.id.now c.args.at _ _ c.tuple-tuple.result (omega arith) refl c.tuple-tuple.ensures.found (sym c.compare.ensures.order ∙ c.in-Greater.is)) ∙ left_behind c.args.front.now (at_spot c.args.first) c.args.len c.args.id.now c.args.at c.requires.at }
