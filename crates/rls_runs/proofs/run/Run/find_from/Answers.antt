use Rattle.std.proofs.Common.{◌≡◌, ◌++◌, ◌∷◌, [], sym, ap, ◌∙◌}
use Rattle.rls_ident.specs.Tuples.{at_spot}
use Rattle.rls_ident.specs.Identifiers.{last_of}
use Rattle.rls_runs.specs.Runs.{run_idents, place_of}
use Rattle.rls_runs.specs.Places.{find_ident}
use Rattle.rls_runs.specs.Fronts.{front_of, shared}
use Rattle.rls_runs.proofs.RunOrder.{run_rising}
use Rattle.rls_runs.proofs.RunPlaces.{found_is}
use Rattle.rls_runs.proofs.Fronts.{front_is}
use Rattle.rls_runs.proofs.run.Run.find_from.Goals as goal

pub find_behind-place-requires : goal.find_behind-place-requires
find_behind-place-requires c =
    let x = c.self.inside.first in
    record { at = c.count_shared-shared.ensures.shared ∙ ap (λ f. shared f (front_of c.args.id.now)) (front_is x c.front.result.now (last_of x) c.front.ensures.front) }

pub returns-clause-place : goal.returns-clause-place
returns-clause-place c =
    let x = c.self.inside.first in
    let first : c.front.result.now ++ at_spot c.last.result ∷ [] ≡ x = ap (λ t. c.front.result.now ++ t ∷ []) (sym c.last.ensures.last) ∙ sym c.front.ensures.front in
    c.find_behind-place.ensures.find
    ∙ ap (λ z. find_ident (run_idents z c.self.inside.len) c.args.id.now) first
    ∙ found_is (run_idents x c.self.inside.len) c.args.id.now (run_rising x c.self.inside.len c.last.ensures.ident)
    ∙ ap (λ r. place_of c.args.id.now (run_idents r.0 r.1)) c.self.view_is
