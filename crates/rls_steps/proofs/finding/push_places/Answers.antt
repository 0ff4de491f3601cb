use Rattle.std.proofs.Common.{◌≡◌, ℕ, List, ◌<◌, ◌++◌, ◌∷◌, ◌⊎◌, sym, ap, ◌∙◌, subst}
use Rattle.std.specs.Prelude.{reverse, Option, Some, Ok}
use Rattle.rls_ident.specs.declared.tuple.Tuple.{Tuple}
use Rattle.rls_runs.specs.Runs.{place_of}
use Rattle.rls_seen.specs.Seen.{idents_over}
use Rattle.rls_steps.specs.Labelled.{Names}
use Rattle.rls_steps.specs.Index.{place_list, named_places, rest_places, names_from, AreElsewhere, IsCursor, cursor_rank}
use Rattle.rls_steps.proofs.Walking.{cursor_first, cursor_short, newest_rest, cursor_on, rank_on, walk_on, elsewhere_next, elsewhere_older}
use Rattle.rls_steps.proofs.finding.push_places.Goals as goal

pub names-init : goal.names-init
names-init c =
    let xs = idents_over c.args.replica.now in
    let ns = reverse c.args.names.now in
    let l = c.args.label in
    let items = c.args.places.now.items in
    let e = c.newest-cursor.ensures.newest in
    record {
      cursor = subst (IsCursor ns l) (sym e) (cursor_first ns l);
      places = ap (λ o. items ++ rest_places xs l ns o) e ∙ ap (λ ps. items ++ ps) (newest_rest xs ns l);
      elsewhere = tt;
    }

pub name-requires : goal.name-requires
name-requires c = record { place = cursor_short c.args.names.now c.args.label c.names.cursor c.in-Some.at c.names.invariant.cursor c.in-Some.is }

pub name_before-cursor-requires : goal.name_before-cursor-requires
name_before-cursor-requires c = record { place = cursor_short c.args.names.now c.args.label c.names.cursor c.in-Some.at c.names.invariant.cursor c.in-Some.is }

pub names-smaller : goal.names-smaller
names-smaller c =
    let xs = idents_over c.args.replica.now in
    let ns = reverse c.args.names.now in
    let k = subst (IsCursor ns c.args.label) c.in-Some.is c.names.invariant.cursor in
    subst (λ (o : Option ℕ). cursor_rank c.name_before-cursor.result < cursor_rank o) (sym c.in-Some.is)
    (rank_on xs ns c.in-Some.at k.0 k.1 c.in_ok-found.found c.name_before-cursor.result k.2 (c.name_before-cursor.ensures.after k.0 k.1 k.2))

pub names-preserved : goal.names-preserved
names-preserved c =
    let xs = idents_over c.args.replica.now in
    let ns = reverse c.args.names.now in
    let l = c.args.label in
    let i = c.in-Some.at in
    let base = c.args.places.now.items in
    let old = c.names.places.items in
    let new = c.push_place.new.places.items in
    let found = c.in_ok-found.found in
    let next = c.name_before-cursor.result in
    let k = subst (IsCursor ns l) c.in-Some.is c.names.invariant.cursor in
    let name = ap (λ (m : List Tuple × ℕ). m.0) (c.in_ok-ident.ensures.tail k.0 k.1 k.2) in
    let after = c.name_before-cursor.ensures.after k.0 k.1 k.2 in
    let before = subst (λ (o : Option ℕ). old ++ rest_places xs l ns o ≡ base ++ named_places xs l ns) c.in-Some.is c.names.invariant.places in
    let left : AreElsewhere xs (k.0 ∷ k.1) c.names.found =
    subst (λ (ms : Names). AreElsewhere xs ms c.names.found) k.2 (subst (λ (o : Option ℕ). AreElsewhere xs (names_from ns o) c.names.found) c.in-Some.is c.names.invariant.elsewhere) in
    let elsewhere = elsewhere_older xs ns i k.0 k.1 c.names.found found c.sane.ensures.sane.idents.1 c.apart.ensures.apart k.2 left
    (subst (λ y. (found ≡ c.names.found) ⊎ ((p : ℕ) × (found ≡ Some p) × (place_of y xs ≡ Ok p))) name c.in_ok-found.ensures.found) in
    record {
      cursor = cursor_on xs ns l i k.0 k.1 found next k.2 k.3 after;
      places = walk_on xs l ns i k.0 k.1 base old new found next k.2 k.3 before (c.in_ok-found.ensures.ok ∙ ap (λ y. old ++ place_list (place_of y xs)) name) elsewhere after;
      elsewhere = elsewhere_next xs ns i k.0 k.1 found next k.2 elsewhere after;
    }
