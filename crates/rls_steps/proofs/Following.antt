-- What is recorded, after renames.
use Rattle.std.proofs.Common.{◌≡◌, Bool, List, [], ◌∷◌, ◌++◌, map, inl, inr, refl, sym, ap, ◌∙◌, subst}
use Rattle.std.specs.Prelude.{reverse, if◌then◌else◌}
use Rattle.std.proofs.lemmas.List.{reverse-append}
use Rattle.rls_ident.specs.declared.tuple.Tuple.{Tuple}
use Rattle.rls_ident.specs.declared.epoch_name.EpochName.{EpochName}
use Rattle.rls_ident.specs.EpochNames.{name_eq}
use Rattle.rls_ident.specs.Lists.{IsIn}
use Rattle.rls_ident.proofs.Members.{bool_cases}
use Rattle.rls_ident.proofs.Named.{name_eq_is, name_eq_refl}
use Rattle.rls_model.proofs.Spliced.{append_map}
use Rattle.rls_seen.specs.Over.{placed_over}
use Rattle.rls_seen.specs.Seen.{Seen, greatest_over}
use Rattle.rls_undo.proofs.Dropping.{placed_there}
use Rattle.rls_steps.specs.Labelled.{Names}
use Rattle.rls_steps.specs.Courses.{Steps, Shows, Renaming}
use Rattle.rls_steps.specs.Recorded.{Recorded, names_over, pieces_of, RenamingShows}
use Rattle.rls_steps.proofs.Courses.{move_shows}
use Rattle.rls_steps.proofs.Renaming.{renamed_names}

there_reverse : (f : List Tuple → List Tuple) (names : Names) → reverse (renamed_names f names) ≡ renamed_names f (reverse names)
unfolding renamed_names
there_reverse f [] = refl
there_reverse f (n ∷ ns) =
    reverse-append ((f n.0, n.1) ∷ []) (renamed_names f ns)
    ∙ (ap (λ (xs : Names). xs ++ (f n.0, n.1) ∷ []) (there_reverse f ns)
    ∙ (sym (append_map (λ m. (f m.0, m.1)) (reverse ns) (n ∷ [])) ∙ ap (renamed_names f) (sym (reverse-append (n ∷ []) ns))))

there_none : (f : List Tuple → List Tuple) (names : Names) → ((x : List Tuple) → IsIn x (map (λ n. n.0) names) → f x ≡ x) → renamed_names f names ≡ names
unfolding renamed_names
there_none f [] h = refl
there_none f (n ∷ ns) h = ap (λ x. (x, n.1) ∷ renamed_names f ns) (h n.0 (inl refl)) ∙ ap (λ (xs : Names). n ∷ xs) (there_none f ns (λ x p. h x (inr p)))

-- the names at the greatest epoch are translated names
followed : (n : Seen) (e : EpochName) (names : Names) → ((x : List Tuple) → IsIn x (map (λ m. m.0) (reverse names)) → e ≡ greatest_over n → placed_over n e x ≡ x) → reverse (names_over n e names) ≡ renamed_names (placed_over n e) (reverse names)
unfolding renamed_names
followed n e names h =
    let f = placed_over n e in
    bool_cases (name_eq e (greatest_over n))
    (λ t. ap (λ (b : Bool). reverse (if b then names else renamed_names f names)) t ∙ sym (there_none f (reverse names) (λ x p. h x p (name_eq_is e (greatest_over n) t))))
    (λ t. ap (λ (b : Bool). reverse (if b then names else renamed_names f names)) t ∙ there_reverse f names)

abbrev at_names : Seen → Recorded → Names → Steps
at_names s r names = record { held = record { seen = s; next = r.next; names = names }; past = pieces_of r.past; future = pieces_of r.future }

pub renaming_shows : RenamingShows
unfolding renamed_names
renaming_shows s n r c e x f =
    let own : names_over s r.epoch r.names ≡ r.names =
    ap (λ (g : EpochName). if name_eq g (greatest_over s) then r.names else renamed_names (placed_over s r.epoch) r.names) e
    ∙ ap (λ (b : Bool). if b then r.names else renamed_names (placed_over s r.epoch) r.names) (name_eq_refl (greatest_over s)) in
    let here : Shows (at_names s r (reverse r.names)) c = subst (λ (names : Names). Shows (at_names s r (reverse names)) c) own x in
    let after : Shows (at_names n r (renamed_names (placed_over n (greatest_over s)) (reverse r.names))) c = move_shows (at_names s r (reverse r.names)) c (Renaming n) here f in
    let moved_on : Shows (at_names n r (renamed_names (placed_over n r.epoch) (reverse r.names))) c = subst (λ (g : EpochName). Shows (at_names n r (renamed_names (placed_over n g) (reverse r.names))) c) (sym e) after in
    let same = followed n r.epoch r.names (λ y p q. subst (λ (g : EpochName). placed_over n g y ≡ y) (sym q) (placed_there n y f.sane (here.labelled.idents y p))) in
    subst (λ (names : Names). Shows (at_names n r names) c) (sym same) moved_on
