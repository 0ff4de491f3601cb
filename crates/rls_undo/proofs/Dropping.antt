-- Entries at the greatest epoch, where what is stable is dropped.
use Rattle.std.proofs.Common.{◌≡◌, ◌∙◌, ◌-◌, List, [], ◌∷◌, length, map, Option, Some, None, inl, inr, refl, ap, subst}
use Rattle.std.specs.Prelude.{true, option_map, slice_get}
use Rattle.std.proofs.lemmas.List.{length-map}
use Rattle.std.proofs.lemmas.Option.{slice_get-map}
use Rattle.rls_ident.specs.declared.tuple.Tuple.{Tuple}
use Rattle.rls_ident.specs.declared.epoch_name.EpochName.{EpochName}
use Rattle.rls_ident.specs.Identifiers.{IsIdent}
use Rattle.rls_ident.specs.Lists.{IsIn}
use Rattle.rls_rename.proofs.Growth.{translate_same}
use Rattle.rls_rename.proofs.Kept.{greatest_kept}
use Rattle.rls_rename.proofs.Paths.{translate_ident, translate_translate}
use Rattle.rls_runs.specs.Places.{below_count}
use Rattle.rls_model.specs.declared.edit.Edit.{Edit}
use Rattle.rls_model.specs.declared.edit.Edit.TheVariants as edits
use Rattle.rls_seen.specs.Kept.{dropped}
use Rattle.rls_seen.specs.Seen.{Seen, greatest_over, idents_over, translate_over}
use Rattle.rls_seen.specs.Over.{placed_over}
use Rattle.rls_seen.specs.Sane.{IsSane}
use Rattle.rls_seen.proofs.Dropped.{greatest_left, dropped_sane}
use Rattle.rls_replica.specs.Names.{keeps}
use Rattle.rls_undo.specs.declared.entry.Entry.{Entry}
use Rattle.rls_undo.specs.declared.entry.Entry.TheVariants.{Inserted, Removed}
use Rattle.rls_undo.specs.Plans.{places_from, ranges_of, deletions}
use Rattle.rls_undo.specs.Undoing.{last_of, plan_over, planned_over, settled_over}
use Rattle.rls_undo.specs.UndoLaws.{HasIdents, MovedPlanned, SettledLasts}

-- and it is kept
pub greatest_stays : (s : Seen) → IsSane s → keeps (dropped s) (greatest_over s) ≡ true
greatest_stays s sane = subst (λ e. keeps (dropped s) e ≡ true) (greatest_left s sane) (greatest_kept (dropped s).epochs.top (dropped s).epochs.nodes)

-- an identifier of the greatest epoch is translated to itself
pub placed_there : (s : Seen) (x : List Tuple) → IsSane s → IsIdent x → placed_over s (greatest_over s) x ≡ x
placed_there s x sane i = translate_same s.epochs.nodes (greatest_over s) x sane.epochs.nodes i

pub placed_left : (s : Seen) (x : List Tuple) → IsSane s → IsIdent x → placed_over (dropped s) (greatest_over s) x ≡ x
placed_left s x sane i = subst (λ e. placed_over (dropped s) e x ≡ x) (greatest_left s sane) (placed_there (dropped s) x (dropped_sane s sane) i)

-- so is one that was taken there
placed_ident : (s : Seen) (e : EpochName) (x : List Tuple) → IsSane s → IsIdent x → IsIdent (placed_over s e x)
placed_ident s e x sane i = translate_ident s.epochs.nodes e (greatest_over s) x sane.epochs.nodes i

-- a map that changes none of these
map_none : (f : List Tuple → List Tuple) (xs : List (List Tuple)) → ((x : List Tuple) → IsIn x xs → f x ≡ x) → map f xs ≡ xs
map_none f [] h = refl
map_none f (x ∷ xs) h = let a = h x (inl refl) in let b = map_none f xs (λ y p. h y (inr p)) in cc

placed_idents : (s : Seen) (e : EpochName) (ids : List (List Tuple)) → IsSane s → ((x : List Tuple) → IsIn x ids → IsIdent x) → (x : List Tuple) → IsIn x (map (placed_over s e) ids) → IsIdent x
placed_idents s e [] sane h x p = absurd p
placed_idents s e (y ∷ ys) sane h x (inl q) = subst IsIdent q (placed_ident s e y sane (h y (inl refl)))
placed_idents s e (y ∷ ys) sane h x (inr p) = placed_idents s e ys sane (λ z q. h z (inr q)) x p

pub settled_lasts : SettledLasts
unfolding planned_over dropped
settled_lasts s (Inserted e ids) sane h =
    let g = greatest_over s in
    let there = map (placed_over s e) ids in
    let plan : List (List Tuple) → List Edit = λ ts. deletions (ranges_of (places_from 0 ts (idents_over s))) in
    let are = placed_idents s e ids sane h in (
      ap plan (map_none (placed_over s g) there (λ x p. placed_there s x sane (are x p))),
      ap plan (map_none (placed_over (dropped s) g) there (λ x p. placed_left s x sane (are x p))),
      greatest_stays s sane,
    )
settled_lasts s (Removed e first cs) sane i =
    let g = greatest_over s in
    let plan : List Tuple → List Edit = λ x. edits.Insert (below_count (idents_over s) x) cs ∷ [] in
    let is = placed_ident s e first sane i in (
      ap plan (placed_there s (placed_over s e first) sane is),
      ap plan (placed_left s (placed_over s e first) sane is),
      greatest_stays s sane,
    )

-- ---- at any kept epoch

-- one map after another
map_through : (f g h : List Tuple → List Tuple) (xs : List (List Tuple)) → ((x : List Tuple) → IsIn x xs → g (f x) ≡ h x) → map g (map f xs) ≡ map h xs
map_through f g h [] e = refl
map_through f g h (x ∷ xs) e = let a = e x (inl refl) in let b = map_through f g h xs (λ y p. e y (inr p)) in cc

pub moved_planned : MovedPlanned
unfolding planned_over
moved_planned s (Inserted e ids) g sane h k l =
    let plan : List (List Tuple) → List Edit = λ ts. deletions (ranges_of (places_from 0 ts (idents_over s))) in
    ap plan (map_through (translate_over s e g) (placed_over s g) (placed_over s e) ids (λ x p. translate_translate s.epochs.nodes e g (greatest_over s) x sane.epochs.nodes (h x p)))
moved_planned s (Removed e first cs) g sane i k l =
    let plan : List Tuple → List Edit = λ x. edits.Insert (below_count (idents_over s) x) cs ∷ [] in
    ap plan (translate_translate s.epochs.nodes e g (greatest_over s) first sane.epochs.nodes i)

-- ---- entries that have caught up

last_mapped : (f : Entry → Entry) (es : List Entry) → last_of (map f es) ≡ option_map f (last_of es)
last_mapped f es = ap (λ n. slice_get (map f es) (n - 1)) (length-map es f) ∙ slice_get-map f es (length es - 1)

-- the last one has the same plan
pub plan_settled : (s : Seen) (es fs : List Entry) → IsSane s → ((entry : Entry) → last_of es ≡ Some entry → HasIdents entry) → fs ≡ map (settled_over s) es → plan_over s (last_of fs) ≡ plan_over s (last_of es)
plan_settled s es fs sane h is = ap (λ gs. plan_over s (last_of gs)) is ∙ (ap (plan_over s) (last_mapped (settled_over s) es) ∙ go (last_of es) h)
  where
    go : (o : Option Entry) → ((entry : Entry) → o ≡ Some entry → HasIdents entry) → plan_over s (option_map (settled_over s) o) ≡ plan_over s o
    go None k = refl
    go (Some entry) k = (settled_lasts s entry sane (k entry refl)).0
