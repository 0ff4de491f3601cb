-- What is known of the entries of parts, place by place.
use Rattle.std.proofs.Common.{◌≡◌, ℕ, suc, zero, ◌+◌, ◌<◌, ◌≤◌, ◌&&◌, Bool, true, false, List, [], ◌∷◌, ◌++◌, length, map, get_or, take, drop, refl, sym, ap, ◌∙◌, subst, arith, inl, inr, Some, None, if◌then◌else◌}
use Rattle.std.proofs.lemmas.List.{drop_all}
use Rattle.std.specs.Prelude.{slice_get}
use Rattle.std.specs.List.{list_any}
use Rattle.rls_ident.specs.declared.epoch_name.EpochName.{EpochName}
use Rattle.rls_ident.specs.declared.epoch_name.EpochName.TheVariants.{Origin, Of}
use Rattle.rls_ident.specs.EpochNames.{name_eq, is_of_member, is_within}
use Rattle.rls_ident.specs.Lists.{IsIn}
use Rattle.rls_ident.specs.Vectors.{raise}
use Rattle.rls_ident.proofs.Members.{and_none, any_in, in_all, in_any, lt_test, same_bool}
use Rattle.rls_ident.proofs.Loops.{drop_reads}
use Rattle.rls_ident.proofs.Named.{name_eq_is, name_eq_refl}
use Rattle.rls_rename.specs.Connected.{spanned}
use Rattle.rls_rename.specs.Keeping.{reached}
use Rattle.rls_rename.specs.Tree.{Epochs, is_kept, greatest}
use Rattle.rls_ops.specs.declared.op.Op.{Op}
use Rattle.rls_seen.proofs.Sending.{length-stable}
use Rattle.rls_seen.specs.Sane.{IsStem, AreStems, IsCounted}
use Rattle.rls_model.specs.declared.parts.EpochPart.{EpochPart}
use Rattle.rls_model.specs.declared.parts.Parts.{Parts}
use Rattle.rls_model.specs.declared.parts.Stem.{Stem}
use Rattle.rls_model.specs.Stems.{stands_before}
use Rattle.rls_parts.specs.Given.{AreGiven, AreEpochParts}
use Rattle.rls_parts.specs.Reading.{epochs_of, greatest_of_parts, names_of, stable_of_parts}
use Rattle.rls_parts.specs.Restored.{acks_of, with_own}
use Rattle.rls_parts.specs.Rules.{are_retained, epoch_fault, has_stable, is_kept_name, is_next, log_fault, names_eq, raised_by, retained_of_parts}
use Rattle.rls_parts.proofs.RestoredEpochs.{tree_given, kept_named, named_kept, counted_named}
use Rattle.rls_parts.proofs.RestoredRows.{rows_given, stable_given}

-- ---- epochs of the list

pub name_at_place : (list es : List EpochPart) (i : ℕ) (d : EpochPart) → list ≡ es → i < length list → IsIn (get_or list i d).name (names_of es)
name_at_place list es i d e l = subst (λ xs. IsIn (get_or list i d).name (names_of xs)) e (here list i l)
  where
    here : (xs : List EpochPart) (i : ℕ) → i < length xs → IsIn (get_or xs i d).name (names_of xs)
    here [] i l = absurd (omega arith)
    here (x ∷ xs) zero l = inl refl
    here (x ∷ xs) (suc i) l = inr (here xs i (omega arith))

pub kept_at : (p : Parts) (E : Epochs) → AreEpochParts p.epochs → epoch_fault p [] p.epochs ≡ None → E ≡ epochs_of p → (g : EpochName) → IsIn g (names_of p.epochs) → is_kept E.top E.nodes g ≡ true
kept_at p E g r e n q = ap (λ (x : Epochs). is_kept x.top x.nodes n) e ∙ named_kept p p.epochs (tree_given p p.epochs g r) n q

pub at_kept : (p : Parts) (E : Epochs) → AreEpochParts p.epochs → epoch_fault p [] p.epochs ≡ None → E ≡ epochs_of p → (g : EpochName) → is_kept E.top E.nodes g ≡ true → IsIn g (names_of p.epochs)
at_kept p E g r e n k = kept_named p p.epochs (tree_given p p.epochs g r) n (ap (λ (x : Epochs). is_kept x.top x.nodes n) (sym e) ∙ k)

pub kept_names : (p : Parts) (E : Epochs) (g : EpochName) → AreEpochParts p.epochs → epoch_fault p [] p.epochs ≡ None → E ≡ epochs_of p → is_kept E.top E.nodes g ≡ is_kept_name p g
kept_names p E g a r e =
    same_bool (is_kept E.top E.nodes g) (is_kept_name p g)
    (λ k. any_in (λ f. name_eq f g) g (names_of p.epochs) (at_kept p E a r e g k) (name_eq_refl g))
    (λ h. let q = in_any (λ f. name_eq f g) (names_of p.epochs) h in kept_at p E a r e g (subst (λ f. IsIn f (names_of p.epochs)) (name_eq_is q.0 g q.2) q.1))

of_member : (n : ℕ) (v : List ℕ) (g : EpochName) → length v ≡ n → IsCounted v g → is_of_member n g ≡ true
of_member n v Origin e c = refl
of_member n v (Of r s) e c = lt_test r n (let l = c.0 in omega arith)

pub length-stable_parts : (p : Parts) → AreGiven p → length (stable_of_parts p) ≡ p.members
length-stable_parts p g = ap length (sym (stable_given p g)) ∙ (length-stable (acks_of p) (rows_given p g) ∙ g.vector)

pub members_named : (p : Parts) (stable : List ℕ) → AreGiven p → epoch_fault p [] p.epochs ≡ None → stable ≡ stable_of_parts p → (g : EpochName) → IsIn g (names_of p.epochs) → is_of_member (length stable) g ≡ true
members_named p stable a r s g q =
    let n : length stable ≡ p.members = ap length s ∙ length-stable_parts p a in
    ap (λ m. is_of_member m g) n ∙ of_member p.members p.vector g a.vector (counted_named p a.vector p.epochs (tree_given p p.epochs a.epochs r) g q)

pub names_differ : (es : List EpochPart) (fs : List EpochName) → (length es ≡ length fs → ⊥) → names_eq (names_of es) fs ≡ false
names_differ [] [] n = absurd (n refl)
names_differ [] (f ∷ fs) n = refl
names_differ (e ∷ es) [] n = refl
names_differ (e ∷ es) (f ∷ fs) n = ap (λ b. name_eq e.name f && b) (names_differ es fs (λ h. n (ap suc h))) ∙ and_none (name_eq e.name f)

retained_so : (p : Parts) (E : Epochs) (v : List ℕ) (ms names : List EpochName) → E ≡ epochs_of p → v ≡ stable_of_parts p → ms ≡ map (λ (o : Op). o.epoch) p.log
    → names ≡ spanned E.top E.nodes (greatest E.top E.nodes) (reached E v ++ ms) → names ≡ retained_of_parts p
unfolding retained_of_parts
retained_so p E v ms names e s m n =
    let F = epochs_of p in
    n
    ∙ (ap (λ (x : Epochs). spanned x.top x.nodes (greatest x.top x.nodes) (reached x v ++ ms)) e
    ∙ (ap (λ u. spanned F.top F.nodes (greatest_of_parts p) (reached F u ++ ms)) s ∙ ap (λ es. spanned F.top F.nodes (greatest_of_parts p) (reached F (stable_of_parts p) ++ es)) m))

pub retained_done : (p : Parts) (E : Epochs) (v : List ℕ) (ms names : List EpochName) (list : List EpochPart) (b : Bool) → E ≡ epochs_of p → v ≡ stable_of_parts p → ms ≡ map (λ (o : Op). o.epoch) p.log
    → names ≡ spanned E.top E.nodes (greatest E.top E.nodes) (reached E v ++ ms) → list ≡ p.epochs → true ≡ list_any (λ e. is_within e v) (names_of p.epochs) → b ≡ names_eq (names_of list) names → b ≡ are_retained p
retained_done p E v ms names list b e s m n l h k =
    let stable : has_stable p ≡ true = ap (λ u. list_any (λ f. is_within f u) (names_of p.epochs)) (sym s) ∙ sym h in
    k
    ∙ (ap (λ xs. names_eq (names_of xs) names) l
    ∙ (ap (names_eq (names_of p.epochs)) (retained_so p E v ms names e s m n) ∙ ap (λ c. c && names_eq (names_of p.epochs) (retained_of_parts p)) (sym stable)))

-- ---- stems

taken_before : (v : List ℕ) (ts : List Stem) (i : ℕ) (d : Stem) → AreStems v ts → i < length ts → (t : Stem) → IsIn t (take i ts) → stands_before (get_or ts i d).author (get_or ts i d).s0 t ≡ true
taken_before v [] i d a l t q = absurd (omega arith)
taken_before v (u ∷ ts) zero d a l t q = absurd q
taken_before v (u ∷ ts) (suc i) d a l t (inl e) =
    subst (λ x. stands_before (get_or ts i d).author (get_or ts i d).s0 x ≡ true) e (in_all (λ (x : Stem). stands_before x.author x.s0 u) (get_or ts i d) ts a.1 (there ts i (omega arith)))
  where
    there : (xs : List Stem) (i : ℕ) → i < length xs → IsIn (get_or xs i d) xs
    there [] i l = absurd (omega arith)
    there (x ∷ xs) zero l = inl refl
    there (x ∷ xs) (suc i) l = inr (there xs i (omega arith))
taken_before v (u ∷ ts) (suc i) d a l t (inr q) = taken_before v ts i d a.2 (omega arith) t q

stem_there : (v : List ℕ) (ts : List Stem) (i : ℕ) (d : Stem) → AreStems v ts → i < length ts → IsStem v (get_or ts i d)
stem_there v [] i d a l = absurd (omega arith)
stem_there v (u ∷ ts) zero d a l = a.0
stem_there v (u ∷ ts) (suc i) d a l = stem_there v ts i d a.2 (omega arith)

pub author_there : (n : ℕ) (v : List ℕ) (list ts : List Stem) (i : ℕ) (d : Stem) → length v ≡ n → list ≡ ts → AreStems v ts → i < length list → (get_or list i d).author < n
author_there n v list ts i d m e a l = let k = (stem_there v list i d (subst (AreStems v) (sym e) a) l).author in omega arith

pub before_there : (v : List ℕ) (list ts so_far : List Stem) (i : ℕ) (d : Stem) → list ≡ ts → so_far ≡ take i ts → AreStems v ts → i < length list → (t : Stem) → IsIn t so_far → stands_before (get_or list i d).author (get_or list i d).s0 t ≡ true
before_there v list ts so_far i d e f a l t q = taken_before v list i d (subst (AreStems v) (sym e) a) l t (subst (λ xs. IsIn t (take i xs)) (sym e) (subst (IsIn t) f q))

-- ---- operations

pub log_on : (p : Parts) (v : List ℕ) (i : ℕ) (os : List Op) (o : Op) → slice_get os i ≡ Some o → is_next p v o ≡ true → log_fault p v i (drop i os) ≡ log_fault p (raise v o.author) (i + 1) (drop (i + 1) os)
log_on p v i os o h n =
    let one : suc i ≡ i + 1 = omega arith in
    ap (log_fault p v i) (drop_reads os i o h)
    ∙ (ap (λ b. if b then log_fault p (raise v o.author) (suc i) (drop (i + 1) os) else Some i) n ∙ ap (λ k. log_fault p (raise v o.author) k (drop (i + 1) os)) one)

pub log_stops : (p : Parts) (v : List ℕ) (i : ℕ) (os : List Op) (o : Op) → slice_get os i ≡ Some o → is_next p v o ≡ false → log_fault p v i (drop i os) ≡ Some i
log_stops p v i os o h n = ap (log_fault p v i) (drop_reads os i o h) ∙ ap (λ b. if b then log_fault p (raise v o.author) (suc i) (drop (i + 1) os) else Some i) n

pub raised_on : (v : List ℕ) (i : ℕ) (os : List Op) (o : Op) → slice_get os i ≡ Some o → raised_by v (drop i os) ≡ raised_by (raise v o.author) (drop (i + 1) os)
raised_on v i os o h = ap (raised_by v) (drop_reads os i o h)

pub log_done : (p : Parts) (v : List ℕ) (i : ℕ) (os : List Op) → length os ≤ i → log_fault p v i (drop i os) ≡ None
log_done p v i os l = ap (log_fault p v i) (drop_all i os l)

pub raised_done : (v : List ℕ) (i : ℕ) (os : List Op) → length os ≤ i → raised_by v (drop i os) ≡ v
raised_done v i os l = ap (raised_by v) (drop_all i os l)

-- ---- rows

own_put : (me : ℕ) (own : List ℕ) (rows : List (List ℕ)) → me ≤ length rows → take me rows ++ own ∷ drop me rows ≡ with_own me own rows
own_put zero own rows l = refl
own_put (suc me) own [] l = absurd (omega arith)
own_put (suc me) own (row ∷ rows) l = ap (λ vs. row ∷ vs) (own_put me own rows (omega arith))

taken_all : (rows : List (List ℕ)) (i : ℕ) → length rows ≤ i → take i rows ≡ rows
taken_all [] zero l = refl
taken_all [] (suc i) l = refl
taken_all (row ∷ rows) zero l = absurd (omega arith)
taken_all (row ∷ rows) (suc i) l = ap (λ vs. row ∷ vs) (taken_all rows i (omega arith))

pub own_so : (me i : ℕ) (own zeros : List ℕ) (list rows so_far new : List (List ℕ)) → list ≡ rows → so_far ≡ take i list → length list ≤ i → me ≤ length rows → own ≡ zeros → new ≡ take me so_far ++ own ∷ drop me so_far → new ≡ with_own me zeros rows
own_so me i own zeros list rows so_far new e f l m z h =
    let all : so_far ≡ rows = f ∙ (taken_all list i l ∙ e) in
    h ∙ (ap (λ vs. take me vs ++ own ∷ drop me vs) all ∙ (ap (λ v. take me rows ++ v ∷ drop me rows) z ∙ own_put me zeros rows m))
