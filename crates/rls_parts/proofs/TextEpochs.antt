-- The identifiers of a text in the epochs of the list.
use Rattle.std.proofs.Common.{◌≡◌, ℕ, suc, zero, ◌<◌, ◌&&◌, Bool, true, false, List, [], ◌∷◌, length, map, get_or, take, drop, refl, sym, ap, ◌∙◌, subst, arith, inl, inr, None}
use Rattle.std.specs.List.{list_all}
use Rattle.rls_ident.specs.declared.tuple.Tuple.{Tuple}
use Rattle.rls_ident.specs.declared.epoch_name.EpochName.{EpochName}
use Rattle.rls_ident.specs.Identifiers.{is_ident, last_of}
use Rattle.rls_ident.specs.Lists.{IsIn}
use Rattle.rls_ident.proofs.Members.{all_in, and_left, and_none, and_right, in_all, same_bool}
use Rattle.rls_runs.specs.Runs.{is_run, run_idents}
use Rattle.rls_runs.proofs.RunOrder.{run_are_idents, run_ident}
use Rattle.rls_rename.specs.Tree.{Node, Epochs, AreNodes, greatest, translate}
use Rattle.rls_rename.proofs.Growth.{translate_same}
use Rattle.rls_rename.proofs.Kept.{greatest_kept}
use Rattle.rls_rename.proofs.Paths.{translate_translate}
use Rattle.rls_model.specs.declared.parts.EpochPart.{EpochPart}
use Rattle.rls_model.specs.declared.parts.Parts.{Parts}
use Rattle.rls_model.specs.declared.parts.TextRun.{TextRun}
use Rattle.rls_parts.specs.Given.{AreEpochParts}
use Rattle.rls_parts.specs.Reading.{epochs_of, in_epoch, names_of}
use Rattle.rls_parts.specs.Rules.{epoch_fault, is_text_of, is_used_everywhere, is_used_tuple}
use Rattle.rls_parts.specs.Used.{is_used_renaming}
use Rattle.rls_parts.proofs.Faults.{at_kept}
use Rattle.rls_parts.proofs.UsedRenamings.{used_always}

-- ---- tests of lists

-- a test of each of these with each of those may go in either order
all_swap : {A B : Type 0} (t : A → B → Bool) (xs : List A) (ys : List B) → list_all (λ x. list_all (t x) ys) xs ≡ list_all (λ y. list_all (λ x. t x y) xs) ys
all_swap t xs ys =
    same_bool (list_all (λ x. list_all (t x) ys) xs) (list_all (λ y. list_all (λ x. t x y) xs) ys)
    (λ h. all_in (λ y. list_all (λ x. t x y) xs) ys (λ y q. all_in (λ x. t x y) xs (λ x p. in_all (t x) y ys (in_all (λ x. list_all (t x) ys) x xs h p) q)))
    (λ h. all_in (λ x. list_all (t x) ys) xs (λ x p. all_in (t x) ys (λ y q. in_all (λ x. t x y) x xs (in_all (λ y. list_all (λ x. t x y) xs) y ys h q) p)))

all_same : {A : Type 0} (s t : A → Bool) (xs : List A) → ((x : A) → IsIn x xs → s x ≡ t x) → list_all s xs ≡ list_all t xs
all_same s t [] f = refl
all_same s t (x ∷ xs) f = ap (λ b. b && list_all s xs) (f x (inl refl)) ∙ ap (λ b. t x && b) (all_same s t xs (λ z q. f z (inr q)))

all_map : {A B : Type 0} (t : B → Bool) (f : A → B) (xs : List A) → list_all t (map f xs) ≡ list_all (λ x. t (f x)) xs
all_map t f [] = refl
all_map t f (x ∷ xs) = ap (λ b. t (f x) && b) (all_map t f xs)

and_one : (b : Bool) → (b && true) ≡ b
and_one true = refl
and_one false = refl

and_swap : (b : Bool) → (b && true) ≡ (true && b)
and_swap true = refl
and_swap false = refl

and_assoc : (a b c : Bool) → (a && (b && c)) ≡ ((a && b) && c)
and_assoc true b c = refl
and_assoc false b c = refl

-- the names up to a place and the one there
taken_more : (t : EpochName → Bool) (list : List EpochPart) (i : ℕ) (d : EpochPart) → i < length list → list_all t (names_of (take (suc i) list)) ≡ (list_all t (names_of (take i list)) && t (get_or list i d).name)
taken_more t [] i d l = absurd (omega arith)
taken_more t (e ∷ es) zero d l = and_swap (t e.name)
taken_more t (e ∷ es) (suc i) d l = ap (λ b. t e.name && b) (taken_more t es i d (omega arith)) ∙ and_assoc (t e.name) (list_all t (names_of (take i es))) (t (get_or es i d).name)

-- the last of those that are left passes
pub taken_on : (t : EpochName → Bool) (list : List EpochPart) (left i : ℕ) (d : EpochPart) (all : Bool) → left ≡ suc i → i < length list → t (get_or list i d).name ≡ true → list_all t (names_of (take left list)) ≡ all → list_all t (names_of (take i list)) ≡ all
taken_on t list left i d all e l h k =
    sym (and_one (list_all t (names_of (take i list))))
    ∙ (ap (λ b. list_all t (names_of (take i list)) && b) (sym h) ∙ (sym (taken_more t list i d l) ∙ (ap (λ n. list_all t (names_of (take n list))) (sym e) ∙ k)))

-- it doesn't
pub taken_ends : (t : EpochName → Bool) (list : List EpochPart) (left i : ℕ) (d : EpochPart) (all : Bool) → left ≡ suc i → i < length list → t (get_or list i d).name ≡ false → list_all t (names_of (take left list)) ≡ all → false ≡ all
taken_ends t list left i d all e l h k =
    sym (and_none (list_all t (names_of (take i list))))
    ∙ (ap (λ b. list_all t (names_of (take i list)) && b) (sym h) ∙ (sym (taken_more t list i d l) ∙ (ap (λ n. list_all t (names_of (take n list))) (sym e) ∙ k)))

-- ---- from epoch to epoch

-- to one epoch and then to another
lists_on : (nodes : List Node) (e f g : EpochName) (xs : List (List Tuple)) → AreNodes nodes → list_all is_ident xs ≡ true → map (translate nodes f g) (map (translate nodes e f) xs) ≡ map (translate nodes e g) xs
lists_on nodes e f g [] n i = refl
lists_on nodes e f g (x ∷ xs) n i =
    let a = is_ident x in
    let b = list_all is_ident xs in
    ap (λ y. y ∷ map (translate nodes f g) (map (translate nodes e f) xs)) (translate_translate nodes e f g x n (and_left a b i)) ∙ ap (λ ys. translate nodes e g x ∷ ys) (lists_on nodes e f g xs n (and_right a b i))

-- what leads from here to each epoch as from the greatest one does so from the next epoch
pub images_on : (nodes : List Node) (e g : EpochName) (ids images : List (List Tuple)) → AreNodes nodes → list_all is_ident ids ≡ true → images ≡ map (translate nodes e g) ids → (f : EpochName) → map (translate nodes g f) images ≡ map (translate nodes e f) ids
images_on nodes e g ids images n i h f = ap (map (translate nodes g f)) h ∙ lists_on nodes e g f ids n i

-- ---- the rule

-- in this epoch the last tuple of each of these identifiers was used
abbrev pub used_in : Parts → List (List Tuple) → EpochName → Bool
used_in p xs f = list_all (λ x. is_used_tuple p (last_of (in_epoch p f x))) xs

text_is : (p : Parts) (r : TextRun) → is_text_of p r ≡ list_all (used_in p (run_idents r.run.0 r.run.1)) (names_of p.epochs)
text_is p r = all_swap (λ x f. is_used_tuple p (last_of (in_epoch p f x))) (run_idents r.run.0 r.run.1) (names_of p.epochs)

pub text_of : (p : Parts) (r : TextRun) (ids : List (List Tuple)) (list : List EpochPart) → ids ≡ run_idents r.run.0 r.run.1 → list ≡ p.epochs → list_all (used_in p ids) (names_of list) ≡ is_text_of p r
text_of p r ids list e l = ap (λ xs. list_all (used_in p xs) (names_of list)) e ∙ (ap (λ es. list_all (used_in p (run_idents r.run.0 r.run.1)) (names_of es)) l ∙ sym (text_is p r))

-- the identifiers taken to an epoch
pub used_moved : (p : Parts) (E : Epochs) (name : EpochName) (ids images : List (List Tuple)) (b : Bool) → epochs_of p ≡ E → images ≡ map (translate E.nodes (greatest E.top E.nodes) name) ids
    → b ≡ list_all (λ x. is_used_tuple p (last_of x)) images → b ≡ used_in p ids name
used_moved p E name ids images b e h u =
    u
    ∙ (ap (list_all (λ x. is_used_tuple p (last_of x))) h
    ∙ (all_map (λ x. is_used_tuple p (last_of x)) (translate E.nodes (greatest E.top E.nodes) name) ids
    ∙ ap (λ (y : Epochs). list_all (λ x. is_used_tuple p (last_of (translate y.nodes (greatest y.top y.nodes) name x))) ids) (sym e)))

-- in the greatest epoch they are themselves
used_here : (p : Parts) (g : EpochName) (ids : List (List Tuple)) → AreNodes (epochs_of p).nodes → g ≡ greatest (epochs_of p).top (epochs_of p).nodes → list_all is_ident ids ≡ true → list_all (λ x. is_used_tuple p (last_of x)) ids ≡ used_in p ids g
used_here p g ids n h i =
    let E = epochs_of p in
    all_same (λ x. is_used_tuple p (last_of x)) (λ x. is_used_tuple p (last_of (in_epoch p g x))) ids
    (λ x q. ap (λ y. is_used_tuple p (last_of y)) (sym (ap (λ f. translate E.nodes f g x) (sym h) ∙ translate_same E.nodes g x n (in_all is_ident x ids i q))))

-- if each renaming's identifiers were used, the greatest epoch decides
pub text_there : (p : Parts) (E : Epochs) (r : TextRun) (b all : Bool) → AreEpochParts p.epochs → epoch_fault p [] p.epochs ≡ None → E ≡ epochs_of p → AreNodes E.nodes → is_run r.run ≡ true
    → all ≡ list_all (is_used_renaming p) (drop 1 p.epochs) → all ≡ true → b ≡ list_all (λ x. is_used_tuple p (last_of x)) (run_idents r.run.0 r.run.1) → b ≡ is_text_of p r
text_there p E r b all a rule e n i l h u =
    let F = epochs_of p in
    let g = greatest F.top F.nodes in
    let xs = run_idents r.run.0 r.run.1 in
    let ids = run_are_idents r.run.0 r.run.1 (run_ident r.run i) in
    let nodes = subst (λ (y : Epochs). AreNodes y.nodes) e n in
    let settled : list_all (is_used_renaming p) (drop 1 p.epochs) ≡ true = sym l ∙ h in
    u
    ∙ same_bool (list_all (λ x. is_used_tuple p (last_of x)) xs) (is_text_of p r)
    (λ k. all_in (is_used_everywhere p) xs
    (λ x q. all_in (λ f. is_used_tuple p (last_of (in_epoch p f x))) (names_of p.epochs)
    (λ f w. used_always p g f x a rule nodes settled (in_all is_ident x xs ids q) (in_all (λ y. is_used_tuple p (last_of y)) x xs k q))))
    (λ k. used_here p g xs nodes refl ids ∙ in_all (used_in p xs) g (names_of p.epochs) (sym (text_is p r) ∙ k) (at_kept p F a rule refl g (greatest_kept F.top F.nodes)))
