-- The parts of a piece, one after another, as steps; and how many of the newest steps fit.
use Rattle.std.proofs.Common.{◌≡◌, ℕ, zero, suc, ◌+◌, ◌-◌, ◌<◌, ◌≤◌, min, Bool, List, [], ◌∷◌, ◌++◌, length, take, drop, refl, sym, ap, ◌∙◌, append_assoc, arith}
use Rattle.std.specs.Prelude.{slice_get, Option, Some, if◌then◌else◌}
use Rattle.std.proofs.lemmas.List.{drop_all, take_min, drop_min}
use Rattle.rls_ident.proofs.Loops.{drop_reads}
use Rattle.rls_ident.proofs.Members.{le_test, not_le_test, eq_test, neq_test}
use Rattle.rls_steps.specs.declared.piece.Step.{Step}
use Rattle.rls_steps.specs.Marks.{Piece, Cut}
use Rattle.rls_steps.specs.Forgetting.{piece_size, fitting, more_of_group, rest_of_group}
use Rattle.rls_steps.specs.Groups.{in_front}
use Rattle.rls_steps.specs.Parts.{last_label, parts_of}
use Rattle.rls_steps.specs.Recorded.{steps_of}
use Rattle.rls_steps.proofs.Stacks.{steps_more}

-- ---- parts

pub parts_none : (most k : ℕ) (labels cs : List ℕ) (left right : Option ℕ) → k ≡ 0 → parts_of most k labels cs left right ≡ Cut labels cs left right ∷ []
parts_none most k labels cs left right e = ap (λ j. parts_of most j labels cs left right) e

pub parts_short : (most k : ℕ) (labels cs : List ℕ) (left right : Option ℕ) → length cs ≤ most → parts_of most k labels cs left right ≡ Cut labels cs left right ∷ []
parts_short most zero labels cs left right h = refl
parts_short most (suc k) labels cs left right h =
    ap (λ (b : Bool). if b then Cut labels cs left right ∷ [] else Cut (take most labels) (take most cs) left right ∷ parts_of most k (drop most labels) (drop most cs) (last_label (take most labels)) right) (le_test (length cs) most h)

pub parts_long : (most k : ℕ) (labels cs : List ℕ) (left right : Option ℕ) → 0 < k → most < length cs →
    parts_of most k labels cs left right ≡ Cut (take most labels) (take most cs) left right ∷ parts_of most (k - 1) (drop most labels) (drop most cs) (last_label (take most labels)) right
parts_long most zero labels cs left right z h = absurd (omega (arith, z))
parts_long most (suc k) labels cs left right z h =
    let one : k ≡ suc k - 1 = omega arith in
    ap (λ (b : Bool). if b then Cut labels cs left right ∷ [] else Cut (take most labels) (take most cs) left right ∷ parts_of most k (drop most labels) (drop most cs) (last_label (take most labels)) right) (not_le_test (length cs) most h)
    ∙ ap (λ j. Cut (take most labels) (take most cs) left right ∷ parts_of most j (drop most labels) (drop most cs) (last_label (take most labels)) right) one

pub steps_next : (group : ℕ) (p : Piece) (ps : List Piece) (base mid new : List Step) → mid ≡ base ++ steps_of group ps → new ≡ mid ++ record { group = group; piece = p } ∷ [] → new ≡ base ++ steps_of group (p ∷ ps)
steps_next group p ps base mid new e f =
    let step : Piece → Step = λ x. record { group = group; piece = x } in
    f ∙ (ap (λ xs. xs ++ step p ∷ []) e ∙ (append_assoc base (steps_of group ps) (step p ∷ []) ∙ ap (λ xs. base ++ xs) (sym (steps_more group p ps))))

-- the first part lies on those after it
pub more_parts : (most k group : ℕ) (labels cs : List ℕ) (left right : Option ℕ) (m : ℕ) (first later kept rest : List ℕ) (last : Option ℕ) (base mid new : List Step) → 0 < k → most < length cs → m ≡ min most (length labels) →
    first ≡ take m labels → later ≡ drop m labels → kept ≡ take most cs → rest ≡ drop most cs → last ≡ last_label first →
    mid ≡ base ++ steps_of group (parts_of most (k - 1) later rest last right) → new ≡ mid ++ record { group = group; piece = Cut first kept left right } ∷ [] →
    new ≡ base ++ steps_of group (parts_of most k labels cs left right)
more_parts most k group labels cs left right m first later kept rest last base mid new z long n f l t r e a b =
    let f' : first ≡ take most labels = f ∙ (ap (λ j. take j labels) n ∙ take_min most labels) in
    let l' : later ≡ drop most labels = l ∙ (ap (λ j. drop j labels) n ∙ drop_min most labels) in
    let ps = parts_of most (k - 1) later rest last right in
    let same : Cut first kept left right ∷ ps ≡ parts_of most k labels cs left right =
    ap (λ (xs : List ℕ). Cut xs kept left right ∷ ps) f'
    ∙ (ap (λ (xs : List ℕ). Cut (take most labels) xs left right ∷ ps) t
    ∙ (ap (λ (xs : List ℕ). Cut (take most labels) (take most cs) left right ∷ parts_of most (k - 1) xs rest last right) l'
    ∙ (ap (λ (xs : List ℕ). Cut (take most labels) (take most cs) left right ∷ parts_of most (k - 1) (drop most labels) xs last right) r
    ∙ (ap (λ (o : Option ℕ). Cut (take most labels) (take most cs) left right ∷ parts_of most (k - 1) (drop most labels) (drop most cs) o right) (e ∙ ap last_label f')
    ∙ sym (parts_long most k labels cs left right z long))))) in
    steps_next group (Cut first kept left right) ps base mid new a b ∙ ap (λ (qs : List Piece). base ++ steps_of group qs) same

-- ---- the newest that fit

pub fitting_next : (k room : ℕ) (xs : List Step) (i : ℕ) (x : Step) → 0 < k → slice_get xs i ≡ Some x → piece_size x.piece ≤ room → fitting k room (drop i xs) ≡ suc (fitting (k - 1) (room - piece_size x.piece) (drop (i + 1) xs))
fitting_next zero room xs i x z g h = absurd (omega (arith, z))
fitting_next (suc k) room xs i x z g h =
    let one : k ≡ suc k - 1 = omega arith in
    ap (fitting (suc k) room) (drop_reads xs i x g)
    ∙ (ap (λ (b : Bool). if b then suc (fitting k (room - piece_size x.piece) (drop (i + 1) xs)) else 0) (le_test (piece_size x.piece) room h)
    ∙ ap (λ j. suc (fitting j (room - piece_size x.piece) (drop (i + 1) xs))) one)

pub fitting_stops : (k room : ℕ) (xs : List Step) (i : ℕ) (x : Step) → slice_get xs i ≡ Some x → room < piece_size x.piece → fitting k room (drop i xs) ≡ 0
fitting_stops zero room xs i x g h = refl
fitting_stops (suc k) room xs i x g h =
    ap (fitting (suc k) room) (drop_reads xs i x g)
    ∙ ap (λ (b : Bool). if b then suc (fitting k (room - piece_size x.piece) (drop (i + 1) xs)) else 0) (not_le_test (piece_size x.piece) room h)

pub fitting_none : (k room : ℕ) (xs : List Step) (i : ℕ) → length xs ≤ i → fitting k room (drop i xs) ≡ 0
fitting_none zero room xs i h = refl
fitting_none (suc k) room xs i h = ap (fitting (suc k) room) (drop_all i xs h)

-- ---- the rest of a group

pub front_next : (g : ℕ) (xs : List Step) (i : ℕ) (x : Step) → slice_get xs i ≡ Some x → x.group ≡ g → in_front g (drop i xs) ≡ suc (in_front g (drop (i + 1) xs))
front_next g xs i x e h = ap (in_front g) (drop_reads xs i x e) ∙ ap (λ (b : Bool). if b then suc (in_front g (drop (i + 1) xs)) else 0) (eq_test x.group g h)

pub front_stops : (g : ℕ) (xs : List Step) (i : ℕ) (x : Step) → slice_get xs i ≡ Some x → (x.group ≡ g → ⊥) → in_front g (drop i xs) ≡ 0
front_stops g xs i x e h = ap (in_front g) (drop_reads xs i x e) ∙ ap (λ (b : Bool). if b then suc (in_front g (drop (i + 1) xs)) else 0) (neq_test x.group g h)

pub front_none : (g : ℕ) (xs : List Step) (i : ℕ) → length xs ≤ i → in_front g (drop i xs) ≡ 0
front_none g xs i h = ap (in_front g) (drop_all i xs h)

pub rest_is : (xs : List Step) (i : ℕ) (x : Step) → 0 < i → slice_get xs (i - 1) ≡ Some x → rest_of_group i xs ≡ in_front x.group (drop i xs)
rest_is xs zero x z e = absurd (omega (arith, z))
rest_is xs (suc k) x z e =
    let one : suc k - 1 ≡ k = omega arith in
    let two : k + 1 ≡ suc k = omega arith in
    ap more_of_group (drop_reads xs k x (ap (slice_get xs) (sym one) ∙ e)) ∙ ap (λ j. in_front x.group (drop j xs)) two
