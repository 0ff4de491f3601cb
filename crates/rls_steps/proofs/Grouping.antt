-- Groups of steps, taken back one step after another.
use Rattle.std.proofs.Common.{◌≡◌, ℕ, suc, ◌+◌, ◌-◌, ◌<◌, ◌≤◌, Bool, true, false, List, [], ◌∷◌, ◌++◌, length, take, drop, refl, sym, ap, ◌∙◌, subst, arith}
use Rattle.std.specs.Prelude.{reverse, replicate, slice_get, ◌==◌, Some, if◌then◌else◌}
use Rattle.std.proofs.lemmas.List.{reverse-append, take-take, length-take-le, drop_all}
use Rattle.rls_ident.proofs.Loops.{drop_reads}
use Rattle.rls_ident.proofs.Members.{bool_cases}
use Rattle.rls_ident.proofs.Positions.{get_of}
use Rattle.rls_steps.specs.declared.piece.Step.{Step}
use Rattle.rls_steps.specs.Marks.{Piece}
use Rattle.rls_steps.specs.Labelled.{Labelled}
use Rattle.rls_steps.specs.Courses.{taken_back, FitsBack, Steps, Back, moved, MayMove, course, MayRun}
use Rattle.rls_steps.specs.Groups.{in_front, front_size, group_size, stacked, group_in, group_before, goes_on, groups_after}
use Rattle.rls_steps.specs.Recorded.{pieces_of, steps_of}
use Rattle.rls_steps.proofs.Stacks.{taken_others, taken_same, pieces_more, pieces_back, course_append, may_append, back_last}
use Rattle.rls_steps.proofs.Tabling.{take_snoc}

-- ---- the last step

pub last_split : (xs : List Step) (x : Step) → 0 < length xs → slice_get xs (length xs - 1) ≡ Some x → xs ≡ take (length xs - 1) xs ++ x ∷ []
last_split xs x h e =
    let one : suc (length xs - 1) ≡ length xs = omega (arith, h) in
    sym (ap (λ n. take n xs) one ∙ whole xs) ∙ take_snoc xs (length xs - 1) x e
  where
    whole : (ys : List Step) → take (length ys) ys ≡ ys
    whole [] = refl
    whole (y ∷ ys) = ap (λ zs. y ∷ zs) (whole ys)

abbrev made : Labelled → List Piece → List Piece → Steps
made h ps qs = record { held = h; past = ps; future = qs }

pub back_once : (h k : Labelled) (from front to new : List Step) (x : Step) → from ≡ front ++ x ∷ [] → k ≡ (taken_back h x.piece []).held → new ≡ to ++ steps_of x.group (taken_back h x.piece []).other →
    stacked k front new ≡ moved (stacked h from to) Back
back_once h k from front to new x e f g =
    let t = taken_back h x.piece [] in
    let all = taken_back h x.piece (pieces_of to) in
    let past : pieces_of from ≡ x.piece ∷ pieces_of front = ap pieces_of e ∙ pieces_more front (x ∷ []) in
    let future : pieces_of new ≡ all.other =
    ap pieces_of g ∙ (pieces_more to (steps_of x.group t.other) ∙ (ap (λ ps. ps ++ pieces_of to) (pieces_back x.group t.other) ∙ sym (taken_others h x.piece (pieces_of to)))) in
    let held : k ≡ all.held = f ∙ sym (taken_same h x.piece (pieces_of to)) in
    sym (ap (λ (ps : List Piece). moved (made h ps (pieces_of to)) Back) past
    ∙ (ap (λ (z : Labelled). made z (pieces_of front) all.other) (sym held) ∙ ap (λ (ps : List Piece). made k (pieces_of front) ps) (sym future)))

pub may_once : (h : Labelled) (from front to : List Step) (x : Step) → from ≡ front ++ x ∷ [] → FitsBack h x.piece → MayMove (stacked h from to) Back
may_once h from front to x e f =
    let past : pieces_of from ≡ x.piece ∷ pieces_of front = ap pieces_of e ∙ pieces_more front (x ∷ []) in
    subst (λ (ps : List Piece). MayMove (made h ps (pieces_of to)) Back) (sym past) f

pub first_is : (xs front : List Step) (x : Step) → xs ≡ front ++ x ∷ [] → slice_get (reverse xs) 0 ≡ Some x
first_is xs front x e = ap (λ ys. slice_get (reverse ys) 0) e ∙ ap (λ ys. slice_get ys 0) (reverse-append front (x ∷ []))

-- ---- how many are of the group

pub front_is : (xs front : List Step) (x : Step) (g : ℕ) → xs ≡ front ++ x ∷ [] → in_front g (reverse xs) ≡ (if x.group == g then suc (in_front g (reverse front)) else 0)
front_is xs front x g e = ap (λ ys. in_front g (reverse ys)) e ∙ ap (in_front g) (reverse-append front (x ∷ []))

pub size_is : (xs front : List Step) (x : Step) → xs ≡ front ++ x ∷ [] → group_size xs ≡ in_front x.group (reverse xs)
size_is xs front x e =
    let r : reverse xs ≡ x ∷ reverse front = ap reverse e ∙ reverse-append front (x ∷ []) in
    ap front_size r ∙ sym (ap (in_front x.group) r)

pub none_size : (xs : List Step) → length xs ≡ 0 → group_size xs ≡ 0
none_size [] h = refl
none_size (x ∷ xs) h = absurd (omega (arith, h))

-- ---- one more

pub run_more : (st : Steps) (k : ℕ) → MayRun st (replicate k Back) → MayMove (course st (replicate k Back)) Back → MayRun st (replicate (k + 1) Back)
run_more st k f g =
    let one : suc k ≡ k + 1 = omega arith in
    subst (λ n. MayRun st (replicate n Back)) one (subst (λ ms. MayRun st ms) (sym (back_last k)) (may_append (replicate k Back) (Back ∷ []) st f (g, tt)))

pub course_more : (st now new : Steps) (k : ℕ) → now ≡ course st (replicate k Back) → new ≡ moved now Back → new ≡ course st (replicate (k + 1) Back)
course_more st now new k e f =
    let one : suc k ≡ k + 1 = omega arith in
    f
    ∙ (ap (λ (x : Steps). moved x Back) e
    ∙ (sym (course_append (replicate k Back) (Back ∷ []) st) ∙ (ap (course st) (sym (back_last k)) ∙ ap (λ n. course st (replicate n Back)) one)))

pub left_more : (xs ys zs : List Step) (k : ℕ) → k < length xs → ys ≡ take (length xs - k) xs → zs ≡ take (length ys - 1) ys → zs ≡ take (length xs - (k + 1)) xs
left_more xs ys zs k h e f =
    let size : length ys ≡ length xs - k = ap length e ∙ length-take-le (length xs - k) xs (omega arith) in
    let less : length ys - 1 ≡ length xs - (k + 1) = omega (arith, size) in
    f ∙ (ap (λ n. take n ys) less ∙ (ap (take (length xs - (k + 1))) e ∙ take-take (length xs - (k + 1)) (length xs - k) xs (omega arith)))

-- ---- groups

pub count_next : (xs : List Step) (i : ℕ) (x : Step) (n : ℕ) → slice_get xs i ≡ Some x → n ≡ (if goes_on (group_before xs i) x.group then 0 else 1) →
    groups_after (group_before xs i) (drop i xs) ≡ n + groups_after (group_before xs (i + 1)) (drop (i + 1) xs)
count_next xs i x n g e =
    let one : suc i ≡ i + 1 = omega arith in
    let after = groups_after (Some x.group) (drop (i + 1) xs) in
    let next : groups_after (group_before xs (i + 1)) (drop (i + 1) xs) ≡ after =
    ap (λ k. groups_after (group_before xs k) (drop (i + 1) xs)) (sym one) ∙ ap (λ o. groups_after (group_in o) (drop (i + 1) xs)) g in
    ap (groups_after (group_before xs i)) (drop_reads xs i x g)
    ∙ (go (goes_on (group_before xs i) x.group) after n e ∙ ap (λ m. n + m) (sym next))
  where
    go : (b : Bool) (m k : ℕ) → k ≡ (if b then 0 else 1) → (if b then m else suc m) ≡ k + m
    go true m k q = omega (arith, q)
    go false m k q = omega (arith, q)

pub count_all : (xs : List Step) (i : ℕ) → length xs ≤ i → groups_after (group_before xs i) (drop i xs) ≡ 0
count_all xs i h = ap (groups_after (group_before xs i)) (drop_all i xs h)

-- ---- a group that is taken back

pub front_less : (xs ys : List Step) (g : ℕ) → 0 < in_front g (reverse xs) → ys ≡ take (length xs - 1) xs → (in_front g (reverse xs) ≡ suc (in_front g (reverse ys))) × (0 < length xs)
front_less [] ys g h e = absurd (omega (arith, h))
front_less (z ∷ zs) ys g h e =
    let xs = z ∷ zs in
    let some : 0 < length xs = omega arith in
    let w = get_of xs (length xs - 1) (omega (arith, some)) in
    let split : xs ≡ ys ++ w.0 ∷ [] = last_split xs w.0 some w.1 ∙ ap (λ us. us ++ w.0 ∷ []) (sym e) in
    let is = front_is xs ys w.0 g split in (
      bool_cases (w.0.group == g)
          (λ t. is ∙ ap (λ (b : Bool). if b then suc (in_front g (reverse ys)) else 0) t)
          (λ f. let none : in_front g (reverse xs) ≡ 0 = is ∙ ap (λ (b : Bool). if b then suc (in_front g (reverse ys)) else 0) f in absurd (omega (arith, none, h))),
      some,
    )

pub last_in : (xs : List Step) (x : Step) (g : ℕ) → 0 < length xs → slice_get xs (length xs - 1) ≡ Some x → in_front g (reverse xs) ≡ (if x.group == g then suc (in_front g (reverse (take (length xs - 1) xs))) else 0)
last_in xs x g h e = front_is xs (take (length xs - 1) xs) x g (last_split xs x h e)

pub first_size : (xs : List Step) (x : Step) → 0 < length xs → slice_get xs (length xs - 1) ≡ Some x → in_front x.group (reverse xs) ≡ group_size xs
first_size xs x h e = sym (size_is xs (take (length xs - 1) xs) x (last_split xs x h e))

pub record IsBackNone (h : Labelled) (from to : List Step) : Type 0 where
  pub fits : MayRun (stacked h from to) (replicate (group_size from) Back)
  pub after : stacked h from to ≡ course (stacked h from to) (replicate (group_size from) Back)
  pub left : from ≡ take (length from - group_size from) from

pub none_back : (h : Labelled) (from to : List Step) → length from ≡ 0 → IsBackNone h from to
none_back h [] to e = record { fits = tt; after = refl; left = refl }
none_back h (x ∷ xs) to e = absurd (omega (arith, e))

pub length_left : (xs ys : List Step) (k : ℕ) → k ≤ length xs → ys ≡ take (length xs - k) xs → 0 < length ys → k < length xs
length_left xs ys k h e z =
    let n : length ys ≡ length xs - k = ap length e ∙ length-take-le (length xs - k) xs (omega arith) in
    omega (arith, h, n, z)
