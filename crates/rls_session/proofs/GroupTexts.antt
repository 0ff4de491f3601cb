-- The texts before groups, as steps are recorded, taken back, done again and forgotten.
use Rattle.std.proofs.Common.{◌≡◌, ◌∙◌, ◌-◌, ◌≤◌, ◌+◌, ℕ, zero, suc, Bool, true, false, List, [], ◌∷◌, ◌++◌, length, take, drop, Option, Some, None, refl, sym, ap, subst, arith, append_assoc}
use Rattle.std.specs.Prelude.{◌==◌, replicate, reverse, if◌then◌else◌}
use Rattle.std.proofs.lemmas.List.{append-nil, length-reverse, reverse-append, take-append-drop}
use Rattle.rls_ident.proofs.Members.{bool_cases, eq_is, eq_test, le_test}
use Rattle.rls_steps.specs.declared.piece.Step.{Step}
use Rattle.rls_steps.specs.Courses.{Back, Copies, copies}
use Rattle.rls_steps.specs.Forgetting.{fitting, forgotten, piece_size, rest_of_group}
use Rattle.rls_steps.specs.Groups.{goes_on, in_front}
use Rattle.rls_session.specs.Remembering.{first_group, group_texts, steps_size}
use Rattle.rls_session.proofs.Turned.{AreOf}

abbrev pub texts : List ℕ → List (List ℕ) → List (List ℕ) → Copies
texts now before after = record { now = now; before = before; after = after }

-- ---- one after another

joins_on : (x : Step) (xs : List Step) (t : List ℕ) (ts : List (List ℕ)) (b : Bool) → goes_on (first_group xs) x.group ≡ b → group_texts (x ∷ xs) (t ∷ ts) ≡ (if b then group_texts xs ts else t ∷ group_texts xs ts)
joins_on x xs t ts b e = ap (λ c. if c then group_texts xs ts else t ∷ group_texts xs ts) e

goes_same : (o : Option ℕ) (g : ℕ) → o ≡ Some g → goes_on o g ≡ true
goes_same o g e = ap (λ p. goes_on p g) e ∙ eq_test g g refl

goes_other : (o : Option ℕ) (g : ℕ) → (o ≡ Some g → ⊥) → goes_on o g ≡ false
goes_other None g f = refl
goes_other (Some h) g f = bool_cases (h == g) (λ t. absurd (f (ap Some (eq_is h g t)))) (λ n. n)

-- none of the first is of the group
none_first : (g : ℕ) (xs : List Step) → in_front g xs ≡ 0 → first_group xs ≡ Some g → ⊥
none_first g [] e f = cc
none_first g (x ∷ xs) e f =
    let same : x.group ≡ g = cc in
    let one : in_front g (x ∷ xs) ≡ suc (in_front g xs) = ap (λ (b : Bool). if b then suc (in_front g xs) else 0) (eq_test x.group g same) in
    absurd (omega (arith, e, one))

pub some_first : (g m : ℕ) (xs : List Step) → in_front g xs ≡ suc m → first_group xs ≡ Some g
some_first g m [] e = absurd (omega (arith, e))
some_first g m (x ∷ xs) e = bool_cases (x.group == g)
    (λ t. ap Some (eq_is x.group g t))
    (λ n. let none : in_front g (x ∷ xs) ≡ 0 = ap (λ (b : Bool). if b then suc (in_front g xs) else 0) n in absurd (omega (arith, e, none)))

rest_first : (g m : ℕ) (x : Step) (xs : List Step) → in_front g (x ∷ xs) ≡ suc m → (x.group ≡ g) × (in_front g xs ≡ m)
rest_first g m x xs e = bool_cases (x.group == g)
    (λ t. let one : in_front g (x ∷ xs) ≡ suc (in_front g xs) = ap (λ (b : Bool). if b then suc (in_front g xs) else 0) t in (eq_is x.group g t, omega (arith, e, one)))
    (λ n. let none : in_front g (x ∷ xs) ≡ 0 = ap (λ (b : Bool). if b then suc (in_front g xs) else 0) n in absurd (omega (arith, e, none)))

-- ---- a group that is taken back

-- the text before it comes, and the texts before the other groups stay
pub back_before : (g m : ℕ) (xs : List Step) (now : List ℕ) (ts after : List (List ℕ)) → length ts ≡ length xs → in_front g xs ≡ suc m → let c = copies (texts now ts after) (replicate (suc m) Back) in
    group_texts xs ts ≡ c.now ∷ group_texts (drop (suc m) xs) c.before
back_before g m [] now ts after l e = absurd (omega (arith, e))
back_before g m (x ∷ xs) now [] after l e = absurd (omega (arith, l))
back_before g zero (x ∷ xs) now (t ∷ ts) after l e =
    let r = rest_first g 0 x xs e in
    joins_on x xs t ts false (goes_other (first_group xs) x.group (λ f. none_first g xs r.1 (f ∙ ap Some r.0)))
back_before g (suc m) (x ∷ xs) now (t ∷ ts) after l e =
    let r = rest_first g (suc m) x xs e in
    joins_on x xs t ts true (goes_same (first_group xs) x.group (some_first g m xs r.1 ∙ ap Some (sym r.0))) ∙ back_before g m xs t ts (now ∷ after) (omega (arith, l)) r.1

-- its steps stand on the other side, where they lead to the text that was
back_more : (g : ℕ) (ws ys : List Step) (now : List ℕ) (ts after : List (List ℕ)) → AreOf g ws → first_group ys ≡ Some g → length ws ≤ length ts →
    group_texts (reverse ws ++ ys) ((copies (texts now ts after) (replicate (length ws) Back)).after) ≡ group_texts ys after
back_more g [] ys now ts after a f l = refl
back_more g (w ∷ ws) ys now [] after a f l = absurd (omega (arith, l))
back_more g (w ∷ ws) ys now (t ∷ ts) after a f l =
    let c = copies (texts t ts (now ∷ after)) (replicate (length ws) Back) in
    ap (λ (zs : List Step). group_texts zs c.after) (ap (λ (zs : List Step). zs ++ ys) (reverse-append (w ∷ []) ws) ∙ append_assoc (reverse ws) (w ∷ []) ys)
    ∙ (back_more g ws (w ∷ ys) t ts (now ∷ after) a.1 (ap Some a.0) (omega (arith, l))
    ∙ joins_on w ys now after true (goes_same (first_group ys) w.group (f ∙ ap Some (sym a.0))))

pub back_after : (g m : ℕ) (ws ys : List Step) (now : List ℕ) (ts after : List (List ℕ)) → AreOf g ws → (first_group ys ≡ Some g → ⊥) → length ws ≡ suc m → suc m ≤ length ts →
    group_texts (reverse ws ++ ys) ((copies (texts now ts after) (replicate (suc m) Back)).after) ≡ now ∷ group_texts ys after
back_after g m [] ys now ts after a f l k = absurd (omega (arith, l))
back_after g m (w ∷ ws) ys now [] after a f l k = absurd (omega (arith, k))
back_after g m (w ∷ ws) ys now (t ∷ ts) after a f l k =
    let same : length ws ≡ m = omega (arith, l) in
    let Made : ℕ → Copies = λ j. copies (texts t ts (now ∷ after)) (replicate j Back) in
    ap (λ (j : ℕ). group_texts (reverse (w ∷ ws) ++ ys) (Made j).after) (sym same)
    ∙ (ap (λ (zs : List Step). group_texts zs (Made (length ws)).after) (ap (λ (zs : List Step). zs ++ ys) (reverse-append (w ∷ []) ws) ∙ append_assoc (reverse ws) (w ∷ []) ys)
    ∙ (back_more g ws (w ∷ ys) t ts (now ∷ after) a.1 (ap Some a.0) (omega (arith, l, k))
    ∙ joins_on w ys now after false (goes_other (first_group ys) w.group (λ q. f (q ∙ ap Some a.0)))))

-- the first of the steps that are put there
pub first_of_group : (g : ℕ) (ws ys : List Step) → AreOf g ws → first_group ys ≡ Some g → first_group (reverse ws ++ ys) ≡ Some g
first_of_group g [] ys a f = f
first_of_group g (w ∷ ws) ys a f =
    ap first_group (ap (λ (zs : List Step). zs ++ ys) (reverse-append (w ∷ []) ws) ∙ append_assoc (reverse ws) (w ∷ []) ys) ∙ first_of_group g ws (w ∷ ys) a.1 (ap Some a.0)

pub left_of_group : (g : ℕ) (xs : List Step) → first_group (drop (in_front g xs) xs) ≡ Some g → ⊥
left_of_group g [] f = cc
left_of_group g (x ∷ xs) f = go (x.group == g) refl f (left_of_group g xs)
  where
    go : (b : Bool) → (x.group == g) ≡ b → first_group (drop (if b then suc (in_front g xs) else 0) (x ∷ xs)) ≡ Some g → (first_group (drop (in_front g xs) xs) ≡ Some g → ⊥) → ⊥
    go true e f rest = rest f
    go false e f rest = let same : x.group ≡ g = cc in let b : (x.group == g) ≡ true = eq_test x.group g same in absurd (let both : true ≡ false = sym b ∙ e in cc)

-- how many texts there are then
pub backs_length : (k : ℕ) (now : List ℕ) (ts after : List (List ℕ)) → k ≤ length ts → length ((copies (texts now ts after) (replicate k Back)).after) ≡ k + length after
backs_length zero now ts after l = omega arith
backs_length (suc k) now [] after l = absurd (omega (arith, l))
backs_length (suc k) now (t ∷ ts) after l = let i = backs_length k t ts (now ∷ after) (omega (arith, l)) in omega (arith, i)

-- ---- whole groups that are forgotten

-- after the first m steps another group begins
abbrev pub EndsAt : ℕ → List Step → Type 0
EndsAt zero xs = Unit {0}
EndsAt (suc m) [] = Unit {0}
EndsAt (suc zero) (x ∷ xs) = first_group xs ≡ Some x.group → ⊥
EndsAt (suc (suc m)) (x ∷ xs) = EndsAt (suc m) xs

take_first : (m : ℕ) (xs : List Step) → first_group (take (suc m) xs) ≡ first_group xs
take_first m [] = refl
take_first m (x ∷ xs) = refl

pub cut_texts : (m : ℕ) (xs : List Step) (ts : List (List ℕ)) → EndsAt m xs → (j : ℕ) × (group_texts (take m xs) (take m ts) ≡ take j (group_texts xs ts))
cut_texts zero xs ts e = (0, refl)
cut_texts (suc m) [] ts e = (0, refl)
cut_texts (suc m) (x ∷ xs) [] e = (0, refl)
cut_texts (suc zero) (x ∷ xs) (t ∷ ts) e = (1, ap (take 1) (sym (joins_on x xs t ts false (goes_other (first_group xs) x.group e))))
cut_texts (suc (suc m)) (x ∷ xs) (t ∷ ts) e = go (goes_on (first_group xs) x.group) refl (cut_texts (suc m) xs ts e)
  where
    ys : List Step
    ys = take (suc m) xs

    us : List (List ℕ)
    us = take (suc m) ts

    go : (b : Bool) → goes_on (first_group xs) x.group ≡ b → ((j : ℕ) × (group_texts ys us ≡ take j (group_texts xs ts))) → (j : ℕ) × (group_texts (x ∷ ys) (t ∷ us) ≡ take j (group_texts (x ∷ xs) (t ∷ ts)))
    go true q i = (i.0, joins_on x ys t us true (ap (λ o. goes_on o x.group) (take_first m xs) ∙ q) ∙ (i.1 ∙ ap (take i.0) (sym (joins_on x xs t ts true q))))
    go false q i = (suc i.0, joins_on x ys t us false (ap (λ o. goes_on o x.group) (take_first m xs) ∙ q) ∙ (ap (λ (vs : List (List ℕ)). t ∷ vs) i.1 ∙ ap (take (suc i.0)) (sym (joins_on x xs t ts false q))))

-- where the oldest stand first: the steps that stay, after those that go
ends_behind : (ws ys : List Step) (b : Step) → (first_group ys ≡ Some b.group → ⊥) → EndsAt (suc (length ws)) (ws ++ b ∷ ys)
ends_behind [] ys b f = f
ends_behind (w ∷ ws) ys b f = ends_behind ws ys b f

pub ends_between : (gone stay : List Step) → ((g : ℕ) → first_group (reverse gone) ≡ Some g → first_group stay ≡ Some g → ⊥) → EndsAt (length stay) (reverse stay ++ reverse gone)
ends_between gone [] f = tt
ends_between gone (b ∷ bs) f =
    let size : length (reverse bs) ≡ length bs = length-reverse bs in
    subst (λ (zs : List Step). EndsAt (suc (length bs)) zs) (sym (ap (λ (zs : List Step). zs ++ reverse gone) (reverse-append (b ∷ []) bs) ∙ append_assoc (reverse bs) (b ∷ []) (reverse gone)))
    (subst (λ n. EndsAt (suc n) (reverse bs ++ b ∷ reverse gone)) size (ends_behind (reverse bs) (reverse gone) b (λ q. f b.group q refl)))

take_of : (g : ℕ) (xs : List Step) → AreOf g (take (in_front g xs) xs)
take_of g [] = tt
take_of g (x ∷ xs) = go (x.group == g) refl (take_of g xs)
  where
    go : (b : Bool) → (x.group == g) ≡ b → AreOf g (take (in_front g xs) xs) → AreOf g (take (if b then suc (in_front g xs) else 0) (x ∷ xs))
    go true e i = (eq_is x.group g e, i)
    go false e i = tt

-- the last one
behind_first : (ws us : List Step) (y : Step) → first_group ((ws ++ y ∷ []) ++ us) ≡ first_group (ws ++ y ∷ [])
behind_first [] us y = refl
behind_first (w ∷ ws) us y = refl

more_first : (x y : Step) (ys : List Step) → first_group (reverse (x ∷ (y ∷ ys))) ≡ first_group (reverse (y ∷ ys))
more_first x y ys =
    let last : reverse (y ∷ ys) ≡ reverse ys ++ y ∷ [] = reverse-append (y ∷ []) ys in
    ap first_group (reverse-append (x ∷ []) (y ∷ ys)) ∙ (ap (λ (zs : List Step). first_group (zs ++ x ∷ [])) last ∙ (behind_first (reverse ys) (x ∷ []) y ∙ ap first_group (sym last)))

-- what goes ends with a group
abbrev Ends : ℕ → List Step → ℕ → Type 0
Ends k xs g = first_group (reverse (take k xs)) ≡ Some g → first_group (drop k xs) ≡ Some g → ⊥

none_left : (k : ℕ) → drop {A = Step} k [] ≡ []
none_left zero = refl
none_left (suc k) = refl

gone_ends : (o : ℕ) (xs : List Step) (g k : ℕ) → k ≡ suc o + rest_of_group (suc o) xs → Ends k xs g
gone_ends o [] g k q = λ e f. let none : first_group [] ≡ Some g = sym (ap first_group (none_left k)) ∙ f in cc
gone_ends zero (x ∷ xs) g k q =
    let n = in_front x.group xs in
    let one : k ≡ suc n = omega (arith, q) in
    let back : reverse (x ∷ take n xs) ≡ reverse (take n xs) ++ x ∷ [] = reverse-append (x ∷ []) (take n xs) in
    let is : first_group (reverse (x ∷ take n xs)) ≡ Some x.group = ap first_group back ∙ first_of_group x.group (take n xs) (x ∷ []) (take_of x.group xs) refl in
    subst (λ j. Ends j (x ∷ xs) g) (sym one) (λ e f. left_of_group x.group xs (f ∙ (sym e ∙ is)))
gone_ends (suc o) (x ∷ []) g k q =
    let one : k ≡ suc (suc o + rest_of_group (suc (suc o)) (x ∷ [])) = omega (arith, q) in
    subst (λ j. Ends j (x ∷ []) g) (sym one) (λ e f. let none : first_group [] ≡ Some g = sym (ap first_group (none_left (suc o + rest_of_group (suc (suc o)) (x ∷ [])))) ∙ f in cc)
gone_ends (suc o) (x ∷ (y ∷ ys)) g k q =
    let i = o + rest_of_group (suc o) (y ∷ ys) in
    let two : k ≡ suc (suc i) = omega (arith, q) in
    let rest = gone_ends o (y ∷ ys) g (suc i) (omega arith) in
    subst (λ j. Ends j (x ∷ (y ∷ ys)) g) (sym two) (λ e f. rest (sym (more_first x y (take i ys)) ∙ e) f)

pub forgotten_ends : (steps chars : ℕ) (xs : List Step) → let k = forgotten steps chars xs in EndsAt (length (drop k xs)) (reverse xs)
forgotten_ends steps chars xs = go (length xs - fitting steps chars (reverse xs))
  where
    go : (over : ℕ) → let k = over + rest_of_group over xs in EndsAt (length (drop k xs)) (reverse xs)
    go zero = subst (λ (ys : List Step). EndsAt (length xs) ys) (append-nil (reverse xs)) (ends_between [] xs (λ g e f. cc))
    go (suc o) =
        let k = suc o + rest_of_group (suc o) xs in
        let both : reverse xs ≡ reverse (drop k xs) ++ reverse (take k xs) = ap reverse (sym (take-append-drop k xs)) ∙ reverse-append (take k xs) (drop k xs) in
        subst (λ (ys : List Step). EndsAt (length (drop k xs)) ys) (sym both) (ends_between (take k xs) (drop k xs) (λ g e f. gone_ends o xs g k refl e f))

pub front_within : (g : ℕ) (xs : List Step) → in_front g xs ≤ length xs
front_within g [] = omega arith
front_within g (x ∷ xs) = go (x.group == g) (front_within g xs)
  where
    go : (b : Bool) → in_front g xs ≤ length xs → (if b then suc (in_front g xs) else 0) ≤ suc (length xs)
    go true h = omega (arith, h)
    go false h = omega arith

rest_within : (over : ℕ) (xs : List Step) → over ≤ length xs → over + rest_of_group over xs ≤ length xs
rest_within zero xs h = omega arith
rest_within (suc o) [] h = absurd (omega (arith, h))
rest_within (suc zero) (x ∷ xs) h = let l = front_within x.group xs in omega (arith, l)
rest_within (suc (suc o)) (x ∷ xs) h = let l = rest_within (suc o) xs (omega (arith, h)) in omega (arith, l)

pub forgotten_within : (steps chars : ℕ) (xs : List Step) → forgotten steps chars xs ≤ length xs
forgotten_within steps chars xs = rest_within (length xs - fitting steps chars (reverse xs)) xs (omega arith)

-- ---- steps of one group that are recorded

of_behind : (g : ℕ) (xs : List Step) (y : Step) → AreOf g xs → y.group ≡ g → AreOf g (xs ++ y ∷ [])
of_behind g [] y a e = (e, tt)
of_behind g (x ∷ xs) y a e = (a.0, of_behind g xs y a.1 e)

pub of_reverse : (g : ℕ) (xs : List Step) → AreOf g xs → AreOf g (reverse xs)
of_reverse g [] a = tt
of_reverse g (x ∷ xs) a = subst (AreOf g) (sym (reverse-append (x ∷ []) xs)) (of_behind g (reverse xs) x (of_reverse g xs a.1) a.0)

-- they begin a group, unless the steps below are of it
pub run_texts : (g : ℕ) (zs X : List Step) (between : List (List ℕ)) (now : List ℕ) (ts : List (List ℕ)) → AreOf g zs → length zs ≡ suc (length between) →
    group_texts (zs ++ X) (between ++ now ∷ ts) ≡ (if goes_on (first_group X) g then group_texts X ts else now ∷ group_texts X ts)
run_texts g [] X between now ts a l = absurd (omega (arith, l))
run_texts g (z ∷ []) X [] now ts a l = ap (λ h. if goes_on (first_group X) h then group_texts X ts else now ∷ group_texts X ts) a.0
run_texts g (z ∷ []) X (b ∷ bs) now ts a l = absurd (omega (arith, l))
run_texts g (z ∷ (y ∷ zs)) X [] now ts a l = absurd (omega (arith, l))
run_texts g (z ∷ (y ∷ zs)) X (b ∷ bs) now ts a l =
    joins_on z (y ∷ (zs ++ X)) b (bs ++ now ∷ ts) true (eq_test y.group z.group (a.1.0 ∙ sym a.0)) ∙ run_texts g (y ∷ zs) X bs now ts a.1 (omega (arith, l))

-- ---- nothing is forgotten that is within bounds

size_append : (xs ys : List Step) → steps_size (xs ++ ys) ≡ steps_size xs + steps_size ys
size_append [] ys = omega arith
size_append (x ∷ xs) ys = let i = size_append xs ys in omega (arith, i)

size_back : (xs : List Step) → steps_size (reverse xs) ≡ steps_size xs
size_back [] = refl
size_back (x ∷ xs) = let i = size_back xs in let j = size_append (reverse xs) (x ∷ []) in let k : steps_size (reverse (x ∷ xs)) ≡ steps_size (reverse xs ++ x ∷ []) = ap steps_size (reverse-append (x ∷ []) xs) in omega (arith, i, j, k)

all_fit : (steps chars : ℕ) (xs : List Step) → length xs ≤ steps → steps_size xs ≤ chars → fitting steps chars xs ≡ length xs
all_fit zero chars [] l s = refl
all_fit zero chars (x ∷ xs) l s = absurd (omega (arith, l))
all_fit (suc k) chars [] l s = refl
all_fit (suc k) chars (x ∷ xs) l s =
    let n = piece_size x.piece in
    ap (λ b. if b then suc (fitting k (chars - n) xs) else 0) (le_test n chars (omega (arith, s))) ∙ ap suc (all_fit k (chars - n) xs (omega (arith, l)) (omega (arith, s)))

pub none_forgotten : (steps chars : ℕ) (xs : List Step) → length xs ≤ steps → steps_size xs ≤ chars → forgotten steps chars xs ≡ 0
none_forgotten steps chars xs l s =
    let size = length-reverse xs in
    let fit = all_fit steps chars (reverse xs) (omega (arith, l, size)) (omega (arith, s, size_back xs)) in
    let over : length xs - fitting steps chars (reverse xs) ≡ 0 = omega (arith, fit, size) in
    ap (λ o. o + rest_of_group o xs) over
