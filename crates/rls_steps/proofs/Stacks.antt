-- Stacks of steps.
use Rattle.std.proofs.Common.{◌≡◌, ℕ, zero, suc, List, [], ◌∷◌, ◌++◌, map, refl, ap, ◌∙◌}
use Rattle.std.specs.Prelude.{reverse, replicate}
use Rattle.std.proofs.lemmas.List.{reverse-append}
use Rattle.rls_model.specs.declared.edit.Edit.TheVariants as edits
use Rattle.rls_model.proofs.Spliced.{append_map}
use Rattle.rls_steps.specs.declared.piece.Step.{Step}
use Rattle.rls_steps.specs.Marks.{Piece, Put, Cut}
use Rattle.rls_steps.specs.Labelled.{Labelled, ready_over, cut_over, cut_piece}
use Rattle.rls_steps.specs.Courses.{cut_ranges, or_empty, taken_back, ranges_over, Fits, FitRanges, Steps, Move, Back, Again, course, moved, MayRun}
use Rattle.rls_steps.specs.Groups.{turned}
use Rattle.rls_steps.specs.Recorded.{pieces_of, steps_of}

-- ---- what one stack leaves on the other

cut_others : (h : Labelled) (rs : List (ℕ × ℕ)) (ps qs : List Piece) → (cut_ranges h rs (ps ++ qs)).other ≡ (cut_ranges h rs ps).other ++ qs
cut_others h [] ps qs = refl
cut_others h (r ∷ rs) ps qs = let g = ready_over h r.0 r.1 in cut_others (cut_over g r.0 r.1) rs (cut_piece g r.0 r.1 ∷ ps) qs

pub cut_same : (h : Labelled) (rs : List (ℕ × ℕ)) (ps qs : List Piece) → (cut_ranges h rs ps).held ≡ (cut_ranges h rs qs).held
cut_same h [] ps qs = refl
cut_same h (r ∷ rs) ps qs = let g = ready_over h r.0 r.1 in cut_same (cut_over g r.0 r.1) rs (cut_piece g r.0 r.1 ∷ ps) (cut_piece g r.0 r.1 ∷ qs)

pub taken_others : (h : Labelled) (p : Piece) (qs : List Piece) → (taken_back h p qs).other ≡ (taken_back h p []).other ++ qs
taken_others h (Put labels) qs = go (ranges_over h labels)
  where
    go : (rs : List (ℕ × ℕ)) → (cut_ranges h rs (or_empty rs qs)).other ≡ (cut_ranges h rs (or_empty rs [])).other ++ qs
    go [] = refl
    go (r ∷ rs) = cut_others h (r ∷ rs) [] qs
taken_others h (Cut labels cs left right) qs = refl

pub taken_same : (h : Labelled) (p : Piece) (qs : List Piece) → (taken_back h p qs).held ≡ (taken_back h p []).held
taken_same h (Put labels) qs = let rs = ranges_over h labels in cut_same h rs (or_empty rs qs) (or_empty rs [])
taken_same h (Cut labels cs left right) qs = refl

-- ---- one more range

pub cut_more : (h : Labelled) (rs : List (ℕ × ℕ)) (r : ℕ × ℕ) (qs : List Piece) →
    let t = cut_ranges h rs qs in
    let g = ready_over t.held r.0 r.1 in
    cut_ranges h (rs ++ r ∷ []) qs ≡ record { held = cut_over g r.0 r.1; other = cut_piece g r.0 r.1 ∷ t.other }
cut_more h [] r qs = refl
cut_more h (x ∷ xs) r qs = let g = ready_over h x.0 x.1 in cut_more (cut_over g x.0 x.1) xs r (cut_piece g x.0 x.1 ∷ qs)

pub fit_more : (h : Labelled) (rs : List (ℕ × ℕ)) (r : ℕ × ℕ) (qs : List Piece) → FitRanges h rs → Fits (cut_ranges h rs qs).held.seen (edits.Delete r.0 r.1) → FitRanges h (rs ++ r ∷ [])
fit_more h [] r qs f k = (k, tt)
fit_more h (x ∷ xs) r qs f k = let g = ready_over h x.0 x.1 in (f.0, fit_more (cut_over g x.0 x.1) xs r (cut_piece g x.0 x.1 ∷ qs) f.1 k)

-- ---- steps of pieces

pub steps_more : (g : ℕ) (p : Piece) (ps : List Piece) → steps_of g (p ∷ ps) ≡ steps_of g ps ++ record { group = g; piece = p } ∷ []
steps_more g p ps =
    let f : Piece → Step = λ q. record { group = g; piece = q } in
    ap (map f) (reverse-append (p ∷ []) ps) ∙ append_map f (reverse ps) (p ∷ [])

pub pieces_more : (xs ys : List Step) → pieces_of (xs ++ ys) ≡ pieces_of ys ++ pieces_of xs
pieces_more xs ys =
    let f : Step → Piece = λ x. x.piece in
    ap (map f) (reverse-append xs ys) ∙ append_map f (reverse ys) (reverse xs)

pub pieces_back : (g : ℕ) (ps : List Piece) → pieces_of (steps_of g ps) ≡ ps
pieces_back g [] = refl
pieces_back g (p ∷ ps) =
    ap pieces_of (steps_more g p ps) ∙ (pieces_more (steps_of g ps) (record { group = g; piece = p } ∷ []) ∙ ap (λ qs. p ∷ qs) (pieces_back g ps))

-- ---- courses

pub course_append : (ms ns : List Move) (st : Steps) → course st (ms ++ ns) ≡ course (course st ms) ns
course_append [] ns st = refl
course_append (m ∷ ms) ns st = course_append ms ns (moved st m)

pub may_append : (ms ns : List Move) (st : Steps) → MayRun st ms → MayRun (course st ms) ns → MayRun st (ms ++ ns)
may_append [] ns st f g = g
may_append (m ∷ ms) ns st f g = (f.0, may_append ms ns (moved st m) f.1 g)

pub back_last : (k : ℕ) → replicate (suc k) Back ≡ replicate k Back ++ Back ∷ []
back_last zero = refl
back_last (suc k) = ap (λ ms. Back ∷ ms) (back_last k)

-- redoing is undoing with the stacks exchanged
pub turned_course : (k : ℕ) (h : Labelled) (ps qs : List Piece) → course (record { held = h; past = qs; future = ps }) (replicate k Again) ≡ turned (course (record { held = h; past = ps; future = qs }) (replicate k Back))
turned_course zero h ps qs = refl
turned_course (suc k) h [] qs = turned_course k h [] qs
turned_course (suc k) h (p ∷ ps) qs = let t = taken_back h p qs in turned_course k t.held ps t.other

pub turned_runs : (k : ℕ) (h : Labelled) (ps qs : List Piece) → MayRun (record { held = h; past = ps; future = qs }) (replicate k Back) → MayRun (record { held = h; past = qs; future = ps }) (replicate k Again)
turned_runs zero h ps qs f = tt
turned_runs (suc k) h [] qs f = (f.0, turned_runs k h [] qs f.1)
turned_runs (suc k) h (p ∷ ps) qs f = let t = taken_back h p qs in (f.0, turned_runs k t.held ps t.other f.1)
