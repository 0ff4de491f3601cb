-- A group that is taken back is a course of as many undos: each step takes its own characters out or puts its text in, and nothing else changes.
use Rattle.std.proofs.Common.{◌≡◌, ◌∙◌, ◌-◌, ◌≤◌, ◌+◌, ℕ, zero, suc, Bool, true, false, List, [], ◌∷◌, ◌++◌, map, take, drop, Option, Some, None, refl, sym, ap, subst, arith, append_assoc}
use Rattle.std.specs.Prelude.{◌==◌, replicate, reverse, if◌then◌else◌}
use Rattle.std.proofs.lemmas.List.{append-nil, reverse-append, reverse-reverse}
use Rattle.rls_ident.proofs.Members.{eq_is}
use Rattle.rls_rename.specs.Tree.{Epochs, greatest}
use Rattle.rls_ident.specs.declared.tuple.Tuple.{Tuple}
use Rattle.rls_model.specs.declared.edit.Edit.TheVariants as edits
use Rattle.rls_model.specs.declared.edit.EditError.{EditError}
use Rattle.rls_seen.specs.Edits.{edit_fault_over, edited}
use Rattle.rls_seen.specs.Sane.{IsSane}
use Rattle.rls_seen.specs.Seen.{Seen, greatest_over, idents_over}
use Rattle.rls_seen.proofs.Making.{edited_sane}
use Rattle.rls_undo.specs.Undoing.{unless}
use Rattle.rls_undo.proofs.Performed.{delete_edit}
use Rattle.rls_steps.specs.declared.piece.Piece.{Piece}
use Rattle.rls_steps.specs.declared.piece.Piece.TheVariants.{Cut, Put}
use Rattle.rls_steps.specs.declared.piece.Step.{Step}
use Rattle.rls_steps.specs.Labelled.{Labelled, Names, cut_over, cut_piece, label_all, label_of, new_label, ready_over}
use Rattle.rls_steps.specs.Courses.{Back, FitRanges, FitsBack, FitsFirst, IsTakenBack, MayRun, Steps, Taken, course, stepped_back, cut_ranges, moved, or_empty, place_over, ranges_over, taken_back}
use Rattle.rls_steps.specs.GroundLaws.{AreSpelled, IsSpelled, IsWhole}
use Rattle.rls_steps.specs.Grounds.{Held, Left, Stand, Turned, back_on, exchanged, cut_on, cuts_on, over, piece_on, place_on, put_on, ready_on, steps_on, taken_on}
use Rattle.rls_steps.specs.Groups.{front_size, group_size, in_front}
use Rattle.rls_steps.specs.Recorded.{Recorded, held_by, names_over, pieces_of, steps_of, steps_over}
use Rattle.rls_steps.proofs.Grounded.{left_at, on, on_place, on_ranges, on_ready, taken_fit}
use Rattle.rls_steps.proofs.Agreeing.{insert_edit}
use Rattle.rls_steps.proofs.Own.{own_alone}
use Rattle.rls_steps.proofs.Recording.{names_there}
use Rattle.rls_steps.proofs.Unchanged.{delete_epochs, insert_epochs}
use Rattle.rls_steps.proofs.Stacks.{pieces_back, pieces_more, taken_others, taken_same}
use Rattle.rls_session.specs.Answers.{with_begun}
use Rattle.rls_session.specs.Sessions.{by_parts}
use Rattle.rls_session.specs.Turns.{AreBack, IsFirstBack, TurnsTakeOwn}

-- ---- a piece without a fault fits

all_seen : (h : Labelled) (xs : List (List Tuple)) → (label_all h xs).seen ≡ h.seen
all_seen h [] = refl
all_seen h (x ∷ xs) = all_seen (new_label (label_of h.names x) h x) xs ∙ one (label_of h.names x)
  where
    one : (o : Option ℕ) → (new_label o h x).seen ≡ h.seen
    one None = refl
    one (Some n) = refl

pub ready_still : (h : Labelled) (at n : ℕ) → (ready_over h at n).seen ≡ h.seen
ready_still h at n = all_seen h (take (n + 2) (drop (at - 1) (idents_over h.seen)))

cut_sane : (h : Labelled) (at n : ℕ) → IsSane h.seen → edit_fault_over h.seen (edits.Delete at n) ≡ None → IsSane (cut_over (ready_over h at n) at n).seen
cut_sane h at n sane q = subst (λ (s : Seen). IsSane (edited s (edits.Delete at n))) (sym (ready_still h at n)) (edited_sane h.seen (edits.Delete at n) sane (delete_edit h.seen at n sane q) q)

-- the rest fits, where the first has no fault
cuts_on_fits : (r : ℕ × ℕ) (rs : List (ℕ × ℕ)) (h : Labelled) (qs : List Piece) → IsSane h.seen → (cuts_on over (on h) (r ∷ rs) qs).fault ≡ None
    → ((ps : List Piece) → IsSane (cut_over (ready_over h r.0 r.1) r.0 r.1).seen → (cuts_on over (on (cut_over (ready_over h r.0 r.1) r.0 r.1)) rs ps).fault ≡ None → FitRanges (cut_over (ready_over h r.0 r.1) r.0 r.1) rs) → FitRanges h (r ∷ rs)
cuts_on_fits r rs h qs sane e rest = go (edit_fault_over h.seen (edits.Delete r.0 r.1)) refl e
  where
    z : Left Seen
    z = cuts_on over (cut_on over (ready_on over (on h) r.0 r.1) r.0 r.1) rs (piece_on over (ready_on over (on h) r.0 r.1) r.0 r.1 ∷ qs)

    g : Labelled
    g = ready_over h r.0 r.1

    go : (f : Option EditError) → edit_fault_over h.seen (edits.Delete r.0 r.1) ≡ f → (unless f (left_at h qs f) z).fault ≡ None → FitRanges h (r ∷ rs)
    go (Some x) q e = absurd cc
    go None q e =
        let there : (cuts_on over (on (cut_over g r.0 r.1)) rs (piece_on over (on g) r.0 r.1 ∷ qs)).fault ≡ None = sym (ap (λ (y : Held Seen). (cuts_on over (cut_on over y r.0 r.1) rs (piece_on over y r.0 r.1 ∷ qs)).fault) (on_ready h r.0 r.1)) ∙ e in
        ((delete_edit h.seen r.0 r.1 sane q, q), rest (piece_on over (on g) r.0 r.1 ∷ qs) (cut_sane h r.0 r.1 sane q) there)

cuts_fits : (rs : List (ℕ × ℕ)) (h : Labelled) (qs : List Piece) → IsSane h.seen → (cuts_on over (on h) rs qs).fault ≡ None → FitRanges h rs
cuts_fits [] h qs sane e = tt
cuts_fits (r ∷ rs) h qs sane e = cuts_on_fits r rs h qs sane e (λ ps s f. cuts_fits rs (cut_over (ready_over h r.0 r.1) r.0 r.1) ps s f)

taken_fits : (h : Labelled) (p : Piece) → IsSane h.seen → IsSpelled p → (taken_on over (on h) p).fault ≡ None → FitsBack h p
taken_fits h (Put labels) sane w e =
    cuts_fits (ranges_over h labels) h (or_empty (ranges_over h labels) []) sane (sym (ap (λ (rs : List (ℕ × ℕ)). (cuts_on over (on h) rs (or_empty rs [])).fault) (on_ranges h labels)) ∙ e)
taken_fits h (Cut labels cs left right) sane w e = go (edit_fault_over h.seen (edits.Insert at cs)) refl e
  where
    at : ℕ
    at = place_on over (on h) left right

    go : (f : Option EditError) → edit_fault_over h.seen (edits.Insert at cs) ≡ f → (unless {A = Left Seen} f (left_at h [] f) (record { held = put_on over (on h) at labels cs; other = Put labels ∷ []; fault = None })).fault ≡ None → FitsBack h (Cut labels cs left right)
    go None q e =
        let there : edit_fault_over h.seen (edits.Insert (place_over h left right) cs) ≡ None = sym (ap (λ i. edit_fault_over h.seen (edits.Insert i cs)) (on_place h left right)) ∙ q in
        let k = insert_edit h.seen (place_over h left right) cs sane w there in
        ((k, w), there)
    go (Some x) q e = absurd cc

-- ---- what a piece leaves

record IsLeft (h n : Labelled) : Type 0 where
  sane : IsSane n.seen
  epochs : (n.seen).epochs ≡ (h.seen).epochs

ranges_left : (rs : List (ℕ × ℕ)) (h : Labelled) (qs : List Piece) → IsSane h.seen → FitRanges h rs → IsLeft h (cut_ranges h rs qs).held
ranges_left [] h qs sane f = record { sane = sane; epochs = refl }
ranges_left (r ∷ rs) h qs sane f =
    let g = ready_over h r.0 r.1 in
    let i = ranges_left rs (cut_over g r.0 r.1) (cut_piece g r.0 r.1 ∷ qs) (cut_sane h r.0 r.1 sane f.0.1) f.1 in
    record { sane = i.sane; epochs = i.epochs ∙ (delete_epochs g.seen r.0 r.1 ∙ ap (λ (s : Seen). s.epochs) (ready_still h r.0 r.1)) }

taken_left : (h : Labelled) (p : Piece) → IsSane h.seen → FitsBack h p → IsLeft h (taken_back h p []).held
taken_left h (Put labels) sane f = ranges_left (ranges_over h labels) h (or_empty (ranges_over h labels) []) sane f
taken_left h (Cut labels cs left right) sane f = let at = place_over h left right in record { sane = edited_sane h.seen (edits.Insert at cs) sane f.0 f.1; epochs = insert_epochs h.seen at cs }

-- ---- steps, one after another

-- all of these steps are of this group
abbrev pub AreOf : ℕ → List Step → Type 0
AreOf g [] = Unit {0}
AreOf g (x ∷ xs) = (x.group ≡ g) × AreOf g xs

pub are_of : (g : ℕ) (ps : List Piece) → AreOf g (map (λ (p : Piece). record { group = g; piece = p }) ps)
are_of g [] = tt
are_of g (p ∷ ps) = (refl, are_of g ps)

of_both : (g : ℕ) (xs ys : List Step) → AreOf g xs → AreOf g ys → AreOf g (xs ++ ys)
of_both g [] ys a b = b
of_both g (x ∷ xs) ys a b = (a.0, of_both g xs ys a.1 b)

abbrev pub made : Labelled → List Piece → List Piece → Steps
made h ps qs = record { held = h; past = ps; future = qs }

-- of steps of which the last comes first
abbrev pub pieces : List Step → List Piece
pieces xs = map (λ (x : Step). x.piece) xs

-- the first k of these steps were taken back, all of one group
pub record IsRun (g k : ℕ) (h : Labelled) (xs to : List Step) (z : Stand Seen) : Type 0 where
  pub held : Labelled
  pub is : z.held ≡ on held
  pub sane : IsSane held.seen
  pub epochs : (held.seen).epochs ≡ (h.seen).epochs
  pub from : z.from ≡ drop k xs
  pub more : List Step
  pub to_is : z.to ≡ to ++ more
  pub of_group : AreOf g more
  pub may : MayRun (made h (pieces xs) (pieces_of to)) (replicate k Back)
  pub course_is : made held (pieces z.from) (pieces_of z.to) ≡ course (made h (pieces xs) (pieces_of to)) (replicate k Back)

front_group : (g : ℕ) (x : Step) (xs : List Step) (k : ℕ) → suc k ≤ in_front g (x ∷ xs) → (x.group ≡ g) × (k ≤ in_front g xs)
front_group g x xs k h = go (x.group == g) refl h
  where
    go : (b : Bool) → (x.group == g) ≡ b → suc k ≤ (if b then suc (in_front g xs) else 0) → (x.group ≡ g) × (k ≤ in_front g xs)
    go true e h = (eq_is x.group g e, omega (arith, h))
    go false e h = absurd (omega (arith, h))

-- the first step, and those after it
run_on : (g k : ℕ) (h : Labelled) (x : Step) (xs to : List Step) → suc k ≤ in_front g (x ∷ xs) → IsSane h.seen → AreSpelled (x ∷ xs) → (steps_on over (suc k) (on h) (x ∷ xs) to).fault ≡ None
    → ((n : Labelled) (ys : List Step) → IsSane n.seen → (steps_on over k (on n) xs ys).fault ≡ None → IsRun g k n xs ys (steps_on over k (on n) xs ys)) → IsRun g (suc k) h (x ∷ xs) to (steps_on over (suc k) (on h) (x ∷ xs) to)
run_on g k h x xs to l sane w e rest = subst (IsRun g (suc k) h (x ∷ xs) to) (sym same) (record {
  held = i.held;
  is = i.is;
  sane = i.sane;
  epochs = i.epochs ∙ left.epochs;
  from = i.from;
  more = steps_of x.group t.other ++ i.more;
  to_is = i.to_is ∙ append_assoc to (steps_of x.group t.other) i.more;
  of_group = of_both g (steps_of x.group t.other) i.more (subst (λ (j : ℕ). AreOf j (steps_of x.group t.other)) first.0 (are_of x.group (reverse t.other))) i.of_group;
  may = (fits, subst (λ (st : Steps). MayRun st (replicate k Back)) step i.may);
  course_is = i.course_is ∙ ap (λ (st : Steps). course st (replicate k Back)) step;
})
  where
    p : Piece
    p = x.piece

    t : Taken
    t = taken_back h p []

    ys : List Step
    ys = to ++ steps_of x.group t.other

    next : Left Seen → Stand Seen
    next a = unless a.fault (record { held = a.held; from = x ∷ xs; to = to ++ steps_of x.group a.other; fault = a.fault }) (steps_on over k a.held xs (to ++ steps_of x.group a.other))

    none_in : (a : Left Seen) (o : Option EditError) → a.fault ≡ o → (unless o (record { held = a.held; from = x ∷ xs; to = to ++ steps_of x.group a.other; fault = o }) (steps_on over k a.held xs (to ++ steps_of x.group a.other))).fault ≡ None → a.fault ≡ None
    none_in a None q e = q
    none_in a (Some f) q e = absurd cc

    first : (x.group ≡ g) × (k ≤ in_front g xs)
    first = front_group g x xs k l

    fits : FitsBack h p
    fits = taken_fits h p sane w.0 (none_in (taken_on over (on h) p) (taken_on over (on h) p).fault refl e)

    left : IsLeft h t.held
    left = taken_left h p sane fits

    same : steps_on over (suc k) (on h) (x ∷ xs) to ≡ steps_on over k (on t.held) xs ys
    same = ap next (taken_fit h p fits)

    i : IsRun g k t.held xs ys (steps_on over k (on t.held) xs ys)
    i = rest t.held ys left.sane (sym (ap (λ (z : Stand Seen). z.fault) same) ∙ e)

    step : made t.held (pieces xs) (pieces_of ys) ≡ moved (made h (p ∷ pieces xs) (pieces_of to)) Back
    step =
        ap (λ (n : Labelled). made n (pieces xs) (pieces_of ys)) (sym (taken_same h p (pieces_of to)))
        ∙ ap (λ (qs : List Piece). made (taken_back h p (pieces_of to)).held (pieces xs) qs)
        (pieces_more to (steps_of x.group t.other) ∙ (ap (λ (qs : List Piece). qs ++ pieces_of to) (pieces_back x.group t.other) ∙ sym (taken_others h p (pieces_of to))))

pub run : (g k : ℕ) (h : Labelled) (xs to : List Step) → k ≤ in_front g xs → IsSane h.seen → AreSpelled xs → (steps_on over k (on h) xs to).fault ≡ None → IsRun g k h xs to (steps_on over k (on h) xs to)
run g zero h xs to l sane w e = record { held = h; is = refl; sane = sane; epochs = refl; from = refl; more = []; to_is = sym (append-nil to); of_group = tt; may = tt; course_is = refl }
run g (suc k) h [] to l sane w e = absurd (omega (arith, l))
run g (suc k) h (x ∷ xs) to l sane w e = run_on g k h x xs to l sane w e (λ n ys s f. run g k n xs ys (front_group g x xs k l).1 s w.1 f)

-- ---- a group

-- the group of the first of these steps
abbrev pub group_of : List Step → ℕ
group_of [] = 0
group_of (x ∷ xs) = x.group

abbrev labelled_at : Seen → ℕ → Names → Labelled
labelled_at s next names = record { seen = s; next = next; names = names }

front_all : (xs : List Step) → in_front (group_of xs) xs ≡ front_size xs
front_all [] = refl
front_all (x ∷ xs) = refl

pub record IsTurned (s : Seen) (r : Recorded) (t : Turned Seen) : Type 0 where
  pub sane : IsSane t.state
  pub past : reverse (t.recorded).past ≡ drop (group_size r.past) (reverse r.past)
  pub more : List Step
  pub future : (t.recorded).future ≡ r.future ++ more
  pub of_group : AreOf (group_of (reverse r.past)) more
  pub may : MayRun (steps_over s r) (replicate (group_size r.past) Back)
  pub epoch : (t.recorded).epoch ≡ greatest_over t.state
  pub course_is : steps_over t.state t.recorded ≡ course (steps_over s r) (replicate (group_size r.past) Back)

spelled_more : (xs ys : List Step) → AreSpelled xs → AreSpelled ys → AreSpelled (xs ++ ys)
spelled_more [] ys a b = b
spelled_more (x ∷ xs) ys a b = (a.0, spelled_more xs ys a.1 b)

spelled_back : (xs : List Step) → AreSpelled xs → AreSpelled (reverse xs)
spelled_back [] w = tt
spelled_back (x ∷ xs) w = subst AreSpelled (sym (reverse-append (x ∷ []) xs)) (spelled_more (reverse xs) (x ∷ []) (spelled_back xs w.1) (w.0, tt))

pub turned_back : (s : Seen) (r : Recorded) → IsSane s → IsWhole r → (back_on over s r).fault ≡ None → IsTurned s r (back_on over s r)
turned_back s r sane w e =
    let xs = reverse r.past in
    let n = group_size r.past in
    let h = (steps_over s r).held in
    let z = steps_on over n (on h) xs r.future in
    let few : n ≤ in_front (group_of xs) xs = omega (arith, front_all xs) in
    let i = run (group_of xs) n h xs r.future few sane (spelled_back r.past w.0) e in
    let now : z.held.state ≡ (i.held).seen = ap (λ (a : Held Seen). a.state) i.is in
    let epoch : greatest_over s ≡ greatest_over z.held.state = sym (ap (λ (E : Epochs). greatest E.top E.nodes) (ap (λ (m : Seen). m.epochs) now ∙ i.epochs)) in
    let names : reverse (names_over z.held.state (greatest_over s) (reverse z.held.names)) ≡ (i.held).names =
    ap reverse (names_there z.held.state (greatest_over s) (reverse z.held.names) epoch) ∙ (reverse-reverse z.held.names ∙ ap (λ (a : Held Seen). a.names) i.is) in
    let held : held_by z.held.state z.held.next (names_over z.held.state (greatest_over s) (reverse z.held.names)) ≡ i.held =
    ap (λ (ns : Names). labelled_at z.held.state z.held.next ns) names ∙ ap (λ (a : Held Seen). labelled_at a.state a.next (i.held).names) i.is in
    let ps : pieces_of (reverse z.from) ≡ pieces z.from = ap pieces (reverse-reverse z.from) in
    record {
      sane = subst IsSane (sym now) i.sane;
      past = reverse-reverse z.from ∙ i.from;
      more = i.more;
      future = i.to_is;
      of_group = i.of_group;
      may = i.may;
      epoch = epoch;
      course_is = ap (λ (l : Labelled). made l (pieces_of (reverse z.from)) (pieces_of z.to)) held ∙ (ap (λ (qs : List Piece). made i.held qs (pieces_of z.to)) ps ∙ i.course_is);
    }

-- ---- each step takes its own alone

alone_on : (k : ℕ) (st : Steps) → IsSane (st.held).seen → FitsFirst st.held st.past → (IsSane ((moved st Back).held).seen → AreBack k (moved st Back) ((course (moved st Back) (replicate k Back)).held).seen) → AreBack (suc k) st ((course st (replicate (suc k) Back)).held).seen
alone_on k st sane f rest = go st.past refl f
  where
    next : Steps
    next = moved st Back

    go : (ps : List Piece) → st.past ≡ ps → FitsFirst st.held ps → IsFirstBack st.held st.past (next.held).seen × AreBack k next ((course next (replicate k Back)).held).seen
    go [] e g =
        let same : next ≡ st = ap (stepped_back st) e in
        (subst (λ (ps : List Piece). IsFirstBack st.held ps (next.held).seen) (sym e) (ap (λ (z : Steps). (z.held).seen) same), rest (subst (λ (z : Steps). IsSane (z.held).seen) (sym same) sane))
    go (p ∷ ps) e g =
        let t = taken_back st.held p st.future in
        let same : (next.held) ≡ t.held = ap (λ (qs : List Piece). (stepped_back st qs).held) e in
        let left : IsLeft st.held t.held = subst (IsLeft st.held) (sym (taken_same st.held p st.future)) (taken_left st.held p sane g) in
        (subst (λ (qs : List Piece). IsFirstBack st.held qs (next.held).seen) (sym e) (subst (λ (h : Labelled). IsTakenBack st.held p h.seen) (sym same) (own_alone st.held p st.future sane g)), rest (subst (λ (h : Labelled). IsSane h.seen) (sym same) left.sane))

alone : (k : ℕ) (st : Steps) → IsSane (st.held).seen → MayRun st (replicate k Back) → AreBack k st ((course st (replicate k Back)).held).seen
alone zero st sane f = refl
alone (suc k) st sane f = alone_on k st sane f.0 (λ s. alone k (moved st Back) s f.1)

pub turns_alone : (s : Seen) (r : Recorded) → IsSane s → IsWhole r → (back_on over s r).fault ≡ None → AreBack (group_size r.past) (steps_over s r) (back_on over s r).state
turns_alone s r sane w e =
    let i = turned_back s r sane w e in
    subst (λ (st : Steps). AreBack (group_size r.past) (steps_over s r) (st.held).seen) (sym i.course_is) (alone (group_size r.past) (steps_over s r) sane i.may)

pub turns_take_own : TurnsTakeOwn
turns_take_own d sane w =
    let e = with_begun by_parts d in
    (λ f. turns_alone e.state e.recorded sane w f, λ f. turns_alone e.state (exchanged e.recorded) sane (w.1, w.0) f)
