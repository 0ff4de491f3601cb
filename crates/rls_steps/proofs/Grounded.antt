-- What is recorded, exactly, at a replica.
use Rattle.std.proofs.Common.{◌≡◌, ℕ, zero, suc, ◌+◌, ◌-◌, ◌<◌, List, [], ◌∷◌, ◌++◌, length, take, drop, refl, sym, ap, ◌∙◌, arith}
use Rattle.std.specs.Prelude.{Bool, false, IsTrue, reverse, slice_get, Option, Some, None}
use Rattle.std.proofs.lemmas.List.{reverse-append, reverse-reverse, append-nil}
use Rattle.rls_ident.specs.declared.tuple.Tuple.{Tuple}
use Rattle.rls_ident.specs.declared.epoch_name.EpochName.{EpochName}
use Rattle.rls_ident.proofs.Members.{true_false}
use Rattle.rls_model.specs.declared.edit.Edit.{Edit}
use Rattle.rls_model.specs.declared.edit.Edit.TheVariants as edits
use Rattle.rls_model.specs.declared.edit.EditError.{EditError}
use Rattle.rls_model.specs.declared.edit.EditError.TheVariants as faults
use Rattle.rls_seen.specs.Edits.{edit_fault_over, IsFault}
use Rattle.rls_seen.specs.Seen.{Seen, idents_over, text_over, greatest_over}
use Rattle.rls_undo.specs.Plans.{ranges_of}
use Rattle.rls_undo.specs.Undoing.{unless}
use Rattle.rls_steps.specs.declared.piece.Step.{Step}
use Rattle.rls_steps.specs.Marks.{Mark, marks, Piece, Put, Cut, label_places, return_place, numbers_from}
use Rattle.rls_steps.specs.Labelled.{Names, Labelled, label_of, marked, new_label, label_all, labels_in, label_at, left_of, ready_over, cut_over, cut_piece, put_over, insert_over}
use Rattle.rls_steps.specs.Courses.{cut_ranges, or_empty, ranges_over, gone_place, place_over, taken_back, FitRanges, FitsBack}
use Rattle.rls_steps.specs.Grounds.{over, Held, held_at, held_on, names_on, added_on, recorded_on, Turned, back_on, labelled_on, labels_on, marks_on, put_on, ready_on, cut_on, piece_on, ranges_on, gone_on, place_on, Left, cuts_on, taken_on, Stand, steps_on}
use Rattle.rls_steps.specs.Groups.{group_size, next_group}
use Rattle.rls_steps.specs.Parts.{parts}
use Rattle.rls_steps.specs.Recorded.{Recorded, held_by, steps_of, names_over, settled}
use Rattle.rls_steps.specs.Returning.{first_fault, back_fault, IsPartBack}
use Rattle.rls_steps.proofs.Recording.{record_of, names_there}
use Rattle.rls_steps.proofs.Returned.{IsReadied}
use Rattle.rls_steps.proofs.Tabled.{marks_are}

abbrev pub on : Labelled → Held Seen
on h = record { state = h.seen; next = h.next; names = h.names }

-- ---- labels and edits

on_label : (o : Option ℕ) (h : Labelled) (x : List Tuple) → labelled_on o (on h) x ≡ on (new_label o h x)
on_label None h x = refl
on_label (Some n) h x = refl

pub on_labels : (h : Labelled) (xs : List (List Tuple)) → labels_on (on h) xs ≡ on (label_all h xs)
on_labels h [] = refl
on_labels h (x ∷ xs) = ap (λ (z : Held Seen). labels_on z xs) (on_label (label_of h.names x) h x) ∙ on_labels (new_label (label_of h.names x) h x) xs

pub on_ready : (h : Labelled) (at n : ℕ) → ready_on over (on h) at n ≡ on (ready_over h at n)
on_ready h at n = on_labels h (take (n + 2) (drop (at - 1) (idents_over h.seen)))

on_marks : (h : Labelled) → marks_on over (on h) ≡ marks (marked h)
on_marks h = sym (marks_are h.names h.seen.text)

pub on_piece : (h : Labelled) (at n : ℕ) → piece_on over (on h) at n ≡ cut_piece h at n
on_piece h at n =
    ap (λ (ms : List Mark). Cut (labels_in (take n (drop at ms))) (take n (drop at (text_over h.seen))) (left_of ms at) (label_at (slice_get ms (at + n)))) (on_marks h)

pub on_ranges : (h : Labelled) (labels : List ℕ) → ranges_on over (on h) labels ≡ ranges_over h labels
on_ranges h labels = ap (λ (ms : List Mark). reverse (ranges_of (label_places 0 labels ms))) (on_marks h)

on_gone : (h : Labelled) (left : Option ℕ) → gone_on over (on h) left ≡ gone_place h left
on_gone h None = refl
on_gone h (Some l) = refl

pub on_place : (h : Labelled) (left right : Option ℕ) → place_on over (on h) left right ≡ place_over h left right
on_place h left right =
    ap (λ (ms : List Mark). return_place ms left right (gone_on over (on h) left)) (on_marks h) ∙ ap (λ (i : ℕ). return_place (marks (marked h)) left right i) (on_gone h left)

-- ---- a piece that is taken back

abbrev pub left_at : Labelled → List Piece → Option EditError → Left Seen
left_at h ps f = record { held = on h; other = ps; fault = f }

-- ranges that are cut out come first
cuts_fit : (h : Labelled) (front rest : List (ℕ × ℕ)) (qs : List Piece) → FitRanges h front →
    cuts_on over (on h) (front ++ rest) qs ≡ cuts_on over (on (cut_ranges h front qs).held) rest (cut_ranges h front qs).other
cuts_fit h [] rest qs f = refl
cuts_fit h (r ∷ rs) rest qs f =
    let g = ready_over h r.0 r.1 in
    let later : Held Seen → List Piece → Left Seen = λ z ps. cuts_on over (cut_on over z r.0 r.1) (rs ++ rest) ps in
    let z = ready_on over (on h) r.0 r.1 in
    ap (λ (e : Option EditError). unless e (left_at h qs e) (later z (piece_on over z r.0 r.1 ∷ qs))) f.0.1
    ∙ (ap (λ (y : Held Seen). later y (piece_on over y r.0 r.1 ∷ qs)) (on_ready h r.0 r.1)
    ∙ (ap (λ (p : Piece). later (on g) (p ∷ qs)) (on_piece g r.0 r.1) ∙ cuts_fit (cut_over g r.0 r.1) rs rest (cut_piece g r.0 r.1 ∷ qs) f.1))

cuts_all : (h : Labelled) (rs : List (ℕ × ℕ)) (qs : List Piece) → FitRanges h rs → cuts_on over (on h) rs qs ≡ left_at (cut_ranges h rs qs).held (cut_ranges h rs qs).other None
cuts_all h rs qs f = ap (λ (ss : List (ℕ × ℕ)). cuts_on over (on h) ss qs) (sym (append-nil rs)) ∙ cuts_fit h rs [] qs f

met : (h : Labelled) (rest : List (ℕ × ℕ)) (qs : List Piece) (e : EditError) → first_fault h rest ≡ Some e → cuts_on over (on h) rest qs ≡ left_at h qs (Some e)
met h [] qs e q = absurd (cc)
met h (r ∷ rs) qs e q =
    let z = ready_on over (on h) r.0 r.1 in
    ap (λ (o : Option EditError). unless o (left_at h qs o) (cuts_on over (cut_on over z r.0 r.1) rs (piece_on over z r.0 r.1 ∷ qs))) q

pub taken_fit : (h : Labelled) (p : Piece) → FitsBack h p → taken_on over (on h) p ≡ left_at (taken_back h p []).held (taken_back h p []).other None
taken_fit h (Put labels) f =
    let rs = ranges_over h labels in
    ap (λ (ss : List (ℕ × ℕ)). cuts_on over (on h) ss (or_empty ss [])) (on_ranges h labels) ∙ cuts_all h rs (or_empty rs []) f
taken_fit h (Cut labels cs left right) f =
    let back : ℕ → Left Seen = λ at. left_at (put_over h at labels cs) (Put labels ∷ []) None in
    ap (λ (at : ℕ). unless (edit_fault_over h.seen (edits.Insert at cs)) (left_at h [] (edit_fault_over h.seen (edits.Insert at cs))) (back at)) (on_place h left right)
    ∙ ap (λ (e : Option EditError). unless e (left_at h [] e) (back (place_over h left right))) f.1

pub is_fault : (e : EditError) (f : Option EditError) → (e ≡ faults.OutOfMemory → ⊥) → IsFault e f → f ≡ Some e
is_fault faults.OutOfMemory f n i = absurd (n refl)
is_fault faults.Left f n i = i
is_fault faults.EmptyEdit f n i = i
is_fault (faults.Range at total) f n i = i
is_fault faults.EmptyDocument f n i = i
is_fault (faults.TooManyChars total) f n i = i
is_fault faults.NumbersSpent f n i = i
is_fault (faults.OpTooLarge bytes) f n i = i

pub record IsLeft (e : EditError) (h : Labelled) (p : Piece) (new : Labelled) (group : ℕ) (old other : List Step) : Type 0 where
  pub pieces : List Piece
  pub is : taken_on over (on h) p ≡ left_at new pieces (Some e)
  pub stack : other ≡ old ++ steps_of group pieces

pub taken_stop : (e : EditError) (h : Labelled) (p : Piece) (new : Labelled) (group : ℕ) (old other : List Step) → (e ≡ faults.OutOfMemory → ⊥) → IsFault e (back_fault h p) → IsPartBack e h p new group old other → IsLeft e h p new group old other
taken_stop e h (Put labels) new group old other n f part =
    let t = cut_ranges h part.front [] in
    let q = is_fault e (first_fault new part.rest) n part.met in
    let all : ranges_on over (on h) labels ≡ part.front ++ part.rest = on_ranges h labels ∙ part.are in
    record {
      pieces = t.other;
      is = ap (λ (rs : List (ℕ × ℕ)). cuts_on over (on h) rs (or_empty rs [])) all
          ∙ (ap (λ (qs : List Piece). cuts_on over (on h) (part.front ++ part.rest) qs) (some part.front part.rest q)
          ∙ (cuts_fit h part.front part.rest [] part.fit
          ∙ (ap (λ (z : Labelled). cuts_on over (on z) part.rest t.other) (sym part.held) ∙ met new part.rest t.other e q)));
      stack = part.others;
    }
  where
    -- a range was refused, so there is one
    some : (front rest : List (ℕ × ℕ)) → first_fault new rest ≡ Some e → or_empty (front ++ rest) [] ≡ []
    some [] [] q = absurd (cc)
    some [] (r ∷ rest) q = refl
    some (r ∷ front) rest q = refl
taken_stop e h (Cut labels cs left right) new group old other n f part =
    let q = is_fault e (back_fault h (Cut labels cs left right)) n f in
    let back : ℕ → Left Seen = λ at. left_at (put_over h at labels cs) (Put labels ∷ []) None in
    record {
      pieces = [];
      is = ap (λ (at : ℕ). unless (edit_fault_over h.seen (edits.Insert at cs)) (left_at h [] (edit_fault_over h.seen (edits.Insert at cs))) (back at)) (on_place h left right)
          ∙ (ap (λ (o : Option EditError). unless o (left_at h [] o) (back (place_over h left right))) q ∙ ap (λ (z : Labelled). left_at z [] (Some e)) (sym part.0));
      stack = part.1 ∙ sym (append-nil old);
    }

-- ---- steps that are taken back

abbrev pub stand_at : Labelled → List Step → List Step → Option EditError → Stand Seen
stand_at h from to f = record { held = on h; from = reverse from; to = to; fault = f }

pub last_first : (from front : List Step) (x : Step) → from ≡ front ++ x ∷ [] → reverse from ≡ x ∷ reverse front
last_first from front x e = ap reverse e ∙ reverse-append front (x ∷ [])

abbrev next_on : ℕ → Labelled → List Step → List Step → Step → Left Seen → Stand Seen
next_on k h front to x t =
    let ys = to ++ steps_of x.group t.other in
    unless t.fault (record { held = t.held; from = x ∷ reverse front; to = ys; fault = t.fault }) (steps_on over k t.held (reverse front) ys)

pub steps_once : (k : ℕ) (h n : Labelled) (from front to new : List Step) (x : Step) → from ≡ front ++ x ∷ [] → FitsBack h x.piece → n ≡ (taken_back h x.piece []).held →
    new ≡ to ++ steps_of x.group (taken_back h x.piece []).other → steps_on over (suc k) (on h) (reverse from) to ≡ steps_on over k (on n) (reverse front) new
steps_once k h n from front to new x e f a b =
    let t = taken_back h x.piece [] in
    ap (λ (xs : List Step). steps_on over (suc k) (on h) xs to) (last_first from front x e)
    ∙ (ap (next_on k h front to x) (taken_fit h x.piece f)
    ∙ (ap (λ (z : Labelled). steps_on over k (on z) (reverse front) (to ++ steps_of x.group t.other)) (sym a) ∙ ap (λ (ys : List Step). steps_on over k (on n) (reverse front) ys) (sym b)))

pub steps_stop : (k : ℕ) (e : EditError) (h n : Labelled) (from front to new : List Step) (x : Step) → from ≡ front ++ x ∷ [] → IsLeft e h x.piece n x.group to new →
    steps_on over (suc k) (on h) (reverse from) to ≡ stand_at n from new (Some e)
steps_stop k e h n from front to new x q l =
    ap (λ (xs : List Step). steps_on over (suc k) (on h) xs to) (last_first from front x q)
    ∙ (ap (next_on k h front to x) l.is
    ∙ (ap (λ (ys : List Step). record { held = on n; from = x ∷ reverse front; to = ys; fault = Some e }) (sym l.stack)
    ∙ ap (λ (xs : List Step). record { held = on n; from = xs; to = new; fault = Some e }) (sym (last_first from front x q))))

-- where none is left
pub none_left : (n : ℕ) (b : Bool) → (0 < n → IsTrue b) → b ≡ false → n ≡ 0
none_left zero b f e = refl
none_left (suc n) b f e = absurd (true_false b (f (omega arith)) e)

-- ---- what is recorded of an edit

record_is : (e f : EpochName) (i j : ℕ) (ns ms : Names) (ps qs us vs : List Step) (group : ℕ) (overfull : Bool) (after : ℕ) → e ≡ f → i ≡ j → ns ≡ ms → ps ≡ qs → us ≡ vs →
    record_of e i ns ps us group overfull after ≡ record_of f j ms qs vs group overfull after
record_is e f i j ns ms ps qs us vs group overfull after a b c d u =
    ap (λ (x : EpochName). record_of x i ns ps us group overfull after) a
    ∙ (ap (λ (x : ℕ). record_of f x ns ps us group overfull after) b
    ∙ (ap (λ (x : Names). record_of f j x ps us group overfull after) c
    ∙ (ap (λ (x : List Step). record_of f j ms x us group overfull after) d ∙ ap (λ (x : List Step). record_of f j ms qs x group overfull after) u)))

at_names : (h k : Labelled) → h ≡ k → reverse h.names ≡ reverse k.names
at_names h k e = ap (λ (x : Labelled). reverse x.names) e

names_at : (s : Seen) (next : ℕ) (names : Names) (k : Labelled) → held_by s next names ≡ k → names ≡ reverse k.names
names_at s next names k e = sym (reverse-reverse names) ∙ at_names (held_by s next names) k e

held_there : (s : Seen) (e : EpochName) (next : ℕ) (names : Names) (past future : List Step) (group : ℕ) (overfull : Bool) (after : ℕ) → e ≡ greatest_over s →
    held_on over s (record { epoch = e; next = next; names = names; past = past; future = future; group = group; overfull = overfull; after_sweep = after }) ≡ held_at s next names
held_there s e next names past future group overfull after q = ap (λ (ns : Names). held_at s next ns) (names_there s e names q)

pub insert_exact : (s n : Seen) (e : EpochName) (next more : ℕ) (names names' : Names) (past past' future future' : List Step) (group : ℕ) (overfull : Bool) (after at : ℕ) (cs : List ℕ) → e ≡ greatest_over s →
    held_by n more names' ≡ insert_over (held_by s next names) at cs → past' ≡ past ++ record { group = group; piece = Put (numbers_from next (length cs)) } ∷ [] → future' ≡ [] →
    record { epoch = e; next = more; names = names'; past = past'; future = future'; group = group; overfull = overfull; after_sweep = after }
    ≡ recorded_on over s (edits.Insert at cs) (record { epoch = e; next = next; names = names; past = past; future = future; group = group; overfull = overfull; after_sweep = after })
insert_exact s n e next more names names' past past' future future' group overfull after at cs q h p z =
    let k = insert_over (held_by s next names) at cs in
    let there : names_on over s e names ≡ names = names_there s e names q in
    let r : Recorded = record { epoch = e; next = next; names = names; past = past; future = future; group = group; overfull = overfull; after_sweep = after } in
    let labels = numbers_from next (length cs) in
    let later : Names → Recorded = λ ns. added_on over s r (put_on over (record { state = s; next = length cs + next; names = reverse ns }) at labels cs) (record { group = group; piece = Put labels } ∷ []) in
    record_is e (greatest_over s) more k.next names' (reverse k.names) past' (past ++ record { group = group; piece = Put labels } ∷ []) future' [] group overfull after q (ap (λ (x : Labelled). x.next) h) (names_at n more names' k h) p z
    ∙ ap later (sym there)

pub delete_exact : (s n : Seen) (e : EpochName) (next more : ℕ) (names names' : Names) (past past' future future' : List Step) (group : ℕ) (overfull : Bool) (after at count : ℕ) → e ≡ greatest_over s →
    held_by n more names' ≡ cut_over (ready_over (held_by s next names) at count) at count → past' ≡ past ++ steps_of group (parts (cut_piece (ready_over (held_by s next names) at count) at count)) → future' ≡ [] →
    record { epoch = e; next = more; names = names'; past = past'; future = future'; group = group; overfull = overfull; after_sweep = after }
    ≡ recorded_on over s (edits.Delete at count) (record { epoch = e; next = next; names = names; past = past; future = future; group = group; overfull = overfull; after_sweep = after })
delete_exact s n e next more names names' past past' future future' group overfull after at count q h p z =
    let g = ready_over (held_by s next names) at count in
    let k = cut_over g at count in
    let r : Recorded = record { epoch = e; next = next; names = names; past = past; future = future; group = group; overfull = overfull; after_sweep = after } in
    let later : Held Seen → Recorded = λ x. added_on over s r x (steps_of group (parts (piece_on over x at count))) in
    record_is e (greatest_over s) more k.next names' (reverse k.names) past' (past ++ steps_of group (parts (cut_piece g at count))) future' [] group overfull after q (ap (λ (x : Labelled). x.next) h) (names_at n more names' k h) p z
    ∙ (sym (ap (λ (x : Piece). added_on over s r (on g) (steps_of group (parts x))) (on_piece g at count))
    ∙ (sym (ap later (on_ready (held_by s next names) at count)) ∙ sym (ap (λ (x : Held Seen). later (ready_on over x at count)) (held_there s e next names past future group overfull after q))))

-- ---- everything is in the greatest epoch

-- the edit leaves a step
abbrev pub IsChange : Edit → Type 0
IsChange (edits.Insert at cs) = Unit {0}
IsChange (edits.Delete at n) = Unit {0}
IsChange edits.Rename = ⊥
IsChange edits.Leave = ⊥

pub recorded_settled : (s : Seen) (edit : Edit) (r : Recorded) → IsChange edit → recorded_on over s edit (settled s r) ≡ recorded_on over s edit r
recorded_settled s (edits.Insert at cs) r i =
    let ns = names_over s r.epoch r.names in
    let labels = numbers_from r.next (length cs) in
    let later : Names → Recorded = λ ms. added_on over s r (put_on over (record { state = s; next = length cs + r.next; names = reverse ms }) at labels cs) (record { group = r.group; piece = Put labels } ∷ []) in
    ap later (names_there s (greatest_over s) ns refl)
recorded_settled s (edits.Delete at n) r i =
    let ns = names_over s r.epoch r.names in
    let later : Names → Recorded = λ ms. let h = ready_on over (held_at s r.next ms) at n in added_on over s r h (steps_of r.group (parts (piece_on over h at n))) in
    ap later (names_there s (greatest_over s) ns refl)
recorded_settled s edits.Rename r i = absurd i
recorded_settled s edits.Leave r i = absurd i

-- ---- a group

pub turned_exact : (s n : Seen) (r w q : Recorded) (f : Option EditError) → IsReadied s r w → w.group ≡ next_group r.group → w.overfull ≡ false → w.after_sweep ≡ r.after_sweep → q.epoch ≡ w.epoch → q.group ≡ w.group → q.overfull ≡ w.overfull → q.after_sweep ≡ w.after_sweep →
    steps_on over (group_size w.past) (held_at s w.next w.names) (reverse w.past) w.future ≡ record { held = held_at n q.next q.names; from = reverse q.past; to = q.future; fault = f } →
    back_on over s r ≡ record { steps = group_size r.past; fault = f; state = n; recorded = q }
turned_exact s n r w q f i g o a e k u b x =
    let t = steps_on over (group_size r.past) (held_on over s r) (reverse r.past) r.future in
    let was : t ≡ steps_on over (group_size w.past) (held_at s w.next w.names) (reverse w.past) w.future =
    ap (λ (xs : List Step). steps_on over (group_size xs) (held_on over s r) (reverse xs) r.future) (sym i.past)
    ∙ (ap (λ (ys : List Step). steps_on over (group_size w.past) (held_on over s r) (reverse w.past) ys) (sym i.future)
    ∙ (ap (λ (j : ℕ). steps_on over (group_size w.past) (held_at s j (names_over s r.epoch r.names)) (reverse w.past) w.future) (sym i.next)
    ∙ ap (λ (ns : Names). steps_on over (group_size w.past) (held_at s w.next ns) (reverse w.past) w.future) (sym i.names))) in
    let now : t ≡ record { held = held_at n q.next q.names; from = reverse q.past; to = q.future; fault = f } = was ∙ x in
    let later : Stand Seen → Turned Seen = λ y. record {
      steps = group_size r.past;
      fault = y.fault;
      state = y.held.state;
      recorded = record { epoch = greatest_over s; next = y.held.next; names = reverse y.held.names; past = reverse y.from; future = y.to; group = next_group r.group; overfull = false; after_sweep = r.after_sweep };
    } in
    ap later now
    ∙ ap (λ (z : Recorded). record { steps = group_size r.past; fault = f; state = n; recorded = z })
    (record_is (greatest_over s) q.epoch q.next q.next (reverse (reverse q.names)) q.names (reverse (reverse q.past)) q.past q.future q.future (next_group r.group) false r.after_sweep (sym (e ∙ i.epoch)) refl (reverse-reverse q.names) (reverse-reverse q.past) refl
    ∙ (ap (λ (j : ℕ). record { epoch = q.epoch; next = q.next; names = q.names; past = q.past; future = q.future; group = j; overfull = false; after_sweep = r.after_sweep }) (sym (k ∙ g))
    ∙ (ap (λ (b : Bool). record { epoch = q.epoch; next = q.next; names = q.names; past = q.past; future = q.future; group = q.group; overfull = b; after_sweep = r.after_sweep }) (sym (u ∙ o))
    ∙ ap (λ (j : ℕ). record { epoch = q.epoch; next = q.next; names = q.names; past = q.past; future = q.future; group = q.group; overfull = q.overfull; after_sweep = j }) (sym (b ∙ a)))))
