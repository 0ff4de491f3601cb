-- Courses of edits, undos and redos at a replica, and the same at an editor that keeps a copy of each text.
use Rattle.std.specs.Prelude.{◌≡◌, ◌≤◌, ◌+◌, ℕ, replicate, slice_get, List, [], ◌∷◌, ◌++◌, length, take, drop, zip, filter, reverse, Option, Some, None, ◌==◌, if◌then◌else◌}
use Rattle.rls_ident.specs.declared.tuple.Tuple.{Tuple}
use Rattle.rls_runs.specs.Entries.{without_all}
use Rattle.rls_runs.specs.Places.{below_count}
use Rattle.rls_runs.specs.Runs.{run_idents}
use Rattle.rls_model.specs.declared.edit.Edit.{Edit}
use Rattle.rls_model.specs.declared.edit.Edit.TheVariants as edits
use Rattle.rls_model.specs.WellFormed.{IsEdit}
use Rattle.rls_seen.specs.Edits.{edit_fault_over}
use Rattle.rls_seen.specs.Sane.{IsSane}
use Rattle.rls_seen.specs.Seen.{Seen, idents_over, text_over, greatest_over}
use Rattle.rls_undo.specs.Plans.{ranges_of}
use Rattle.rls_steps.specs.Marks.{marks, is_one_of, Piece, Put, Cut, label_places, return_place, numbers_from}
use Rattle.rls_steps.specs.Labelled.{Names, Labelled, mark, marked, IsLabelled, Leads, insert_over, put_over, ready_over, cut_over, cut_piece, renamed_over, IsRenamed}

-- ---- a piece that is taken back

-- the newest identifier of a label
abbrev pub ident_of : Names → ℕ → Option (List Tuple)
ident_of [] l = None
ident_of (n ∷ ns) l = if n.1 == l then Some n.0 else ident_of ns l

abbrev pub below_or_none : List (List Tuple) → Option (List Tuple) → ℕ
below_or_none xs None = 0
below_or_none xs (Some x) = below_count xs x

-- where a label's character would be that is gone
abbrev pub gone_place : Labelled → Option ℕ → ℕ
gone_place h None = 0
gone_place h (Some l) = below_or_none (idents_over h.seen) (ident_of h.names l)

-- what has labels afterwards, and the pieces of the other stack
pub record Taken : Type 0 where
  pub held : Labelled
  pub other : List Piece

-- these ranges are cut out, one after another, each with its piece on the other stack
abbrev pub cut_ranges : Labelled → List (ℕ × ℕ) → List Piece → Taken
cut_ranges h [] qs = record { held = h; other = qs }
cut_ranges h (r ∷ rs) qs =
    let g = ready_over h r.0 r.1 in
    cut_ranges (cut_over g r.0 r.1) rs (cut_piece g r.0 r.1 ∷ qs)

-- the ranges of a piece that was put in, the last first
abbrev pub ranges_over : Labelled → List ℕ → List (ℕ × ℕ)
ranges_over h labels = reverse (ranges_of (label_places 0 labels (marks (marked h))))

-- the place of a piece that was cut out
abbrev pub place_over : Labelled → Option ℕ → Option ℕ → ℕ
place_over h left right = return_place (marks (marked h)) left right (gone_place h left)

-- where nothing is left of a piece, an empty one stands for it on the other stack
abbrev pub or_empty : List (ℕ × ℕ) → List Piece → List Piece
or_empty [] qs = Put [] ∷ qs
or_empty (r ∷ rs) qs = qs

abbrev pub taken_back : Labelled → Piece → List Piece → Taken
taken_back h (Put labels) qs = let rs = ranges_over h labels in cut_ranges h rs (or_empty rs qs)
taken_back h (Cut labels cs left right) qs = record { held = put_over h (place_over h left right) labels cs; other = Put labels ∷ qs }

-- the edit is well formed and isn't refused
abbrev pub Fits : Seen → Edit → Type 0
Fits s edit = IsEdit edit × (edit_fault_over s edit ≡ None)

abbrev pub FitRanges : Labelled → List (ℕ × ℕ) → Type 0
FitRanges h [] = Unit {0}
FitRanges h (r ∷ rs) = Fits h.seen (edits.Delete r.0 r.1) × FitRanges (cut_over (ready_over h r.0 r.1) r.0 r.1) rs

abbrev pub FitsBack : Labelled → Piece → Type 0
FitsBack h (Put labels) = FitRanges h (ranges_over h labels)
FitsBack h (Cut labels cs left right) = Fits h.seen (edits.Insert (place_over h left right) cs)

-- the identifiers in the text that have one of these labels
abbrev pub labelled_idents : Labelled → List ℕ → List (List Tuple)
labelled_idents h labels = filter (λ x. is_one_of labels (mark h.names x)) (idents_over h.seen)

-- just the characters with the piece's labels are gone; or its text stands at its place, and nothing else changed
abbrev pub IsTakenBack : Labelled → Piece → Seen → Type 0
IsTakenBack h (Put labels) new = new.text ≡ without_all (labelled_idents h labels) h.seen.text
IsTakenBack h (Cut labels cs left right) new =
    let at = place_over h left right in
    (x : List Tuple) × (new.text ≡ take at h.seen.text ++ (zip (run_idents x (length cs)) cs ++ drop at h.seen.text))

-- so it is in every state, whatever others did
abbrev pub TakesOwnAlone : Type 0
TakesOwnAlone = (h : Labelled) (p : Piece) (qs : List Piece) → IsSane h.seen → FitsBack h p → IsTakenBack h p (taken_back h p qs).held.seen

-- ---- courses

-- a replica with labels, the pieces that can be taken back, and those that can be done again
pub record Steps : Type 0 where
  pub held : Labelled
  pub past : List Piece
  pub future : List Piece

-- what happens: own edits, undo and redo; or the replica's characters get other identifiers
pub data Move : Type 0 where
  Insertion : (at : ℕ) → (cs : List ℕ) → Move
  Deletion : (at : ℕ) → (n : ℕ) → Move
  Back : Move
  Again : Move
  Renaming : (s : Seen) → Move

abbrev pub stepped_back : Steps → List Piece → Steps
stepped_back st [] = st
stepped_back st (p ∷ ps) = let t = taken_back st.held p st.future in record { held = t.held; past = ps; future = t.other }

abbrev pub stepped_again : Steps → List Piece → Steps
stepped_again st [] = st
stepped_again st (p ∷ ps) = let t = taken_back st.held p st.past in record { held = t.held; past = t.other; future = ps }

-- a move, which isn't refused
abbrev pub moved : Steps → Move → Steps
moved st (Insertion at cs) = record { held = insert_over st.held at cs; past = Put (numbers_from st.held.next (length cs)) ∷ st.past; future = [] }
moved st (Deletion at n) = let g = ready_over st.held at n in record { held = cut_over g at n; past = cut_piece g at n ∷ st.past; future = [] }
moved st Back = stepped_back st st.past
moved st Again = stepped_again st st.future
moved st (Renaming s) = record { held = renamed_over st.held (greatest_over st.held.seen) s; past = st.past; future = st.future }

abbrev pub FitsFirst : Labelled → List Piece → Type 0
FitsFirst h [] = Unit {0}
FitsFirst h (p ∷ ps) = FitsBack h p

-- it isn't refused
abbrev pub MayMove : Steps → Move → Type 0
MayMove st (Insertion at cs) = Fits st.held.seen (edits.Insert at cs)
MayMove st (Deletion at n) = Fits st.held.seen (edits.Delete at n)
MayMove st Back = FitsFirst st.held st.past
MayMove st Again = FitsFirst st.held st.future
MayMove st (Renaming s) = IsRenamed st.held.seen s

abbrev pub course : Steps → List Move → Steps
course st [] = st
course st (m ∷ ms) = course (moved st m) ms

abbrev pub MayRun : Steps → List Move → Type 0
MayRun st [] = Unit {0}
MayRun st (m ∷ ms) = MayMove st m × MayRun (moved st m) ms

-- at first: nothing has a label, and there is nothing to be taken back
abbrev pub at_first : Seen → Steps
at_first s = record { held = record { seen = s; next = 0; names = [] }; past = []; future = [] }

-- ---- an editor that keeps each text whole

pub record Copies : Type 0 where
  pub now : List ℕ
  pub before : List (List ℕ)
  pub after : List (List ℕ)

abbrev pub copied_back : Copies → List (List ℕ) → Copies
copied_back c [] = c
copied_back c (t ∷ ts) = record { now = t; before = ts; after = c.now ∷ c.after }

abbrev pub copied_again : Copies → List (List ℕ) → Copies
copied_again c [] = c
copied_again c (t ∷ ts) = record { now = t; before = c.now ∷ c.before; after = ts }

abbrev pub copied : Copies → Move → Copies
copied c (Insertion at cs) = record { now = take at c.now ++ (cs ++ drop at c.now); before = c.now ∷ c.before; after = [] }
copied c (Deletion at n) = record { now = take at c.now ++ drop (at + n) c.now; before = c.now ∷ c.before; after = [] }
copied c Back = copied_back c c.before
copied c Again = copied_again c c.after
copied c (Renaming s) = c

abbrev pub copies : Copies → List Move → Copies
copies c [] = c
copies c (m ∷ ms) = copies (copied c m) ms

-- ---- the law

-- the replica shows the text that the editor has, and its pieces lead to the editor's texts
pub record Shows (st : Steps) (c : Copies) : Type 0 where
  pub labelled : IsLabelled st.held
  pub text : text_over st.held.seen ≡ c.now
  pub back : Leads st.held st.past c.before
  pub forth : Leads st.held st.future c.after

-- whatever own edits, undos, redos and renames follow one another, the text is that of an editor that keeps a copy of each text
abbrev pub AsCopied : Type 0
AsCopied = (st : Steps) (c : Copies) (ms : List Move) → Shows st c → MayRun st ms → Shows (course st ms) (copies c ms)

abbrev pub AsCopiedFromFirst : Type 0
AsCopiedFromFirst = (s : Seen) (ms : List Move) → IsSane s → MayRun (at_first s) ms →
    text_over (course (at_first s) ms).held.seen ≡ (copies (record { now = text_over s; before = []; after = [] }) ms).now

-- k undos give the text before the last k pieces, and k redos after them give all back
abbrev pub UndoneAndRedone : Type 0
UndoneAndRedone = (c : Copies) (k : ℕ) → k ≤ length c.before →
    (slice_get (c.now ∷ c.before) k ≡ Some ((copies c (replicate k Back)).now)) × (copies c (replicate k Back ++ replicate k Again) ≡ c)
