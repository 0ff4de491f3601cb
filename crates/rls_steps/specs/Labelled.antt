-- A replica whose characters have labels, and what is put in and cut out there.
use Rattle.std.specs.Prelude.{◌≡◌, ℕ, zero, suc, ◌+◌, ◌-◌, List, [], ◌∷◌, ◌++◌, map, zip, length, take, drop, slice_get, Option, Some, None, if◌then◌else◌}
use Rattle.rls_ident.specs.declared.tuple.Tuple.{Tuple}
use Rattle.rls_ident.specs.declared.epoch_name.EpochName.{EpochName}
use Rattle.rls_ident.specs.Identifiers.{ident_eq, IsIdent}
use Rattle.rls_ident.specs.Lists.{IsIn}
use Rattle.rls_runs.specs.Entries.{Entries, with_idents}
use Rattle.rls_runs.specs.Runs.{run_idents}
use Rattle.rls_ops.specs.declared.op.Body.{Body}
use Rattle.rls_ops.specs.declared.op.Body.TheVariants.{Insert}
use Rattle.rls_model.specs.declared.edit.Edit.TheVariants as edits
use Rattle.rls_seen.specs.Seen.{Seen, idents_over, text_over, greatest_over}
use Rattle.rls_seen.specs.Over.{placed_over}
use Rattle.rls_seen.specs.Edits.{made_over, edited}
use Rattle.rls_seen.specs.Sane.{IsSane}
use Rattle.rls_steps.specs.Marks.{Mark, Known, Unknown, Marked, marks, Piece, Cut, numbers_from}
use Rattle.rls_steps.specs.Back.{AreDistinct, AreGiven, ArePieces, LeadBack}

-- identifiers with their labels, the newest first
abbrev pub Names : Type 0
Names = List (List Tuple × ℕ)

pub record Labelled : Type 0 where
  pub seen : Seen
  -- the next label
  pub next : ℕ
  -- identifiers of the greatest epoch
  pub names : Names

abbrev pub label_of : Names → List Tuple → Option ℕ
label_of [] x = None
label_of (n ∷ ns) x = if ident_eq n.0 x then Some n.1 else label_of ns x

abbrev pub mark_by : List Tuple → Option ℕ → Mark
mark_by x None = Unknown x
mark_by x (Some n) = Known n

abbrev pub mark : Names → List Tuple → Mark
mark names x = mark_by x (label_of names x)

abbrev pub marked_by : Names → Entries → Marked
marked_by names es = map (λ e. (mark names e.0, e.1)) es

-- the replica's text
abbrev pub marked : Labelled → Marked
marked h = marked_by h.names h.seen.text

-- what holds of each
pub record IsLabelled (h : Labelled) : Type 0 where
  pub sane : IsSane h.seen
  pub given : AreGiven h.next (map (λ n. n.1) h.names)
  pub idents : (x : List Tuple) → IsIn x (map (λ n. n.0) h.names) → IsIdent x
  pub distinct : AreDistinct (marks (marked h))

-- the pieces lead back through these texts
pub record Leads (h : Labelled) (ps : List Piece) (ts : List (List ℕ)) : Type 0 where
  pub given : ArePieces h.next ps
  pub back : LeadBack (marked h) ps ts

-- ---- labels

-- a new label for the identifier, where it has none
abbrev pub new_label : Option ℕ → Labelled → List Tuple → Labelled
new_label (Some n) h x = h
new_label None h x = record { seen = h.seen; next = suc h.next; names = (x, h.next) ∷ h.names }

abbrev pub label_all : Labelled → List (List Tuple) → Labelled
label_all h [] = h
label_all h (x ∷ xs) = label_all (new_label (label_of h.names x) h x) xs

-- the labels among marks
abbrev pub labels_in : List Mark → List ℕ
labels_in [] = []
labels_in (Known n ∷ ms) = n ∷ labels_in ms
labels_in (Unknown x ∷ ms) = labels_in ms

abbrev pub label_at : Option Mark → Option ℕ
label_at None = None
label_at (Some (Known n)) = Some n
label_at (Some (Unknown x)) = None

-- the label before a place
abbrev pub left_of : List Mark → ℕ → Option ℕ
left_of ms zero = None
left_of ms (suc k) = label_at (slice_get ms k)

-- ---- edits

-- the identifiers that an operation inserts
abbrev pub inserted_by : Body → List (List Tuple)
inserted_by (Insert first text) = run_idents first (length text)
inserted_by _ = []

-- these characters are put in, with these labels
abbrev pub put_over : Labelled → ℕ → List ℕ → List ℕ → Labelled
put_over h at labels cs = record {
  seen = edited h.seen (edits.Insert at cs);
  next = h.next;
  names = zip (inserted_by (made_over h.seen (edits.Insert at cs)).body) labels ++ h.names;
}

-- the next n labels are given
abbrev pub with_next : Labelled → ℕ → Labelled
with_next h n = record { seen = h.seen; next = n + h.next; names = h.names }

-- an insertion: its characters get new labels
abbrev pub insert_over : Labelled → ℕ → List ℕ → Labelled
insert_over h at cs = put_over (with_next h (length cs)) at (numbers_from h.next (length cs)) cs

-- the characters of a range and both its neighbours have labels
abbrev pub ready_over : Labelled → ℕ → ℕ → Labelled
ready_over h at n = label_all h (take (n + 2) (drop (at - 1) (idents_over h.seen)))

-- a range is cut out
abbrev pub cut_over : Labelled → ℕ → ℕ → Labelled
cut_over h at n = record { seen = edited h.seen (edits.Delete at n); next = h.next; names = h.names }

-- and the piece that this leaves
abbrev pub cut_piece : Labelled → ℕ → ℕ → Piece
cut_piece h at n =
    let ms = marks (marked h) in
    Cut (labels_in (take n (drop at ms))) (take n (drop at (text_over h.seen))) (left_of ms at) (label_at (slice_get ms (at + n)))

-- the replica as it stands now, with each identifier of epoch e in the greatest one
abbrev pub renamed_over : Labelled → EpochName → Seen → Labelled
renamed_over h e s = record { seen = s; next = h.next; names = map (λ n. (placed_over s e n.0, n.1)) h.names }

-- the replica's characters only got the identifiers that the greatest epoch gives them, as after a rename
pub record IsRenamed (old new : Seen) : Type 0 where
  pub sane : IsSane new
  pub text : new.text ≡ with_idents (placed_over new (greatest_over old)) old.text
