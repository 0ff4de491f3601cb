-- The eight rules of the parts of a snapshot, and the first that is broken.
use Rattle.std.specs.Prelude.{◌≡◌, ◌↔◌, IsTrue, ℕ, suc, ◌+◌, pos, Bool, true, false, not, ◌&&◌, ◌||◌, List, [], ◌∷◌, ◌++◌, ◌==◌, nat_le, nat_lt, length, map, slice_index, Option, Some, None, if◌then◌else◌}
use Rattle.std.specs.Int.RustNames.{int_le}
use Rattle.std.specs.Option.{is_some}
use Rattle.std.specs.List.{list_all, list_any}
use Rattle.std.specs.Ordering.{is_lt}
use Rattle.rls_ident.specs.declared.limits.TheConstants.{IDENTIFIERS, OFFSETS_END}
use Rattle.rls_ident.specs.declared.tuple.Tuple.{Tuple}
use Rattle.rls_ident.specs.declared.epoch_name.EpochName.{EpochName}
use Rattle.rls_ident.specs.declared.epoch_name.EpochName.TheVariants.{Origin, Of}
use Rattle.rls_ident.specs.EpochNames.{name_eq, is_within}
use Rattle.rls_ident.specs.Identifiers.{last_of, least_offset}
use Rattle.rls_ident.specs.Tuples.{replica_of, seq_of, offset_of}
use Rattle.rls_ident.specs.Vectors.{at_most, raise}
use Rattle.rls_runs.specs.Runs.{run_idents}
use Rattle.rls_rename.specs.Tree.{epoch_cmp}
use Rattle.rls_rename.specs.Connected.{spanned}
use Rattle.rls_rename.specs.Keeping.{reached}
use Rattle.rls_ops.specs.declared.op.Op.{Op}
use Rattle.rls_ops.specs.Same.{numbers_eq}
use Rattle.rls_ops.specs.Shapes.{shape_fault}
use Rattle.rls_model.specs.declared.parts.Stem.{Stem}
use Rattle.rls_model.specs.declared.parts.EpochPart.{EpochPart}
use Rattle.rls_model.specs.declared.parts.TextRun.{TextRun}
use Rattle.rls_model.specs.declared.parts.Parts.{Parts}
use Rattle.rls_model.specs.History.{is_leave}
use Rattle.rls_model.specs.Receiving.{comes_before}
use Rattle.rls_model.specs.Stems.{stem_of, stands_before, is_used}
use Rattle.rls_parts.specs.Reading.{member_at, has_member, stable_of_parts, nodes_of, epochs_of, greatest_of_parts, names_of, in_epoch}

-- a rule, and the place in its list of the entry that breaks it
pub record Broken : Type 0 where
  pub rule : ℕ
  pub index : ℕ

-- no fault
abbrev pub is_fine : {A : Type 0} → Option A → Bool
is_fine o = not (is_some o)

-- ---- rule 1: rows

-- the row tells no more of its own member than was accepted
abbrev pub is_row_of : List ℕ → ℕ → List ℕ → Bool
is_row_of vector a row = nat_le (slice_index row a) (slice_index vector a)

-- the first place from i on of a row that tells more
abbrev pub row_fault : Parts → ℕ → List (List ℕ) → Option ℕ
row_fault p i [] = None
row_fault p i (row ∷ rows) = if is_row_of p.vector (member_at p.me i) row then row_fault p (suc i) rows else Some i

-- ---- rule 2: stems

-- the stem is a member's, its number was accepted, and its offsets are in range
abbrev pub is_stem_of : Parts → Stem → Bool
is_stem_of p t =
    nat_lt t.author p.members && nat_lt 0 t.s0 && nat_le t.s0 (slice_index p.vector t.author)
    && int_le least_offset t.low && int_le t.low (pos 0) && nat_lt 0 t.next && nat_le t.next OFFSETS_END

-- the stem stands after the one before, where there is one, by author and number
abbrev pub stands_behind : Option Stem → Stem → Bool
stands_behind None t = true
stands_behind (Some before) t = stands_before t.author t.s0 before

-- the first place of a stem that doesn't stand so
abbrev pub stem_fault : Parts → Option Stem → ℕ → List Stem → Option ℕ
stem_fault p before i [] = None
stem_fault p before i (t ∷ ts) = if is_stem_of p t && stands_behind before t then stem_fault p (Some t) (suc i) ts else Some i

-- ---- rule 3: epochs

-- the epoch was opened by an operation that was accepted
abbrev pub is_opened : Parts → EpochName → Bool
is_opened p Origin = false
is_opened p (Of r s) = nat_lt r p.members && nat_lt 0 s && nat_le s (slice_index p.vector r)

-- it is the origin or was opened so
abbrev pub may_be_top : Parts → EpochName → Bool
may_be_top p Origin = true
may_be_top p e = is_opened p e

-- none of the entries has the name
abbrev pub is_new : List EpochPart → EpochName → Bool
is_new earlier e = not (list_any (λ f. name_eq f.name e) earlier)

-- the parent's place is below this one
abbrev pub is_place_below : ℕ → Option ℕ → Bool
is_place_below i None = false
is_place_below i (Some k) = nat_lt k i

-- a rename may have so many former identifiers
abbrev pub is_former_count : ℕ → Bool
is_former_count n = nat_lt 0 n && nat_le n IDENTIFIERS

-- the stem has used at least the first n offsets
abbrev pub has_offsets : Option Stem → ℕ → Bool
has_offsets None n = false
has_offsets (Some t) n = nat_le n t.next

-- the stem of the epoch's rename is there, and n of its offsets were used
abbrev pub is_covered_by : List Stem → EpochName → ℕ → Bool
is_covered_by ss Origin n = false
is_covered_by ss (Of r s) n = has_offsets (stem_of ss r s) n

-- the name of the last of these entries
abbrev pub last_name : List EpochPart → EpochName
last_name [] = Origin
last_name (e ∷ []) = e.name
last_name (e ∷ (f ∷ fs)) = last_name (f ∷ fs)

-- the entry, which stands after these, is greater than the last of them
abbrev pub is_greater : List EpochPart → EpochPart → Bool
is_greater earlier e = is_lt (epoch_cmp (nodes_of (earlier ++ e ∷ [])) (last_name earlier) e.name)

-- an entry past the first
abbrev pub is_epoch_behind : Parts → List EpochPart → EpochPart → Bool
is_epoch_behind p earlier e =
    is_new earlier e.name && is_opened p e.name && is_place_below (length earlier) e.parent
    && is_former_count (length e.former) && is_covered_by p.stems e.name (length e.former) && is_greater earlier e

-- an entry after these
abbrev pub is_epoch_of : Parts → List EpochPart → EpochPart → Bool
is_epoch_of p [] e = may_be_top p e.name
is_epoch_of p (f ∷ fs) e = is_epoch_behind p (f ∷ fs) e

-- the first place of an entry that doesn't stand so
abbrev pub epoch_fault : Parts → List EpochPart → List EpochPart → Option ℕ
epoch_fault p earlier [] = None
epoch_fault p earlier (e ∷ es) = if is_epoch_of p earlier e then epoch_fault p (earlier ++ e ∷ []) es else Some (length earlier)

-- ---- rule 4: text

-- the tuple was used
abbrev pub is_used_tuple : Parts → Tuple → Bool
is_used_tuple p t = is_used p.stems (replica_of t) (seq_of t) (offset_of t)

-- in each epoch of the list the identifier has a last tuple that was used
abbrev pub is_used_everywhere : Parts → List Tuple → Bool
is_used_everywhere p x = list_all (λ f. is_used_tuple p (last_of (in_epoch p f x))) (names_of p.epochs)

-- each identifier of the run has
abbrev pub is_text_of : Parts → TextRun → Bool
is_text_of p r = list_all (is_used_everywhere p) (run_idents r.run.0 r.run.1)

-- the first place from i on of a run of which one hasn't
abbrev pub text_fault : Parts → ℕ → List TextRun → Option ℕ
text_fault p i [] = None
text_fault p i (r ∷ rs) = if is_text_of p r then text_fault p (suc i) rs else Some i

-- ---- rules 5 and 6: unstable operations

-- the epoch is one of the list
abbrev pub is_kept_name : Parts → EpochName → Bool
is_kept_name p e = list_any (λ f. name_eq f e) (names_of p.epochs)

-- a leave is its author's last operation, and its author has left
abbrev pub is_last : Parts → Op → Bool
is_last p o = not (is_leave o.body) || (has_member p.left o.author && (o.seq == slice_index p.vector o.author))

-- the operation comes next after those that this vector counts
abbrev pub is_next : Parts → List ℕ → Op → Bool
is_next p v o =
    is_fine (shape_fault p.members o) && (o.seq == slice_index v o.author + 1) && at_most o.context v && is_kept_name p o.epoch && is_last p o

-- the first place from i on of an operation that doesn't
abbrev pub log_fault : Parts → List ℕ → ℕ → List Op → Option ℕ
log_fault p v i [] = None
log_fault p v i (o ∷ os) = if is_next p v o then log_fault p (raise v o.author) (suc i) os else Some i

-- the vector after these operations
abbrev pub raised_by : List ℕ → List Op → List ℕ
raised_by v [] = v
raised_by v (o ∷ os) = raised_by (raise v o.author) os

-- place 0 where the test fails
abbrev pub whole_fault : Bool → Option ℕ
whole_fault true = None
whole_fault false = Some 0

-- the unstable operations lead from the stable vector to the vector
abbrev pub ends_at_vector : Parts → Bool
ends_at_vector p = numbers_eq (raised_by (stable_of_parts p) p.log) p.vector

-- ---- rule 7: retained epochs

-- equal lists of names
abbrev pub names_eq : List EpochName → List EpochName → Bool
names_eq [] [] = true
names_eq (e ∷ es) (f ∷ fs) = name_eq e f && names_eq es fs
names_eq _ _ = false

-- some epoch is stable
abbrev pub has_stable : Parts → Bool
has_stable p = list_any (λ e. is_within e (stable_of_parts p)) (names_of p.epochs)

-- the smallest connected part that holds the greatest epoch, each at least the greatest stable one, and those of the unstable operations
unfoldable pub retained_of_parts : Parts → List EpochName
retained_of_parts p =
    spanned (epochs_of p).top (epochs_of p).nodes (greatest_of_parts p) (reached (epochs_of p) (stable_of_parts p) ++ map (λ o. o.epoch) p.log)

-- the epochs are these
abbrev pub are_retained : Parts → Bool
are_retained p = has_stable p && names_eq (names_of p.epochs) (retained_of_parts p)

-- ---- rule 8: waiting operations

-- the operation stands after the one before, where there is one, by author and number
abbrev pub waits_behind : Option Op → Op → Bool
waits_behind None o = true
waits_behind (Some before) o = comes_before before o

-- the operation may wait after the one before: it has the right shape, another member made it, its number is above
-- the count, and its causes aren't all there
abbrev pub may_wait : ℕ → ℕ → List ℕ → Option Op → Op → Bool
may_wait members me vector before o =
    is_fine (shape_fault members o) && not (o.author == me) && nat_lt (slice_index vector o.author) o.seq && waits_behind before o && not (at_most o.context vector)

-- the first place of an operation that doesn't stand so
abbrev pub held_fault : Parts → Option Op → ℕ → List Op → Option ℕ
held_fault p before i [] = None
held_fault p before i (o ∷ os) = if may_wait p.members p.me p.vector before o then held_fault p (Some o) (suc i) os else Some i

-- ---- all

-- what breaks a rule, where something does, else what breaks a later one
abbrev pub or_broken : ℕ → Option ℕ → Option Broken → Option Broken
or_broken rule None later = later
or_broken rule (Some i) later = Some (record { rule = rule; index = i })

-- the first rule that is broken, and its first entry that breaks it
unfoldable pub broken : Parts → Option Broken
broken p =
    or_broken 1 (row_fault p 0 p.rows)
    (or_broken 2 (stem_fault p None 0 p.stems)
    (or_broken 3 (epoch_fault p [] p.epochs)
    (or_broken 4 (text_fault p 0 p.text)
    (or_broken 5 (log_fault p (stable_of_parts p) 0 p.log)
    (or_broken 6 (whole_fault (ends_at_vector p))
    (or_broken 7 (whole_fault (are_retained p))
    (or_broken 8 (held_fault p None 0 p.held) None)))))))

-- no rule is broken
pub record Passes (p : Parts) : Type 0 where
  pub rows : row_fault p 0 p.rows ≡ None
  pub stems : stem_fault p None 0 p.stems ≡ None
  pub epochs : epoch_fault p [] p.epochs ≡ None
  pub text : text_fault p 0 p.text ≡ None
  pub log : log_fault p (stable_of_parts p) 0 p.log ≡ None
  pub ends : IsTrue (ends_at_vector p)
  pub retained : IsTrue (are_retained p)
  pub held : held_fault p None 0 p.held ≡ None

-- no rule is broken exactly where each of them passes
abbrev pub BrokenOrPasses : Type 0
BrokenOrPasses = (p : Parts) → (broken p ≡ None) ↔ Passes p
