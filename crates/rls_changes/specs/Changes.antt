-- What changes in a text: changes that are played one after another, and those of an operation.
-- Why: docs/DECISIONS.md, 119.
use Rattle.std.specs.Prelude.{ℕ, suc, ◌+◌, List, [], ◌∷◌, ◌++◌, ◌==◌, length, map, take, drop, zip, if◌then◌else◌}
use Rattle.rls_ident.specs.declared.tuple.Tuple.{Tuple}
use Rattle.rls_ident.specs.declared.epoch_name.EpochName.{EpochName}
use Rattle.rls_runs.specs.Entries.{Entries, has_ident}
use Rattle.rls_runs.specs.Places.{below_count}
use Rattle.rls_runs.specs.Runs.{run_idents}
use Rattle.rls_ops.specs.declared.op.Op.{Op}
use Rattle.rls_ops.specs.declared.op.Body.{Body}
use Rattle.rls_ops.specs.declared.op.Body.TheVariants as body
use Rattle.rls_model.specs.History.{History}
use Rattle.rls_model.specs.Epochs.{greatest, translate}
use Rattle.rls_model.specs.Document.{idents}
use Rattle.rls_seen.specs.Seen.{Seen, idents_over}
use Rattle.rls_seen.specs.Over.{placed_over}
use Rattle.rls_changes.specs.declared.change.Change.{Change}
use Rattle.rls_changes.specs.declared.change.Change.TheVariants.{Insert, Delete}

-- ---- playing

-- the text after a change
abbrev pub changed : Change → List ℕ → List ℕ
changed (Insert at cs) t = take at t ++ (cs ++ drop at t)
changed (Delete at n) t = take at t ++ drop (at + n) t

-- the text after these changes, one after another
abbrev pub played : List Change → List ℕ → List ℕ
played [] t = t
played (c ∷ cs) t = played cs (changed c t)

-- the characters that they insert, one after another, and how many characters they delete
abbrev pub inserted_by : List Change → List ℕ
inserted_by [] = []
inserted_by (Insert at cs ∷ ds) = cs ++ inserted_by ds
inserted_by (Delete at n ∷ ds) = inserted_by ds

abbrev pub deleted_by : List Change → ℕ
deleted_by [] = 0
deleted_by (Insert at cs ∷ ds) = deleted_by ds
deleted_by (Delete at n ∷ ds) = n + deleted_by ds

-- ---- changes that go on with one another

-- both as one, if the second inserts right after what the first one inserted, or deletes where the first one did
abbrev pub joined : Change → Change → List Change
joined (Insert at cs) (Insert k ds) = if (at + length cs) == k then Insert at (cs ++ ds) ∷ [] else Insert at cs ∷ Insert k ds ∷ []
joined (Delete at n) (Delete k m) = if at == k then Delete at (n + m) ∷ [] else Delete at n ∷ Delete k m ∷ []
joined (Insert at cs) (Delete k m) = Insert at cs ∷ Delete k m ∷ []
joined (Delete at n) (Insert k ds) = Delete at n ∷ Insert k ds ∷ []

-- one more change after others, as one with the last of them if it goes on with that
abbrev pub with_change : List Change → Change → List Change
with_change [] d = d ∷ []
with_change (c ∷ []) d = joined c d
with_change (c ∷ (b ∷ cs)) d = c ∷ with_change (b ∷ cs) d

-- several more
abbrev pub with_changes : List Change → List Change → List Change
with_changes cs [] = cs
with_changes cs (d ∷ ds) = with_changes (with_change cs d) ds

-- ---- the changes of an operation

-- these characters, each put in where its identifier belongs among those of the text, if k were put in before
abbrev pub puts : ℕ → List (List Tuple) → Entries → List Change
puts k xs [] = []
puts k xs (e ∷ es) = Insert (below_count xs e.0 + k) (e.1 ∷ []) ∷ puts (suc k) xs es

-- the characters of these identifiers, each of which is taken out if it is a target, if k stay before
abbrev pub cuts : ℕ → List (List Tuple) → List (List Tuple) → List Change
cuts k targets [] = []
cuts k targets (x ∷ xs) = if has_ident targets x then Delete k 1 ∷ cuts k targets xs else cuts (suc k) targets xs

-- in a text with these identifiers, where `place` takes an identifier of an epoch to the text's own. They come from the front to the
-- back; characters that go in between the same two neighbours are one change, and so are neighbours that go
abbrev pub changes_by : (EpochName → List Tuple → List Tuple) → List (List Tuple) → EpochName → Body → List Change
changes_by place xs e (body.Insert first text) = with_changes [] (puts 0 xs (zip (map (place e) (run_idents first (length text))) text))
changes_by place xs e (body.Delete targets) = with_changes [] (cuts 0 (map (place e) targets) xs)
changes_by place xs e (body.Rename former) = []
changes_by place xs e body.Leave = []

-- what accepting the operation changes, over what a replica consists of
unfoldable pub changes_over : Seen → Op → List Change
changes_over s o = changes_by (placed_over s) (idents_over s) o.epoch o.body

-- and over a history
unfoldable pub changes_in : History → Op → List Change
changes_in H o = changes_by (λ e x. translate H e (greatest H) x) (idents H) o.epoch o.body
