-- The sizes are the lengths of the spellings, and the places of broken rules are sums of them.
use Rattle.std.proofs.Common.{◌≡◌, ℕ, ◌+◌, ◌*◌, Bool, true, false, List, [], ◌∷◌, ◌++◌, length, take, Option, Some, None, refl, ap, ◌∙◌, arith}
use Rattle.std.specs.Prelude.{sum_by, slice_get, cond, ◌==◌}
use Rattle.std.specs.List.{concat, flat_map}
use Rattle.std.proofs.lemmas.Bool.{ne_eqb}
use Rattle.std.proofs.lemmas.List.{length-append}
use Rattle.rls_ops.specs.Spelling.{four_bytes, counted, vector_bytes, name_bytes, run_bytes, runs_bytes, text_bytes, op_bytes}
use Rattle.rls_ops.specs.Sizes.{op_size}
use Rattle.rls_codec.proofs.SizeLaws.{parts_length, counted_length, run_length, runs_length, vector_length, name_length, text_length, op_length}
use Rattle.rls_model.specs.declared.parts.EpochPart.{EpochPart}
use Rattle.rls_model.specs.declared.parts.TextRun.{TextRun}
use Rattle.rls_model.specs.declared.parts.Stem.{Stem}
use Rattle.rls_model.specs.declared.parts.Parts.{Parts}
use Rattle.rls_fields.specs.Fields.{head_bytes, epoch_bytes, rest_of_epoch, text_run_bytes, rows_place, stems_place, epochs_place, text_place, log_place, held_place, stem_place, place_of_broken, stems_bytes, snapshot_bytes, file_bytes}
use Rattle.rls_fields.specs.FieldSizes.{written_size, row_size, left_size, rest_size, epoch_size, text_run_size, before_rows, before_stems, before_epochs, before_text, before_log, before_held, stem_before}

-- ---- entries

rest_length : (e : EpochPart) (o : Option ℕ) → length (rest_of_epoch e o) ≡ rest_size e o
rest_length e None = refl
rest_length e (Some k) = omega (arith, length-append (runs_bytes e.former) [], runs_length e.former)

pub epoch_length : (e : EpochPart) → length (epoch_bytes e) ≡ epoch_size e
epoch_length e = omega (arith, length-append (name_bytes e.name) (rest_of_epoch e e.parent ++ []), length-append (rest_of_epoch e e.parent) [], name_length e.name, rest_length e e.parent)

pub text_run_length : (r : TextRun) → length (text_run_bytes r) ≡ text_run_size r
text_run_length r = omega (arith, length-append (run_bytes r.run) (text_bytes r.text ++ []), length-append (text_bytes r.text) [], run_length r.run, text_length r.text)

pub rows_length : (rows : List (List ℕ)) → length (flat_map vector_bytes rows) ≡ sum_by row_size rows
rows_length rows = parts_length vector_bytes row_size vector_length rows

pub left_length : (form : ℕ) (left : List ℕ) → cond (form == 4) (length (counted four_bytes left)) 0 ≡ left_size form left
left_length form left = go (form == 4)
  where
    go : (b : Bool) → cond b (length (counted four_bytes left)) 0 ≡ cond b (4 + 4 * length left) 0
    go true = omega (arith, length-append (four_bytes (length left)) (vector_bytes left), vector_length left)
    go false = refl

-- ---- sections

module _ (form : ℕ) (p : Parts) where
  pub rows_before : rows_place p ≡ before_rows p
  rows_before = omega (arith, length-append (head_bytes 0 p.group p.members p.me) (vector_bytes p.vector), vector_length p.vector)

  pub stems_before : stems_place form p ≡ before_stems form p
  stems_before = omega (arith, rows_before, rows_length p.rows, left_length form p.left)

  pub epochs_before : epochs_place form p ≡ before_epochs form p
  epochs_before = omega (arith, stems_before)

  pub text_before : text_place form p ≡ before_text form p
  text_before = omega (arith, epochs_before, counted_length epoch_bytes epoch_size epoch_length p.epochs)

  pub log_before : log_place form p ≡ before_log form p
  log_before = omega (arith, text_before, counted_length text_run_bytes text_run_size text_run_length p.text)

  pub held_before : held_place form p ≡ before_held form p
  held_before = omega (arith, log_before, counted_length op_bytes op_size op_length p.log)

  -- ---- the rules

  -- a rule by its number
  pub named : (rule n i : ℕ) → rule ≡ n → place_of_broken form p (record { rule = rule; index = i }) ≡ place_of_broken form p (record { rule = n; index = i })
  named rule n i e = ap (λ r. place_of_broken form p (record { rule = r; index = i })) e

  pub at_row : (i : ℕ) → place_of_broken form p (record { rule = 1; index = i }) ≡ before_rows p + sum_by row_size (take i p.rows)
  unfolding place_of_broken
  at_row i = omega (arith, rows_before, rows_length (take i p.rows))

  pub at_stem : (i : ℕ) → place_of_broken form p (record { rule = 2; index = i }) ≡ stem_before form p i (slice_get p.stems i)
  unfolding place_of_broken
  at_stem i = go (slice_get p.stems i)
    where
      go : (o : Option Stem) → stem_place form p i o ≡ stem_before form p i o
      go None = refl
      go (Some s) = omega (arith, stems_before)

  pub at_epoch : (i : ℕ) → place_of_broken form p (record { rule = 3; index = i }) ≡ before_epochs form p + 4 + sum_by epoch_size (take i p.epochs)
  unfolding place_of_broken
  at_epoch i = omega (arith, epochs_before, parts_length epoch_bytes epoch_size epoch_length (take i p.epochs))

  pub at_text_run : (i : ℕ) → place_of_broken form p (record { rule = 4; index = i }) ≡ before_text form p + 4 + sum_by text_run_size (take i p.text)
  unfolding place_of_broken
  at_text_run i = omega (arith, text_before, parts_length text_run_bytes text_run_size text_run_length (take i p.text))

  pub at_logged : (i : ℕ) → place_of_broken form p (record { rule = 5; index = i }) ≡ before_log form p + 4 + sum_by op_size (take i p.log)
  unfolding place_of_broken
  at_logged i = omega (arith, log_before, parts_length op_bytes op_size op_length (take i p.log))

  pub at_log : (i : ℕ) → place_of_broken form p (record { rule = 6; index = i }) ≡ before_log form p
  unfolding place_of_broken
  at_log i = log_before

  pub at_epochs : (i : ℕ) → place_of_broken form p (record { rule = 7; index = i }) ≡ before_epochs form p
  unfolding place_of_broken
  at_epochs i = epochs_before

  pub at_other : (r i : ℕ) → (r ≡ 1 → ⊥) → (r ≡ 2 → ⊥) → (r ≡ 3 → ⊥) → (r ≡ 4 → ⊥) → (r ≡ 5 → ⊥) → (r ≡ 6 → ⊥) → (r ≡ 7 → ⊥)
      → place_of_broken form p (record { rule = r; index = i }) ≡ before_held form p + 4 + sum_by op_size (take i p.held)
  unfolding place_of_broken
  at_other r i a b c d e f g = rw (ne_eqb r 1 a, ne_eqb r 2 b, ne_eqb r 3 c, ne_eqb r 4 d, ne_eqb r 5 e, ne_eqb r 6 f, ne_eqb r 7 g) (omega (arith, held_before, parts_length op_bytes op_size op_length (take i p.held)))

-- ---- a whole file of form 4

abbrev total : List (List ℕ) → ℕ
total [] = 0
total (part ∷ parts) = length part + total parts

length_concat : (parts : List (List ℕ)) → length (concat parts) ≡ total parts
length_concat [] = refl
length_concat (part ∷ parts) = length-append part (concat parts) ∙ ap (λ n. length part + n) (length_concat parts)

pub file_length : (p : Parts) → length (file_bytes p) ≡ written_size p
unfolding snapshot_bytes
file_length p =
    let whole = length_concat
    (head_bytes 4 p.group p.members p.me ∷ vector_bytes p.vector ∷ flat_map vector_bytes p.rows ∷ counted four_bytes p.left
    ∷ stems_bytes 4 0 p.members p.stems ∷ counted epoch_bytes p.epochs ∷ counted text_run_bytes p.text
    ∷ counted op_bytes p.log ∷ counted op_bytes p.held ∷ []) in
    let epochs = counted_length epoch_bytes epoch_size epoch_length p.epochs in
    let runs = counted_length text_run_bytes text_run_size text_run_length p.text in
    let ops = counted_length op_bytes op_size op_length in
    omega (arith, whole, vector_length p.vector, rows_length p.rows, left_length 4 p.left, epochs, runs, ops p.log, ops p.held)
