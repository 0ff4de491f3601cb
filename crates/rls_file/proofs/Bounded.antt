-- The place of a broken rule lies within the bytes.
use Rattle.std.proofs.Common.{◌≡◌, ℕ, ◌+◌, ◌-◌, ◌*◌, ◌≤◌, Bool, true, false, cond, List, [], ◌++◌, length, Option, Some, None, refl, ap, ◌∙◌, arith}
use Rattle.std.specs.Prelude.{slice_get, ◌==◌}
use Rattle.std.specs.List.{flat_map}
use Rattle.std.proofs.lemmas.List.{length-append}
use Rattle.std.proofs.lemmas.List.Sums.{sum_by-take-le}
use Rattle.rls_ident.proofs.Members.{bool_cases, eq_is, eq_not}
use Rattle.rls_ops.specs.Sizes.{op_size}
use Rattle.rls_ops.specs.Spelling.{four_bytes, counted, vector_bytes, op_bytes}
use Rattle.rls_codec.proofs.SizeLaws.{counted_length, vector_length, op_length}
use Rattle.rls_model.specs.declared.parts.Stem.{Stem}
use Rattle.rls_model.specs.declared.parts.Parts.{Parts}
use Rattle.rls_fields.specs.Fields.{stem_bytes, stem_size, stems_bytes, epoch_bytes, text_run_bytes, snapshot_bytes, place_of_broken}
use Rattle.rls_fields.specs.FieldSizes.{row_size, left_size, epoch_size, text_run_size, before_stems, snapshot_size, stem_before}
use Rattle.rls_fields.proofs.PlaceSums.{epoch_length, text_run_length, rows_length, named, at_row, at_stem, at_epoch, at_text_run, at_logged, at_log, at_epochs, at_other}
use Rattle.rls_file.specs.SpelledFiles.{Grouped}
use Rattle.rls_file.proofs.Places.{grouped_stem, stems_length}

left_bytes_length : (form : ℕ) (left : List ℕ) → length (cond (form == 4) (counted four_bytes left) []) ≡ left_size form left
left_bytes_length form left = go (form == 4)
  where
    go : (b : Bool) → length (cond b (counted four_bytes left) []) ≡ cond b (4 + 4 * length left) 0
    go true = omega (arith, length-append (four_bytes (length left)) (vector_bytes left), vector_length left)
    go false = refl

behind_author : (q a z f l total : ℕ) → 4 * (a - 0 + 1) + z ≡ f → f ≤ l → q + l ≤ total → q + 4 * (a + 1) + z ≤ total
behind_author q a z f l total e h g = omega arith

module _ (form : ℕ) (p : Parts) (g : Grouped form 0 p.members p.stems) where
  pub whole_length : length (snapshot_bytes form p) ≡ snapshot_size form p
  unfolding snapshot_bytes snapshot_size
  whole_length =
      let held = counted op_bytes p.held ++ [] in
      let log = counted op_bytes p.log ++ held in
      let text = counted text_run_bytes p.text ++ log in
      let epochs = counted epoch_bytes p.epochs ++ text in
      let stems = stems_bytes form 0 p.members p.stems ++ epochs in
      let left_part = cond (form == 4) (counted four_bytes p.left) [] in
      let left = left_part ++ stems in
      let rows = flat_map vector_bytes p.rows ++ left in
      let a = length-append (vector_bytes p.vector) rows in
      let b = length-append (flat_map vector_bytes p.rows) left in
      let c = length-append left_part stems in
      let d = length-append (stems_bytes form 0 p.members p.stems) epochs in
      let e = length-append (counted epoch_bytes p.epochs) text in
      let f = length-append (counted text_run_bytes p.text) log in
      let k = length-append (counted op_bytes p.log) held in
      let h = length-append (counted op_bytes p.held) [] in
      let v = vector_length p.vector in
      let r = rows_length p.rows in
      let l = left_bytes_length form p.left in
      let ss = stems_length form 0 p.members p.stems g in
      let es = counted_length epoch_bytes epoch_size epoch_length p.epochs in
      let ts = counted_length text_run_bytes text_run_size text_run_length p.text in
      let os = counted_length op_bytes op_size op_length p.log in
      let ws = counted_length op_bytes op_size op_length p.held in
      omega (arith, a, b, c, d, e, f, k, h, v, r, l, ss, es, ts, os, ws)

  stem_within : (i : ℕ) (o : Option Stem) → slice_get p.stems i ≡ o → stem_before form p i o ≤ snapshot_size form p
  unfolding snapshot_size
  stem_within i None e = omega arith
  stem_within i (Some s) e =
      let t = grouped_stem form 0 p.members p.stems i s g e in
      let l = stems_length form 0 p.members p.stems g in
      let parts : length (stems_bytes form 0 p.members p.stems) ≡ length t.at.front + length (stem_bytes form s ++ t.at.rest) = ap length t.at.parts ∙ length-append t.at.front (stem_bytes form s ++ t.at.rest) in
      behind_author (before_stems form p) s.author (stem_size form * i) (length t.at.front) (4 * p.members + stem_size form * length p.stems) (snapshot_size form p) t.at.place_is (omega (arith, parts, l)) (omega arith)

  pub place_within : (r i : ℕ) → place_of_broken form p (record { rule = r; index = i }) ≤ snapshot_size form p
  unfolding snapshot_size
  place_within r i =
      bool_cases (r == 1) (λ e. omega (arith, named form p r 1 i (eq_is r 1 e), at_row form p i, sum_by-take-le row_size p.rows i)) (λ n1.
      bool_cases (r == 2) (λ e. omega (arith, named form p r 2 i (eq_is r 2 e), at_stem form p i, stem_within i (slice_get p.stems i) refl)) (λ n2.
      bool_cases (r == 3) (λ e. omega (arith, named form p r 3 i (eq_is r 3 e), at_epoch form p i, sum_by-take-le epoch_size p.epochs i)) (λ n3.
      bool_cases (r == 4) (λ e. omega (arith, named form p r 4 i (eq_is r 4 e), at_text_run form p i, sum_by-take-le text_run_size p.text i)) (λ n4.
      bool_cases (r == 5) (λ e. omega (arith, named form p r 5 i (eq_is r 5 e), at_logged form p i, sum_by-take-le op_size p.log i)) (λ n5.
      bool_cases (r == 6) (λ e. omega (arith, named form p r 6 i (eq_is r 6 e), at_log form p i)) (λ n6.
      bool_cases (r == 7) (λ e. omega (arith, named form p r 7 i (eq_is r 7 e), at_epochs form p i)) (λ n7.
      omega (arith, at_other form p r i (eq_not r 1 n1) (eq_not r 2 n2) (eq_not r 3 n3) (eq_not r 4 n4) (eq_not r 5 n5) (eq_not r 6 n6) (eq_not r 7 n7), sum_by-take-le op_size p.held i))))))))
