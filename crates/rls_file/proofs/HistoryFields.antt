-- The parts of a history of which each operation has a spelling fit the fields of a file that isn't too long.
use Rattle.std.proofs.Common.{◌≡◌, ℕ, zero, suc, ◌+◌, ◌^◌, ◌<◌, ◌≤◌, ◌==◌, true, false, Bool, List, [], ◌∷◌, length, map, max, Option, Some, None, refl, sym, subst, arith, inl, inr, if◌then◌else◌}
use Rattle.std.specs.Prelude.{All, sum_by}
use Rattle.std.specs.Char.{IsScalar}
use Rattle.std.proofs.lemmas.List.Elements.{All-append, All-cons, All-head, All-nil, All-replicate, All-tail}
use Rattle.std.proofs.lemmas.List.Sums.{sum_by-cons}
use Rattle.rls_ident.specs.declared.limits.TheConstants.{FILE_BYTES}
use Rattle.rls_ident.specs.declared.tuple.Tuple.{Tuple}
use Rattle.rls_ident.specs.declared.epoch_name.EpochName.{EpochName}
use Rattle.rls_ident.specs.Identifiers.{follows}
use Rattle.rls_ident.specs.Lists.{IsIn}
use Rattle.rls_ident.specs.Vectors.{join}
use Rattle.rls_runs.specs.Entries.{Entries}
use Rattle.rls_runs.specs.Runs.{runs_of}
use Rattle.rls_rename.specs.Tree.{Node}
use Rattle.rls_ops.specs.declared.op.Op.{Op}
use Rattle.rls_ops.specs.WellFormed.{IsSmall}
use Rattle.rls_codec.specs.Spelled.{FitRuns, FitsBody, FitsRun, IsSpelled, IsSpelledIfFit}
use Rattle.rls_codec.proofs.Fits.{text_fits}
use Rattle.rls_codec.proofs.SizeLaws.{chars_length, short_ident}
use Rattle.rls_model.specs.declared.parts.EpochPart.{EpochPart}
use Rattle.rls_model.specs.declared.parts.Parts.{Parts}
use Rattle.rls_model.specs.declared.parts.TextRun.{TextRun}
use Rattle.rls_model.specs.Document.{export, idents}
use Rattle.rls_model.specs.Epochs.{epochs}
use Rattle.rls_model.specs.History.{Accepted, Acknowledged, Fresh, History, Then, acknowledged, count, me_of, members_of, row}
use Rattle.rls_model.specs.Legal.{IsLegal}
use Rattle.rls_model.specs.Parts.{epoch_part, epoch_parts, node_of, other_rows, parts, put_text, text_runs, top_part}
use Rattle.rls_model.specs.Receiving.{State}
use Rattle.rls_model.specs.Retained.{retained}
use Rattle.rls_model.specs.Stability.{unstable}
use Rattle.rls_model.proofs.Ranges.{counts_small, idents_good}
use Rattle.rls_model.proofs.SameOps.{in_nodes}
use Rattle.rls_seen.proofs.Keeping.{parts_alike}
use Rattle.rls_parts.proofs.RestoredText.{runs_in}
use Rattle.rls_fields.specs.Fields.{file_bytes}
use Rattle.rls_fields.specs.FieldSizes.{text_run_size}
use Rattle.rls_fields.specs.Written.{FitsChars, FitsFormer, FitsRow}
use Rattle.rls_fields.proofs.PlaceSums.{file_length}
use Rattle.rls_fields.proofs.Puts.{top_fits}
use Rattle.rls_file.specs.FileLaws.{AreSpelled}
use Rattle.rls_file.specs.Storable.{IsStorable}
use Rattle.rls_file.specs.Histories.{StorableIsReadBack}
use Rattle.rls_file.specs.Stored.{FitFields}
use Rattle.rls_model.proofs.Characters.{IsCharOf, export_chars}
use Rattle.rls_file.proofs.HistoryIdents.{IsShortRun, all_ranged, idents_ranged, ranged_runs_fit}
use Rattle.rls_file.proofs.HistoryMessages.{accepted_spelled, unstable_in}
use Rattle.rls_file.proofs.Spelled.{node_in, text_runs_are}
use Rattle.rls_file.proofs.StoredAgain.{stored_again}

-- ---- rows

join_small : (v w : List ℕ) → All IsSmall v → All IsSmall w → All IsSmall (join v w)
join_small [] w a b = All-nil IsSmall
join_small (m ∷ v) [] a b = All-nil IsSmall
join_small (m ∷ v) (n ∷ w) a b =
    let p = All-head IsSmall m v a in
    let q = All-head IsSmall n w b in
    All-cons IsSmall (max m n) (join v w) (omega (arith, p, q)) (join_small v w (All-tail IsSmall m v a) (All-tail IsSmall n w b))

acknowledged_small : (H : History) → IsLegal H → (a : ℕ) → All IsSmall (acknowledged H a)
acknowledged_small (Fresh group me members) l a = All-replicate IsSmall members 0 (omega arith)
acknowledged_small (Then G (Accepted o)) l a = acknowledged_small G l.0 a
acknowledged_small (Then G (Acknowledged b v)) l a = go (a == b) (acknowledged_small G l.0 a)
  where
    go : (is : Bool) → All IsSmall (acknowledged G a) → All IsSmall (if is then join (acknowledged G a) v else acknowledged G a)
    go true h = join_small (acknowledged G a) v h l.1.1.1
    go false h = h

row_small : (H : History) → IsLegal H → (a : ℕ) → All IsSmall (row H a)
row_small H l a = go (a == me_of H)
  where
    go : (own : Bool) → All IsSmall (if own then count H else acknowledged H a)
    go true = counts_small H l
    go false = acknowledged_small H l a

rows_fit : (H : History) → IsLegal H → (n : ℕ) → All FitsRow (other_rows H n)
rows_fit H l zero = All-nil FitsRow
rows_fit H l (suc n) = All-append FitsRow (other_rows H n) (if n == me_of H then [] else row H n ∷ []) (rows_fit H l n) (go (n == me_of H))
  where
    go : (own : Bool) → All FitsRow (if own then [] else row H n ∷ [])
    go true = All-nil FitsRow
    go false = All-cons FitsRow (row H n) [] (row_small H l n) (All-nil FitsRow)

-- ---- epochs

part_fits : (H : History) → AreSpelled H → (es : List EpochName) (e : EpochName) → FitsFormer (epoch_part es e (node_of (epochs H) e))
part_fits H s es e = go (node_of (epochs H) e) refl
  where
    go : (o : Option Node) → node_of (epochs H) e ≡ o → FitsFormer (epoch_part es e o)
    go None f = top_fits e
    go (Some n) f = λ k h i. let x = in_nodes H n (node_in (epochs H) e n f) in subst (λ (m : Node). FitRuns m.renaming.former) x.4 (subst FitsBody x.3 (accepted_spelled H s x.0 x.2).body)

epochs_fit : (H : History) → AreSpelled H → (es : List EpochName) → All FitsFormer (epoch_parts (epochs H) es)
epochs_fit H s [] = All-nil FitsFormer
epochs_fit H s (top ∷ es) = All-cons FitsFormer (top_part top) (map part es) (top_fits top) (go es)
  where
    part : EpochName → EpochPart
    part e = epoch_part (top ∷ es) e (node_of (epochs H) e)

    go : (us : List EpochName) → All FitsFormer (map part us)
    go [] = All-nil FitsFormer
    go (u ∷ us) = All-cons FitsFormer (part u) (map part us) (part_fits H s (top ∷ es) u) (go us)

-- ---- operations

ops_fit : (n : ℕ) (os : List Op) → ((o : Op) → IsIn o os → IsSpelled n o) → All IsSpelledIfFit os
ops_fit n [] f = All-nil IsSpelledIfFit
ops_fit n (o ∷ os) f =
    let s = f o (inl refl) in
    All-cons IsSpelledIfFit o os (λ body few. subst (λ k. IsSpelled k o) (sym s.context.0) s) (ops_fit n os (λ x p. f x (inr p)))

-- ---- text

-- each character is one that UTF-8 has
abbrev AreCharacters : TextRun → Type 0
AreCharacters r = All IsScalar r.text

put_characters : (x : List Tuple) (c : ℕ) (rs : List TextRun) → IsScalar c → All AreCharacters rs → All AreCharacters (put_text (x, c) rs)
put_characters x c [] s h = All-cons AreCharacters (record { run = (x, 1); text = c ∷ [] }) [] (All-cons IsScalar c [] s (All-nil IsScalar)) (All-nil AreCharacters)
put_characters x c (r ∷ rs) s h = go (follows r.run.0 x)
  where
    go : (b : Bool) → All AreCharacters (if b then record { run = (x, r.run.1 + 1); text = c ∷ r.text } ∷ rs else record { run = (x, 1); text = c ∷ [] } ∷ r ∷ rs)
    go true = All-cons AreCharacters (record { run = (x, r.run.1 + 1); text = c ∷ r.text }) rs (All-cons IsScalar c r.text s (All-head AreCharacters r rs h)) (All-tail AreCharacters r rs h)
    go false = All-cons AreCharacters (record { run = (x, 1); text = c ∷ [] }) (r ∷ rs) (All-cons IsScalar c [] s (All-nil IsScalar)) h

all_characters : (es : Entries) → All IsCharOf es → All AreCharacters (text_runs es)
all_characters [] h = All-nil AreCharacters
all_characters (e ∷ es) h = put_characters e.0 e.1 (text_runs es) (All-head IsCharOf e es h) (all_characters es (All-tail IsCharOf e es h))

-- what is small as a whole begins its runs with few tuples
short_runs : (rs : List TextRun) → sum_by text_run_size rs < 2 ^ 32 → All IsShortRun (runs_in rs)
short_runs [] h = All-nil IsShortRun
short_runs (r ∷ rs) h =
    let l = sum_by-cons text_run_size r rs in
    All-cons IsShortRun r.run (runs_in rs) (short_ident r.run.0 (omega (arith, h, l))) (short_runs rs (omega (arith, h, l)))

chars_fit : (rs : List TextRun) → sum_by text_run_size rs < 2 ^ 32 → All FitsRun (runs_in rs) → All AreCharacters rs → All FitsChars rs
chars_fit [] h f a = All-nil FitsChars
chars_fit (r ∷ rs) h f a =
    let l = sum_by-cons text_run_size r rs in
    let c = chars_length r.text in
    All-cons FitsChars r rs (All-head FitsRun r.run (runs_in rs) f, text_fits r.text (omega (arith, h, l, c)) (All-head AreCharacters r rs a))
    (chars_fit rs (omega (arith, h, l)) (All-tail FitsRun r.run (runs_in rs) f) (All-tail AreCharacters r rs a))

text_fits_file : (H : History) → IsLegal H → AreSpelled H → sum_by text_run_size (text_runs (export H)) < 2 ^ 32 → All FitsChars (text_runs (export H))
unfolding idents
text_fits_file H l s h =
    let rs = text_runs (export H) in
    let e : runs_in rs ≡ runs_of (idents H) = text_runs_are (export H) in
    let fit = ranged_runs_fit (idents H) (idents_good H l) (all_ranged (idents H) (idents_ranged H l s)) (subst (All IsShortRun) e (short_runs rs h)) in
    chars_fit rs h (subst (All FitsRun) (sym e) fit) (all_characters (export H) (export_chars H l))

-- ---- all

storable_fits : (t : State) → IsStorable t → length (file_bytes (parts t)) ≤ FILE_BYTES → FitFields (parts t)
unfolding parts
storable_fits t k few =
    let H = t.history in
    let n = members_of H in
    let l = file_length (parts t) in
    record {
      rows = rows_fit H k.legal n;
      epochs = epochs_fit H k.accepted (retained H);
      text = text_fits_file H k.legal k.accepted (omega (arith, few, l));
      log = ops_fit n (unstable H) (λ o p. accepted_spelled H k.accepted o (unstable_in H o p));
      held = ops_fit n t.waiting k.waiting;
    }

-- a replica that stands for such a history is read back
pub storable_again : StorableIsReadBack
storable_again s t h sane w k few =
    let e = parts_alike s t h in
    stored_again s sane w (subst FitFields (sym e) (storable_fits t k (subst (λ (p : Parts). length (file_bytes p) ≤ FILE_BYTES) e few))) few
