-- Where no rule is broken, each of them passes; and what each of them says of an entry.
use Rattle.std.proofs.Common.{◌≡◌, ℕ, suc, Bool, true, false, List, [], ◌∷◌, ◌++◌, length, refl, sym, ap, ◌∙◌, inl, inr}
use Rattle.std.specs.Prelude.{◌&&◌, Option, Some, None}
use Rattle.rls_ident.specs.Lists.{IsIn}
use Rattle.rls_ident.specs.Vectors.{raise}
use Rattle.rls_ident.proofs.Members.{and_left, and_right, went_on}
use Rattle.rls_ops.specs.declared.op.Op.{Op}
use Rattle.rls_model.specs.declared.parts.Stem.{Stem}
use Rattle.rls_model.specs.declared.parts.EpochPart.{EpochPart}
use Rattle.rls_model.specs.declared.parts.TextRun.{TextRun}
use Rattle.rls_model.specs.declared.parts.Parts.{Parts}
use Rattle.rls_parts.specs.Rules.{Broken, or_broken, row_fault, is_row_of, stem_fault, is_stem_of, stands_behind, epoch_fault, is_epoch_of, text_fault, is_text_of, log_fault, is_next, whole_fault, ends_at_vector, are_retained, held_fault, may_wait, broken, Passes, BrokenOrPasses}
use Rattle.rls_parts.specs.Reading.{member_at, stable_of_parts}

-- ---- one rule after another

earlier : (rule : ℕ) (f : Option ℕ) (later : Option Broken) → or_broken rule f later ≡ None → f ≡ None
earlier rule None later h = refl
earlier rule (Some i) later h = absurd (cc)

later : (rule : ℕ) (f : Option ℕ) (rest : Option Broken) → or_broken rule f rest ≡ None → rest ≡ None
later rule None rest h = h
later rule (Some i) rest h = absurd (cc)

both : (rule : ℕ) (f : Option ℕ) (rest : Option Broken) → f ≡ None → rest ≡ None → or_broken rule f rest ≡ None
both rule f rest h k = ap (λ g. or_broken rule g rest) h ∙ k

holds : (b : Bool) → whole_fault b ≡ None → b ≡ true
holds true h = refl
holds false h = absurd (cc)

-- the first rule of those that are left passes, and those after it are left
abbrev rest_8 : Parts → Option Broken
rest_8 p = or_broken 8 (held_fault p None 0 p.held) None

abbrev rest_7 : Parts → Option Broken
rest_7 p = or_broken 7 (whole_fault (are_retained p)) (rest_8 p)

abbrev rest_6 : Parts → Option Broken
rest_6 p = or_broken 6 (whole_fault (ends_at_vector p)) (rest_7 p)

abbrev rest_5 : Parts → Option Broken
rest_5 p = or_broken 5 (log_fault p (stable_of_parts p) 0 p.log) (rest_6 p)

abbrev rest_4 : Parts → Option Broken
rest_4 p = or_broken 4 (text_fault p 0 p.text) (rest_5 p)

abbrev rest_3 : Parts → Option Broken
rest_3 p = or_broken 3 (epoch_fault p [] p.epochs) (rest_4 p)

abbrev rest_2 : Parts → Option Broken
rest_2 p = or_broken 2 (stem_fault p None 0 p.stems) (rest_3 p)

pub passes : (p : Parts) → broken p ≡ None → Passes p
unfolding broken
passes p h =
    let h2 = later 1 (row_fault p 0 p.rows) (rest_2 p) h in
    let h3 = later 2 (stem_fault p None 0 p.stems) (rest_3 p) h2 in
    let h4 = later 3 (epoch_fault p [] p.epochs) (rest_4 p) h3 in
    let h5 = later 4 (text_fault p 0 p.text) (rest_5 p) h4 in
    let h6 = later 5 (log_fault p (stable_of_parts p) 0 p.log) (rest_6 p) h5 in
    let h7 = later 6 (whole_fault (ends_at_vector p)) (rest_7 p) h6 in
    let h8 = later 7 (whole_fault (are_retained p)) (rest_8 p) h7 in
    record {
      rows = earlier 1 (row_fault p 0 p.rows) (rest_2 p) h;
      stems = earlier 2 (stem_fault p None 0 p.stems) (rest_3 p) h2;
      epochs = earlier 3 (epoch_fault p [] p.epochs) (rest_4 p) h3;
      text = earlier 4 (text_fault p 0 p.text) (rest_5 p) h4;
      log = earlier 5 (log_fault p (stable_of_parts p) 0 p.log) (rest_6 p) h5;
      ends = holds (ends_at_vector p) (earlier 6 (whole_fault (ends_at_vector p)) (rest_7 p) h6);
      retained = holds (are_retained p) (earlier 7 (whole_fault (are_retained p)) (rest_8 p) h7);
      held = earlier 8 (held_fault p None 0 p.held) None h8;
    }

pub passed : (p : Parts) → Passes p → broken p ≡ None
unfolding broken
passed p h =
    both 1 (row_fault p 0 p.rows) (rest_2 p) h.rows
    (both 2 (stem_fault p None 0 p.stems) (rest_3 p) h.stems
    (both 3 (epoch_fault p [] p.epochs) (rest_4 p) h.epochs
    (both 4 (text_fault p 0 p.text) (rest_5 p) h.text
    (both 5 (log_fault p (stable_of_parts p) 0 p.log) (rest_6 p) h.log
    (both 6 (whole_fault (ends_at_vector p)) (rest_7 p) (ap whole_fault h.ends)
    (both 7 (whole_fault (are_retained p)) (rest_8 p) (ap whole_fault h.retained)
    (both 8 (held_fault p None 0 p.held) None h.held refl)))))))

pub broken_or_passes : BrokenOrPasses
broken_or_passes p = (passes p, passed p)

-- ---- entry after entry

pub row_first : (p : Parts) (i : ℕ) (row : List ℕ) (rows : List (List ℕ)) → row_fault p i (row ∷ rows) ≡ None → (is_row_of p.vector (member_at p.me i) row ≡ true) × (row_fault p (suc i) rows ≡ None)
row_first p i row rows h = went_on (is_row_of p.vector (member_at p.me i) row) (row_fault p (suc i) rows) i h

pub stem_first : (p : Parts) (before : Option Stem) (i : ℕ) (t : Stem) (ts : List Stem) → stem_fault p before i (t ∷ ts) ≡ None →
    (is_stem_of p t ≡ true) × (stands_behind before t ≡ true) × (stem_fault p (Some t) (suc i) ts ≡ None)
stem_first p before i t ts h =
    let r = went_on (is_stem_of p t && stands_behind before t) (stem_fault p (Some t) (suc i) ts) i h in
    (and_left (is_stem_of p t) (stands_behind before t) r.0, and_right (is_stem_of p t) (stands_behind before t) r.0, r.1)

pub epoch_first : (p : Parts) (earlier_ones : List EpochPart) (e : EpochPart) (es : List EpochPart) → epoch_fault p earlier_ones (e ∷ es) ≡ None →
    (is_epoch_of p earlier_ones e ≡ true) × (epoch_fault p (earlier_ones ++ e ∷ []) es ≡ None)
epoch_first p earlier_ones e es h = went_on (is_epoch_of p earlier_ones e) (epoch_fault p (earlier_ones ++ e ∷ []) es) (length earlier_ones) h

pub text_each : (p : Parts) (i : ℕ) (rs : List TextRun) → text_fault p i rs ≡ None → (r : TextRun) → IsIn r rs → is_text_of p r ≡ true
text_each p i [] h r q = absurd q
text_each p i (s ∷ rs) h r (inl e) = ap (is_text_of p) (sym e) ∙ (went_on (is_text_of p s) (text_fault p (suc i) rs) i h).0
text_each p i (s ∷ rs) h r (inr q) = text_each p (suc i) rs (went_on (is_text_of p s) (text_fault p (suc i) rs) i h).1 r q

pub log_first : (p : Parts) (v : List ℕ) (i : ℕ) (o : Op) (os : List Op) → log_fault p v i (o ∷ os) ≡ None → (is_next p v o ≡ true) × (log_fault p (raise v o.author) (suc i) os ≡ None)
log_first p v i o os h = went_on (is_next p v o) (log_fault p (raise v o.author) (suc i) os) i h

pub held_first : (p : Parts) (before : Option Op) (i : ℕ) (o : Op) (os : List Op) → held_fault p before i (o ∷ os) ≡ None →
    (may_wait p.members p.me p.vector before o ≡ true) × (held_fault p (Some o) (suc i) os ≡ None)
held_first p before i o os h = went_on (may_wait p.members p.me p.vector before o) (held_fault p (Some o) (suc i) os) i h
