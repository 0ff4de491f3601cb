-- What a file of the forms 2 to 4 says: a sane replica that may be written again, and that stands for each legal state with these parts.
use Rattle.std.proofs.Common.{◌≡◌, ◌≢◌, ◌∙◌, ◌&&◌, ℕ, suc, Bool, true, false, not, eqb, nat_lt, List, [], ◌∷◌, map, Option, Some, None, refl, sym, ap, subst, arith, inl, inr}
use Rattle.std.specs.Prelude.{slice_index, if◌then◌else◌}
use Rattle.std.specs.List.{find, list_all}
use Rattle.std.proofs.lemmas.Bool.Decides.{nat_tests}
use Rattle.rls_ident.specs.Lists.{IsIn}
use Rattle.rls_ident.specs.Vectors.{at_most}
use Rattle.rls_ident.proofs.Members.{and_true}
use Rattle.rls_runs.specs.Runs.{AreIdents, is_run}
use Rattle.rls_ops.specs.declared.op.Op.{Op}
use Rattle.rls_ops.specs.Shapes.{shape_fault}
use Rattle.rls_codec.specs.Spelled.{Chained}
use Rattle.rls_codec.proofs.SpelledSound.{fits_idents, fits_vector, run_sound}
use Rattle.rls_model.specs.declared.parts.EpochPart.{EpochPart}
use Rattle.rls_model.specs.declared.parts.TextRun.{TextRun}
use Rattle.rls_model.specs.declared.parts.Parts.{Parts}
use Rattle.rls_model.specs.Legal.{IsLegal}
use Rattle.rls_model.specs.Parts.{parts}
use Rattle.rls_model.specs.Receiving.{State}
use Rattle.rls_seen.specs.Sane.{IsSane}
use Rattle.rls_seen.specs.Stands.{StandsFor}
use Rattle.rls_parts.specs.Given.{AreRanged}
use Rattle.rls_parts.specs.Restored.{seen_of}
use Rattle.rls_parts.specs.Rules.{broken, held_fault, is_fine, may_wait, waits_behind}
use Rattle.rls_parts.proofs.Passing.{held_first, passes}
use Rattle.rls_parts.proofs.RestoredSane.{sane}
use Rattle.rls_parts.proofs.StandsAgain.{stand}
use Rattle.rls_file.specs.SpelledFiles.{FitsEpoch, FitsTextRun, IsSpelledSnapshot}
use Rattle.rls_file.proofs.GivenParts.{parts_are_given}
use Rattle.rls_file.specs.Stored.{AreWritable}
use Rattle.rls_file.proofs.Storable.{op_spelled}

-- ---- what is spelled is in range

former_ranged : (before : Option EpochPart) (es : List EpochPart) → Chained FitsEpoch before es → (e : EpochPart) → IsIn e es → AreIdents e.former
former_ranged before [] c e p = absurd p
former_ranged None (x ∷ es) c e (inl q) = subst (λ (y : EpochPart). AreIdents y.former) q (subst AreIdents (sym c.0.2) (refl, refl))
former_ranged (Some before) (x ∷ es) c e (inl q) = subst (λ (y : EpochPart). AreIdents y.former) q (fits_idents x.former c.0.2)
former_ranged before (x ∷ es) c e (inr p) = former_ranged (Some x) es c.1 e p

runs_ranged : (before : Option TextRun) (rs : List TextRun) → Chained FitsTextRun before rs → list_all is_run (map (λ r. r.run) rs) ≡ true
runs_ranged before [] c = refl
runs_ranged before (r ∷ rs) c = and_true (is_run r.run) (list_all is_run (map (λ r. r.run) rs)) (run_sound r.run c.0.0.0) (runs_ranged (Some r) rs c.1)

ranged : (form : ℕ) (p : Parts) → IsSpelledSnapshot form p → AreRanged p
ranged form p f =
    let s = f.parts in
    record {
      group = f.head.group_fits;
      vector = (fits_vector p.members p.vector s.vector).1;
      former = former_ranged None p.epochs s.epochs;
      runs = runs_ranged None p.text s.text.1;
      log = λ o q. (op_spelled p.members None p.log s.log.1 o q).whole;
      held = λ o q. let g = op_spelled p.members None p.held s.held.1 o q in (g.whole, g.ranged);
    }

-- ---- what waits

-- what rule 8 says of an operation
waits_so : (members me : ℕ) (vector : List ℕ) (before : Option Op) (o : Op) → may_wait members me vector before o ≡ true → (eqb o.author me ≡ false) × (at_most o.context vector ≡ false)
waits_so members me vector before o h = go (is_fine (shape_fault members o)) (eqb o.author me) (nat_lt (slice_index vector o.author) o.seq) (waits_behind before o) (at_most o.context vector) h
  where
    go : (a b c d e : Bool) → (a && not b && c && d && not e) ≡ true → (b ≡ false) × (e ≡ false)
    go true true c d e h = cc
    go true false true true true h = cc
    go true false true true false h = (refl, refl)
    go true false true false e h = cc
    go true false false d e h = cc
    go false b c d e h = cc

others_wait : (p : Parts) (before : Option Op) (i : ℕ) (os : List Op) → held_fault p before i os ≡ None → (w : Op) → IsIn w os → w.author ≢ p.me
others_wait p before i [] h w q = absurd q
others_wait p before i (o ∷ os) h w (inl e) =
    λ same. let no = (waits_so p.members p.me p.vector before o (held_first p before i o os h).0).0 in let is : o.author ≡ p.me = ap (λ (x : Op). x.author) e ∙ same in grind (arith, nat_tests)
others_wait p before i (o ∷ os) h w (inr q) = others_wait p (Some o) (suc i) os (held_first p before i o os h).1 w q

none_ready : (p : Parts) (before : Option Op) (i : ℕ) (os : List Op) → held_fault p before i os ≡ None → find (λ w. at_most w.context p.vector) os ≡ None
none_ready p before i [] h = refl
none_ready p before i (o ∷ os) h =
    let r = held_first p before i o os h in
    ap (λ b. if b then Some o else find (λ w. at_most w.context p.vector) os) (waits_so p.members p.me p.vector before o r.0).1 ∙ none_ready p (Some o) (suc i) os r.1

-- ---- the replica

pub snapshot_sane : (form : ℕ) (p : Parts) → IsSpelledSnapshot form p → broken p ≡ None → IsSane (seen_of p)
snapshot_sane form p f none = sane p (parts_are_given form p f) (ranged form p f) none

pub snapshot_writable : (form : ℕ) (p : Parts) → IsSpelledSnapshot form p → broken p ≡ None → AreWritable (seen_of p)
unfolding seen_of
snapshot_writable form p f none =
    let s = f.parts in
    let held = (passes p none).held in
    record {
      log = λ o q. (op_spelled p.members None p.log s.log.1 o q).size;
      waiting = λ w q. (op_spelled p.members None p.held s.held.1 w q).size;
      others = others_wait p None 0 p.held held;
      rest = none_ready p None 0 p.held held;
    }

pub snapshot_stands : (form : ℕ) (t : State) → IsSpelledSnapshot form (parts t) → broken (parts t) ≡ None → IsLegal t.history → StandsFor (seen_of (parts t)) t
snapshot_stands form t f none legal = stand t legal (ranged form (parts t) f) none
