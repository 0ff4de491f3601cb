-- Parts that are read from a file may be tested.
use Rattle.std.proofs.Common.{◌≡◌, ℕ, suc, ◌<◌, ◌≤◌, Bool, true, false, List, [], ◌∷◌, length, Option, Some, None, sym, subst, arith}
use Rattle.std.specs.Prelude.{MatchBool, map, nat_le, nat_lt, ◌==◌, ◌&&◌}
use Rattle.rls_ident.specs.declared.limits.TheConstants.{MEMBERS}
use Rattle.rls_ident.proofs.Members.{and_left, and_right, le_is, lt_is, eq_is}
use Rattle.rls_ops.specs.declared.op.Op.{Op}
use Rattle.rls_ops.specs.Rows.{HaveLength}
use Rattle.rls_ops.specs.WellFormed.{IsSmall}
use Rattle.rls_codec.specs.Spelled.{Chained, FitsVector, FitsBehind, IsSpelled}
use Rattle.rls_codec.proofs.MessageFormats.{apart_from}
use Rattle.rls_model.specs.declared.parts.EpochPart.{EpochPart}
use Rattle.rls_model.specs.declared.parts.TextRun.{TextRun}
use Rattle.rls_model.specs.declared.parts.Parts.{Parts}
use Rattle.rls_parts.specs.Given.{HaveParents, AreEpochParts, HaveTexts, AreMembersFrom, AreGiven}
use Rattle.rls_file.specs.ReadingFiles.{is_above, run_before}
use Rattle.rls_file.specs.SpelledFiles.{FitLefts, FitsEpoch, FitsTextRun, IsSpelledSnapshot}

have_counts : (members : ℕ) (before : Option (List ℕ)) (vs : List (List ℕ)) → Chained (λ b. FitsVector members) before vs → HaveLength members vs
have_counts members before [] c = tt
have_counts members before (v ∷ vs) c = (c.0.0, have_counts members (Some v) vs c.1)

have_contexts : (members : ℕ) (before : Option Op) (os : List Op) → Chained (λ b. IsSpelled members) before os → HaveLength members (map (λ o. o.context) os)
have_contexts members before [] c = tt
have_contexts members before (o ∷ os) c = (c.0.context.0, have_contexts members (Some o) os c.1)

have_parents : (before : EpochPart) (es : List EpochPart) → Chained FitsEpoch (Some before) es → HaveParents es
have_parents before [] c = tt
have_parents before (e ∷ es) c = ((c.0.1.0, c.0.1.1), have_parents e es c.1)

are_epochs : (es : List EpochPart) → nat_lt 0 (length es) ≡ true → Chained FitsEpoch None es → AreEpochParts es
are_epochs [] some c = absurd (omega (arith, lt_is 0 0 some))
are_epochs (e ∷ es) some c = (c.0.1, c.0.2, have_parents e es c.1)

runs_behind : (before : Option TextRun) (rs : List TextRun) → Chained FitsTextRun before rs → Chained FitsBehind (run_before before) (map (λ r. r.run) rs)
runs_behind before [] c = tt
runs_behind before (r ∷ rs) c = (c.0.0, runs_behind (Some r) rs c.1)

have_texts : (before : Option TextRun) (rs : List TextRun) → Chained FitsTextRun before rs → HaveTexts rs
have_texts before [] c = tt
have_texts before (r ∷ rs) c = (eq_is (length r.text) r.run.1 c.0.2, have_texts (Some r) rs c.1)

-- the least member that may stand after this one
abbrev above : Option ℕ → ℕ
above None = 0
above (Some n) = suc n

is_from : (before : Option ℕ) (n : ℕ) → is_above before n ≡ true → above before ≤ n
is_from None n h = omega arith
is_from (Some m) n h = lt_is m n h

are_members : (members : ℕ) (before : Option ℕ) (ns : List ℕ) → Chained (λ b n. IsSmall n × ((nat_lt n members && is_above b n) ≡ true)) before ns → AreMembersFrom (above before) members ns
are_members members before [] c = tt
are_members members before (n ∷ ns) c =
    (is_from before n (and_right (nat_lt n members) (is_above before n) c.0.1), lt_is n members (and_left (nat_lt n members) (is_above before n) c.0.1), are_members members (Some n) ns c.1)

are_left : (members : ℕ) (ns : List ℕ) (b : Bool) → MatchBool b (FitLefts members ns) (ns ≡ []) → AreMembersFrom 0 members ns
are_left members ns true h = are_members members None ns h.1
are_left members ns false h = subst (AreMembersFrom 0 members) (sym h) tt

pub parts_are_given : (form : ℕ) (p : Parts) → IsSpelledSnapshot form p → AreGiven p
parts_are_given form p f =
    let parts = f.parts in
    let some : 0 < p.members = lt_is 0 p.members (and_left (nat_lt 0 p.members) (nat_le p.members MEMBERS) f.head.members_fit) in
    record {
      some = some;
      few = le_is p.members MEMBERS (and_right (nat_lt 0 p.members) (nat_le p.members MEMBERS) f.head.members_fit);
      me = f.head.me_fits;
      vector = parts.vector.0;
      rows = omega (arith, parts.rows.0, some);
      rows_counts = have_counts p.members None p.rows parts.rows.1;
      log_counts = have_contexts p.members None p.log parts.log.1;
      held_counts = have_contexts p.members None p.held parts.held.1;
      epochs = are_epochs p.epochs parts.epoch_count.1 parts.epochs;
      epochs_few = parts.epoch_count.0;
      text = (apart_from None (map (λ r. r.run) p.text) (runs_behind None p.text parts.text.1), have_texts None p.text parts.text.1);
      text_few = parts.text.0;
      left = are_left p.members p.left (form == 4) parts.left;
    }
