-- What is stored is a file again.
use Rattle.std.proofs.Common.{◌≡◌, ◌<◌, ◌≤◌, ◌^◌, List, [], ◌∷◌, length, refl, ap, ◌∙◌, subst, arith, inl, inr, None}
use Rattle.std.specs.Prelude.{All, nat_le, nat_lt, not}
use Rattle.std.proofs.lemmas.List.Elements.{All-tail}
use Rattle.rls_ident.specs.declared.limits.TheConstants.{MEMBERS}
use Rattle.rls_ident.specs.declared.epoch_name.EpochName.{EpochName}
use Rattle.rls_ident.specs.Lists.{IsIn}
use Rattle.rls_ident.specs.Vectors.{at_most}
use Rattle.rls_ident.proofs.Members.{and_true, in_filter, in_map, le_test, lt_test, not_found}
use Rattle.rls_runs.specs.Runs.{AreIdents, are_apart}
use Rattle.rls_runs.proofs.RunsApart.{apart_runs}
use Rattle.rls_rename.proofs.Kept.{greatest_kept}
use Rattle.rls_ops.specs.declared.op.Op.{Op}
use Rattle.rls_ops.specs.Rows.{is_covered}
use Rattle.rls_ops.proofs.Sizes.{ops_within}
use Rattle.rls_codec.specs.Spelled.{Chained}
use Rattle.rls_codec.proofs.Fits.{small_chain}
use Rattle.rls_model.specs.declared.parts.EpochPart.{EpochPart}
use Rattle.rls_model.specs.declared.parts.Parts.{Parts}
use Rattle.rls_model.specs.Parts.{epoch_part, epoch_parts, node_of, text_runs, top_part}
use Rattle.rls_seen.specs.Kept.{needed_over, parts_over, retained_over}
use Rattle.rls_seen.specs.Sane.{IsSane}
use Rattle.rls_seen.specs.Seen.{Seen, greatest_over, idents_over, members, stable_over, vector}
use Rattle.rls_seen.proofs.Held.{held_at}
use Rattle.rls_parts.specs.Rules.{broken, epoch_fault, held_fault}
use Rattle.rls_parts.proofs.EpochLists.{first_top}
use Rattle.rls_parts.proofs.Passing.{passes}
use Rattle.rls_parts.proofs.SaneEpochs.{retained_is}
use Rattle.rls_parts.proofs.SanePasses.{sane_passes, have_texts}
use Rattle.rls_parts.proofs.SaneRows.{length-others}
use Rattle.rls_fields.specs.Written.{FitsFormer}
use Rattle.rls_fields.proofs.Puts.{few_names, parts_count, runs_within}
use Rattle.rls_file.specs.SpelledFiles.{FitsEpoch, IsSpelledSnapshot}
use Rattle.rls_file.specs.Sizes.{stored_size}
use Rattle.rls_file.specs.Stored.{AreWritable, FitFields, StoredAgain}
use Rattle.rls_file.proofs.Spelled.{each_stem, epochs_fit, follow_each, grouped, held_passes, left_fit, ops_fit, part_idents, rows_fit, rows_length, stems_rise, text_fit, text_runs_are, top_fits}
use Rattle.rls_file.proofs.Stored.{few_stems, from_stems, stored_length}

-- ---- epochs

former_each : (s : Seen) → IsSane s → (us : List EpochName) (e : EpochPart) → IsIn e (epoch_parts s.epochs.nodes us) → AreIdents e.former
former_each s h [] e q = absurd q
former_each s h (u ∷ us) e (inl q) = subst (λ (x : EpochPart). AreIdents x.former) q (refl, refl)
former_each s h (u ∷ us) e (inr q) =
    let m = in_map (λ x. epoch_part (u ∷ us) x (node_of s.epochs.nodes x)) e us q in
    subst (λ (x : EpochPart). AreIdents x.former) m.2 (part_idents s.epochs.nodes (u ∷ us) m.0 h.epochs.nodes)

-- the entries of a list that begins with the topmost epoch
epochs_chain : (p : Parts) (es : List EpochPart) → 0 < length es → length es < 2 ^ 32 → p.members ≤ MEMBERS → All (λ n. n < 2 ^ 32) p.vector → length p.vector ≡ p.members → epoch_fault p [] es ≡ None → All FitsFormer es → ((e : EpochPart) → IsIn e es → AreIdents e.former)
    → ((e : EpochPart) (rest : List EpochPart) → es ≡ e ∷ rest → (e.parent ≡ None) × (e.former ≡ [])) → Chained FitsEpoch None es
epochs_chain p [] some few m small count h a g top = absurd (omega (arith, some))
epochs_chain p (e ∷ es) some few m small count h a g top =
    let r = first_top p e es h in
    let t = top e es refl in
    ((top_fits p e.name m small count r.0, t.0, t.1), epochs_fit p e [] es e m small count (omega (arith, few)) r.1 (All-tail FitsFormer e es a) (λ x q. g x (inr q)))

top_is : (s : Seen) (us : List EpochName) (e : EpochPart) (rest : List EpochPart) → epoch_parts s.epochs.nodes us ≡ e ∷ rest → (e.parent ≡ None) × (e.former ≡ [])
top_is s [] e rest h = absurd cc
top_is s (u ∷ us) e rest h = (let first : top_part u ≡ e = cc in subst (λ (x : EpochPart). (x.parent ≡ None) × (x.former ≡ [])) first (refl, refl))

-- some epoch is retained
some_retained : (s : Seen) → IsSane s → 0 < length (retained_over s)
unfolding retained_over
some_retained s h =
    let r = retained_is s.epochs.top s.epochs.nodes (greatest_over s) (needed_over s) h.epochs.nodes h.epochs.below (greatest_kept s.epochs.top s.epochs.nodes) in
    omega (arith, ap length r.2)

-- ---- all

held_fine : (s : Seen) → IsSane s → AreWritable s → held_fault (parts_over s) None 0 s.waiting ≡ None
unfolding parts_over
held_fine s h w = held_passes (parts_over s) None 0 s.waiting h.waiting (λ o q. (w.others o q, not_found (λ x. at_most x.context (vector s)) o s.waiting w.rest q)) (λ o q. refl)

spelled : (s : Seen) → IsSane s → AreWritable s → FitFields (parts_over s) → broken (parts_over s) ≡ None → stored_size s < 2 ^ 32 → IsSpelledSnapshot 4 (parts_over s)
unfolding parts_over
spelled s h w f none few =
    let p = parts_over s in
    let n = members s in
    let pass = passes p none in
    let member = h.rows.member in
    let count = length-others s.acks h.rows in
    let names = few_names s.epochs.nodes (retained_over s) (omega (arith, few)) in
    let parts = parts_count s.epochs.nodes (retained_over s) in
    let some = some_retained s h in
    let left = left_fit s.acks n n h.few (omega arith) in
    let log = ops_within p.log in
    let held = ops_within s.waiting in
    let text = runs_within (text_runs s.text) in
    record {
      head = record { form_fits = refl; group_fits = h.group; members_fit = and_true (nat_lt 0 n) (nat_le n MEMBERS) (lt_test 0 n (omega (arith, member))) (le_test n MEMBERS h.few); me_fits = member };
      later = refl;
      parts = record {
        vector = (refl, small_chain None (vector s) h.small);
        rows = (omega (arith, count), rows_fit n None p.rows (rows_length s.acks n h.rows (omega arith)) f.rows);
        left = (omega (arith, few), left.0);
        stems = grouped (vector s) 0 n s.stems h.small (stems_rise (vector s) s.stems h.stems) (each_stem (vector s) s.stems h.stems) (from_stems (vector s) s.stems h.stems) (few_stems s h few);
        epoch_count = (omega (arith, names, parts), lt_test 0 (length p.epochs) (omega (arith, parts, some)));
        epochs = epochs_chain p p.epochs (omega (arith, parts, some)) (omega (arith, names, parts)) h.few h.small refl pass.epochs f.epochs (former_each s h (retained_over s)) (top_is s (retained_over s));
        text = (omega (arith, text, few), text_fit None p.text (ap (are_apart None) (text_runs_are s.text) ∙ apart_runs (idents_over s) h.idents.1) (have_texts s.text) f.text);
        log = (omega (arith, log, few), ops_fit n p.log (λ o q. (let i = (in_filter (λ (x : Op). not (is_covered (stable_over s) x)) o s.log q).0 in let g = follow_each n h.log.0 s.log (vector s) o h.log.1.follow i in (g.0, g.1, w.log o i))) f.log);
        held = (omega (arith, held, few), ops_fit n s.waiting (λ o q. (let g = held_at n (vector s) s.waiting o h.waiting q in (g.whole, g.shape, w.waiting o q))) f.held);
      };
    }

pub stored_again : StoredAgain
stored_again s h w f few =
    let none = sane_passes s h (held_fine s h w) in
    (spelled s h w f none (omega (arith, few, stored_length s)), none, refl)
