-- The message for a member of a state that may be stored has a spelling.
use Rattle.std.proofs.Common.{ℕ, ◌+◌, true, false, Bool, List, [], ◌∷◌, Option, Some, None, refl, subst, arith, inl, inr, ⊎_elim}
use Rattle.std.specs.Prelude.{not, nat_le, if◌then◌else◌}
use Rattle.rls_ident.specs.declared.limits.TheConstants.{INPUT_BYTES}
use Rattle.rls_ident.specs.Lists.{IsIn}
use Rattle.rls_ident.proofs.Members.{in_filter, snoc_split}
use Rattle.rls_ops.specs.declared.op.Op.{Op}
use Rattle.rls_ops.specs.Sizes.{head_size, op_size, front_within}
use Rattle.rls_ops.specs.Rows.{is_covered, missing_for}
use Rattle.rls_ops.proofs.Fronts.{front_fits}
use Rattle.rls_ops.proofs.Sizes.{ops_within}
use Rattle.rls_ops.specs.Spelling.{message_bytes}
use Rattle.rls_codec.specs.CodecLaws.{IsMessage}
use Rattle.rls_codec.specs.Spelled.{Chained, IsSpelled, IsSpelledMessage}
use Rattle.rls_codec.proofs.Fits.{small_chain}
use Rattle.rls_model.specs.History.{Accepted, Acknowledged, History, Fresh, Then, count, members_of, ops, row}
use Rattle.rls_model.specs.Stability.{stable, unstable}
use Rattle.rls_model.specs.Receiving.{State}
use Rattle.rls_model.specs.Rules as rules
use Rattle.rls_model.specs.Taking.{message_for, message_told, told_row}
use Rattle.rls_model.specs.View.{plain_of}
use Rattle.rls_model.proofs.Made.{foot}
use Rattle.rls_model.proofs.Ranges.{counts_small}
use Rattle.rls_model.proofs.Stable.{length-count}
use Rattle.rls_file.specs.FileLaws.{AreSpelled}
use Rattle.rls_file.proofs.LegalJournals.{legal_head}
use Rattle.rls_file.specs.Histories.{SentIsMessage, ToldIsMessage}
use Rattle.rls_file.specs.Storable.{IsStorable}

-- each accepted operation
pub accepted_spelled : (H : History) → AreSpelled H → (o : Op) → IsIn o (ops H) → IsSpelled (members_of H) o
accepted_spelled (Fresh group me members) s o p = absurd p
accepted_spelled (Then G (Accepted x)) s o p = ⊎_elim (λ q. accepted_spelled G s.0 o q) (λ e. subst (IsSpelled (members_of G)) e s.1) (snoc_split o x (ops G) p)
accepted_spelled (Then G (Acknowledged a v)) s o p = accepted_spelled G s o p

-- ---- the front of a list of operations

front_each : {P : Op → Type 0} (used limit : ℕ) (before : Option Op) (os : List Op) → ((o : Op) → IsIn o os → P o) → Chained (λ b. P) before (front_within used limit os)
front_each used limit before [] f = tt
front_each {P = P} used limit before (o ∷ os) f = go (nat_le (used + op_size o) limit) (front_each {P = P} (used + op_size o) limit (Some o) os (λ x p. f x (inr p)))
  where
    go : (b : Bool) → Chained (λ c. P) (Some o) (front_within (used + op_size o) limit os) → Chained (λ c. P) before (if b then o ∷ front_within (used + op_size o) limit os else [])
    go true c = (f o (inl refl), c)
    go false c = tt

-- ---- messages

pub unstable_in : (H : History) (o : Op) → IsIn o (unstable H) → IsIn o (ops H)
unfolding unstable
unstable_in H o p = (in_filter (λ x. not (is_covered (stable H) x)) o (ops H) p).0

-- whatever the sender takes to be known
spelled_message : (t : State) (r : List ℕ) → IsStorable t → let m = rules.message_for (plain_of t.history) r in IsMessage (message_bytes m) m
spelled_message t r s =
    let H = t.history in
    let n = members_of H in
    let head = legal_head H s.legal in
    let most = (foot H s.legal).1 in
    let missing = missing_for r (unstable H) in
    let few = front_fits (head_size n) INPUT_BYTES missing (omega arith) in
    let counted = ops_within (front_within (head_size n) INPUT_BYTES missing) in
    let m : IsSpelledMessage (rules.message_for (plain_of H) r) = record {
      group = head.group_fits;
      members = head.members_fit;
      from = head.me_fits;
      vector = (length-count H, small_chain None (count H) (counts_small H s.legal));
      count = omega (arith, few, counted);
      ops = front_each {P = IsSpelled n} (head_size n) INPUT_BYTES None missing (λ o p. accepted_spelled H s.accepted o (unstable_in H o (in_filter (λ x. not (is_covered r x)) o (unstable H) p).0));
    } in
    (3, refl, m, refl)

pub sent_is_message : SentIsMessage
unfolding message_for
sent_is_message t to s = spelled_message t (row t.history to) s

pub told_is_message : ToldIsMessage
unfolding message_told
told_is_message t to told s = spelled_message t (told_row t.history to told) s
