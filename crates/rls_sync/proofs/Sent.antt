-- The message for a member keeps the rules of the format where each kept operation is within the limit.
use Rattle.std.proofs.Common.{◌≡◌, ◌∙◌, ◌<◌, ◌≤◌, ◌+◌, ◌-◌, ◌^◌, ◌++◌, ℕ, true, false, Bool, List, [], ◌∷◌, length, take, refl, sym, ap, subst, append_assoc, append-nil, arith, inl, inr}
use Rattle.std.specs.Prelude.{All, nat_le, nat_lt, not, if◌then◌else◌}
use Rattle.std.proofs.lemmas.List.Elements.{All-cons, All-filter, All-head, All-nil, All-tail}
use Rattle.rls_ident.specs.declared.limits.TheConstants.{MEMBERS, INPUT_BYTES, OPERATION_BYTES}
use Rattle.rls_ident.specs.Lists.{IsIn}
use Rattle.rls_ident.specs.Vectors.{raise}
use Rattle.rls_ident.proofs.Members.{and_true, le_test, lt_test}
use Rattle.rls_ops.specs.declared.op.Op.{Op}
use Rattle.rls_ops.specs.Rows.{is_covered, missing_for}
use Rattle.rls_ops.specs.Spelling.{counted, message_bytes, message_head, message_in_form, op_bytes}
use Rattle.rls_ops.specs.Sizes.{front_within, head_size, op_size}
use Rattle.rls_ops.proofs.Fronts.{front_from}
use Rattle.rls_ops.proofs.Shaped.{shaped}
use Rattle.rls_codec.specs.CodecLaws.{IsMessage}
use Rattle.rls_codec.specs.Spelled.{IsFit, IsFitAmong, IsSpelledIfFit}
use Rattle.rls_codec.proofs.Fits.{message_fits}
use Rattle.rls_codec.proofs.SizeLaws.{few_ops}
use Rattle.rls_seen.proofs.Sending.{beyond_fits as within_input}
use Rattle.rls_sync.specs.Heads.{start_of}
use Rattle.rls_seen.specs.Messages.{message_beyond}
use Rattle.rls_seen.specs.Sane.{Follow, IsSane}
use Rattle.rls_seen.specs.Seen.{Seen, members, vector}

pub front_all : (P : Op → Type 0) (used limit : ℕ) (os : List Op) → All P os → All P (front_within used limit os)
front_all P used limit [] a = a
front_all P used limit (o ∷ os) a = go (nat_le (used + op_size o) limit) (All-head P o os a) (front_all P (used + op_size o) limit os (All-tail P o os a))
  where
    go : (b : Bool) → P o → All P (front_within (used + op_size o) limit os) → All P (if b then o ∷ front_within (used + op_size o) limit os else [])
    go true p f = All-cons P o (front_within (used + op_size o) limit os) p f
    go false p f = All-nil P

log_fits : (n : ℕ) (from : List ℕ) (os : List Op) (to : List ℕ) → Follow n from os to → ((o : Op) → IsIn o os → op_size o ≤ OPERATION_BYTES) → All (IsFitAmong n) os
log_fits n from [] to f few = All-nil (IsFitAmong n)
log_fits n from (o ∷ os) to f few = All-cons (IsFitAmong n) o os (f.0.body, few o (inl refl), (shaped n o f.1).context) (log_fits n (raise from o.author) os to f.4 (λ x p. few x (inr p)))

pub message_fit : (s : Seen) (known : List ℕ) → IsSane s → ((o : Op) → IsIn o s.log → op_size o ≤ OPERATION_BYTES) → IsFit (message_beyond s known)
unfolding message_beyond
message_fit s known h few =
    let n = members s in
    let member = h.rows.member in
    let log = h.log in
    record {
      members = and_true (nat_lt 0 n) (nat_le n MEMBERS) (lt_test 0 n (omega (arith, member))) (le_test n MEMBERS h.few);
      from = member;
      vector = refl;
      ops = front_all (IsFitAmong n) (head_size n) INPUT_BYTES _ (All-filter (λ o. not (is_covered known o)) (IsFitAmong n) s.log (log_fits n log.0 s.log (vector s) log.1.follow few));
    }

-- ---- the message as it is put

-- the operations that are put are those of the message
pub sent_ops : (s : Seen) (known : List ℕ) (end room : ℕ) → members s ≤ MEMBERS → room ≡ INPUT_BYTES - head_size (members s)
    → missing_for known (take end s.log) ≡ front_within 0 room (missing_for known s.log) → missing_for known (take end s.log) ≡ (message_beyond s known).ops
unfolding message_beyond
sent_ops s known end room few r e =
    e ∙ ap (λ n. front_within 0 n (missing_for known s.log)) r ∙ sym (front_from (head_size (members s)) INPUT_BYTES (missing_for known s.log) (omega arith))

pub sent_log : (s : Seen) (known : List ℕ) (log : List Op) (end head : ℕ) → members s ≤ MEMBERS → head ≡ head_size (members s) → log ≡ s.log
    → missing_for known (take end log) ≡ front_within 0 (INPUT_BYTES - head) (missing_for known log) → missing_for known (take end log) ≡ (message_beyond s known).ops
sent_log s known log end head few h l e =
    ap (λ (os : List Op). missing_for known (take end os)) l
    ∙ sent_ops s known end (INPUT_BYTES - head) few (ap (λ n. INPUT_BYTES - n) h) (subst (λ (os : List Op). missing_for known (take end os) ≡ front_within 0 (INPUT_BYTES - head) (missing_for known os)) l e)

pub message_put : (s : Seen) (known : List ℕ) (ops : List Op) → ops ≡ (message_beyond s known).ops → start_of s ++ counted op_bytes ops ≡ message_bytes (message_beyond s known)
unfolding message_beyond message_head message_in_form
message_put s known ops e = ap (λ os. start_of s ++ counted op_bytes os) e ∙ simp (append_assoc, append-nil)

pub few_sent : (s : Seen) (known : List ℕ) → members s ≤ MEMBERS → length (message_beyond s known).ops < 2 ^ 32
few_sent s known few = few_ops (message_beyond s known) (within_input s known few)

-- what is put is a message
pub sent_message : (s : Seen) (known bytes : List ℕ) → IsSane s → bytes ≡ message_bytes (message_beyond s known) → All IsSpelledIfFit s.log → ((o : Op) → IsIn o s.log → op_size o ≤ OPERATION_BYTES) → IsMessage bytes (message_beyond s known)
unfolding message_beyond
sent_message s known bytes h e spelled few =
    message_fits bytes (message_beyond s known) e h.group h.small (few_sent s known h.few)
    (front_all IsSpelledIfFit (head_size (members s)) INPUT_BYTES _ (All-filter (λ o. not (is_covered known o)) IsSpelledIfFit s.log spelled)) (message_fit s known h few)
