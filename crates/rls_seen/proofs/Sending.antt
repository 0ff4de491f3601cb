-- The message for a member, seen by a history that the replica stands for.
use Rattle.std.proofs.Common.{◌≡◌, ℕ, zero, suc, ◌<◌, ◌≤◌, ◌||◌, not, nat_le, slice_index, Bool, true, false, cond, List, [], ◌∷◌, length, max, refl, sym, ap, ◌∙◌, subst, arith, if◌then◌else◌}
use Rattle.std.proofs.lemmas.Bool.Decides.{nat_tests}
use Rattle.rls_ident.specs.declared.limits.TheConstants.{MEMBERS, INPUT_BYTES}
use Rattle.rls_ident.specs.Vectors.{join, meet}
use Rattle.rls_ident.proofs.Vectors.{length-meet, length-join, index-join}
use Rattle.rls_ops.specs.declared.op.Op.{Op}
use Rattle.rls_ops.specs.declared.message.Message.{Message}
use Rattle.rls_ops.specs.Rows.{AcksSeen, AreRows, HaveLength, row_of, awaits, awaited, least_of, stable_of, is_covered, missing_for}
use Rattle.rls_ops.specs.Sizes.{head_size, message_size}
use Rattle.rls_model.specs.History.{members_of, row}
use Rattle.rls_model.specs.Receiving.{State}
use Rattle.rls_model.specs.Rules.{told_of}
use Rattle.rls_model.specs.Rules as rules
use Rattle.rls_model.specs.View.{Plain, plain_of}
use Rattle.rls_model.specs.Taking.{front_within, message_for, message_told}
use Rattle.rls_seen.specs.Seen.{Seen, members, stable_over, vector}
use Rattle.rls_seen.specs.Messages.{known_over, message_beyond, message_over, message_told_over}
use Rattle.rls_seen.specs.Stands.{StandsFor}
use Rattle.rls_seen.specs.View.{plain}
use Rattle.rls_model.proofs.OnePlace.{length-set}
use Rattle.rls_seen.proofs.Alike.{members_alike}
use Rattle.rls_seen.proofs.Editing.{plain_alike}
use Rattle.rls_ops.proofs.KeptRows.{lengths_append, length-row}
use Rattle.rls_ops.proofs.Fronts.{front_fits}

-- ---- lengths

length-least_of : (v : List ℕ) (ws : List (List ℕ)) → HaveLength (length v) ws → length (least_of v ws) ≡ length v
length-least_of v [] h = refl
length-least_of v (w ∷ ws) h =
    let e : length (meet v w) ≡ length v = length-meet v w (sym h.0) ∙ h.0 in
    length-least_of (meet v w) ws (subst (λ n. HaveLength n ws) (sym e) h.1) ∙ e

awaited_length : (acks : AcksSeen) → AreRows acks → (n : ℕ) → n ≤ length acks.mine → HaveLength (length acks.mine) (awaited acks n)
awaited_length acks h zero l = tt
awaited_length acks h (suc n) l =
    lengths_append (length acks.mine) (awaited acks n) (if awaits acks n then row_of acks n ∷ [] else []) (awaited_length acks h n (omega arith)) (go (awaits acks n) (length-row acks n h (omega arith)))
  where
    go : (b : Bool) → length (row_of acks n) ≡ length acks.mine → HaveLength (length acks.mine) (cond b (row_of acks n ∷ []) [])
    go true e = (e, tt)
    go false e = tt

pub length-stable : (acks : AcksSeen) → AreRows acks → length (stable_of acks) ≡ length acks.mine
unfolding stable_of
length-stable acks h = length-least_of acks.mine (awaited acks (length acks.mine)) (awaited_length acks h (length acks.mine) (omega arith))

-- ---- what neither of two vectors covers

max_le : (q x y : ℕ) → nat_le q (max x y) ≡ (nat_le q x || nat_le q y)
max_le q x y = grind (arith, nat_tests)

joined_covers : (v w : List ℕ) (o : Op) → length v ≡ length w → is_covered (join v w) o ≡ (is_covered v o || is_covered w o)
joined_covers v w o e = ap (nat_le o.seq) (index-join v w o.author e) ∙ max_le o.seq (slice_index v o.author) (slice_index w o.author)

missing_joined : (v w : List ℕ) (os : List Op) → length v ≡ length w → missing_for (join v w) os ≡ missing_for v (missing_for w os)
missing_joined v w [] e = refl
missing_joined v w (o ∷ os) e =
    ap (λ b. cond (not b) (o ∷ missing_for (join v w) os) (missing_for (join v w) os)) (joined_covers v w o e)
    ∙ go (is_covered v o) refl (is_covered w o) (missing_joined v w os e)
  where
    go : (b : Bool) → is_covered v o ≡ b → (c : Bool) → missing_for (join v w) os ≡ missing_for v (missing_for w os)
        → cond (not (b || c)) (o ∷ missing_for (join v w) os) (missing_for (join v w) os) ≡ missing_for v (cond (not c) (o ∷ missing_for w os) (missing_for w os))
    go true f true ih = ih
    go true f false ih = ih ∙ sym (ap (λ b. cond (not b) (o ∷ missing_for v (missing_for w os)) (missing_for v (missing_for w os))) f)
    go false f true ih = ih
    go false f false ih = ap (λ ps. o ∷ ps) ih ∙ sym (ap (λ b. cond (not b) (o ∷ missing_for v (missing_for w os)) (missing_for v (missing_for w os))) f)

-- ---- the message

message_with : Plain → List Op → Message
message_with v os = record { group = v.group; members = v.members; from = v.me; vector = v.vector; ops = front_within (head_size v.members) INPUT_BYTES os }

-- of what a row doesn't cover, the same message
beyond_alike : (s : Seen) (t : State) (r : List ℕ) → length r ≡ length (stable_over s) → StandsFor s t → message_beyond s (join r (stable_over s)) ≡ rules.message_for (plain_of t.history) r
unfolding message_beyond message_with
beyond_alike s t r e h = ap (message_with (plain s)) (missing_joined r (stable_over s) s.log e) ∙ ap (λ v. rules.message_for v r) (plain_alike s t h)

row_length : (s : Seen) (t : State) (to : ℕ) → to < members s → StandsFor s t → length (row_of s.acks to) ≡ length (stable_over s)
row_length s t to l h = length-row s.acks to h.places l ∙ sym (length-stable s.acks h.places)

-- the same message
pub message_alike : (s : Seen) (t : State) (to : ℕ) → to < members s → StandsFor s t → message_over s to ≡ message_for t.history to
unfolding message_for
message_alike s t to l h =
    let n = members_alike s t h in
    let k : to < members_of t.history = omega arith in
    beyond_alike s t (row_of s.acks to) (row_length s t to l h) h ∙ ap (rules.message_for (plain_of t.history)) (h.rows to k)

-- by counts that the member told
pub told_alike : (s : Seen) (t : State) (to : ℕ) (told : List ℕ) → to < members s → length told ≡ members s → StandsFor s t → message_told_over s to told ≡ message_told t.history to told
unfolding message_told
told_alike s t to told l e h =
    let n = members_alike s t h in
    let k : to < members_of t.history = omega arith in
    let its = told_of (vector s) to told in
    let same : length (row_of s.acks to) ≡ length its = length-row s.acks to h.places l ∙ sym (length-set told to (slice_index (vector s) to) ∙ e) in
    let whole : length (join (row_of s.acks to) its) ≡ length (stable_over s) = length-join (row_of s.acks to) its same ∙ (length-set told to (slice_index (vector s) to) ∙ (e ∙ sym (length-stable s.acks h.places))) in
    beyond_alike s t (join (row_of s.acks to) its) whole h
    ∙ ap (rules.message_for (plain_of t.history)) (ap (λ v. join v its) (h.rows to k) ∙ ap (λ v. join (row t.history to) (told_of v to told)) h.vector)

-- ---- its size

pub beyond_fits : (s : Seen) (known : List ℕ) → members s ≤ MEMBERS → message_size (message_beyond s known) ≤ INPUT_BYTES
unfolding message_beyond
beyond_fits s known h = front_fits (head_size (members s)) INPUT_BYTES _ (omega (arith, h))

pub message_fits : (s : Seen) (to : ℕ) → members s ≤ MEMBERS → message_size (message_over s to) ≤ INPUT_BYTES
message_fits s to h = beyond_fits s (known_over s to) h
