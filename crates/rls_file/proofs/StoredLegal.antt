-- What is read as a journal is a legal history with sound waiting operations, and may be stored again.
use Rattle.std.proofs.Common.{◌≡◌, ℕ, true, false, List, [], ◌∷◌, Option, Some, None, refl, subst, inl, inr}
use Rattle.std.specs.Prelude.{nat_le, nat_lt}
use Rattle.std.specs.List.{list_all}
use Rattle.rls_ident.specs.declared.limits.TheConstants.{MEMBERS}
use Rattle.rls_ident.specs.Lists.{IsIn}
use Rattle.rls_ident.specs.Vectors.{at_most}
use Rattle.rls_ident.proofs.Members.{and_left, and_right, and_true, le_is, none_found}
use Rattle.rls_ops.specs.declared.op.Op.{Op}
use Rattle.rls_ops.proofs.Waiting.{before_trans}
use Rattle.rls_codec.specs.Spelled.{Chained, IsSpelled}
use Rattle.rls_codec.proofs.SpelledSound.{spelled_op, fits_vector}
use Rattle.rls_model.specs.Answers.{Answer, Applies, Repeats, Waits, Refuses}
use Rattle.rls_model.specs.History.{Accepted, Acknowledged, History, Fresh, Then, group_of, me_of, members_of}
use Rattle.rls_model.specs.History.{count as count_in}
use Rattle.rls_model.specs.Legal.{MayAccept, AreWaiting, IsLegal}
use Rattle.rls_model.specs.Receiving.{State, answer, comes_before}
use Rattle.rls_model.proofs.Answered.{answer_applies}
use Rattle.rls_parts.specs.Rules.{may_wait}
use Rattle.rls_parts.proofs.RestoredLog.{MayWait, may_wait_is}
use Rattle.rls_file.specs.ReadingFiles.{applies, may_be_next}
use Rattle.rls_file.specs.SpelledFiles.{IsReadable, IsHead, IsSpelledJournal}
use Rattle.rls_file.specs.FileLaws.{AreSpelled}
use Rattle.rls_file.specs.Storable.{IsStorable}

-- ---- what an answer says

pub applies_is : (a : Answer) → applies a ≡ true → a ≡ Applies
applies_is Applies e = refl
applies_is Repeats e = absurd (cc)
applies_is Waits e = absurd (cc)
applies_is (Refuses r) e = absurd (cc)

-- ---- histories

next_accepted : (H : History) (o : Op) → may_be_next H o ≡ true → MayAccept H o
next_accepted H o e = answer_applies true H [] o (applies_is (answer true H [] o) e)

pub readable_legal : (H : History) → IsHead 1 (group_of H) (members_of H) (me_of H) → IsReadable H → IsLegal H
readable_legal (Fresh group me members) h r = (h.group_fits, h.me_fits, le_is members MEMBERS (and_right (nat_lt 0 members) (nat_le members MEMBERS) h.members_fit))
readable_legal (Then H (Accepted o)) h r = (readable_legal H h r.0, spelled_op (members_of H) o r.1.0, next_accepted H o r.1.1)
readable_legal (Then H (Acknowledged a v)) h r = (readable_legal H h r.0, (r.1.1, fits_vector (members_of H) v r.1.2), r.1.3)

pub readable_spelled : (H : History) → IsReadable H → AreSpelled H
readable_spelled (Fresh group me members) r = tt
readable_spelled (Then H (Accepted o)) r = (readable_spelled H r.0, r.1.0)
readable_spelled (Then H (Acknowledged a v)) r = readable_spelled H r.0

-- ---- what waits

abbrev IsNextWaiting : ℕ → ℕ → List ℕ → Option Op → Op → Type 0
IsNextWaiting members me v before o = IsSpelled members o × (may_wait members me v before o ≡ true)

-- the first comes before each after it
first_before : (members me : ℕ) (v : List ℕ) (w : Op) (ws : List Op) → Chained (IsNextWaiting members me v) (Some w) ws → list_all (λ p. comes_before w p) ws ≡ true
first_before members me v w [] c = refl
first_before members me v w (x ∷ xs) c =
    let b = (may_wait_is members me v (Some w) x c.0.1).behind in
    and_true (comes_before w x) (list_all (λ p. comes_before w p) xs) b (later w x xs b (first_before members me v x xs c.1))
  where
    later : (w x : Op) (ys : List Op) → comes_before w x ≡ true → list_all (λ p. comes_before x p) ys ≡ true → list_all (λ p. comes_before w p) ys ≡ true
    later w x [] b h = refl
    later w x (y ∷ ys) b h =
        let t = list_all (λ p. comes_before x p) ys in
        and_true (comes_before w y) (list_all (λ p. comes_before w p) ys) (before_trans w x y b (and_left (comes_before x y) t h)) (later w x ys b (and_right (comes_before x y) t h))

chain_waits : (H : History) (before : Option Op) (ws : List Op) → Chained (IsNextWaiting (members_of H) (me_of H) (count_in H)) before ws → AreWaiting H ws
chain_waits H before [] c = tt
chain_waits H before (w ∷ ws) c =
    let m = may_wait_is (members_of H) (me_of H) (count_in H) before w c.0.1 in
    (spelled_op (members_of H) w c.0.0, m.shape, m.above, first_before (members_of H) (me_of H) (count_in H) w ws c.1, chain_waits H (Some w) ws c.1)

-- what holds of each one
chain_each : {P : Op → Type 0} (members me : ℕ) (v : List ℕ) → ((before : Option Op) (w : Op) → IsSpelled members w → MayWait members me v before w → P w) →
    (before : Option Op) (ws : List Op) → Chained (IsNextWaiting members me v) before ws → (w : Op) → IsIn w ws → P w
chain_each members me v f before [] c w p = absurd p
chain_each {P = P} members me v f before (x ∷ xs) c w (inl e) = subst P e (f before x c.0.0 (may_wait_is members me v before x c.0.1))
chain_each members me v f before (x ∷ xs) c w (inr p) = chain_each members me v f (Some x) xs c.1 w p

-- ---- journals

pub spelled_storable : (t : State) → IsSpelledJournal t → IsStorable t
spelled_storable t j =
    let H = t.history in
    let c = j.waiting.1 in
    record {
      legal = readable_legal H j.head j.entries;
      sound = chain_waits H None t.waiting c;
      accepted = readable_spelled H j.entries;
      waiting = chain_each {P = λ w. IsSpelled (members_of H) w} (members_of H) (me_of H) (count_in H) (λ before w s m. s) None t.waiting c;
      others = chain_each {P = λ w. w.author ≡ me_of H → ⊥} (members_of H) (me_of H) (count_in H) (λ before w s m. m.other) None t.waiting c;
      rest = none_found (λ w. at_most w.context (count_in H)) t.waiting
          (chain_each {P = λ w. at_most w.context (count_in H) ≡ false} (members_of H) (me_of H) (count_in H) (λ before w s m. m.causes) None t.waiting c);
    }
