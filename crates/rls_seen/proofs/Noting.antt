-- Noting an acknowledgement, seen by a history that the replica stands for.
use Rattle.std.proofs.Common.{◌≡◌, ℕ, ◌<◌, ◌==◌, ◌&&◌, not, nat_le, slice_index, Bool, true, false, cond, List, [], length, get_or, set, refl, sym, ap, ◌∙◌, subst, arith}
use Rattle.std.proofs.lemmas.List.{get_or-set_same, get_or-set_other}
use Rattle.rls_ident.specs.Vectors.{at_most, join}
use Rattle.rls_ident.proofs.Members.{bool_cases, eq_is, eq_not}
use Rattle.rls_ident.proofs.Vectors.{at_most_trans}
use Rattle.rls_ops.specs.Rows.{row_of, noted}
use Rattle.rls_ops.specs.Rows as rows
use Rattle.rls_ops.proofs.KeptRows.{noted_rows}
use Rattle.rls_model.specs.History.{Then, Acknowledged, me_of, members_of, count, row}
use Rattle.rls_model.specs.History as history
use Rattle.rls_model.specs.Legal.{IsLegal}
use Rattle.rls_model.specs.Receiving.{State}
use Rattle.rls_model.specs.Stability.{stable, is_counted}
use Rattle.rls_model.specs.Taking.{acknowledge}
use Rattle.rls_model.specs.WellFormed.{IsVector}
use Rattle.rls_model.proofs.Later.{window_step}
use Rattle.rls_model.proofs.Stable.{stable_grows}
use Rattle.rls_model.proofs.TextSteps.{export_acknowledged}
use Rattle.rls_model.proofs.WaitingFits.{waiting_at, sound_grown}
use Rattle.rls_seen.specs.Seen.{Seen, members}
use Rattle.rls_seen.specs.Over.{acknowledged}
use Rattle.rls_seen.specs.Stands.{StandsFor}
use Rattle.rls_seen.proofs.Alike.{members_alike, keeping, keeps_back}

-- ---- by a history that the replica stands for

-- the same is counted
pub counted_alike : (s : Seen) (t : State) (a : ℕ) (v : List ℕ) → a < members_of t.history → StandsFor s t → rows.counts s.acks a v ≡ is_counted t.history a v
counted_alike s t a v m h =
    ap (λ n. not (a == n) && nat_le (slice_index v a) (slice_index s.acks.mine a) && not (at_most v (row_of s.acks a))) h.me
    ∙ (ap (λ w. not (a == me_of t.history) && nat_le (slice_index v a) (slice_index w a) && not (at_most v (row_of s.acks a))) h.vector
    ∙ ap (λ w. not (a == me_of t.history) && nat_le (slice_index v a) (slice_index (count t.history) a) && not (at_most v w)) (h.rows a m))

other_row : (s : Seen) (t : State) (c : ℕ) → StandsFor s t → c < members_of t.history → (c == me_of t.history) ≡ false → get_or s.acks.others c [] ≡ history.acknowledged t.history c
other_row s t c h m e =
    sym (ap (λ b. cond b (count t.history) (get_or s.acks.others c [])) e)
    ∙ (sym (ap (λ v. cond (c == me_of t.history) v (get_or s.acks.others c [])) h.vector)
    ∙ (sym (ap (λ me. cond (c == me) s.acks.mine (get_or s.acks.others c [])) h.me)
    ∙ (h.rows c m ∙ ap (λ b. cond b (count t.history) (history.acknowledged t.history c)) e)))

noted_row : (s : Seen) (t : State) (a : ℕ) (v : List ℕ) → StandsFor s t → a < length s.acks.others → (c : ℕ) → c < members_of t.history → row_of (noted s.acks a v) c ≡ row (Then t.history (Acknowledged a v)) c
noted_row s t a v h l c m =
    let H = t.history in
    let new = join (get_or s.acks.others a []) v in
    let old = get_or s.acks.others c [] in
    let left = get_or (set s.acks.others a new) c [] in
    let right = history.acknowledged (Then H (Acknowledged a v)) c in
    ap (λ me. cond (c == me) s.acks.mine left) h.me
    ∙ (ap (λ w. cond (c == me_of H) w left) h.vector
    ∙ bool_cases (c == me_of H)
    (λ e. ap (λ b. cond b (count H) left) e ∙ sym (ap (λ b. cond b (count H) right) e))
    (λ e. ap (λ b. cond b (count H) left) e
    ∙ (bool_cases (c == a)
    (λ f. let q : a ≡ c = sym (eq_is c a f) in
    subst (λ d. get_or (set s.acks.others a new) d [] ≡ new) q (get_or-set_same s.acks.others a new [] l)
    ∙ (ap (λ d. join (get_or s.acks.others d []) v) q
    ∙ (ap (λ w. join w v) (other_row s t c h m e)
    ∙ sym (ap (λ b. cond b (join (history.acknowledged H c) v) (history.acknowledged H c)) f))))
    (λ f. get_or-set_other s.acks.others a c new [] (eq_not c a f)
    ∙ (other_row s t c h m e
    ∙ sym (ap (λ b. cond b (join (history.acknowledged H c) v) (history.acknowledged H c)) f)))
    ∙ sym (ap (λ b. cond b (count H) right) e))))

noted_go : (b : Bool) (s : Seen) (t : State) (a : ℕ) (v : List ℕ) → a < members_of t.history → IsVector (members_of t.history) v → is_counted t.history a v ≡ b → StandsFor s t
    → StandsFor (record { group = s.group; acks = cond b (noted s.acks a v) s.acks; stems = s.stems; epochs = s.epochs; text = s.text; waiting = s.waiting; log = s.log })
    (cond b (record { history = Then t.history (Acknowledged a v); waiting = t.waiting }) t)
noted_go true s t a v m w e h =
    let H = t.history in
    let K = Then H (Acknowledged a v) in
    let l : IsLegal K = (h.legal, (m, w), e) in
    let n = members_alike s t h in
    let k : a < members s = omega arith in
    let i : a < length s.acks.others = let r = h.places.rows in omega arith in
    record {
      legal = l;
      sound = sound_grown H K t.waiting refl (λ x p. (waiting_at H t.waiting x h.sound p).2) h.sound;
      group = h.group;
      me = h.me;
      vector = h.vector;
      places = noted_rows s.acks a v h.places k (w.0 ∙ sym n);
      rows = noted_row s t a v h i;
      left = h.left;
      stems = h.stems;
      epochs = keeps_back s.epochs K (window_step H (Acknowledged a v) l s.epochs.top s.epochs.nodes (keeping s t h));
      text = h.text ∙ sym (export_acknowledged H a v);
      waiting = h.waiting;
      log = (h.log.0, record { stable = at_most_trans h.log.0 (stable H) (stable K) h.log.1.stable (stable_grows H (Acknowledged a v) l); kept = h.log.1.kept });
    }
noted_go false s t a v m w e h = h

-- an acknowledgement is noted by both
pub acknowledged_stands : (s : Seen) (t : State) (a : ℕ) (v : List ℕ) → a < members s → IsVector (members s) v → StandsFor s t → StandsFor (acknowledged s a v) (acknowledge t a v)
unfolding acknowledged
acknowledged_stands s t a v m w h =
    let n = members_alike s t h in
    let k : a < members_of t.history = omega arith in
    subst (λ b. StandsFor (record { group = s.group; acks = cond b (noted s.acks a v) s.acks; stems = s.stems; epochs = s.epochs; text = s.text; waiting = s.waiting; log = s.log }) (acknowledge t a v))
    (sym (counted_alike s t a v k h))
    (noted_go (is_counted t.history a v) s t a v k (subst (λ c. IsVector c v) n w) refl h)

-- the same answer
pub acknowledged_alike : (s : Seen) (t : State) (a : ℕ) (v : List ℕ) → a < members s → StandsFor s t → rows.counts s.acks a v ≡ is_counted t.history a v
acknowledged_alike s t a v m h = let n = members_alike s t h in counted_alike s t a v (omega arith) h
