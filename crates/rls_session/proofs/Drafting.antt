-- What becomes of a draft, case by case.
use Rattle.std.proofs.Common.{◌≡◌, ◌∙◌, ◌<◌, ◌≤◌, ◌+◌, ◌&&◌, ℕ, Bool, true, false, cond, eqb, nat_lt, List, [], ◌∷◌, length, Some, None, Result, Ok, Err, IfOk, OnOk, refl, sym, ap, subst, arith}
use Rattle.std.proofs.lemmas.Bool.Decides.{nat_tests}
use Rattle.std.proofs.lemmas.List.{length-map}
use Rattle.rls_file.specs.Stored.{AreWritable}
use Rattle.rls_file.proofs.Storable.{IsSized, all_sized, edited_sized, sized}
use Rattle.std.specs.Prelude.{◌-◌, ◌^◌, nat_le, not}
use Rattle.rls_ident.proofs.Members.{and_left, and_right, le_is, not_is}
use Rattle.rls_model.specs.declared.edit.Edit.{Edit}
use Rattle.rls_model.specs.declared.edit.Edit.TheVariants.{Insert, Delete}
use Rattle.rls_model.specs.EditParts.{or_fault}
use Rattle.rls_model.specs.WellFormed.{IsText}
use Rattle.rls_model.proofs.Made.{or_none}
use Rattle.rls_runs.proofs.Sorted.{Entry}
use Rattle.rls_seen.specs.Edits.{edit_fault_over}
use Rattle.rls_seen.specs.Over.{released_all}
use Rattle.rls_seen.specs.Sane.{IsSane}
use Rattle.rls_seen.specs.Seen.{Seen, text_over}
use Rattle.rls_seen.proofs.EditedText.{delete_place, insert_place}
use Rattle.rls_session.specs.declared.draft.Draft.{Draft}
use Rattle.rls_codec.specs.Reading.{message_of}
use Rattle.rls_session.specs.declared.orders.Order.{Order}
use Rattle.rls_session.specs.declared.orders.Order.TheVariants as orders
use Rattle.rls_session.specs.Answering.{IsAnswered}
use Rattle.rls_session.specs.Answers.{Kind, Sitting, answer, done, made_sitting, take_told, with_state}
use Rattle.rls_session.specs.Replies.{noted_text}
use Rattle.rls_session.specs.Requests.{Does, Takes}
use Rattle.rls_session.specs.Drafts.{is_none, is_small, joins, merged, no_draft, touches}
use Rattle.rls_session.specs.Seats.{IsDrafted, Seat, at_rest, at_work, begun_at, changed, draft_fault, goes_before, goes_with, insertion_fault, made_all, made_each, making_fault, plan, replacing, respond, says_at, seat_of, seated}
use Rattle.rls_session.specs.Sessions.{by_parts}
use Rattle.rls_session.proofs.Fitting.{AreFit, made_draft}

-- ---- tests of numbers

is_zero : (n : ℕ) → n ≡ 0 → eqb n 0 ≡ true
is_zero n e = rw e refl

is_more : (n : ℕ) → 0 < n → eqb n 0 ≡ false
is_more n h = grind (arith, nat_tests)

-- ---- the edits of a draft

module _ {X : Type 0} (K : Kind X) (s : X) (p : Draft) where
  plan_replaces : 0 < p.count → 0 < length p.text → plan K s p ≡ replacing (goes_before K s p) p
  plan_replaces h k = rw (is_more p.count h, is_more (length p.text) k) refl

  fault_inserts : p.count ≡ 0 → draft_fault K s p ≡ K.fault s (Insert p.at p.text)
  fault_inserts e = rw (is_zero p.count e) refl

  pub fault_some : is_none p ≡ false → making_fault K s p ≡ None → draft_fault K s p ≡ None
  fault_some e h = subst (λ (b : Bool). cond b None (draft_fault K s p) ≡ None) e h

  pub drafted_so : draft_fault K s p ≡ None → making_fault K s p ≡ None
  drafted_so e = go (is_none p)
    where
      go : (b : Bool) → cond b None (draft_fault K s p) ≡ None
      go true = refl
      go false = e

-- after its edits
pub made_some : {X : Type 0} (K : Kind X) (d : Sitting X) (p : Draft) → is_none p ≡ false → at_work K (seat_of d p) ≡ at_rest K (made_each K d (plan K d.state p))
made_some {X} K d p e = go (eqb p.count 0) (eqb (length p.text) 0) e
  where
    edits : Bool → Bool → List Edit
    edits a b = cond a (cond b [] (Insert p.at p.text ∷ [])) (cond b (Delete p.at p.count ∷ []) (replacing (goes_before K d.state p) p))

    go : (a b : Bool) → (a && b) ≡ false → made_all K d (edits a b) ≡ at_rest K (made_each K d (edits a b))
    go true true e = cc
    go true false e = refl
    go false true e = refl
    go false false e = refl

-- ---- a replica that may be written

each_sized : (d : Sitting Seen) (es : List Edit) → AreFit d.state es → IsSized d.state → IsSized (made_each by_parts d es).state
each_sized d [] w h = h
each_sized d (e ∷ es) w h = each_sized (made_sitting by_parts d e) es w.2 (edited_sized d.state e h w.1)

pub made_writable : (d : Sitting Seen) (es : List Edit) → AreFit d.state es → AreWritable d.state → AreWritable (made_all by_parts d es).state
made_writable d [] w h = h
made_writable d (e ∷ es) w h = all_sized (made_each by_parts d (e ∷ es)).state (each_sized d (e ∷ es) w (sized d.state h))

pub at_work_writable : (d : Sitting Seen) (p : Draft) → IsSane d.state → IsText p.text → making_fault by_parts d.state p ≡ None → AreWritable d.state → AreWritable (at_work by_parts (seat_of d p)).state
at_work_writable d p sane text h w = made_writable d (plan by_parts d.state p) (made_draft d p sane text h).fit w

-- ---- a draft is made

pub insertion_alone : (s : Seen) (p : Draft) → p.count ≡ 0 → draft_fault by_parts s p ≡ None → edit_fault_over s (Insert p.at p.text) ≡ None
insertion_alone s p e h = sym (fault_inserts by_parts s p e) ∙ h

pub deletion_first : (s : Seen) (p : Draft) → 0 < p.count → draft_fault by_parts s p ≡ None → edit_fault_over s (Delete p.at p.count) ≡ None
deletion_first s p some h =
    let f = edit_fault_over s (Delete p.at p.count) in
    let g = insertion_fault by_parts s p in
    (or_none f g (subst (λ (b : Bool). cond b (edit_fault_over s (Insert p.at p.text)) (or_fault f g) ≡ None) (is_more p.count some) h)).0

pub made_replacing : (d : Sitting Seen) (p : Draft) → 0 < p.count → 0 < length p.text → made_each by_parts d (plan by_parts d.state p) ≡ made_each by_parts d (replacing (goes_before by_parts d.state p) p)
made_replacing d p some text = ap (made_each by_parts d) (plan_replaces by_parts d.state p some text)

pub replacing_fits : (d : Sitting Seen) (p : Draft) → IsSane d.state → IsText p.text → 0 < p.count → 0 < length p.text → draft_fault by_parts d.state p ≡ None → AreFit d.state (replacing (goes_before by_parts d.state p) p)
replacing_fits d p sane text some more h = subst (AreFit d.state) (plan_replaces by_parts d.state p some more) (made_draft d p sane text (drafted_so by_parts d.state p h)).fit

-- on the side that was found
pub side_is : (d : Sitting Seen) (p : Draft) (s : Seen) (b side : Bool) → s ≡ d.state → b ≡ goes_before by_parts s p → b ≡ side → side ≡ goes_before by_parts d.state p
side_is d p s b side f found is = sym is ∙ found ∙ ap (λ (x : Seen). goes_before by_parts x p) f

pub side_fits : (d : Sitting Seen) (p : Draft) (r s : Seen) (b side : Bool) → r ≡ d.state → IsSane r → s ≡ d.state → b ≡ goes_before by_parts s p → b ≡ side → IsText p.text → 0 < p.count → 0 < length p.text → draft_fault by_parts d.state p ≡ None → AreFit d.state (replacing side p)
side_fits d p r s b side e sane f found is text some more h =
    subst (λ (x : Bool). AreFit d.state (replacing x p)) (sym (side_is d p s b side f found is)) (replacing_fits d p (subst IsSane e sane) text some more h)

-- ---- a change goes on with a draft

-- the replica's text has so many characters
pub total_is : (s : Seen) → length (text_over s) ≡ length s.text
total_is s = length-map s.text (λ (e : Entry). e.1)

pub draft_within : (s : Seen) (p : Draft) → is_none p ≡ false → making_fault by_parts s p ≡ None → p.at + p.count ≤ length s.text
draft_within s p some h = go (eqb p.count 0) refl (fault_some by_parts s p some h)
  where
    go : (a : Bool) → eqb p.count 0 ≡ a → draft_fault by_parts s p ≡ None → p.at + p.count ≤ length s.text
    go true e f =
        let none : p.count ≡ 0 = grind (arith, nat_tests) in
        let place = insert_place s p.at p.text (insertion_alone s p none f) in
        omega (arith, none, place)
    go false e f =
        let more : 0 < p.count = grind (arith, nat_tests) in
        (delete_place s p.at p.count (deletion_first s p more f)).0

-- what joins a draft that says something touches its text
pub joins_low : (total : ℕ) (p c : Draft) → joins total p c ≡ true → (is_none p ≡ false) × (c.at ≤ p.at + length p.text) × (p.at ≤ c.at + c.count)
joins_low total p c e =
    let a = nat_lt (total + length p.text) (2 ^ 64) in
    let b = not (is_none p) in
    let n = not (is_none c) in
    let w = nat_le (c.at + c.count) (total - p.count + length p.text) in
    let t = touches p c in
    let five = and_left ((((a && b) && n) && w) && t) (is_small (merged p c)) e in
    let touching = and_right (((a && b) && n) && w) t five in
    let two = and_left (a && b) n (and_left ((a && b) && n) w (and_left (((a && b) && n) && w) t five)) in
    let front = nat_le c.at (p.at + length p.text) in
    let back = nat_le p.at (c.at + c.count) in
    (not_is (is_none p) (and_right a b two), le_is c.at (p.at + length p.text) (and_left front back touching), le_is p.at (c.at + c.count) (and_right front back touching))

-- ---- requests

-- one that isn't a change, once the draft is made
worked_order : (b : Seat Seen) (e : Sitting Seen) (order : Order) (reply : List ℕ) → ((at n : ℕ) (cs : List ℕ) → order ≡ orders.Change at n cs → ⊥) → IsAnswered (done by_parts (at_work by_parts b) order) reply e → IsAnswered (respond by_parts b (Does order)) reply (seated e)
unfolding answer
worked_order b e (orders.Change at n cs) reply other a = absurd (other at n cs refl)
worked_order b e order reply other a = record { reply_is = a.reply_is; state_is = ap seated a.state_is }

pub worked_answered : (b : Seat Seen) (d e : Sitting Seen) (p : Draft) (order : Order) (reply : List ℕ) → d ≡ at_work by_parts b → p ≡ no_draft → ((at n : ℕ) (cs : List ℕ) → order ≡ orders.Change at n cs → ⊥) → IsAnswered (done by_parts d order) reply e
    → IsAnswered (respond by_parts b (Does order)) reply (seat_of e p)
worked_answered b d e p order reply made none other a =
    subst (λ (x : Draft). IsAnswered (respond by_parts b (Does order)) reply (seat_of e x)) (sym none) (worked_order b e order reply other (subst (λ (x : Sitting Seen). IsAnswered (done by_parts x order) reply e) made a))

pub worked_taken : (b : Seat Seen) (d e : Sitting Seen) (p : Draft) (message reply : List ℕ) → d ≡ at_work by_parts b → p ≡ no_draft → IsAnswered (take_told by_parts d (message_of message)) reply e → IsAnswered (respond by_parts b (Takes message)) reply (seat_of e p)
unfolding answer
worked_taken b d e p message reply made none a =
    subst (λ (x : Draft). IsAnswered (respond by_parts b (Takes message)) reply (seat_of e x)) (sym none)
    (let k = subst (λ (x : Sitting Seen). IsAnswered (take_told by_parts x (message_of message)) reply e) made a in record { reply_is = k.reply_is; state_is = ap seated k.state_is })

-- nothing is drafted
pub none_drafted : (d : Sitting Seen) (p : Draft) → p ≡ no_draft → IsDrafted by_parts (seat_of d p)
none_drafted d p e = subst (λ (x : Draft). IsDrafted by_parts (seat_of d x)) (sym e) refl

-- what an answer gives
pub ok_gives : {X E : Type 0} (r : Result X E) (P : X → Type 0) (Q : Type 0) → ((x : X) → P x → Q) → IfOk r P → OnOk r Q
ok_gives (Ok x) P Q f h = f x h
ok_gives (Err e) P Q f h = tt

-- it may be written once the draft is made
pub made_so : {E : Type 0} (r : Result (Unit {0}) E) (d e : Sitting Seen) (p : Draft) → IsSane d.state → IsText p.text → making_fault by_parts d.state p ≡ None → OnOk r (e ≡ at_work by_parts (seat_of d p)) → AreWritable d.state → OnOk r (AreWritable e.state)
made_so (Ok u) d e p sane text h is w = subst (λ (x : Sitting Seen). AreWritable x.state) (sym is) (at_work_writable d p sane text h w)
made_so (Err f) d e p sane text h is w = tt

-- the edits are made, and what waited is released
pub rested_so : {E : Type 0} (r : Result (Unit {0}) E) (d mid e : Sitting Seen) (p q : Draft) → q ≡ p → is_none q ≡ false → mid ≡ made_each by_parts d (plan by_parts d.state q) → OnOk r (e ≡ with_state mid (released_all mid.state)) → OnOk r (e ≡ at_work by_parts (seat_of d p))
rested_so (Ok u) d mid e p q same some made is = is ∙ ap (at_rest by_parts) made ∙ sym (made_some by_parts d q some) ∙ ap (λ (x : Draft). at_work by_parts (seat_of d x)) same
rested_so (Err f) d mid e p q same some made is = tt

-- a change goes on with the draft
pub noted_so : (b : Seat Seen) (s : Seen) (c d : Draft) (reply : List ℕ) → s ≡ (b.sitting).state → Some d ≡ cond (goes_with by_parts s b.draft c) (Some (merged b.draft c)) None → reply ≡ noted_text → IsAnswered (changed by_parts b c) reply (seat_of b.sitting d)
noted_so b s c d reply same found text = go (goes_with by_parts (b.sitting).state b.draft c) (found ∙ ap (λ (x : Seen). cond (goes_with by_parts x b.draft c) (Some (merged b.draft c)) None) same)
  where
    go : (x : Bool) → Some d ≡ cond x (Some (merged b.draft c)) None → IsAnswered (cond x (says_at noted_text (seat_of b.sitting (merged b.draft c))) (begun_at by_parts (at_work by_parts b) c)) reply (seat_of b.sitting d)
    go true e = let same : d ≡ merged b.draft c = cc in record { reply_is = text; state_is = ap (seat_of b.sitting) same }
    go false e = absurd (cc)

-- or that is made, and it is the next
pub begun_so : (b : Seat Seen) (s : Seen) (mid : Sitting Seen) (c p : Draft) (reply : List ℕ) → s ≡ (b.sitting).state → None ≡ cond (goes_with by_parts s b.draft c) (Some (merged b.draft c)) None → mid ≡ at_work by_parts b → IsAnswered (begun_at by_parts mid c) reply (seat_of mid p)
    → IsAnswered (changed by_parts b c) reply (seat_of mid p)
begun_so b s mid c p reply same found made a = go (goes_with by_parts (b.sitting).state b.draft c) (found ∙ ap (λ (x : Seen). cond (goes_with by_parts x b.draft c) (Some (merged b.draft c)) None) same)
  where
    go : (x : Bool) → None ≡ cond x (Some (merged b.draft c)) None → IsAnswered (cond x (says_at noted_text (seat_of b.sitting (merged b.draft c))) (begun_at by_parts (at_work by_parts b) c)) reply (seat_of mid p)
    go true e = absurd (cc)
    go false e = subst (λ (x : Sitting Seen). IsAnswered (begun_at by_parts x c) reply (seat_of mid p)) made a
