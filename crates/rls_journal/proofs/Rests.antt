-- A load: what it leaves of a disk that holds a file, and of a keeper at rest.
use Rattle.std.proofs.Common.{◌≡◌, ◌⊎◌, inl, inr, ⊎_elim, ℕ, ◌-◌, ◌<◌, List, Option, Some, None, IfSome, refl, sym, ◌∙◌, ap, subst, arith}
use Rattle.rls_journal.specs.Areas.{Areas, named_by, kept}
use Rattle.rls_journal.specs.Disk.{Renews, Narrows, Follows, IsDurableAt, Elapses, IsUnchanged, LeavesOnly}
use Rattle.rls_journal.specs.Slots.{HasFile, Holds, HoldsEither, HoldsOn, IsSettled, IsSound, KeepsOneOf, Looks}
use Rattle.rls_journal.specs.Keeper.{IsAtRest, IsOldOrNew, Rests}
use Rattle.rls_journal.proofs.Parts.{at_some, to_some}
use Rattle.rls_journal.proofs.Moments.{started, goes_on, rests, leaves_weaker, leaves_both, changed, stays, stays_both}
use Rattle.rls_journal.proofs.Held.{Stepped, holds_narrows, holds_now, holds_renewed, holds_settled, holds_weaker, settled_narrows}

module _ {D : Type 0} (retries : Type 0) (seen : D → Option Areas) (may_leave : D → Areas → Type 0) (moment : D → ℕ) (left_since : D → ℕ → Areas → Type 0) (only : (disk : D) (c : Areas) → left_since disk (moment disk) c → may_leave disk c) where
  abbrev Look : D → D → Type 0
  Look old new = Looks retries seen may_leave moment left_since old new

  abbrev Leaves : D → D → (Areas → Type 0) → Type 0
  Leaves old new P = LeavesOnly moment left_since old new P

  holds_at : (first second : Option (List ℕ)) (disk : D) (s : Areas) → seen disk ≡ Some s → Holds first second s (may_leave disk) → HoldsEither seen may_leave first second disk
  holds_at first second disk s is h = subst (λ o. IfSome o (λ s. Holds first second s (may_leave disk))) (sym is) h

  starts : (first second : Option (List ℕ)) (old : D) (s : Areas) → Holds first second s (may_leave old) → Leaves old old (KeepsOneOf first second)
  starts first second old s h = started may_leave moment left_since old (KeepsOneOf first second) (only old) (holds_now first second s (may_leave old) h)

  -- a call that changes nothing
  pub looks_call : (old new : D) → seen new ≡ seen old → Narrows (may_leave old) (may_leave new) → Elapses (moment old) (moment new) (left_since old) (left_since new) (may_leave new) → Look old new
  looks_call old new same narrows time = record {
    same = same;
    unchanged = λ r. stays seen may_leave moment left_since old new same narrows time;
    holds = λ s is first second h. (
      rests may_leave moment left_since old old new (KeepsOneOf first second) (starts first second old s h) time narrows (holds_now first second s (may_leave old) h),
      holds_at first second new s (same ∙ is) (holds_narrows first second s (may_leave old) (may_leave new) narrows h),
    );
  }

  -- the gate is renewed
  pub looks_renewed : (old new : D) → seen new ≡ seen old → IfSome (seen old) (λ s. Follows (Renews s) (may_leave old) (may_leave new)) → (retries → Narrows (may_leave old) (may_leave new)) → Elapses (moment old) (moment new) (left_since old) (left_since new) (may_leave new) → Look old new
  looks_renewed old new same follows idle time = record {
    same = same;
    unchanged = λ r. stays seen may_leave moment left_since old new same (idle r) time;
    holds = λ s is first second h.
        let renewed = holds_renewed first second s (may_leave old) h in
        let crash = at_some (seen old) (λ s. Follows (Renews s) (may_leave old) (may_leave new)) s is follows in (
          goes_on may_leave moment left_since old old new (KeepsOneOf first second) (Renews s) (starts first second old s h) (changed may_leave moment left_since old new (Renews s) crash time)
              (λ d c left step. holds_now first second s (Stepped (Renews s) (may_leave old)) renewed c (d, left, step)),
          holds_at first second new s (same ∙ is) (holds_narrows first second s (Stepped (Renews s) (may_leave old)) (may_leave new) crash renewed),
        );
  }

  -- nothing that is read changed, and nothing else
  pub looks_unchanged : (old new : D) → IsUnchanged seen may_leave moment left_since old new → Look old new
  looks_unchanged old new u = record {
    same = u.same;
    unchanged = λ r. u;
    holds = λ s is first second h. (
      record {
        later = u.later;
        each = λ c left. holds_now first second s (may_leave old) h c (⊎_elim (λ past. only old c past) (λ now. now) (u.before (moment old) c (omega arith) left));
        before = λ t c le left. ⊎_elim (λ past. inl past) (λ now. inr (holds_now first second s (may_leave old) h c now)) (u.before t c le left);
      },
      holds_at first second new s (u.same ∙ is) (holds_narrows first second s (may_leave old) (may_leave new) u.narrows h),
    );
  }

  -- one after another
  pub looks_both : (old mid new : D) → Look old mid → Look mid new → Look old new
  looks_both old mid new front back = record {
    same = back.same ∙ front.same;
    unchanged = λ r. stays_both seen may_leave moment left_since old mid new (front.unchanged r) (back.unchanged r);
    holds = λ s is first second h.
        let one = front.holds s is first second h in
        let two = back.holds s (front.same ∙ is) first second (at_some (seen mid) (λ s. Holds first second s (may_leave mid)) s (front.same ∙ is) one.1) in
        (leaves_both moment left_since old mid new (KeepsOneOf first second) one.0 two.0, two.1);
  }

  -- once the gate is on the disk, and on one that retries the slot that it names
  pub looks_settled : (old mid new : D) → IsSound retries seen may_leave old → Look old mid → IfSome (seen old) (λ s. IsDurableAt 2 0 1 s (may_leave mid)) → Narrows (may_leave mid) (may_leave new)
      → (retries → (s : Areas) → seen old ≡ Some s → (slot : ℕ) → named_by s.gate ≡ Some slot → HasFile slot s (may_leave new)) → IfSome (seen old) (λ s. IsSettled s (may_leave new))
  looks_settled old mid new sound look gate narrows file = to_some (seen old) (λ s. IsSettled s (may_leave new)) (λ s is.
      let durable = at_some (seen old) (λ s. IsDurableAt 2 0 1 s (may_leave mid)) s is gate in
      ⊎_elim
      (λ r. record { gate = λ c left. durable c (narrows c left); file = file r s is })
      (λ some.
      let h = at_some (seen old) (λ s. Holds some.0 some.1 s (may_leave old)) s is some.2 in
      let now = at_some (seen mid) (λ s. Holds some.0 some.1 s (may_leave mid)) s (look.same ∙ is) (look.holds s is some.0 some.1 h).1 in
      settled_narrows s (may_leave mid) (may_leave new) narrows (holds_settled some.0 some.1 s (may_leave mid) now durable))
      sound)

  -- ---- at rest

  pub settled_rest : (disk : D) → IfSome (seen disk) (λ s. IsSettled s (may_leave disk)) → IsAtRest retries seen may_leave disk
  settled_rest disk settled = to_some (seen disk) (λ s. Rests retries s (may_leave disk)) (λ s is. inr (inl (at_some (seen disk) (λ s. IsSettled s (may_leave disk)) s is settled, inl refl)))

  pub rest_sound : (disk : D) → IsAtRest retries seen may_leave disk → IsSound retries seen may_leave disk
  rest_sound disk rest = go (seen disk) rest
    where
      go : (o : Option Areas) → IfSome o (λ s. Rests retries s (may_leave disk)) → retries ⊎ ((first second : Option (List ℕ)) × IfSome o (λ s. Holds first second s (may_leave disk)))
      go None rest = inr (None, None, tt)
      go (Some s) rest = ⊎_elim (λ r. inl r.0) (λ h. inr (kept s, kept s, h)) rest

  -- whatever a crash leaves, the kept file is the one that is read
  pub rest_kept : (s : Areas) (disk : D) → Rests retries s (may_leave disk) → (c : Areas) → may_leave disk c → kept c ≡ kept s
  rest_kept s disk rest c left = ⊎_elim (λ r. r.1 c left) (λ h. ⊎_elim (λ e. e) (λ e. e) (holds_now (kept s) (kept s) s (may_leave disk) h c left)) rest

  -- after a load that too, at each moment of it
  pub rest_leaves : (s : Areas) (old new : D) → seen old ≡ Some s → Rests retries s (may_leave old) → Look old new → Leaves old new (λ c. kept c ≡ kept s)
  rest_leaves s old new is rest look = ⊎_elim
      (λ r.
      let u = look.unchanged r.0 in
      record {
        later = u.later;
        each = λ c left. r.1 c (⊎_elim (λ past. only old c past) (λ now. now) (u.before (moment old) c (omega arith) left));
        before = λ t c le left. ⊎_elim (λ past. inl past) (λ now. inr (r.1 c now)) (u.before t c le left);
      })
      (λ h. leaves_weaker moment left_since old new (KeepsOneOf (kept s) (kept s)) (λ c. kept c ≡ kept s) (λ c p. ⊎_elim (λ e. e) (λ e. e) p) (look.holds s is (kept s) (kept s) h).0)
      rest

  pub rest_again : (s : Areas) (old new : D) → seen old ≡ Some s → Rests retries s (may_leave old) → Look old new → Rests retries s (may_leave new)
  rest_again s old new is rest look = ⊎_elim
      (λ r. inl (r.0, λ c left. r.1 c ((look.unchanged r.0).narrows c left)))
      (λ h. inr (at_some (seen new) (λ s'. Holds (kept s) (kept s) s' (may_leave new)) s (look.same ∙ is) (look.holds s is (kept s) (kept s) h).1))
      rest

  -- ---- a store

  -- the slot that isn't named is written
  pub store_some : (old mid new : D) (slot : ℕ) (answer : Option ℕ) (bytes : List ℕ) → answer ≡ Some slot → IfSome answer (λ n. n < 2) → IfSome (seen old) (λ s. answer ≡ named_by s.gate) → Look old mid
      → (IsSound retries seen may_leave old → IfSome (seen old) (λ s. IsSettled s (may_leave mid)))
      → IfSome (seen mid) (λ s. named_by s.gate ≡ Some (1 - (1 - slot)) → IsSettled s (may_leave mid) → HoldsOn seen may_leave moment left_since (kept s) (Some bytes) mid new)
      → (s : Areas) → seen old ≡ Some s → IsSound retries seen may_leave old → HoldsOn seen may_leave moment left_since (kept s) (Some bytes) mid new
  store_some old mid new slot answer bytes answers small names look settled replaces s is sound =
      let low : slot < 2 = at_some answer (λ n. n < 2) slot answers small in
      let twice : slot ≡ 1 - (1 - slot) = omega (arith, low) in
      let named : named_by s.gate ≡ Some (1 - (1 - slot)) = sym (at_some (seen old) (λ s. answer ≡ named_by s.gate) s is names) ∙ answers ∙ ap (λ (k : ℕ). Some k) twice in
      at_some (seen mid) (λ s. named_by s.gate ≡ Some (1 - (1 - slot)) → IsSettled s (may_leave mid) → HoldsOn seen may_leave moment left_since (kept s) (Some bytes) mid new) s (look.same ∙ is) replaces named
      (at_some (seen old) (λ s. IsSettled s (may_leave mid)) s is (settled sound))

  -- both slots are
  pub store_none : (old mid new : D) (answer : Option ℕ) (bytes : List ℕ) → answer ≡ None → IfSome (seen old) (λ s. answer ≡ named_by s.gate) → Look old mid → (IsSound retries seen may_leave old → IfSome (seen old) (λ s. IsSettled s (may_leave mid)))
      → IfSome (seen mid) (λ s. named_by s.gate ≡ None → IsSettled s (may_leave mid) → HoldsOn seen may_leave moment left_since (kept s) (Some bytes) mid new)
      → (s : Areas) → seen old ≡ Some s → IsSound retries seen may_leave old → HoldsOn seen may_leave moment left_since (kept s) (Some bytes) mid new
  store_none old mid new answer bytes answers names look settled begins s is sound =
      let named : named_by s.gate ≡ None = sym (at_some (seen old) (λ s. answer ≡ named_by s.gate) s is names) ∙ answers in
      at_some (seen mid) (λ s. named_by s.gate ≡ None → IsSettled s (may_leave mid) → HoldsOn seen may_leave moment left_since (kept s) (Some bytes) mid new) s (look.same ∙ is) begins named
      (at_some (seen old) (λ s. IsSettled s (may_leave mid)) s is (settled sound))

  abbrev Stores : List ℕ → D → D → D → Type 0
  Stores bytes old mid new = (s : Areas) → seen old ≡ Some s → IsSound retries seen may_leave old → HoldsOn seen may_leave moment left_since (kept s) (Some bytes) mid new

  pub store_leaves : (old mid new : D) (bytes : List ℕ) → Look old mid → Stores bytes old mid new → IsAtRest retries seen may_leave old → IfSome (seen old) (λ s. Leaves old new (IsOldOrNew (kept s) bytes))
  store_leaves old mid new bytes look stores rest = to_some (seen old) (λ s. Leaves old new (IsOldOrNew (kept s) bytes)) (λ s is.
      let front = rest_leaves s old mid is (at_some (seen old) (λ s. Rests retries s (may_leave old)) s is rest) look in
      leaves_both moment left_since old mid new (IsOldOrNew (kept s) bytes) (leaves_weaker moment left_since old mid (λ c. kept c ≡ kept s) (IsOldOrNew (kept s) bytes) (λ c same. inl same) front) (stores s is (rest_sound old rest)).0)

  -- a load that failed
  pub store_fails : (old mid : D) (bytes : List ℕ) → Look old mid → IsAtRest retries seen may_leave old → IfSome (seen old) (λ s. Leaves old mid (IsOldOrNew (kept s) bytes))
  store_fails old mid bytes look rest = to_some (seen old) (λ s. Leaves old mid (IsOldOrNew (kept s) bytes)) (λ s is.
      leaves_weaker moment left_since old mid (λ c. kept c ≡ kept s) (IsOldOrNew (kept s) bytes) (λ c same. inl same) (rest_leaves s old mid is (at_some (seen old) (λ s. Rests retries s (may_leave old)) s is rest) look))

  pub store_holds : (old mid new : D) (bytes : List ℕ) → ((disk : D) (s : Areas) → seen disk ≡ Some s → may_leave disk s) → Stores bytes old mid new → IfSome (seen old) (λ s. (file : Option (List ℕ)) → Holds file file s (may_leave old) → HoldsEither seen may_leave file (Some bytes) new)
  store_holds old mid new bytes reads stores = to_some (seen old) (λ s. (file : Option (List ℕ)) → Holds file file s (may_leave old) → HoldsEither seen may_leave file (Some bytes) new) (λ s is file h.
      let same : kept s ≡ file = ⊎_elim (λ e. e) (λ e. e) (holds_now file file s (may_leave old) h s (reads old s is)) in
      let P : Option (List ℕ) → Type 0 = λ f. HoldsEither seen may_leave f (Some bytes) new in
      subst P same (stores s is (inr (file, file, holds_at file file old s is h))).1)

  pub store_held : (old mid : D) (bytes : List ℕ) → Look old mid → IfSome (seen old) (λ s. (file : Option (List ℕ)) → Holds file file s (may_leave old) → HoldsEither seen may_leave file (Some bytes) mid)
  store_held old mid bytes look = to_some (seen old) (λ s. (file : Option (List ℕ)) → Holds file file s (may_leave old) → HoldsEither seen may_leave file (Some bytes) mid) (λ s is file h.
      let now = at_some (seen mid) (λ s. Holds file file s (may_leave mid)) s (look.same ∙ is) (look.holds s is file file h).1 in
      holds_at file (Some bytes) mid s (look.same ∙ is) (holds_weaker file (Some bytes) s (may_leave mid) now))
