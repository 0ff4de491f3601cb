-- How a run of device calls goes on.
use Rattle.std.proofs.Common.{◌≡◌, ◌∙◌, inl, inr, ⊎_elim, ℕ, Option, arith}
use Rattle.rls_journal.specs.Areas.{Areas}
use Rattle.rls_journal.specs.Disk.{Narrows, Follows, Elapses, LeavesOnly, IsUnchanged, Changes}

module _ {D : Type 0} (moment : D → ℕ) (left_since : D → ℕ → Areas → Type 0) where
  -- what follows of what is left
  pub leaves_weaker : (old new : D) (P Q : Areas → Type 0) → ((c : Areas) → P c → Q c) → LeavesOnly moment left_since old new P → LeavesOnly moment left_since old new Q
  leaves_weaker old new P Q f run = record { later = run.later; each = λ c left. f c (run.each c left); before = λ t c le left. ⊎_elim (λ past. inl past) (λ p. inr (f c p)) (run.before t c le left) }

  -- one run after another
  pub leaves_both : (old mid new : D) (P : Areas → Type 0) → LeavesOnly moment left_since old mid P → LeavesOnly moment left_since mid new P → LeavesOnly moment left_since old new P
  leaves_both old mid new P front back = record {
    later = omega (arith, front.later, back.later);
    each = λ c left. ⊎_elim (λ past. front.each c past) (λ p. p) (back.before (moment old) c front.later left);
    before = λ t c le left. ⊎_elim (λ past. front.before t c le past) (λ p. inr p) (back.before t c (omega (arith, le, front.later)) left);
  }

module _ {D : Type 0} (may_leave : D → Areas → Type 0) (moment : D → ℕ) (left_since : D → ℕ → Areas → Type 0) where
  -- before the first call
  pub started : (old : D) (P : Areas → Type 0) → ((c : Areas) → left_since old (moment old) c → may_leave old c) → ((c : Areas) → may_leave old c → P c) → LeavesOnly moment left_since old old P
  started old P only here = record { later = omega arith; each = λ c left. here c (only c left); before = λ t c le left. inl left }

  -- a step more, after which a crash leaves what has P
  pub goes_on : (old mid new : D) (P : Areas → Type 0) (step : Areas → Areas → Type 0) → LeavesOnly moment left_since old mid P → Changes may_leave moment left_since step mid new
      → ((d c : Areas) → may_leave mid d → step d c → P c) → LeavesOnly moment left_since old new P
  goes_on old mid new P step so_far changes here = record {
    later = omega (arith, so_far.later, changes.later);
    each = λ c left. ⊎_elim (so_far.each c) (λ from. here from.0 c from.1 from.2) (changes.before (moment old) c so_far.later left);
    before = λ t c le left. ⊎_elim (so_far.before t c le) (λ from. inr (here from.0 c from.1 from.2)) (changes.before t c (omega (arith, le, so_far.later)) left);
  }

  -- a call that changes nothing
  pub rests : (old mid new : D) (P : Areas → Type 0) → LeavesOnly moment left_since old mid P → Elapses (moment mid) (moment new) (left_since mid) (left_since new) (may_leave new) → Narrows (may_leave mid) (may_leave new)
      → ((c : Areas) → may_leave mid c → P c) → LeavesOnly moment left_since old new P
  rests old mid new P so_far time narrows here = record {
    later = omega (arith, so_far.later, time.later);
    each = λ c left. ⊎_elim (so_far.each c) (λ now. here c (narrows c now)) (time.nothing_else (moment old) c so_far.later left);
    before = λ t c le left. ⊎_elim (so_far.before t c le) (λ now. inr (here c (narrows c now))) (time.nothing_else t c (omega (arith, le, so_far.later)) left);
  }

  -- a call that changes something
  pub changed : (old new : D) (step : Areas → Areas → Type 0) → Follows step (may_leave old) (may_leave new) → Elapses (moment old) (moment new) (left_since old) (left_since new) (may_leave new) → Changes may_leave moment left_since step old new
  changed old new step follows time = record { later = time.later; crash = follows; before = λ t c le left. ⊎_elim (λ past. inl past) (λ now. inr (follows c now)) (time.nothing_else t c le left) }

module _ {D : Type 0} (seen : D → Option Areas) (may_leave : D → Areas → Type 0) (moment : D → ℕ) (left_since : D → ℕ → Areas → Type 0) where
  -- a call that changes nothing that is read
  pub stays : (old new : D) → seen new ≡ seen old → Narrows (may_leave old) (may_leave new) → Elapses (moment old) (moment new) (left_since old) (left_since new) (may_leave new) → IsUnchanged seen may_leave moment left_since old new
  stays old new same narrows time = record {
    same = same;
    narrows = narrows;
    later = time.later;
    before = λ t c le left. ⊎_elim (λ past. inl past) (λ now. inr (narrows c now)) (time.nothing_else t c le left);
  }

  -- one after another
  pub stays_both : (old mid new : D) → IsUnchanged seen may_leave moment left_since old mid → IsUnchanged seen may_leave moment left_since mid new → IsUnchanged seen may_leave moment left_since old new
  stays_both old mid new first second = record {
    same = second.same ∙ first.same;
    narrows = λ c left. first.narrows c (second.narrows c left);
    later = omega (arith, first.later, second.later);
    before = λ t c le left. ⊎_elim (first.before t c le) (λ now. inr (first.narrows c now)) (second.before t c (omega (arith, le, first.later)) left);
  }

  -- one more call
  pub stays_then : (old mid new : D) → IsUnchanged seen may_leave moment left_since old mid → seen new ≡ seen mid → Narrows (may_leave mid) (may_leave new) → Elapses (moment mid) (moment new) (left_since mid) (left_since new) (may_leave new)
      → IsUnchanged seen may_leave moment left_since old new
  stays_then old mid new first same narrows time = stays_both old mid new first (stays mid new same narrows time)
