-- What a stop leaves of the disk, from the calls of the keeper that a command or a session makes.
use Rattle.std.proofs.Common.{◌≡◌, ◌≢◌, ◌∙◌, ⊎_elim, inl, inr, ℕ, Bool, true, false, List, Option, Some, IfSome, IsTrue, IsFalse, refl, sym, subst, arith}
use Rattle.std.specs.Prelude.{is_ok}
use Rattle.rls_io.specs.Calls.{Answer}
use Rattle.rls_io.specs.Device.{LoadsWith}
use Rattle.rls_journal.specs.Areas.{Areas, kept}
use Rattle.rls_journal.specs.Calls.{DiskCall, StoresBy}
use Rattle.rls_journal.specs.Disk.{LeavesOnly}
use Rattle.rls_journal.specs.Keeper.{IsAtRest, IsOldOrNew, LoadGives, Rests, StoreGives}
use Rattle.rls_journal.specs.Slots.{HasStored, IsSound}
use Rattle.rls_journal.proofs.Rests.{rest_again, rest_kept, rest_leaves}
use Rattle.rls_journal.proofs.Parts.{at_some, to_some}
use Rattle.rls_stages.specs.Calls.{CallsNothing, CallsOf, FailsToLoad, FailsToStore, IsKeepersStatus, Loads, Stores}
use Rattle.rls_groups.specs.Stops.{HasDue, IsOld, LeavesOldOrDue}

both : {X : Type 0} (b : Bool) → IsTrue b → IsFalse b → X
both b is isnt = absurd (let never : true ≡ false = sym is ∙ isnt in cc)

module _ {D : Type 0} (retries : Type 0) (seen : D → Option Areas) (may_leave : D → Areas → Type 0) (moment : D → ℕ) (left_since : D → ℕ → Areas → Type 0) (only : (disk : D) (c : Areas) → left_since disk (moment disk) c → may_leave disk c) where
  -- a disk of which a stop leaves this file
  abbrev Keeps : D → Option (List ℕ) → Type 0
  Keeps disk file = (c : Areas) → may_leave disk c → kept c ≡ file

  pub uncalled_only : (old : D) (before : Option (List ℕ)) → Keeps old before → LeavesOnly moment left_since old old (IsOld before)
  uncalled_only old before rest = record { later = omega arith; each = λ c left. rest c (only old c left); before = λ t c le left. inl left }

  pub loaded_only : (ok : Bool) (old new : D) (s : Areas) → seen old ≡ Some s → Rests retries s (may_leave old) → LoadGives retries seen may_leave moment left_since ok old new → LeavesOnly moment left_since old new (IsOld (kept s))
  loaded_only ok old new s is rest load = rest_leaves retries seen may_leave moment left_since only s old new is rest load.looks

  stored_only : (bytes : List ℕ) (ok : Bool) (old mid new : D) (s : Areas) → seen old ≡ Some s → Rests retries s (may_leave old) → LoadGives retries seen may_leave moment left_since true old mid → StoreGives retries seen may_leave moment left_since bytes ok mid new
      → LeavesOnly moment left_since old new (IsOldOrNew (kept s) bytes)
  stored_only bytes ok old mid new s is rest load store =
      let front = loaded_only true old mid s is rest load in
      let here : seen mid ≡ Some s = (load.looks).same ∙ is in
      let again = subst (λ o. IfSome o (λ s. Rests retries s (may_leave mid))) (sym here) (rest_again retries seen may_leave moment left_since only s old mid is rest load.looks) in
      let back = at_some (seen mid) (λ s. LeavesOnly moment left_since mid new (IsOldOrNew (kept s) bytes)) s here (store.any_moment again) in
      record {
        later = omega (arith, front.later, back.later);
        each = λ c left. ⊎_elim (λ past. inl (front.each c past)) (λ p. p) (back.before (moment old) c front.later left);
        before = λ t c le left. ⊎_elim (λ past. ⊎_elim (λ early. inl early) (λ same. inr (inl same)) (front.before t c le past)) (λ p. inr p) (back.before t c (omega (arith, le, front.later)) left);
      }

  module _ (answers : D → DiskCall → Answer → D → Type 0) {K : Type 0} (disk : K → D) (needs stores : Bool) (IsDue : List ℕ → Type 0) (Surely Perhaps : ℕ → Type 0) (untouched : Type 0) (n : ℕ) (old new : K) where
    abbrev load : K → Bool → K → Type 0
    load = LoadsWith (λ before answer after. LoadGives retries seen may_leave moment left_since (is_ok answer) (disk before) (disk after))

    abbrev store : K → List ℕ → Bool → K → Type 0
    store before bytes ok after = StoreGives retries seen may_leave moment left_since bytes ok (disk before) (disk after) × StoresBy answers bytes ok (disk before) (disk after)

    abbrev Leaves : Option (List ℕ) → Type 0
    Leaves before = LeavesOldOrDue moment left_since stores IsDue before (disk old) (disk new)

    survived_at : (s : Areas) → seen (disk old) ≡ Some s → Rests retries s (may_leave (disk old)) → CallsOf load store needs stores IsDue Surely Perhaps untouched n old new → Leaves (kept s)
    survived_at s is rest (CallsNothing same none at) = inl (subst (λ (k : K). LeavesOnly moment left_since (disk old) (disk k) (IsOld (kept s))) (sym same) (uncalled_only (disk old) (kept s) (rest_kept retries seen may_leave moment left_since only s (disk old) rest)))
    survived_at s is rest (FailsToLoad l at u) = inl (loaded_only false (disk old) (disk new) s is rest l.1)
    survived_at s is rest (Loads l at u) = inl (loaded_only true (disk old) (disk new) s is rest l.1)
    survived_at s is rest (FailsToStore l some at) = inr (some, (l.bytes, l.due, stored_only l.bytes false (disk old) (disk l.between) (disk new) s is rest l.loaded.1 l.stored.0))
    survived_at s is rest (Stores l some at) = inr (some, (l.bytes, l.due, stored_only l.bytes true (disk old) (disk l.between) (disk new) s is rest l.loaded.1 l.stored.0))

    -- a stop at any moment
    pub survived : CallsOf load store needs stores IsDue Surely Perhaps untouched n old new → IsAtRest retries seen may_leave (disk old) → IfSome (seen (disk old)) (λ s. LeavesOldOrDue moment left_since stores IsDue (kept s) (disk old) (disk new))
    survived calls rest = to_some (seen (disk old)) (λ s. Leaves (kept s)) (λ s is. survived_at s is (at_some (seen (disk old)) (λ s. Rests retries s (may_leave (disk old))) s is rest) calls)

    -- after a status with which the file is stored
    pub kept_due : CallsOf load store needs stores IsDue Surely Perhaps untouched n old new → (IsKeepersStatus n → Surely n → ⊥) → IsTrue stores → Surely n → HasDue seen may_leave IsDue (disk old) (disk new)
    kept_due (CallsNothing same none shows) apart some at = both stores some (shows at)
    kept_due (FailsToLoad l fails u) apart some at = absurd (apart fails at)
    kept_due (Loads l other shows) apart some at = both stores some (shows at)
    kept_due (FailsToStore l m fails) apart some at = absurd (apart fails at)
    kept_due (Stores l m perhaps) apart some at = (l.bytes, l.due, subst (λ o. HasStored l.bytes o (seen (disk new)) (may_leave (disk new))) (l.loaded.1).looks.same ((l.stored.0).stored refl))

    -- at rest
    pub rests_again : CallsOf load store needs stores IsDue Surely Perhaps untouched n old new → IsTrue needs → n ≢ 7 → n ≢ 10 → IsSound retries seen may_leave (disk old) → IsAtRest retries seen may_leave (disk new)
    rests_again (CallsNothing same (inl none) shows) calls seven ten sound = both needs calls none
    rests_again (CallsNothing same (inr fails) shows) calls seven ten sound = absurd (ten fails)
    rests_again (FailsToLoad l at u) calls seven ten sound = absurd (⊎_elim seven ten at)
    rests_again (Loads l at u) calls seven ten sound = (l.1).rest refl sound
    rests_again (FailsToStore l some at) calls seven ten sound = absurd (⊎_elim seven ten at)
    rests_again (Stores l some at) calls seven ten sound = (l.stored.0).rest refl
