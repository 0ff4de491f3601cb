-- What a stop leaves of the disk, from the stores of a session.
use Rattle.std.proofs.Common.{◌≡◌, ◌≢◌, ◌∙◌, ◌⊎◌, ◌<◌, ⊎_elim, inl, inr, ℕ, Bool, true, false, List, [], ◌∷◌, length, Option, Some, None, IfSome, refl, sym, subst, arith}
use Rattle.rls_ident.specs.Lists.{IsIn}
use Rattle.rls_ident.proofs.Members.{in_left, in_right}
use Rattle.std.specs.Prelude.{is_ok}
use Rattle.rls_io.specs.Calls.{Answer}
use Rattle.rls_io.specs.Device.{LoadsWith}
use Rattle.rls_journal.specs.Areas.{Areas, kept}
use Rattle.rls_journal.specs.Calls.{DiskCall, StoresBy}
use Rattle.rls_journal.specs.Disk.{LeavesOnly}
use Rattle.rls_journal.specs.Keeper.{IsAtRest, IsOldOrNew, LoadGives, Rests, StoreGives}
use Rattle.rls_journal.specs.Slots.{HasStored, IsSound}
use Rattle.rls_journal.proofs.Rests.{rest_again, rest_kept}
use Rattle.rls_session.specs.Calls.{AreAllFilesOf, AreDue, Calls, CallsNothing, FailsOnce, FailsToLoad, IsFileOf, IsLastDue, IsLastOf, Loads, IsStatusAfter, Stores, StoresEach, and_failed, no_stores, tried}
use Rattle.rls_session.specs.Due.{Due}
use Rattle.rls_groups.specs.Stops.{HasDue, IsOld, IsOldOrOneOf, LeavesInStore, LeavesInTurn, LeavesOldOrStores}
use Rattle.rls_journal.proofs.Moments.{leaves_both, leaves_weaker}
use Rattle.rls_journal.proofs.Parts.{at_some, to_some}
use Rattle.rls_groups.proofs.Survived.{loaded_only, uncalled_only}

-- the last of these files
abbrev pub last_of : List ℕ → List (List ℕ) → List ℕ
last_of bytes [] = bytes
last_of bytes (next ∷ files) = last_of next files

-- is the last that is called for, if they are all
last_called : (d : Due) (ds : List Due) (bytes : List ℕ) (files : List (List ℕ)) → IsFileOf d.ending bytes → AreAllFilesOf ds files → IsLastOf d ds (last_of bytes files)
last_called d [] bytes [] h k = h
last_called d [] bytes (next ∷ files) h k = absurd k
last_called d (e ∷ ds) bytes [] h k = absurd k
last_called d (e ∷ ds) bytes (next ∷ files) h k = last_called e ds next files k.0 k.1

last_due : (ds : Option (List Due)) (bytes : List ℕ) (files : List (List ℕ)) → IfSome ds (λ ds. AreAllFilesOf ds (bytes ∷ files)) → IsLastDue ds (last_of bytes files)
last_due None bytes files h = tt
last_due (Some []) bytes files h = absurd h
last_due (Some (d ∷ ds)) bytes files h = last_called d ds bytes files h.0 h.1

-- one file after another
stored_later : (bytes first : List ℕ) (old mid new : Option Areas) (may_leave any : Areas → Type 0) → HasStored first old mid any → HasStored bytes mid new may_leave → HasStored bytes old new may_leave
stored_later bytes first None mid new may_leave any h k = subst (λ o. HasStored bytes o new may_leave) h k
stored_later bytes first (Some old) mid new may_leave any h k = subst (λ o. HasStored bytes o new may_leave) h.1 k

module _ {D : Type 0} (retries : Type 0) (seen : D → Option Areas) (may_leave : D → Areas → Type 0) (moment : D → ℕ) (left_since : D → ℕ → Areas → Type 0) (only : (disk : D) (c : Areas) → left_since disk (moment disk) c → may_leave disk c) (answers : D → DiskCall → Answer → D → Type 0) {K : Type 0} (disk : K → D) where
  abbrev load : K → Bool → K → Type 0
  load = LoadsWith (λ before answer after. LoadGives retries seen may_leave moment left_since (is_ok answer) (disk before) (disk after))

  abbrev store : K → List ℕ → Bool → K → Type 0
  store before bytes ok after = StoreGives retries seen may_leave moment left_since bytes ok (disk before) (disk after) × StoresBy answers bytes ok (disk before) (disk after)

  abbrev Leaves : K → K → (Areas → Type 0) → Type 0
  Leaves k l P = LeavesOnly moment left_since (disk k) (disk l) P

  -- what follows of what is left
  weaker : (k l : K) (P Q : Areas → Type 0) → ((c : Areas) → P c → Q c) → Leaves k l P → Leaves k l Q
  weaker k l = leaves_weaker moment left_since (disk k) (disk l)

  -- one call after another
  both : (k m l : K) (P : Areas → Type 0) → Leaves k m P → Leaves m l P → Leaves k l P
  both k m l = leaves_both moment left_since (disk k) (disk m) (disk l)

  -- at rest, with this file
  pub record RestsWith (k : K) (file : Option (List ℕ)) : Type 0 where
    pub areas : Areas
    pub is : seen (disk k) ≡ Some areas
    pub same : kept areas ≡ file
    pub rest : Rests retries areas (may_leave (disk k))

  left_is : (k : K) (file : Option (List ℕ)) → RestsWith k file → (c : Areas) → may_leave (disk k) c → kept c ≡ file
  left_is k file r c left = rest_kept retries seen may_leave moment left_since only r.areas (disk k) r.rest c left ∙ r.same

  -- which isn't called
  uncalled : (k : K) (file : Option (List ℕ)) → RestsWith k file → Leaves k k (IsOld file)
  uncalled k file r = uncalled_only retries seen may_leave moment left_since only (disk k) file (left_is k file r)

  rest_is : (k : K) (file : Option (List ℕ)) → RestsWith k file → IsAtRest retries seen may_leave (disk k)
  rest_is k file r = subst (λ o. IfSome o (λ s. Rests retries s (may_leave (disk k)))) (sym r.is) r.rest

  -- a store of one file
  stores_only : (ok : Bool) (bytes : List ℕ) (k l : K) (file : Option (List ℕ)) → RestsWith k file → store k bytes ok l → Leaves k l (λ c. (kept c ≡ file) ⊎ (kept c ≡ Some bytes))
  stores_only ok bytes k l file r h =
      weaker k l (IsOldOrNew (kept r.areas) bytes) (λ c. (kept c ≡ file) ⊎ (kept c ≡ Some bytes)) (λ c p. ⊎_elim (λ q. inl (q ∙ r.same)) (λ q. inr q) p)
      (at_some (seen (disk k)) (λ s. Leaves k l (IsOldOrNew (kept s) bytes)) r.areas r.is ((h.0).any_moment (rest_is k file r)))

  rests_with : (bytes : List ℕ) (k l : K) (file : Option (List ℕ)) → RestsWith k file → store k bytes true l → RestsWith l (Some bytes)
  rests_with bytes k l file r h = let q = subst (λ o. HasStored bytes o (seen (disk l)) (may_leave (disk l))) r.is ((h.0).stored refl) in record { areas = q.0; is = q.1; same = q.2; rest = at_some (seen (disk l)) (λ s. Rests retries s (may_leave (disk l))) q.0 q.1 ((h.0).rest refl) }

  -- stores of several, and what is kept then
  abbrev Kept : List (List ℕ) → K → K → Option (List ℕ) → Type 0
  Kept files k l file = Leaves k l (IsOldOrOneOf file files) × ((now : Option (List ℕ)) × RestsWith l now × ((now ≡ file) ⊎ ((bytes : List ℕ) × IsIn bytes files × (now ≡ Some bytes))))

  each_only : (files : List (List ℕ)) (k l : K) (file : Option (List ℕ)) → RestsWith k file → StoresEach store files k l → Kept files k l file
  each_only [] k l file r h =
      let same = subst (λ (x : K). Leaves k x (IsOldOrOneOf file [])) (sym h) (weaker k k (IsOld file) (IsOldOrOneOf file []) (λ c p. inl p) (uncalled k file r)) in
      (same, (file, subst (λ (x : K). RestsWith x file) (sym h) r, inl refl))
  each_only (bytes ∷ files) k l file r h =
      let m = h.0 in
      let next = each_only files m l (Some bytes) (rests_with bytes k m file r h.1) h.2 in
      let front = weaker k m (λ c. (kept c ≡ file) ⊎ (kept c ≡ Some bytes)) (IsOldOrOneOf file (bytes ∷ files)) (λ c p. ⊎_elim (λ q. inl q) (λ q. inr (bytes, inl refl, q)) p) (stores_only true bytes k m file r h.1) in
      let back = weaker m l (IsOldOrOneOf (Some bytes) files) (IsOldOrOneOf file (bytes ∷ files)) (λ c p. ⊎_elim (λ q. inr (bytes, inl refl, q)) (λ q. inr (q.0, inr q.1, q.2)) p) next.0 in
      (both k m l (IsOldOrOneOf file (bytes ∷ files)) front back, ((next.1).0, (next.1).1, ⊎_elim (λ q. inr (bytes, inl refl, q)) (λ q. inr (q.0, inr q.1, q.2)) (next.1).2))

  -- and then of one that fails
  failed_only : (failed : Option (List ℕ)) (k l : K) (file : Option (List ℕ)) → RestsWith k file → FailsOnce store failed k l → Leaves k l (IsOldOrOneOf file (and_failed failed))
  failed_only None k l file r h = subst (λ (x : K). Leaves k x (IsOldOrOneOf file [])) (sym h) (weaker k k (IsOld file) (IsOldOrOneOf file []) (λ c p. inl p) (uncalled k file r))
  failed_only (Some bytes) k l file r h = weaker k l (λ c. (kept c ≡ file) ⊎ (kept c ≡ Some bytes)) (IsOldOrOneOf file (bytes ∷ [])) (λ c p. ⊎_elim (λ q. inl q) (λ q. inr (bytes, inl refl, q)) p) (stores_only false bytes k l file r h)

  -- the same in turn
  abbrev InStore : Option (List ℕ) → List ℕ → Bool → D → D → Type 0
  InStore = LeavesInStore moment left_since (StoreGives retries seen may_leave moment left_since)

  abbrev InTurn : Option (List ℕ) → List (List ℕ) → Option (List ℕ) → K → K → Type 0
  InTurn file files failed k l = LeavesInTurn moment left_since (StoreGives retries seen may_leave moment left_since) file files failed (disk k) (disk l)

  in_store : (ok : Bool) (bytes : List ℕ) (k l : K) (file : Option (List ℕ)) → RestsWith k file → store k bytes ok l → InStore file bytes ok (disk k) (disk l)
  in_store ok bytes k l file r h = record { called = disk k; until = uncalled k file r; store = h.0; within = stores_only ok bytes k l file r h }

  turns : (files : List (List ℕ)) (failed : Option (List ℕ)) (k m l : K) (file : Option (List ℕ)) → RestsWith k file → StoresEach store files k m → FailsOnce store failed m l → InTurn file files failed k l
  turns [] None k m l file r h f = subst (λ (x : K). Leaves k x (IsOld file)) (sym (f ∙ h)) (uncalled k file r)
  turns [] (Some bytes) k m l file r h f = in_store false bytes k l file r (subst (λ (x : K). store x bytes false l) h f)
  turns (bytes ∷ files) failed k m l file r h f = (disk h.0, in_store true bytes k h.0 file r h.1, turns files failed h.0 m l (Some bytes) (rests_with bytes k h.0 file r h.1) h.2 f)

  -- before which the file stays
  later_store : (k m : K) (d : D) (bytes : List ℕ) (ok : Bool) (file : Option (List ℕ)) → Leaves k m (IsOld file) → InStore file bytes ok (disk m) d → InStore file bytes ok (disk k) d
  later_store k m d bytes ok file front back = record { called = back.called; until = leaves_both moment left_since (disk k) (disk m) back.called (IsOld file) front back.until; store = back.store; within = back.within }

  turns_after : (files : List (List ℕ)) (failed : Option (List ℕ)) (k m l : K) (file : Option (List ℕ)) → Leaves k m (IsOld file) → InTurn file files failed m l → InTurn file files failed k l
  turns_after [] None k m l file front back = both k m l (IsOld file) front back
  turns_after [] (Some bytes) k m l file front back = later_store k m (disk l) bytes false file front back
  turns_after (bytes ∷ files) failed k m l file front back = (back.0, later_store k m back.0 bytes true file front back.1, back.2)

  -- all stores of a session
  tried_only : (x : Stores) (k m l : K) (file : Option (List ℕ)) → RestsWith k file → StoresEach store x.stored k m → FailsOnce store x.failed m l → Leaves k l (IsOldOrOneOf file (tried x))
  tried_only x k m l file r h f =
      let first = each_only x.stored k m file r h in
      let now = (first.1).0 in
      let front = weaker k m (IsOldOrOneOf file x.stored) (IsOldOrOneOf file (tried x)) (λ c p. ⊎_elim (λ q. inl q) (λ q. inr (q.0, in_left q.0 x.stored (and_failed x.failed) q.1, q.2)) p) first.0 in
      let back = weaker m l (IsOldOrOneOf now (and_failed x.failed)) (IsOldOrOneOf file (tried x))
      (λ c p. ⊎_elim (λ q. ⊎_elim (λ same. inl (q ∙ same)) (λ one. inr (one.0, in_left one.0 x.stored (and_failed x.failed) one.1, q ∙ one.2)) (first.1).2) (λ q. inr (q.0, in_right q.0 x.stored (and_failed x.failed) q.1, q.2)) p) (failed_only x.failed m l now (first.1).1 f) in
      both k m l (IsOldOrOneOf file (tried x)) front back

  module _ (x : Stores) (untouched : Type 0) (n : ℕ) (old new : K) where
    abbrev Called : Type 0
    Called = Calls load store x untouched n old new

    -- a load leaves the file as it was
    loaded_rests : (s : Areas) (mid : K) → seen (disk old) ≡ Some s → Rests retries s (may_leave (disk old)) → load old true mid → RestsWith mid (kept s)
    loaded_rests s mid is rest l = record { areas = s; is = ((l.1).looks).same ∙ is; same = refl; rest = rest_again retries seen may_leave moment left_since only s (disk old) (disk mid) is rest (l.1).looks }

    survived_at : (s : Areas) → seen (disk old) ≡ Some s → Rests retries s (may_leave (disk old)) → Called → Leaves old new (IsOldOrOneOf (kept s) (tried x))
    survived_at s is rest (CallsNothing same ten none) =
        subst (λ (k : K). Leaves old k (IsOldOrOneOf (kept s) (tried x))) (sym same) (weaker old old (IsOld (kept s)) (IsOldOrOneOf (kept s) (tried x)) (λ c p. inl p) (uncalled_only retries seen may_leave moment left_since only (disk old) (kept s) (rest_kept retries seen may_leave moment left_since only s (disk old) rest)))
    survived_at s is rest (FailsToLoad l at u none) = weaker old new (IsOld (kept s)) (IsOldOrOneOf (kept s) (tried x)) (λ c p. inl p) (loaded_only retries seen may_leave moment left_since only false (disk old) (disk new) s is rest l.1)
    survived_at s is rest (Loads l status) =
        let front = weaker old l.at_load (IsOld (kept s)) (IsOldOrOneOf (kept s) (tried x)) (λ c p. inl p) (loaded_only retries seen may_leave moment left_since only true (disk old) (disk l.at_load) s is rest l.loaded.1) in
        both old l.at_load new (IsOldOrOneOf (kept s) (tried x)) front (tried_only x l.at_load l.at_failure new (kept s) (loaded_rests s l.at_load is rest l.loaded) l.stored l.failed)

    turns_at : (s : Areas) → seen (disk old) ≡ Some s → Rests retries s (may_leave (disk old)) → Called → InTurn (kept s) x.stored x.failed old new
    turns_at s is rest (CallsNothing same ten none) =
        subst (λ (y : Stores). InTurn (kept s) y.stored y.failed old new) (sym none) (subst (λ (k : K). Leaves old k (IsOld (kept s))) (sym same) (uncalled_only retries seen may_leave moment left_since only (disk old) (kept s) (rest_kept retries seen may_leave moment left_since only s (disk old) rest)))
    turns_at s is rest (FailsToLoad l at u none) = subst (λ (y : Stores). InTurn (kept s) y.stored y.failed old new) (sym none) (loaded_only retries seen may_leave moment left_since only false (disk old) (disk new) s is rest l.1)
    turns_at s is rest (Loads l status) =
        turns_after x.stored x.failed old l.at_load new (kept s) (loaded_only retries seen may_leave moment left_since only true (disk old) (disk l.at_load) s is rest l.loaded.1)
        (turns x.stored x.failed l.at_load l.at_failure new (kept s) (loaded_rests s l.at_load is rest l.loaded) l.stored l.failed)

    -- a stop at any moment
    pub stores_survived : (ds : Option (List Due)) → Called → AreDue ds (tried x) → IsAtRest retries seen may_leave (disk old) → IfSome (seen (disk old)) (λ s. LeavesOldOrStores moment left_since (StoreGives retries seen may_leave moment left_since) ds (kept s) (disk old) (disk new))
    stores_survived ds calls due rest = to_some (seen (disk old)) (λ s. LeavesOldOrStores moment left_since (StoreGives retries seen may_leave moment left_since) ds (kept s) (disk old) (disk new)) (λ s is. record {
      files = x;
      due = due;
      leaves = survived_at s is (at_some (seen (disk old)) (λ s. Rests retries s (may_leave (disk old))) s is rest) calls;
      in_turn = turns_at s is (at_some (seen (disk old)) (λ s. Rests retries s (may_leave (disk old))) s is rest) calls;
    })

    -- after a session that stored all
    last_stored : (bytes : List ℕ) (files : List (List ℕ)) (k l : K) → StoresEach store (bytes ∷ files) k l → HasStored (last_of bytes files) (seen (disk k)) (seen (disk l)) (may_leave (disk l))
    last_stored bytes [] k l h = subst (λ (x : K). HasStored bytes (seen (disk k)) (seen (disk x)) (may_leave (disk x))) (sym h.2) (((h.1).0).stored refl)
    last_stored bytes (next ∷ files) k l h = stored_later (last_of next files) bytes (seen (disk k)) (seen (disk h.0)) (seen (disk l)) (may_leave (disk l)) (may_leave (disk h.0)) (((h.1).0).stored refl) (last_stored next files h.0 l h.2)

    pub last_kept : (ds : Option (List Due)) → Called → 0 < length x.stored → IfSome ds (λ ds. AreAllFilesOf ds x.stored) → n ≡ 0 → HasDue seen may_leave (IsLastDue ds) (disk old) (disk new)
    last_kept ds calls some all zero = go calls
      where
        none_some : x ≡ no_stores → HasDue seen may_leave (IsLastDue ds) (disk old) (disk new)
        none_some e = absurd (let never : 0 < length no_stores.stored = subst (λ (y : Stores). 0 < length y.stored) e some in omega (arith, never))

        stored : (files : List (List ℕ)) (failed : Option (List ℕ)) (k m : K) → 0 < length files → IsStatusAfter failed n → StoresEach store files k m → FailsOnce store failed m new → IfSome ds (λ ds. AreAllFilesOf ds files)
            → (bytes : List ℕ) × IsLastDue ds bytes × HasStored bytes (seen (disk k)) (seen (disk new)) (may_leave (disk new))
        stored [] failed k m some status h f all = absurd (omega (arith, some))
        stored (bytes ∷ files) (Some b) k m some status h f all = absurd (⊎_elim (λ seven. omega (arith, zero, seven)) (λ ten. omega (arith, zero, ten)) status)
        stored (bytes ∷ files) None k m some status h f all = (last_of bytes files, last_due ds bytes files all, last_stored bytes files k new (subst (λ (y : K). StoresEach store (bytes ∷ files) k y) (sym f) h))

        go : Called → HasDue seen may_leave (IsLastDue ds) (disk old) (disk new)
        go (CallsNothing same ten none) = none_some none
        go (FailsToLoad l at u none) = none_some none
        go (Loads l status) = let q = stored x.stored x.failed l.at_load l.at_failure some status l.stored l.failed all in (q.0, q.1, subst (λ o. HasStored q.0 o (seen (disk new)) (may_leave (disk new))) ((l.loaded.1).looks.same) q.2)

    -- at rest, but after a store that failed
    pub rests_after : Called → n ≢ 7 → n ≢ 10 → IsSound retries seen may_leave (disk old) → IsAtRest retries seen may_leave (disk new)
    rests_after (CallsNothing same ten none) seven other sound = absurd (other ten)
    rests_after (FailsToLoad l at u none) seven other sound = absurd (⊎_elim seven other at)
    rests_after (Loads l status) seven other sound = go x.failed l.failed status (each_rest x.stored l.at_load l.at_failure ((l.loaded.1).rest refl sound) l.stored)
      where
        each_rest : (files : List (List ℕ)) (k m : K) → IsAtRest retries seen may_leave (disk k) → StoresEach store files k m → IsAtRest retries seen may_leave (disk m)
        each_rest [] k m rest h = subst (λ (y : K). IsAtRest retries seen may_leave (disk y)) (sym h) rest
        each_rest (bytes ∷ files) k m rest h = each_rest files h.0 m (((h.1).0).rest refl) h.2

        go : (failed : Option (List ℕ)) → FailsOnce store failed l.at_failure new → IsStatusAfter failed n → IsAtRest retries seen may_leave (disk l.at_failure) → IsAtRest retries seen may_leave (disk new)
        go None f status rest = subst (λ (y : K). IsAtRest retries seen may_leave (disk y)) (sym f) rest
        go (Some bytes) f status rest = absurd (⊎_elim seven other status)
