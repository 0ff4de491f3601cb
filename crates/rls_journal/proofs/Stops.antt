-- What a stop leaves while a file is stored.
use Rattle.std.proofs.Common.{◌≡◌, inl, inr, ℕ, ◌-◌, ◌<◌, List, length, take, Option, Some, None, IfSome, refl, sym, ◌∙◌, ap, subst, arith}
use Rattle.std.specs.Int.{w64, from_be_bytes}
use Rattle.rls_journal.specs.Areas.{Areas, area_of, named_by, file_at, file_of, kept}
use Rattle.rls_journal.specs.Disk.{Tears, Narrows, Follows, IsWritten, Elapses, Changes, LeavesOnly}
use Rattle.rls_journal.specs.Slots.{Strays, MayStray, HasFile, HasStored, Holds, HoldsOn, IsSettled, KeepsOneOf, Names, Puts}
use Rattle.rls_journal.proofs.Parts.{at_some, to_some}
use Rattle.rls_journal.proofs.Moments.{started, goes_on, rests}
use Rattle.rls_journal.proofs.Images.{gate_stays, other_stays, slot_stays}
use Rattle.rls_journal.proofs.Held.{Stepped, file_durable, holds_narrows, holds_now, name_holds, name_settled, put_kept, put_settled, replace_holds, settled_kept, settled_narrows}

module _ {D : Type 0} (seen : D → Option Areas) (may_leave : D → Areas → Type 0) (moment : D → ℕ) (left_since : D → ℕ → Areas → Type 0) (only : (disk : D) (c : Areas) → left_since disk (moment disk) c → may_leave disk c) (first second : Option (List ℕ)) where
  -- a run that has come to a disk which reads so
  pub record Run (old new : D) (n : Areas) : Type 0 where
    pub reads : seen new ≡ Some n
    pub leaves : LeavesOnly moment left_since old new (KeepsOneOf first second)
    pub holds : Holds first second n (may_leave new)

  pub run_ends : (old new : D) (n : Areas) → Run old new n → HoldsOn seen may_leave moment left_since first second old new
  run_ends old new n run = (run.leaves, subst (λ o. IfSome o (λ s. Holds first second s (may_leave new))) (sym run.reads) run.holds)

  pub run_starts : (old : D) (s : Areas) → seen old ≡ Some s → Holds first second s (may_leave old) → Run old old s
  run_starts old s is h = record { reads = is; leaves = started may_leave moment left_since old (KeepsOneOf first second) (only old) (holds_now first second s (may_leave old) h); holds = h }

  -- a step that changes something
  pub run_steps : (old mid new : D) (n m : Areas) (step : Areas → Areas → Type 0) → Run old mid n → Changes may_leave moment left_since step mid new → seen new ≡ Some m → Holds first second m (Stepped step (may_leave mid)) → Run old new m
  run_steps old mid new n m step run changes is h = record {
    reads = is;
    leaves = goes_on may_leave moment left_since old mid new (KeepsOneOf first second) step run.leaves changes (λ d c left steps. holds_now first second m (Stepped step (may_leave mid)) h c (d, left, steps));
    holds = holds_narrows first second m (Stepped step (may_leave mid)) (may_leave new) changes.crash h;
  }

  -- a call that changes nothing
  pub run_rests : (old mid new : D) (n : Areas) → Run old mid n → seen new ≡ seen mid → Elapses (moment mid) (moment new) (left_since mid) (left_since new) (may_leave new) → Narrows (may_leave mid) (may_leave new) → Run old new n
  run_rests old mid new n run same time narrows = record {
    reads = same ∙ run.reads;
    leaves = rests may_leave moment left_since old mid new (KeepsOneOf first second) run.leaves time narrows (holds_now first second n (may_leave mid) run.holds);
    holds = holds_narrows first second n (may_leave mid) (may_leave new) narrows run.holds;
  }

-- ---- a slot that was put and synced

-- a slot has the file, and its number in front
abbrev pub Has : ℕ → List ℕ → Option Areas → Option Areas → Type 0
Has slot bytes None new = new ≡ None
Has slot bytes (Some old) new = (n : Areas) × (new ≡ Some n) × (from_be_bytes w64 (take 8 (area_of n slot)) ≡ length bytes) × (file_of (area_of n slot) ≡ bytes)

pub puts_has : (slot : ℕ) (bytes : List ℕ) (old new : Option Areas) → Puts slot bytes old new → Has slot bytes old new
puts_has slot bytes None new puts = puts
puts_has slot bytes (Some s) new puts = (puts.0, puts.1, puts.3, puts.4)

pub puts_both : (bytes : List ℕ) (old one two : Option Areas) → Puts 0 bytes old one → Puts 1 bytes one two → Has 0 bytes old two
puts_both bytes None one two first second = let P : Option Areas → Type 0 = λ o. Puts 1 bytes o two in subst P first second
puts_both bytes (Some s) one two first second =
    let P : Option Areas → Type 0 = λ o. Puts 1 bytes o two in
    let q = subst P first.1 second in
    let same : area_of q.0 0 ≡ area_of first.0 0 = other_stays 1 first.0 q.0 (omega arith) q.2 in
    (q.0, q.1, ap (λ (l : List ℕ). from_be_bytes w64 (take 8 l)) same ∙ first.3, ap file_of same ∙ first.4)

pub file_kept : (slot : ℕ) (bytes : List ℕ) (old put : Option Areas) (dirty : ℕ → ℕ → ℕ → Type 0) (may_leave : Areas → Type 0) → Has slot bytes old put → IfSome put (λ n. IsWritten slot dirty n may_leave) → dirty slot 0 8 → dirty slot 8 (length bytes)
    → IfSome put (λ n. HasFile slot n may_leave)
file_kept slot bytes None put dirty may_leave has written first rest = subst (λ o. IfSome o (λ n. HasFile slot n may_leave)) (sym has) tt
file_kept slot bytes (Some s) put dirty may_leave has written first rest =
    let w = at_some put (λ n. IsWritten slot dirty n may_leave) has.0 has.1 written in
    subst (λ o. IfSome o (λ n. HasFile slot n may_leave)) (sym has.1) (file_durable slot has.0 may_leave bytes has.2 (w.durable 0 8 first) (w.durable 8 (length bytes) rest))

pub file_narrows : (slot : ℕ) (put : Option Areas) (old new : Areas → Type 0) → Narrows old new → IfSome put (λ n. HasFile slot n old) → IfSome put (λ n. HasFile slot n new)
file_narrows slot put old new narrows has = to_some put (λ n. HasFile slot n new) (λ n is c left. at_some put (λ n. HasFile slot n old) n is has c (narrows c left))

-- the gate is written
pub file_named : (slot : ℕ) (put : Option Areas) (old new : Areas → Type 0) → slot < 2 → Follows (Tears 2 0 1) old new → IfSome put (λ n. HasFile slot n old) → IfSome put (λ n. HasFile slot n new)
file_named slot put old new small follows has = to_some put (λ n. HasFile slot n new) (λ n is c left.
    let from = follows c left in
    ap file_of (slot_stays slot from.0 c small (from.2).others) ∙ at_some put (λ n. HasFile slot n old) n is has from.0 from.1)

-- then it is stored, and all is settled
pub stores : (slot : ℕ) (bytes : List ℕ) (old put sync new : Option Areas) (may_leave : Areas → Type 0) → slot < 2 → Has slot bytes old put → sync ≡ put → Names slot sync new may_leave → IfSome put (λ n. HasFile slot n may_leave)
    → HasStored bytes old new may_leave × IfSome new (λ m. IsSettled m may_leave)
stores slot bytes None put sync new may_leave small has same names file =
    let P : Option Areas → Type 0 = λ o. Names slot o new may_leave in
    let none = subst P (same ∙ has) names in
    (none, subst (λ o. IfSome o (λ m. IsSettled m may_leave)) (sym none) tt)
stores slot bytes (Some s) put sync new may_leave small has same names file =
    let P : Option Areas → Type 0 = λ o. Names slot o new may_leave in
    let m = subst P (same ∙ has.1) names in
    let kept_file = at_some put (λ n. HasFile slot n may_leave) has.0 has.1 file in
    let slot_same : area_of m.0 slot ≡ area_of has.0 slot = slot_stays slot has.0 m.0 small m.2 in
    let settled = name_settled slot m.0 may_leave m.3 m.4 (λ c left. kept_file c left ∙ sym (ap file_of slot_same)) in
    let is : kept m.0 ≡ Some bytes = ap (λ o. file_at o m.0) m.3 ∙ ap (λ (l : List ℕ). Some (file_of l)) slot_same ∙ ap (λ (l : List ℕ). Some l) has.3 in
    ((m.0, m.1, is, λ c left. settled_kept m.0 may_leave settled c left ∙ is), subst (λ o. IfSome o (λ m. IsSettled m may_leave)) (sym m.1) settled)

-- ---- the runs of a store

module _ {D : Type 0} (seen : D → Option Areas) (may_leave : D → Areas → Type 0) (moment : D → ℕ) (left_since : D → ℕ → Areas → Type 0) (only : (disk : D) (c : Areas) → left_since disk (moment disk) c → may_leave disk c) (old : D) (s : Areas) (bytes : List ℕ) (is : seen old ≡ Some s) (settled : IsSettled s (may_leave old)) where
  abbrev Goes : D → D → Type 0
  Goes before after = Elapses (moment before) (moment after) (left_since before) (left_since after) (may_leave after)

  abbrev Steps : (Areas → Areas → Type 0) → D → D → Type 0
  Steps step before after = Changes may_leave moment left_since step before after

  abbrev Runs : D → Areas → Type 0
  Runs new n = Run seen may_leave moment left_since only (kept s) (Some bytes) old new n

  abbrev Held : D → Type 0
  Held new = HoldsOn seen may_leave moment left_since (kept s) (Some bytes) old new

  ends : (new : D) (n : Areas) → Runs new n → Held new
  ends new n run = run_ends seen may_leave moment left_since only (kept s) (Some bytes) old new n run

  -- after a slot was put that the gate doesn't name
  pub record Put (new : D) (m : Areas) : Type 0 where
    pub run : Runs new m
    pub settles : IsSettled m (may_leave new)
    pub same : kept m ≡ kept s

  put_one : (slot : ℕ) (mid new : D) (n m : Areas) → slot < 2 → Runs mid n → IsSettled n (may_leave mid) → kept n ≡ kept s → ((named : ℕ) → named_by n.gate ≡ Some named → named ≡ 1 - slot) → seen new ≡ Some m → Strays slot n m → Steps (Strays slot) mid new → Put new m
  put_one slot mid new n m small run settles same other ism strays step =
      let stepped = put_settled slot n m (may_leave mid) small other strays settles in
      let kept_same : kept m ≡ kept s = put_kept slot n m (may_leave mid) small other strays ∙ same in
      record {
        run = run_steps seen may_leave moment left_since only (kept s) (Some bytes) old mid new n m (Strays slot) run step ism (inl (stepped, inl kept_same));
        settles = settled_narrows m (Stepped (Strays slot) (may_leave mid)) (may_leave new) step.crash stepped;
        same = kept_same;
      }

  starts : Runs old s
  starts = run_starts seen may_leave moment left_since only (kept s) (Some bytes) old s is (inl (settled, inl refl))

  rests_at : (mid new : D) (n : Areas) → Runs mid n → seen new ≡ seen mid → Goes mid new → Narrows (may_leave mid) (may_leave new) → Runs new n
  rests_at mid new n run same time narrows = run_rests seen may_leave moment left_since only (kept s) (Some bytes) old mid new n run same time narrows

  names_at : (mid new : D) (n : Areas) → Runs mid n → MayStray 2 (seen mid) (seen new) → Steps (Tears 2 0 1) mid new → ((m : Areas) → Strays 2 n m → Holds (kept s) (Some bytes) m (Stepped (Tears 2 0 1) (may_leave mid))) → Held new
  names_at mid new n run strays step h =
      let P : Option Areas → Type 0 = λ o. MayStray 2 o (seen new) in
      let m = subst P run.reads strays in
      ends new m.0 (run_steps seen may_leave moment left_since only (kept s) (Some bytes) old mid new n m.0 (Tears 2 0 1) run step m.1 (h m.0 m.2))

  module _ (slot : ℕ) (small : slot < 2) (names : named_by s.gate ≡ Some (1 - slot)) (put : D) (step : Steps (Strays slot) old put) where
    put_at : (n : Areas) → seen put ≡ Some n → Strays slot s n → Put put n
    put_at n isn strays = put_one slot old put s n small starts settled refl (λ named some. let same : Some named ≡ Some (1 - slot) = sym some ∙ names in cc) isn strays step

    pub after_put : MayStray slot (seen old) (seen put) → Held put
    after_put strays =
        let P : Option Areas → Type 0 = λ o. MayStray slot o (seen put) in
        let n = subst P is strays in
        ends put n.0 (put_at n.0 n.1 n.2).run

    module _ (puts : Puts slot bytes (seen old) (seen put)) (sync : D) (same : seen sync ≡ seen put) (time : Goes put sync) (narrows : Narrows (may_leave put) (may_leave sync)) where
      put_done : Puts slot bytes (Some s) (seen put)
      put_done = let P : Option Areas → Type 0 = λ o. Puts slot bytes o (seen put) in subst P is puts

      the_put : Put put put_done.0
      the_put = put_at put_done.0 put_done.1 put_done.2

      synced : Runs sync put_done.0
      synced = rests_at put sync put_done.0 the_put.run same time narrows

      pub after_sync : Held sync
      after_sync = ends sync put_done.0 synced

      pub after_name : (new : D) → IfSome (seen put) (λ n. HasFile slot n (may_leave sync)) → MayStray 2 (seen sync) (seen new) → Steps (Tears 2 0 1) sync new → Held new
      after_name new file strays named = names_at sync new put_done.0 synced strays named (λ m stray.
          let n = put_done.0 in
          let gate : n.gate ≡ s.gate = gate_stays slot s n small put_done.2 in
          let P : Option (List ℕ) → Type 0 = λ f. Holds f (Some bytes) m (Stepped (Tears 2 0 1) (may_leave sync)) in
          subst P the_put.same (replace_holds slot n m (may_leave sync) bytes small (ap named_by gate ∙ names) (settled_narrows n (may_leave put) (may_leave sync) narrows the_put.settles) (at_some (seen put) (λ n. HasFile slot n (may_leave sync)) n put_done.1 file) put_done.4 stray))

  module _ (names : named_by s.gate ≡ None) (one : D) (step : Steps (Strays 0) old one) where
    no_other : (gate : List ℕ) (slot : ℕ) → gate ≡ s.gate → (named : ℕ) → named_by gate ≡ Some named → named ≡ 1 - slot
    no_other gate slot same named some = let never : None ≡ Some named = sym names ∙ sym (ap named_by same) ∙ some in cc

    one_at : (n : Areas) → seen one ≡ Some n → Strays 0 s n → Put one n
    one_at n isn strays = put_one 0 old one s n (omega arith) starts settled refl (no_other s.gate 0 refl) isn strays step

    pub after_one : MayStray 0 (seen old) (seen one) → Held one
    after_one strays =
        let P : Option Areas → Type 0 = λ o. MayStray 0 o (seen one) in
        let n = subst P is strays in
        ends one n.0 (one_at n.0 n.1 n.2).run

    module _ (puts : Puts 0 bytes (seen old) (seen one)) (two : D) (next : Steps (Strays 1) one two) where
      one_done : Puts 0 bytes (Some s) (seen one)
      one_done = let P : Option Areas → Type 0 = λ o. Puts 0 bytes o (seen one) in subst P is puts

      the_one : Put one one_done.0
      the_one = one_at one_done.0 one_done.1 one_done.2

      two_at : (n : Areas) → seen two ≡ Some n → Strays 1 one_done.0 n → Put two n
      two_at n isn strays = put_one 1 one two one_done.0 n (omega arith) the_one.run the_one.settles the_one.same (no_other (one_done.0).gate 1 (gate_stays 0 s one_done.0 (omega arith) one_done.2)) isn strays next

      pub after_two : MayStray 1 (seen one) (seen two) → Held two
      after_two strays =
          let P : Option Areas → Type 0 = λ o. MayStray 1 o (seen two) in
          let n = subst P one_done.1 strays in
          ends two n.0 (two_at n.0 n.1 n.2).run

      module _ (more : Puts 1 bytes (seen one) (seen two)) (zero : D) (same : seen zero ≡ seen two) (time : Goes two zero) (narrows : Narrows (may_leave two) (may_leave zero)) where
        two_done : Puts 1 bytes (Some one_done.0) (seen two)
        two_done = let P : Option Areas → Type 0 = λ o. Puts 1 bytes o (seen two) in subst P one_done.1 more

        zero_run : Runs zero two_done.0
        zero_run = rests_at two zero two_done.0 (two_at two_done.0 two_done.1 two_done.2).run same time narrows

        pub after_zero_kept : Held zero
        after_zero_kept = ends zero two_done.0 zero_run

        module _ (last : D) (again : seen last ≡ seen zero) (later : Goes zero last) (narrower : Narrows (may_leave zero) (may_leave last)) where
          last_run : Runs last two_done.0
          last_run = rests_at zero last two_done.0 zero_run again later narrower

          pub after_both_kept : Held last
          after_both_kept = ends last two_done.0 last_run

          pub after_begun : (new : D) → IfSome (seen two) (λ n. HasFile 0 n (may_leave last)) → IfSome (seen two) (λ n. HasFile 1 n (may_leave last)) → MayStray 2 (seen last) (seen new) → Steps (Tears 2 0 1) last new → Held new
          after_begun new file0 file1 strays named = names_at last new two_done.0 last_run strays named (λ m stray.
              let n = two_done.0 in
              let first : file_of n.slot0 ≡ bytes = ap file_of (other_stays 1 one_done.0 n (omega arith) two_done.2) ∙ one_done.4 in
              name_holds (kept s) (Some bytes) n m (may_leave last) stray (at_some (seen two) (λ n. HasFile 0 n (may_leave last)) n two_done.1 file0) (at_some (seen two) (λ n. HasFile 1 n (may_leave last)) n two_done.1 file1)
              (inr (ap (λ (l : List ℕ). Some l) first)) (inr (ap (λ (l : List ℕ). Some l) two_done.4)) (λ d left empty. inl (sym (ap (λ o. file_at o s) names))))
