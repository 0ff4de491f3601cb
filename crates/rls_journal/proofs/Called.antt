-- The calls of the system that a call of a disk of files makes.
use Rattle.std.proofs.Common.{◌≡◌, ◌∙◌, ◌⊎◌, ◌++◌, ◌<◌, ◌==◌, length, is_ok, arith, ap, inl, inr, refl, subst, sym, ℕ, Bool, true, false, List, [], ◌∷◌, Option, Some, Result, Ok, Err, IsErrAnd, min, zero, suc, if◌then◌else◌}
use Rattle.std.proofs.lemmas.Bool.{eqb-true}
use Rattle.rls_io.specs.Calls.{Answer, Failed, Done, Missing, Forbidden, Told, Gave, done, gave, told, Makes, FailsIn, Runs}
use Rattle.rls_io.proofs.Runs.{fails_front, runs_last, runs_on}
use Rattle.rls_journal.specs.Calls.{DiskCall, Read, Renew, Size, Sync, Write}
use Rattle.rls_journal.specs.Files.{AnswersBy, Did, DoesBy, FileCall, FileSize, IsLeft, IsRefused, IsSame, MakeFile, MakesFile, Opens, ReadFile, SyncFile, SyncFolder, SyncsFile, SyncsFolder, WriteFile, call_answer, call_steps, first_steps, found_after, found_at, is_read_only, opening_answer, size_of, synced_after, with_made, write_steps}
use Rattle.rls_journal.specs.declared.calls.Opening.{Opening}
use Rattle.rls_journal.specs.declared.calls.Opening.TheVariants as opening
use Rattle.rls_journal.specs.declared.files.AreaFiles.{AreaFiles}
use Rattle.rls_journal.specs.declared.files.Presences.{Presences}

-- bytes that are none, and some
pub no_bytes : (bytes : List ℕ) → (length bytes == 0) ≡ true → bytes ≡ []
no_bytes [] is = refl
no_bytes (b ∷ bs) is = absurd (let long = eqb-true (length (b ∷ bs)) 0 is in omega (arith, long))

pub some_bytes : (bytes : List ℕ) → (length bytes == 0) ≡ false → 0 < length bytes
some_bytes [] is = absurd (let never : true ≡ false = is in cc)
some_bytes (b ∷ bs) is = omega arith

if_false : {A : Type 0} (b : Bool) (x y : A) → b ≡ false → (if b then x else y) ≡ y
if_false true x y is = absurd (let never : true ≡ false = is in cc)
if_false false x y is = refl

if_true : {A : Type 0} (b : Bool) (x y : A) → b ≡ true → (if b then x else y) ≡ x
if_true true x y is = refl
if_true false x y is = absurd (let never : false ≡ true = is in cc)

-- what is known of the files, and of the folder, after one was made that was missing
found_made : (there : Bool) (before after : Presences) (old new : Option Presences) → old ≡ Some before → new ≡ (if there then old else Some after) → new ≡ Some (if there then before else after)
found_made true before after old new was is = is ∙ was
found_made false before after old new was is = is

synced_made : (there old new : Bool) → new ≡ (if there then old else false) → new ≡ true → old ≡ true
synced_made true old new is synced = sym is ∙ synced
synced_made false old new is synced = absurd (let never : false ≡ true = sym is ∙ synced in cc)

-- the size of a file
pub gate_size : (area len n : ℕ) → area ≡ 2 → n ≡ min len 1 → n ≡ size_of area len
gate_size area len n is eq = subst (λ a. n ≡ size_of a len) (sym is) eq

pub slot_size : (area len : ℕ) → area < 3 → (area ≡ 2 → ⊥) → len ≡ size_of area len
slot_size zero len few other = refl
slot_size (suc zero) len few other = refl
slot_size (suc (suc zero)) len few other = absurd (other refl)
slot_size (suc (suc (suc n))) len few other = absurd (omega (arith, few))

pub told_there : (b : Bool) (n m : ℕ) → b ≡ true → n ≡ m → Told n ≡ Told (if b then m else 0)
told_there true n m is same = ap (λ k. Told k) same
told_there false n m is same = absurd (let never : false ≡ true = is in cc)

pub gave_there : (b : Bool) (bytes : List ℕ) → b ≡ true → Gave bytes ≡ Gave (if b then bytes else [])
gave_there true bytes is = refl
gave_there false bytes is = absurd (let never : false ≡ true = is in cc)

-- the call did what it was asked for
abbrev pub succeeds : Answer → Bool
succeeds Failed = false
succeeds _ = true

-- the answer that was counted
pub same_told : {E F : Type 0} (answer : Result ℕ E) (r : Result ℕ F) → IsSame answer r → told answer ≡ told r
same_told (Ok x) (Ok y) is = ap (λ n. Told n) (sym is)
same_told (Ok x) (Err f) is = absurd is
same_told (Err e) (Ok y) is = absurd is
same_told (Err e) (Err f) is = refl

pub same_done : {A E F : Type 0} (answer : Result A E) (r : Result A F) → IsSame answer r → done answer ≡ done r
same_done (Ok x) (Ok y) is = refl
same_done (Ok x) (Err f) is = absurd is
same_done (Err e) (Ok y) is = absurd is
same_done (Err e) (Err f) is = refl

pub same_gave : {A E F : Type 0} (answer : Result A E) (r : Result A F) (buf : List ℕ) → IsSame answer r → gave answer buf ≡ gave r buf
same_gave (Ok x) (Ok y) buf is = refl
same_gave (Ok x) (Err f) buf is = absurd is
same_gave (Err e) (Ok y) buf is = absurd is
same_gave (Err e) (Err f) buf is = refl

module _ {C : Type 0} (gives : C → FileCall → Answer → C → Type 0) where
  -- where the answer is the error of a call
  pub answers_not : {X E : Type 0} (P : E → Type 0) (steps : X → List (FileCall × Answer)) (x : X) (r : Result X E) (old new : C) → IsErrAnd r P → FailsIn gives (steps x) old new → AnswersBy gives steps r old new
  answers_not P steps x (Ok y) old new is h = absurd is
  answers_not P steps x (Err e) old new is h = (x, h)

  pub did_told : {E : Type 0} (P : E → Type 0) (r : Result ℕ E) (call : DiskCall) (old new : AreaFiles C) → IsErrAnd r P → Did gives call Failed old new → Did gives call (told r) old new
  did_told P (Ok x) call old new is h = absurd is
  did_told P (Err e) call old new is h = h

  pub did_done : {A E : Type 0} (P : E → Type 0) (r : Result A E) (call : DiskCall) (old new : AreaFiles C) → IsErrAnd r P → Did gives call Failed old new → Did gives call (done r) old new
  did_done P (Ok x) call old new is h = absurd is
  did_done P (Err e) call old new is h = h

  pub did_gave : {A E : Type 0} (P : E → Type 0) (r : Result A E) (buf : List ℕ) (call : DiskCall) (old new : AreaFiles C) → IsErrAnd r P → Did gives call Failed old new → Did gives call (gave r buf) old new
  did_gave P (Ok x) buf call old new is h = absurd is
  did_gave P (Err e) buf call old new is h = h

  -- one call, where the file is there
  pub if_fails : (b : Bool) (x : FileCall × Answer) (old new : C) → b ≡ true → gives old x.0 Failed new → FailsIn gives (if b then x ∷ [] else []) old new
  if_fails true x old new is h = inl h
  if_fails false x old new is h = absurd (let never : false ≡ true = is in cc)

  pub if_makes : (b : Bool) (x : FileCall × Answer) (old new : C) → b ≡ true → gives old x.0 x.1 new → Makes gives (if b then x ∷ [] else []) old new
  if_makes true x old new is h = (new, h, refl)
  if_makes false x old new is h = absurd (let never : false ≡ true = is in cc)

  -- a file that may not be written
  pub was_forbidden : {E : Type 0} (call : FileCall) (r : Result Opening E) (o : Opening) (old new : C) → r ≡ Ok o → o ≡ opening.Forbidden → gives old call (opening_answer r) new → gives old call Forbidden new
  was_forbidden call r o old new was is h = subst (λ s. gives old call (opening_answer s) new) (was ∙ ap (λ f. Ok f) is) h

  does_answered : (a : Answer) (front : List (FileCall × Answer)) (found : Presences) (synced : Bool) (call : DiskCall) (size : ℕ) (bytes : List ℕ) (old new : C) → succeeds a ≡ true → a ≡ call_answer found call size bytes → Makes gives (front ++ call_steps found synced call size bytes) old new → DoesBy gives front found synced call size bytes a old new
  does_answered Failed front found synced call size bytes old new ok is h = absurd (let never : false ≡ true = ok in cc)
  does_answered Done front found synced call size bytes old new ok is h = (is, h)
  does_answered Missing front found synced call size bytes old new ok is h = (is, h)
  does_answered Forbidden front found synced call size bytes old new ok is h = (is, h)
  does_answered (Told n) front found synced call size bytes old new ok is h = (is, h)
  does_answered (Gave b) front found synced call size bytes old new ok is h = (is, h)

  left_answered : (a : Answer) (found : Presences) (call : DiskCall) (old new : AreaFiles C) → succeeds a ≡ true → new.found ≡ Some (found_after found call) → new.is_folder_synced ≡ synced_after found old.is_folder_synced call → IsLeft found call a old new
  left_answered Failed found call old new ok is s = absurd (let never : false ≡ true = ok in cc)
  left_answered Done found call old new ok is s = (is, s)
  left_answered Missing found call old new ok is s = (is, s)
  left_answered Forbidden found call old new ok is s = (is, s)
  left_answered (Told n) found call old new ok is s = (is, s)
  left_answered (Gave b) found call old new ok is s = (is, s)

  -- the files couldn't be opened
  pub did_not_open : (call : DiskCall) (old new : AreaFiles C) → (found : Presences) × Opens gives false found old new → Did gives call Failed old new
  did_not_open call old new h = record {
    found = h.0;
    size = 0;
    bytes = [];
    known = (h.1).known;
    does = inl (fails_front gives (first_steps old.found h.0) (call_steps h.0 old.is_folder_synced call 0 []) old.calls new.calls (h.1).calls);
    left = (λ is. sym (h.1).synced ∙ is, inl (h.1).found_is);
  }

  module _ (call : DiskCall) (found : Presences) (size : ℕ) (bytes : List ℕ) (old mid new : AreaFiles C) (opens : Opens gives true found old mid) where
    -- all calls were made
    pub did_all : (a : Answer) → succeeds a ≡ true → a ≡ call_answer found call size bytes → Makes gives (call_steps found mid.is_folder_synced call size bytes) mid.calls new.calls → new.found ≡ Some (found_after found call) → new.is_folder_synced ≡ synced_after found mid.is_folder_synced call → Did gives call a old new
    did_all a ok is made left synced = record {
      found = found;
      size = size;
      bytes = bytes;
      known = opens.known;
      does = does_answered a (first_steps old.found found) found old.is_folder_synced call size bytes old.calls new.calls ok is
          (runs_on gives (first_steps old.found found) (call_steps found old.is_folder_synced call size bytes) true old.calls mid.calls new.calls opens.calls (subst (λ b. Makes gives (call_steps found b call size bytes) mid.calls new.calls) opens.synced made));
      left = left_answered a found call old new ok left (subst (λ b. new.is_folder_synced ≡ synced_after found b call) opens.synced synced);
    }

    -- one of them failed
    pub did_some : FailsIn gives (call_steps found mid.is_folder_synced call size bytes) mid.calls new.calls → (new.is_folder_synced ≡ true → mid.is_folder_synced ≡ true) → (new.found ≡ Some found) ⊎ (new.found ≡ Some (found_after found call)) → Did gives call Failed old new
    did_some failed synced left = record {
      found = found;
      size = size;
      bytes = bytes;
      known = opens.known;
      does = inl (runs_on gives (first_steps old.found found) (call_steps found old.is_folder_synced call size bytes) false old.calls mid.calls new.calls opens.calls (subst (λ b. FailsIn gives (call_steps found b call size bytes) mid.calls new.calls) opens.synced failed));
      left = (λ is. sym opens.synced ∙ synced is, inr left);
    }

    -- none was made
    pub did_none : IsRefused found call → new ≡ mid → Did gives call Failed old new
    did_none refused same = record {
      found = found;
      size = size;
      bytes = bytes;
      known = opens.known;
      does = inr (refused, subst (λ m. Makes gives (first_steps old.found found) old.calls m) (ap (λ (f : AreaFiles C). f.calls) (sym same)) opens.calls);
      left = (λ is. sym opens.synced ∙ (ap (λ (f : AreaFiles C). f.is_folder_synced) (sym same) ∙ is), inr (inl (ap (λ (f : AreaFiles C). f.found) same ∙ opens.found_is)));
    }

    -- all of them, or one of them failed, by an answer that tells no more
    did_by : {A E : Type 0} (r : Result A E) → Done ≡ call_answer found call size bytes → Runs gives (call_steps found mid.is_folder_synced call size bytes) (is_ok r) mid.calls new.calls
        → (is_ok r ≡ true → (new.found ≡ Some (found_after found call)) × (new.is_folder_synced ≡ synced_after found mid.is_folder_synced call))
        → (is_ok r ≡ false → (new.is_folder_synced ≡ true → mid.is_folder_synced ≡ true) × ((new.found ≡ Some found) ⊎ (new.found ≡ Some (found_after found call))))
        → Did gives call (done r) old new
    did_by (Ok x) is runs well ill = did_all Done refl is runs (well refl).0 (well refl).1
    did_by (Err e) is runs well ill = did_some runs (ill refl).0 (ill refl).1

  -- ---- the calls, one by one, where this was found of the files

  -- files with which only calls were made
  abbrev pub with_calls : AreaFiles C → C → AreaFiles C
  with_calls files calls = record { calls = calls; found = files.found; is_folder_synced = files.is_folder_synced }

  if_none : (b : Bool) (x : FileCall × Answer) (c : C) → b ≡ false → Makes gives (if b then x ∷ [] else []) c c
  if_none true x c is = absurd (let never : true ≡ false = is in cc)
  if_none false x c is = refl

  makes_writes : {A E : Type 0} (there : Bool) (area at : ℕ) (bytes : List ℕ) (r : Result A E) (old mid new : C) → Runs gives (if there then [] else (MakeFile area, Done) ∷ []) true old mid → gives mid (WriteFile area at bytes) (done r) new → Runs gives (write_steps there area at bytes) (is_ok r) old new
  makes_writes true area at bytes r old mid new made wrote = subst (λ c. Runs gives ((WriteFile area at bytes, Done) ∷ []) (is_ok r) c new) made (runs_last gives (WriteFile area at bytes) r mid new wrote)
  makes_writes false area at bytes r old mid new made wrote = runs_on gives ((MakeFile area, Done) ∷ []) ((WriteFile area at bytes, Done) ∷ []) (is_ok r) old mid new made (runs_last gives (WriteFile area at bytes) r mid new wrote)

  makes_not : (there : Bool) (area at : ℕ) (bytes : List ℕ) (old new : C) → FailsIn gives (if there then [] else (MakeFile area, Done) ∷ []) old new → FailsIn gives (write_steps there area at bytes) old new
  makes_not true area at bytes old new failed = absurd failed
  makes_not false area at bytes old new failed = fails_front gives ((MakeFile area, Done) ∷ []) ((WriteFile area at bytes, Done) ∷ []) old new failed

  module _ (found : Presences) (old mid : AreaFiles C) (opens : Opens gives true found old mid) (area : ℕ) where
    -- a size
    pub size_none : (found_at found area).is_there ≡ false → Did gives (Size area) (Told 0) old mid
    size_none missing = did_all (Size area) found 0 [] old mid mid opens (Told 0) refl (ap (λ n. Told n) (sym (if_false (found_at found area).is_there (size_of area 0) 0 missing))) (if_none (found_at found area).is_there (FileSize area, Told 0) mid.calls missing) opens.found_is refl

    pub size_there : (len n : ℕ) (new : C) → (found_at found area).is_there ≡ true → n ≡ size_of area len → gives mid.calls (FileSize area) (Told len) new → Did gives (Size area) (Told n) old (with_calls mid new)
    size_there len n new there is h = did_all (Size area) found len [] old mid (with_calls mid new) opens (Told n) refl (told_there (found_at found area).is_there n (size_of area len) there is) (if_makes (found_at found area).is_there (FileSize area, Told len) mid.calls new there h) opens.found_is refl

    pub size_fails : (new : C) → (found_at found area).is_there ≡ true → gives mid.calls (FileSize area) Failed new → Did gives (Size area) Failed old (with_calls mid new)
    size_fails new there h = did_some (Size area) found 0 [] old mid (with_calls mid new) opens (if_fails (found_at found area).is_there (FileSize area, Told 0) mid.calls new there h) (λ is. is) (inl opens.found_is)

    -- a read
    pub read_there : {A E : Type 0} (at count : ℕ) (buf : List ℕ) (r : Result A E) (new : C) → (found_at found area).is_there ≡ true → gives mid.calls (ReadFile area at count) (gave r buf) new → Did gives (Read area at count) (gave r buf) old (with_calls mid new)
    read_there at count buf (Ok x) new there h = did_all (Read area at count) found 0 buf old mid (with_calls mid new) opens (Gave buf) refl (gave_there (found_at found area).is_there buf there) (if_makes (found_at found area).is_there (ReadFile area at count, Gave buf) mid.calls new there h) opens.found_is refl
    read_there at count buf (Err e) new there h = did_some (Read area at count) found 0 [] old mid (with_calls mid new) opens (if_fails (found_at found area).is_there (ReadFile area at count, Gave []) mid.calls new there h) (λ is. is) (inl opens.found_is)

    pub read_none : (at count : ℕ) (buf : List ℕ) → (found_at found area).is_there ≡ false → buf ≡ [] → Did gives (Read area at count) (Gave buf) old mid
    read_none at count buf missing none = did_all (Read area at count) found 0 [] old mid mid opens (Gave buf) refl (ap (λ b. Gave b) (none ∙ sym (if_false (found_at found area).is_there [] [] missing))) (if_none (found_at found area).is_there (ReadFile area at count, Gave []) mid.calls missing) opens.found_is refl

    pub read_refused : (at count : ℕ) → (found_at found area).is_there ≡ false → 0 < count → Did gives (Read area at count) Failed old mid
    read_refused at count missing some = did_none (Read area at count) found 0 [] old mid mid opens (missing, some) refl

    -- a file that is made if it is missing, and a write to it
    module _ (call : DiskCall) (at : ℕ) (bytes : List ℕ) (steps : (synced : Bool) → write_steps (found_at found area).is_there area at bytes ≡ call_steps found synced call 0 []) (after : (if (found_at found area).is_there then found else with_made found area) ≡ found_after found call) where
      pub makes_no_file : (new : AreaFiles C) → MakesFile gives found area false mid new → Did gives call Failed old new
      makes_no_file new m = did_some call found 0 [] old mid new opens (subst (λ s. FailsIn gives s mid.calls new.calls) (steps mid.is_folder_synced) (makes_not (found_at found area).is_there area at bytes mid.calls new.calls m.calls)) (λ is. synced_made (found_at found area).is_there mid.is_folder_synced new.is_folder_synced m.synced is) (inl (m.not_found refl ∙ opens.found_is))

      pub writes_file : {A E : Type 0} (r : Result A E) (made : AreaFiles C) (new : C) → ((synced : Bool) → (if (found_at found area).is_there then synced else false) ≡ synced_after found synced call) → Done ≡ call_answer found call 0 [] → MakesFile gives found area true mid made → gives made.calls (WriteFile area at bytes) (done r) new → Did gives call (done r) old (with_calls made new)
      writes_file r made new synced answer m wrote =
          let there = (found_at found area).is_there in
          let known : made.found ≡ Some (found_after found call) = found_made there found (with_made found area) mid.found made.found opens.found_is (m.found_is refl) ∙ ap (λ f. Some f) after in
          did_by call found 0 [] old mid (with_calls made new) opens r answer (subst (λ s. Runs gives s (is_ok r) mid.calls new) (steps mid.is_folder_synced) (makes_writes there area at bytes r mid.calls made.calls new m.calls wrote))
          (λ ok. (known, m.synced ∙ synced mid.is_folder_synced)) (λ not. (synced_made there mid.is_folder_synced made.is_folder_synced m.synced, inr known))

    -- a write of no bytes, and of some
    pub write_none : (at : ℕ) (bytes : List ℕ) → bytes ≡ [] → Did gives (Write area at bytes) Done old mid
    write_none at bytes none = subst (λ b. Did gives (Write area at b) Done old mid) (sym none) (did_all (Write area at []) found 0 [] old mid mid opens Done refl refl refl opens.found_is refl)

    pub write_refused : (at : ℕ) (bytes : List ℕ) → is_read_only found ≡ true → 0 < length bytes → Did gives (Write area at bytes) Failed old mid
    write_refused at bytes only some = did_none (Write area at bytes) found 0 [] old mid mid opens (only, some) refl

    pub write_unmade : (at : ℕ) (bytes : List ℕ) (new : AreaFiles C) → 0 < length bytes → MakesFile gives found area false mid new → Did gives (Write area at bytes) Failed old new
    write_unmade at [] new some m = absurd (omega (arith, some))
    write_unmade at (b ∷ bs) new some m = makes_no_file (Write area at (b ∷ bs)) at (b ∷ bs) (λ synced. refl) refl new m

    pub write_made : {A E : Type 0} (at : ℕ) (bytes : List ℕ) (r : Result A E) (made : AreaFiles C) (new : C) → 0 < length bytes → MakesFile gives found area true mid made → gives made.calls (WriteFile area at bytes) (done r) new → Did gives (Write area at bytes) (done r) old (with_calls made new)
    write_made at [] r made new some m wrote = absurd (omega (arith, some))
    write_made at (b ∷ bs) r made new some m wrote = writes_file (Write area at (b ∷ bs)) at (b ∷ bs) (λ synced. refl) refl r made new (λ synced. refl) refl m wrote

    -- a sync
    pub sync_fails : (new : AreaFiles C) → SyncsFile gives (found_at found area).is_there false area mid new → Did gives (Sync area) Failed old new
    sync_fails new s = did_some (Sync area) found 0 [] old mid new opens (fails_front gives (if (found_at found area).is_there then (SyncFile area, Done) ∷ [] else []) (if mid.is_folder_synced then [] else (SyncFolder, Done) ∷ []) mid.calls new.calls s.calls) (λ is. sym s.synced ∙ is) (inl (s.same ∙ opens.found_is))

    pub sync_both : {A E : Type 0} (r : Result A E) (synced new : AreaFiles C) → SyncsFile gives (found_at found area).is_there true area mid synced → SyncsFolder gives (is_ok r) synced new → Did gives (Sync area) (done r) old new
    sync_both r synced new s f =
        let folder = subst (λ b. Runs gives (if b then [] else (SyncFolder, Done) ∷ []) (is_ok r) synced.calls new.calls) s.synced f.calls in
        did_by (Sync area) found 0 [] old mid new opens r refl (runs_on gives (if (found_at found area).is_there then (SyncFile area, Done) ∷ [] else []) (if mid.is_folder_synced then [] else (SyncFolder, Done) ∷ []) (is_ok r) mid.calls synced.calls new.calls s.calls folder)
        (λ ok. (f.same ∙ (s.same ∙ opens.found_is), f.synced ok)) (λ not. (λ is. sym s.synced ∙ (sym (f.not_synced not) ∙ is), inl (f.same ∙ (s.same ∙ opens.found_is))))

  -- a renewal
  module _ (found : Presences) (old mid : AreaFiles C) (opens : Opens gives true found old mid) where
    pub renew_none : is_read_only found ≡ true → Did gives Renew Done old mid
    renew_none only = did_all Renew found 0 [] old mid mid opens Done refl refl (subst (λ s. Makes gives s mid.calls mid.calls) (sym (if_true (is_read_only found) [] (write_steps (found.gate).is_there 2 1 (0 ∷ [])) only)) refl)
        (opens.found_is ∙ ap (λ f. Some f) (sym (if_true (is_read_only found) found (if (found.gate).is_there then found else with_made found 2) only))) (sym (if_true (is_read_only found) mid.is_folder_synced (if (found.gate).is_there then mid.is_folder_synced else false) only))

    steps_are : is_read_only found ≡ false → (synced : Bool) → write_steps (found.gate).is_there 2 1 (0 ∷ []) ≡ call_steps found synced Renew 0 []
    steps_are writes synced = sym (if_false (is_read_only found) [] (write_steps (found.gate).is_there 2 1 (0 ∷ [])) writes)

    after_is : is_read_only found ≡ false → (if (found.gate).is_there then found else with_made found 2) ≡ found_after found Renew
    after_is writes = sym (if_false (is_read_only found) found (if (found.gate).is_there then found else with_made found 2) writes)

    pub renew_unmade : (new : AreaFiles C) → is_read_only found ≡ false → MakesFile gives found 2 false mid new → Did gives Renew Failed old new
    renew_unmade new writes m = makes_no_file found old mid opens 2 Renew 1 (0 ∷ []) (steps_are writes) (after_is writes) new m

    pub renew_made : {A E : Type 0} (r : Result A E) (made : AreaFiles C) (new : C) → is_read_only found ≡ false → MakesFile gives found 2 true mid made → gives made.calls (WriteFile 2 1 (0 ∷ [])) (done r) new → Did gives Renew (done r) old (with_calls made new)
    renew_made r made new writes m wrote = writes_file found old mid opens 2 Renew 1 (0 ∷ []) (steps_are writes) (after_is writes) r made new (λ synced. sym (if_false (is_read_only found) synced (if (found.gate).is_there then synced else false) writes)) refl m wrote
