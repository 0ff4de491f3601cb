-- What a command does by what its devices answered, from what its stages say.
use Rattle.std.proofs.Common.{◌≡◌, ◌≢◌, ◌∙◌, ◌<◌, ◌≤◌, ◌+◌, ℕ, Bool, true, false, cond, eqb, List, [], length, Option, Some, None, IfErr, IfSome, IsErr, IsTrue, IsFalse, Result, Ok, Err, refl, sym, ap, subst, inl, inr, arith}
use Rattle.std.specs.Prelude.{◌&&◌, not, nat_lt, if◌then◌else◌}
use Rattle.std.proofs.lemmas.Bool.Decides.{nat_tests}
use Rattle.rls_ident.specs.declared.limits.TheConstants.{INPUT_BYTES}
use Rattle.rls_io.specs.declared.devices.Found.{Found}
use Rattle.rls_io.specs.declared.devices.LoadError.{LoadError}
use Rattle.rls_io.specs.Device.{Passes, PassesAll}
use Rattle.rls_io.specs.Memory.{bytes_of}
use Rattle.rls_codec.specs.Reading.{is_member_count}
use Rattle.rls_report.specs.declared.failures.CommandError.{CommandError}
use Rattle.rls_report.specs.declared.failures.CommandError.TheVariants.{BadMembers, BadMe, TooLarge}
use Rattle.rls_report.specs.declared.failures.Failure.{Failure}
use Rattle.rls_report.specs.declared.failures.Failure.TheVariants as failures
use Rattle.rls_report.specs.declared.failures.Fault.TheVariants.{Keeper, Source, Sink, Memory}
use Rattle.rls_seen.specs.Seen.{Seen}
use Rattle.rls_stages.specs.declared.errors.OpenError.{OpenError}
use Rattle.rls_stages.specs.declared.errors.OpenError.TheVariants as opening
use Rattle.rls_stages.specs.declared.errors.WorkError.{WorkError}
use Rattle.rls_stages.specs.declared.errors.WorkError.TheVariants as work
use Rattle.rls_stages.specs.Calls.{Finds, FindsUnlessFailed}
use Rattle.rls_stages.specs.Errors.{GivesError, of_open, of_work}
use Rattle.rls_stages.specs.KeptFile.{loaded, replica_in}
use Rattle.rls_top.specs.declared.made.Made.{Made}
use Rattle.rls_top.specs.declared.stages.DeviceError.{DeviceError}
use Rattle.rls_top.specs.declared.stages.DeviceError.TheVariants as device
use Rattle.rls_top.specs.declared.stages.InputError.{InputError}
use Rattle.rls_top.specs.declared.stages.InputError.TheVariants as input
use Rattle.rls_top.specs.declared.stages.MakeError.{MakeError}
use Rattle.rls_top.specs.declared.stages.MakeError.TheVariants as make
use Rattle.rls_top.specs.declared.words.Command.TheVariants.{New, OnFile, Trial}
use Rattle.rls_top.specs.declared.words.FileCommand.{FileCommand}
use Rattle.rls_top.specs.declared.words.FileCommand.TheVariants.{Edit, Text, Ids, Stat, Send, Take, Leave}
use Rattle.rls_top.specs.Answered.{AfterLoad, BeforeLoad, CallsFor, FailsToLoad, FailsToRead, FailsToStore, FailsToWrite, Finishes, HasCome, HasFailedToWrite, HasMadeAndStored, HasReadInput, HasReadSome, HasStopped, HasStored, HasWritten, InLoad, Performs, ReadsUnlessFailed, Refuses, RunsOut, has_stored}
use Rattle.rls_top.specs.Due.{Due, Makes, Stops, calls_keeper, due_at, due_of_command, due_of_file, due_of_fresh, due_of_input, due_of_new, due_on, error_of_numbers, read, reads_input}
use Rattle.rls_top.specs.Due as due
use Rattle.rls_top.specs.Running.{WorkEnds}
use Rattle.rls_top.specs.Stages.{IsAsDue, IsDue, IsStatusOf, of_input}
use Rattle.rls_top.proofs.Finishing.{ended}
use Rattle.rls_top.proofs.OnFiles.{of_file, ok_is}

-- ---- the input

module _ {S : Type 0} (gives : S → Option (List ℕ) → S → Type 0) (i j : S) where
  -- what is read of the input
  abbrev Reads : Result (List ℕ) CommandError → Type 0
  Reads r = (given : List ℕ) × HasReadInput gives (Some given) i j × (read given ≡ r)

  pub came_whole : (bytes : List ℕ) → length bytes ≤ INPUT_BYTES → PassesAll gives bytes i j → Reads (Ok bytes)
  came_whole bytes within all = let short : nat_lt INPUT_BYTES (length bytes) ≡ false = grind (arith, nat_tests) in (bytes, inl all, rw short refl)

  pub came_more : (bytes : List ℕ) → length bytes ≡ INPUT_BYTES + 1 → Passes gives bytes i j → Reads (Err TooLarge)
  came_more bytes counts some =
      let more : INPUT_BYTES < length bytes = omega (arith, counts) in
      let long : nat_lt INPUT_BYTES (length bytes) ≡ true = grind (arith, nat_tests) in
      (bytes, inr (more, some), rw long refl)

  some_of : (given : List ℕ) → HasReadInput gives (Some given) i j → HasReadSome gives i j
  some_of given (inl all) = (given, inr all)
  some_of given (inr h) = (given, inl h.1)

  none_read : j ≡ i → HasReadSome gives i j
  none_read same = ([], inl ([], refl, same))

  -- an input that is no more than an error is the end
  pub input_stops : (f : List ℕ → Due) (e : InputError) → ReadsUnlessFailed {X = Made} gives (λ given. GivesError (of_input e) (read given)) (Err e) i j → ReadsUnlessFailed {X = Made} gives (λ given. IsDue of_input (Err e) (due_of_input (read given) f)) (Err e) i j
  input_stops f (input.Work (work.Command x)) h = (h.0, h.1, ap (λ r. due_of_input r f) h.2)
  input_stops f (input.Work work.OutOfMemory) h = h
  input_stops f input.SourceFault h = h

  -- one that was read is worked on
  pub input_due : (f : List ℕ → Due) (bytes : List ℕ) (r : Result Made InputError) → Reads (Ok bytes) → IsDue of_input r (f bytes) → r ≢ Err input.SourceFault → ReadsUnlessFailed gives (λ given. IsDue of_input r (due_of_input (read given) f)) r i j
  input_due f bytes r h is other = go r is other
    where
      at : (r : Result Made InputError) → IsDue of_input r (f bytes) → IsDue of_input r (due_of_input (read h.0) f)
      at r is = subst (λ (x : Result (List ℕ) CommandError). IsDue of_input r (due_of_input x f)) (sym h.2) is

      go : (r : Result Made InputError) → IsDue of_input r (f bytes) → r ≢ Err input.SourceFault → ReadsUnlessFailed gives (λ given. IsDue of_input r (due_of_input (read given) f)) r i j
      go (Ok made) is other = (h.0, h.1, at (Ok made) is)
      go (Err (input.Work (work.Command x))) is other = (h.0, h.1, at (Err (input.Work (work.Command x))) is)
      go (Err (input.Work work.OutOfMemory)) is other = some_of h.0 h.1
      go (Err input.SourceFault) is other = absurd (other refl)

-- what is wrong with the numbers of a replica, if anything is
abbrev error_by : ℕ → ℕ → Bool → Bool → Option CommandError
error_by me members a b = if not a then Some (BadMembers members) else if not b then Some (BadMe me) else None

right : (me members : ℕ) (a b : Bool) → IsTrue (a && b) → error_by me members a b ≡ None
right me members true true h = refl
right me members true false h = cc
right me members false b h = cc

wrong : (me members : ℕ) (a b : Bool) → IsFalse (a && b) → (x : CommandError) × (error_by me members a b ≡ Some x)
wrong me members true true h = absurd (let never : true ≡ false = h in cc)
wrong me members true false h = (BadMe me, refl)
wrong me members false b h = (BadMembers members, refl)

-- what was made before the input is read
abbrev pub of_opening : Result Made OpenError → Result Made MakeError
of_opening (Ok made) = Ok made
of_opening (Err e) = Err (make.Open e)

abbrev pub of_working : Result Made WorkError → Result Made MakeError
of_working (Ok made) = Ok made
of_working (Err e) = Err (make.Input (input.Work e))

module _ {K S : Type 0} (load : K → Result Found LoadError → K → Type 0) (gives : S → Option (List ℕ) → S → Type 0) (k l : K) (i j : S) where
  -- ---- on the kept file

  -- the file was opened
  abbrev Opens : Seen → Type 0
  Opens s = Finds load (λ kept. replica_in (loaded kept) ≡ Ok s) k l

  at_file : (c : FileCommand) (s : Seen) (left : Option (List ℕ)) (d : Due) → Opens s → HasReadInput gives left i j → due_at c s left ≡ Some d → CallsFor load gives (due_of_command (OnFile c)) d k l i j
  at_file c s left d f came is = record { file = Some f.0; found = f.1; left = left; came = came; is_due = subst (λ (r : Result Seen CommandError). due_on c r left ≡ Some d) (sym f.2) is }

  unread_comes : (c : FileCommand) (s : Seen) (r : Result Made InputError) (d : Due) → due_at c s None ≡ Some d → Opens s → j ≡ i → IsDue of_input r d → r ≢ Err input.SourceFault → HasCome load gives (due_of_command (OnFile c)) (of_file r) k l i j
  unread_comes c s (Ok made) d is f same h other = (d, at_file c s None d f same is, h)
  unread_comes c s (Err (input.Work (work.Command x))) d is f same h other = at_file c s None (Stops x) f same (is ∙ ap (λ (d : Due). Some d) h)
  unread_comes c s (Err (input.Work work.OutOfMemory)) d is f same h other = AfterLoad f.0 f.1 (none_read gives i j same)
  unread_comes c s (Err input.SourceFault) d is f same h other = absurd (other refl)

  read_comes : (c : FileCommand) (s : Seen) (r : Result Made InputError) (at : List ℕ → Due) → ((given : List ℕ) → due_at c s (Some given) ≡ Some (at given)) → Opens s → ReadsUnlessFailed gives (λ given. IsDue of_input r (at given)) r i j → HasCome load gives (due_of_command (OnFile c)) (of_file r) k l i j
  read_comes c s (Ok made) at is f h = (at h.0, at_file c s (Some h.0) (at h.0) f h.1 (is h.0), h.2)
  read_comes c s (Err (input.Work (work.Command x))) at is f h = at_file c s (Some h.0) (Stops x) f h.1 (is h.0 ∙ ap (λ (d : Due). Some d) h.2)
  read_comes c s (Err (input.Work work.OutOfMemory)) at is f h = AfterLoad f.0 f.1 h
  read_comes c s (Err input.SourceFault) at is f h = (f.0, f.1, ok_is (replica_in (loaded f.0)) s f.2, h)

  pub worked_comes : {left_of : S → Option (List ℕ)} {input_faults : S → ℕ} (c : FileCommand) (s : Seen) (r : Result Made InputError) → Opens s → WorkEnds left_of input_faults c s r i j
      → (IsTrue (reads_input (Some (OnFile c))) → ReadsUnlessFailed gives (λ given. IfSome (due_at c s (Some given)) (IsDue of_input r)) r i j) → HasCome load gives (due_of_command (OnFile c)) (of_file r) k l i j
  worked_comes {left_of} {input_faults} c s r f w came = go c w came
    where
      Works : FileCommand → Type 0
      Works c = WorkEnds left_of input_faults c s r i j

      Reading : FileCommand → Type 0
      Reading c = IsTrue (reads_input (Some (OnFile c))) → ReadsUnlessFailed gives (λ given. IfSome (due_at c s (Some given)) (IsDue of_input r)) r i j

      Comes : FileCommand → Type 0
      Comes c = HasCome load gives (due_of_command (OnFile c)) (of_file r) k l i j

      -- without an input no read fails
      unfailed : (r ≡ Err input.SourceFault → false ≡ true) → r ≢ Err input.SourceFault
      unfailed h is = let never : false ≡ true = h is in cc

      go : (c : FileCommand) → Works c → Reading c → Comes c
      go Text w came = unread_comes Text s r (due.due_of_text s) refl f (w.unread refl) w.due (unfailed (λ is. (w.input is).0))
      go Ids w came = unread_comes Ids s r (due.due_of_ids s) refl f (w.unread refl) w.due (unfailed (λ is. (w.input is).0))
      go Stat w came = unread_comes Stat s r (due.due_of_stat s) refl f (w.unread refl) w.due (unfailed (λ is. (w.input is).0))
      go (Send to) w came = unread_comes (Send to) s r (due.due_of_send s to) refl f (w.unread refl) w.due (unfailed (λ is. (w.input is).0))
      go Leave w came = unread_comes Leave s r _ refl f (w.unread refl) w.due (unfailed (λ is. (w.input is).0))
      go Edit w came = read_comes Edit s r _ (λ given. refl) f (came refl)
      go Take w came = read_comes Take s r _ (λ given. refl) f (came refl)

  -- it wasn't
  pub unopened_comes : (c : FileCommand) (e : OpenError) → FindsUnlessFailed {X = Made} load (λ kept. GivesError (of_open e) (replica_in (loaded kept))) (Err e) k l → j ≡ i → HasCome load gives (due_of_command (OnFile c)) (Err (make.Open e)) k l i j
  unopened_comes c (opening.Command x) f same = record { file = Some f.0; found = f.1; left = None; came = same; is_due = subst (λ (r : Result Seen CommandError). due_on c r None ≡ Some (Stops x)) (sym f.2) refl }
  unopened_comes c opening.KeeperFault h same = (h, same)
  unopened_comes c opening.OutOfMemory (inl untouched) same = BeforeLoad untouched same
  unopened_comes c opening.OutOfMemory (inr (inl f)) same = AfterLoad f.0 f.1 (none_read gives i j same)
  unopened_comes c opening.OutOfMemory (inr (inr failed)) same = InLoad failed same

  -- ---- of a fresh replica

  -- the file that was found decides
  first_comes : (due_of : Option (Option (List ℕ)) → Option (List ℕ) → Option Due) (at : Option (List ℕ) → Due) (r : Result Made OpenError) → ((kept : Option (List ℕ)) → due_of (Some kept) None ≡ Some (at kept)) → FindsUnlessFailed load (λ kept. IsDue of_open r (at kept)) r k l → j ≡ i
      → HasCome load gives due_of (of_opening r) k l i j
  first_comes due_of at (Ok made) is f same = (at f.0, record { file = Some f.0; found = f.1; left = None; came = same; is_due = is f.0 }, f.2)
  first_comes due_of at (Err (opening.Command x)) is f same = record { file = Some f.0; found = f.1; left = None; came = same; is_due = is f.0 ∙ ap (λ (d : Due). Some d) f.2 }
  first_comes due_of at (Err opening.KeeperFault) is h same = (h, same)
  first_comes due_of at (Err opening.OutOfMemory) is (inl untouched) same = BeforeLoad untouched same
  first_comes due_of at (Err opening.OutOfMemory) is (inr (inl f)) same = AfterLoad f.0 f.1 (none_read gives i j same)
  first_comes due_of at (Err opening.OutOfMemory) is (inr (inr failed)) same = InLoad failed same

  -- the numbers decide
  numbers_come : (group me members : ℕ) (x : CommandError) (r : Result Made OpenError) → error_of_numbers me members ≡ Some x → IsDue of_open r (Stops x) → IfErr r (λ e. e ≢ opening.KeeperFault) → l ≡ k → j ≡ i → HasCome load gives (due_of_command (New group me members)) (of_opening r) k l i j
  numbers_come group me members x (Ok made) is h other untouched same = absurd h
  numbers_come group me members x (Err (opening.Command y)) is h other untouched same = record { file = None; found = untouched; left = None; came = same; is_due = rw is (ap (λ (d : Due). Some d) h) }
  numbers_come group me members x (Err opening.KeeperFault) is h other untouched same = absurd (other refl)
  numbers_come group me members x (Err opening.OutOfMemory) is h other untouched same = BeforeLoad untouched same

  pub new_comes : (file : Option (Option (List ℕ))) (group me members : ℕ) (r : Result Made OpenError) → (IsTrue (calls_keeper (Some (New group me members))) → FindsUnlessFailed load (λ kept. IsDue of_open r (due_of_fresh group me members (loaded kept))) r k l)
      → (IsFalse (calls_keeper (Some (New group me members))) → (l ≡ k) × IfErr r (λ e. e ≢ opening.KeeperFault) × IsErr r) → IfSome (due_of_new (error_of_numbers me members) group me members file) (IsDue of_open r) → j ≡ i → HasCome load gives (due_of_command (New group me members)) (of_opening r) k l i j
  new_comes file group me members r found uncalled is same = go (calls_keeper (Some (New group me members))) refl
    where
      go : (b : Bool) → calls_keeper (Some (New group me members)) ≡ b → HasCome load gives (due_of_command (New group me members)) (of_opening r) k l i j
      go true in_range =
          let none : error_of_numbers me members ≡ None = right me members (is_member_count members) (nat_lt me members) in_range in
          first_comes (due_of_command (New group me members)) (λ kept. due_of_fresh group me members (loaded kept)) r (λ kept. ap (λ (o : Option CommandError). due_of_new o group me members (Some kept)) none) (found in_range) same
      go false out =
          let x = wrong me members (is_member_count members) (nat_lt me members) out in
          let u = uncalled out in
          numbers_come group me members x.0 r x.1 (subst (λ (o : Option CommandError). IfSome (due_of_new o group me members file) (IsDue of_open r)) x.1 is) u.1 u.0 same

  -- ---- of a trial

  pub trial_comes : (seed steps : ℕ) (r : Result Made WorkError) → IfSome (due_of_command (Trial seed steps) None None) (IsDue of_work r) → l ≡ k → j ≡ i → HasCome load gives (due_of_command (Trial seed steps)) (of_working r) k l i j
  trial_comes seed steps (Ok made) h untouched same = (_, record { file = None; found = untouched; left = None; came = same; is_due = refl }, h)
  trial_comes seed steps (Err (work.Command x)) h untouched same = record { file = None; found = untouched; left = None; came = same; is_due = ap (λ (d : Due). Some d) h }
  trial_comes seed steps (Err work.OutOfMemory) h untouched same = BeforeLoad untouched same

-- ---- of a command

module _ {K S W : Type 0} (load : K → Result Found LoadError → K → Type 0) (store : K → List ℕ → Bool → K → Type 0) (gives : S → Option (List ℕ) → S → Type 0) (write : W → Option (List ℕ) → W → Type 0) (due_of : Option (Option (List ℕ)) → Option (List ℕ) → Option Due) (n : ℕ) where
  -- nothing was made
  pub stopped_performs : (f : Failure) (k l : K) (i j : S) (o : W) → HasStopped load gives due_of f k l i j → IsStatusOf (Err f) n → Performs load store gives write due_of n k l i j o o
  stopped_performs failures.NoCommand k l i j o h s = Refuses due.NoCommand h tt s refl
  stopped_performs (failures.Command x) k l i j o h s = Refuses (Stops x) h tt s refl
  stopped_performs (failures.Fault Keeper) k l i j o h s = FailsToLoad h.0 s h.1 refl
  stopped_performs (failures.Fault Source) k l i j o h s = FailsToRead h.0 h.1 h.2 h.3 s refl
  stopped_performs (failures.Fault Sink) k l i j o h s = absurd h
  stopped_performs (failures.Fault Memory) k l i j o h s = RunsOut h s refl

  -- it was, and this came of storing and writing it
  pub made_performs : (made : Made) (r : Result (Unit {0}) DeviceError) (k l m : K) (i j : S) (o p : W) → HasCome load gives due_of (Ok made) k l i j → HasStored store (bytes_of made.stored) (has_stored r) l m → HasWritten write made.report.items r o p → IsStatusOf (ended made r) n
      → Performs load store gives write due_of n k m i j o p
  made_performs made r k l m i j o p h stores wrote s = go h.0 h.1 h.2
    where
      go : (d : Due) → CallsFor load gives due_of d k l i j → IsAsDue made d → Performs load store gives write due_of n k m i j o p
      go due.NoCommand calls is = absurd is
      go (Stops x) calls is = absurd is
      go (Makes stored report refused) calls is = by r stores wrote s
        where
          done : (ok : Bool) → HasStored store (bytes_of made.stored) ok l m → HasMadeAndStored load store gives due_of ok k m i j
          done ok h = record { stored = stored; report = report; refused = refused; between = l; calls_for = calls; stores = subst (λ (b : Option (List ℕ)). HasStored store b ok l m) is.stored_is h }

          by : (r : Result (Unit {0}) DeviceError) → HasStored store (bytes_of made.stored) (has_stored r) l m → HasWritten write made.report.items r o p → IsStatusOf (ended made r) n → Performs load store gives write due_of n k m i j o p
          by (Ok all) stores wrote s = Finishes (done true stores) (subst (λ (b : List ℕ). Passes write b o p) is.report_is wrote) (s ∙ ap (λ k. cond (eqb k 0) 0 5) is.count_is)
          by (Err device.KeeperFault) stores wrote s = FailsToStore (done false stores) (inl s) wrote
          by (Err device.SinkFault) stores wrote s = FailsToWrite (done true stores) (subst (λ (b : List ℕ). HasFailedToWrite write b o p) is.report_is wrote) s
          by (Err device.OutOfMemory) stores wrote s = FailsToStore (done false stores) (inr s) wrote
