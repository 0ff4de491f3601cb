-- What a command on a file makes, from what it makes of the replica.
use Rattle.std.proofs.Common.{◌≡◌, ℕ, Bool, true, false, List, Option, Some, None, IfErr, IfOk, IfSome, IsOk, IsSome, OnOk, Result, Ok, Err, refl, sym, subst, arith}
use Rattle.rls_io.specs.Device.{Keeps}
use Rattle.rls_report.specs.declared.failures.CommandError.{CommandError}
use Rattle.rls_seen.specs.Seen.{Seen}
use Rattle.rls_stages.specs.declared.errors.OpenError.{OpenError}
use Rattle.rls_stages.specs.declared.errors.OpenError.TheVariants as opening
use Rattle.rls_stages.specs.KeptFile.{loaded, replica_in, IsUsable}
use Rattle.rls_top.specs.declared.made.Made.{Made}
use Rattle.rls_top.specs.declared.stages.InputError.{InputError}
use Rattle.rls_top.specs.declared.stages.InputError.TheVariants as input
use Rattle.rls_top.specs.declared.stages.MakeError.{MakeError}
use Rattle.rls_top.specs.declared.stages.MakeError.TheVariants as make
use Rattle.rls_top.specs.declared.words.Command.TheVariants.{OnFile}
use Rattle.rls_top.specs.declared.words.FileCommand.{FileCommand}
use Rattle.rls_top.specs.declared.words.FileCommand.TheVariants.{Send}
use Rattle.rls_top.specs.Calls.{HasMade, UnlessOpened}
use Rattle.rls_top.specs.Due.{Due, due_at, due_of_file, due_on}
use Rattle.rls_top.specs.Endings.{IsSent, IsSentBy, SendsMessage}
use Rattle.rls_top.specs.Running.{MakeEnds, WorkEnds}
use Rattle.rls_top.specs.Stages.{IsDue, of_input, of_make}
use Rattle.rls_top.proofs.Faults.{same_error, stopped_by}

pub made_on_file : (c : FileCommand) (file : Option (Option (List ℕ))) (left : Option (List ℕ)) (s : Seen) (P : Due → Type 0) → IfSome file (λ kept. replica_in (loaded kept) ≡ Ok s) → IfSome (due_at c s left) P
    → IfSome (due_of_file c file left) P
made_on_file c None left s P opened made = tt
made_on_file c (Some kept) left s P opened made = subst (λ (r : Result Seen CommandError). IfSome (due_on c r left) P) (sym opened) made

-- what the command sends at the replica of the file that was opened, it sends at the file
pub sends_so : (c : FileCommand) (file : Option (Option (List ℕ))) (s : Seen) → IfSome file (λ kept. replica_in (loaded kept) ≡ Ok s) → IsSentBy c s → SendsMessage (Some (OnFile c)) file
sends_so (Send to) None s opened sent = tt
sends_so (Send to) (Some kept) s opened sent = subst (λ (r : Result Seen CommandError). IfOk r (IsSent to)) (sym opened) sent
sends_so _ file s opened sent = tt

-- a file that was opened can be used
pub ok_is : (r : Result Seen CommandError) (s : Seen) → r ≡ Ok s → IsOk r
ok_is r s e = subst (λ (x : Result Seen CommandError). IsOk x) (sym e) refl

pub usable_so : (file : Option (Option (List ℕ))) (s : Seen) → IfSome file (λ kept. replica_in (loaded kept) ≡ Ok s) → IfSome file IsUsable
usable_so None s h = tt
usable_so (Some kept) s h = ok_is (replica_in (loaded kept)) s h

-- ---- all of it

-- what was made of the replica, as what was made of the file
abbrev pub of_file : Result Made InputError → Result Made MakeError
of_file (Ok made) = Ok made
of_file (Err e) = Err (make.Input e)

made_due : (d : Option Due) (r : Result Made InputError) → IfSome d (IsDue of_input r) → IfSome d (IsDue of_make (of_file r))
made_due d (Ok made) h = h
made_due d (Err e) h = h

made_ok : (r : Result Made InputError) (P : Made → Type 0) → IfOk r P → IfOk (of_file r) P
made_ok (Ok made) P h = h
made_ok (Err e) P h = tt

made_on : (r : Result Made InputError) (X Y : Type 0) → (X → Y) → OnOk r X → OnOk (of_file r) Y
made_on (Ok made) X Y f h = f h
made_on (Err e) X Y f h = tt

abbrev made_by : Made → Result Made MakeError
made_by made = Ok made

-- the file was opened
opened_on : {X : Type 0} (r : Result Made InputError) (e : OpenError) → of_file r ≡ Err (make.Open e) → X
opened_on (Ok made) e h = let never : made_by made ≡ stopped_by (make.Open e) = h in absurd (cc)
opened_on (Err i) e h = let never : stopped_by (make.Input i) ≡ stopped_by (make.Open e) = h in absurd (cc)

source_on : (r : Result Made InputError) → of_file r ≡ Err (make.Input input.SourceFault) → r ≡ Err input.SourceFault
source_on (Ok made) h = let never : made_by made ≡ stopped_by (make.Input input.SourceFault) = h in absurd (cc)
source_on (Err e) h = let same : make.Input e ≡ make.Input input.SourceFault = same_error (make.Input e) (make.Input input.SourceFault) h in cc

loaded_on : {K : Type 0} (load : K → Bool → K → Type 0) (r : Result Made InputError) (old new : K) → load old true new → HasMade load (of_file r) old new
loaded_on load (Ok made) old new h = h
loaded_on load (Err e) old new h = h

untouched_on : (r : Result Made InputError) (X : Type 0) → IfErr (of_file r) (λ e. UnlessOpened e X)
untouched_on (Ok made) X = tt
untouched_on (Err e) X = tt

-- a command on a file ended so, once it was opened
pub worked_ends : {K S : Type 0} {file_of : K → Option (Option (List ℕ))} {keeper_faults : K → ℕ} {load : K → Bool → K → Type 0} {left_of : S → Option (List ℕ)} {input_faults : S → ℕ} (c : FileCommand) (s : Seen) (r : Result Made InputError) (k l : K) (i j : S)
    → IfSome (file_of k) (λ kept. replica_in (loaded kept) ≡ Ok s) → load k true l → Keeps (file_of k) (file_of l) → keeper_faults l ≡ keeper_faults k → WorkEnds left_of input_faults c s r i j
    → MakeEnds file_of keeper_faults load left_of input_faults (OnFile c) (of_file r) k l i j
worked_ends {K} {S} {file_of} {keeper_faults} {load} {left_of} {input_faults} c s r k l i j opened gives kept same w = record {
  due = made_on_file c (file_of k) (left_of i) s (IsDue of_make (of_file r)) opened (made_due (due_at c s (left_of i)) r w.due);
  keeper = λ h. opened_on r opening.KeeperFault h;
  uncounted = λ other. same;
  input = λ h. let x = w.input (source_on r h) in (x.0, usable_so (file_of k) s opened, x.1);
  never_falls = omega (arith, same);
  kept = kept;
  storing = λ h. made_ok r (λ made. IsSome made.stored) (w.storing h);
  unstored = λ h. made_ok r (λ made. made.stored ≡ None) (w.unstored h);
  sent = made_on r (IsSentBy c s) (SendsMessage (Some (OnFile c)) (file_of k)) (sends_so c (file_of k) s opened) w.sent;
  calls = λ h. loaded_on load r k l gives;
  uncalled = λ h. let never : true ≡ false = h in absurd (cc);
  unread = w.unread;
  unopened = untouched_on r (j ≡ i);
}
