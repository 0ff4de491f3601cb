-- What the calls of an input and of an output passed, and what holds then as of devices that tell it. So it is said of every device, also of
-- one that tells nothing of what it holds.
use Rattle.std.specs.Prelude.{◌≡◌, ◌⊎◌, ℕ, Bool, true, false, IsTrue, List, [], ◌++◌, length, take, Option, Some, None, IfSome, IfOk, OnOk, OnErr, Result, Ok, Err, Vec}
use Rattle.std.specs.declared.alloc.Global.{Global}
use Rattle.std.specs.Prelude.{◌≢◌, ◌≤◌, ◌<◌}
use Rattle.std.specs.List.{position_or_len}
use Rattle.rls_ident.specs.declared.limits.TheConstants.{INPUT_BYTES, FILE_BYTES}
use Rattle.rls_io.specs.Device.{HasFound, IsCutShort, Keeps, Passes, PassesAll, PassesAndFails}
use Rattle.rls_io.specs.declared.devices.Found.{Found}
use Rattle.rls_io.specs.declared.devices.LoadError.{LoadError}
use Rattle.rls_io.specs.declared.reading.ReadError.{ReadError}
use Rattle.rls_io.specs.declared.reading.ReadError.TheVariants as read_error
use Rattle.rls_report.specs.declared.failures.Failure.{Failure}
use Rattle.rls_report.specs.declared.failures.Failure.TheVariants.{Fault}
use Rattle.rls_report.specs.declared.failures.Fault.TheVariants.{Sink}
use Rattle.rls_script.specs.Scripts.{is_line_feed}
use Rattle.rls_seen.specs.Seen.{Seen}
use Rattle.rls_stages.specs.Endings.{IsPart}
use Rattle.rls_session.specs.declared.answering.AnswerError.{AnswerError}
use Rattle.rls_session.specs.declared.answering.AnswerError.TheVariants as answer_error
use Rattle.rls_session.specs.declared.answering.Halt.{Halt}
use Rattle.rls_session.specs.declared.answering.Halt.TheVariants as halt
use Rattle.rls_session.specs.declared.orders.Order.{Order}
use Rattle.rls_session.specs.Answering.{IsDone, IsNear, IsNext, IsPaused, IsPrompt, IsReplied, IsUnused, is_store}
use Rattle.rls_session.specs.Answers.{Sitting}
use Rattle.rls_session.specs.Courses.{Answered, course, courses, holds, replies_in}
use Rattle.rls_session.specs.Devices.{Devices}
use Rattle.rls_session.specs.Intake.{IntakeSeen, IsAtEnd, KeepsEnd, KnowsEnd, known_come, to_come}
use Rattle.rls_session.specs.Replies.{saved_text}
use Rattle.rls_session.specs.Requests.{Request, cut_after}
use Rattle.rls_session.specs.Seats.{Seat, respond, resumed_seat}
use Rattle.rls_session.specs.Sent.{SendsFrom}
use Rattle.rls_session.specs.Serving.{EndsOrGoesOn, SessionEnds, StageEnds}
use Rattle.rls_session.specs.Sessions.{by_parts}

-- ---- what calls passed

-- more may come of an input, or it came to its end, or a read failed
pub data Reading : Type 0 where
  Open : Reading
  AtEnd : Reading
  Failed : Reading

abbrev pub reading_of : Bool → Reading
reading_of true = AtEnd
reading_of false = Open

-- The reads that lead from old to new gave these bytes, one after another, and then perhaps none, at the input's end, or the last of them
-- failed. An input that was at its end isn't read.
abbrev pub Came : {S : Type 0} → (S → Option (List ℕ) → S → Type 0) → Bool → List ℕ → Reading → S → S → Type 0
Came read true bytes how old new = (bytes ≡ []) × (how ≡ AtEnd) × (new ≡ old)
Came read false bytes Open old new = Passes read bytes old new
Came read false bytes AtEnd old new = PassesAll read bytes old new
Came read false bytes Failed old new = PassesAndFails read bytes old new

-- it is known whether the input came to its end, and no read failed if all went well
abbrev pub Fits : Bool → Bool → Reading → Type 0
Fits true ended how = how ≡ reading_of ended
Fits false ended how = IsTrue ended → how ≡ AtEnd

-- The writes that lead from old to new took these bytes, and none failed if all went well.
abbrev pub Went : {W : Type 0} → (W → Option (List ℕ) → W → Type 0) → Bool → List ℕ → W → W → Type 0
Went write true bytes old new = Passes write bytes old new
Went write false bytes old new = Passes write bytes old new ⊎ PassesAndFails write bytes old new

-- what storing the file and telling it wrote: the whole `saved`, or but for some bytes at its end if the output failed
abbrev pub HasTold : {W : Type 0} → (W → Option (List ℕ) → W → Type 0) → Result (Unit {0}) Failure → W → W → Type 0
HasTold write (Ok u) old new = Passes write saved_text old new
HasTold write (Err (Fault Sink)) old new = (n : ℕ) × (n < length saved_text) × PassesAndFails write (take n saved_text) old new
HasTold write (Err f) old new = new ≡ old

-- Reads gave some bytes, and this holds as of an input that tells them and any rest after them, and then that rest. Nothing is left of an
-- input that came to its end.
pub record Given {S : Type 0} (read : S → Option (List ℕ) → S → Type 0) (was ok ended : Bool) (old new : S) (Holds : Option (List ℕ) → Option (List ℕ) → Type 0) : Type 0 where
  pub bytes : List ℕ
  pub how : Reading
  pub came : Came read was bytes how old new
  pub fits : Fits ok ended how
  pub holds : (x y : List ℕ) → x ≡ bytes ++ y → (how ≡ AtEnd → y ≡ []) → Holds (Some x) (Some y)

-- The same, and writes took some bytes, as of an output that tells any bytes, and then these as well.
pub record Exchanged {S W : Type 0} (read : S → Option (List ℕ) → S → Type 0) (write : W → Option (List ℕ) → W → Type 0) (was ok ended : Bool) (input_old input_new : S) (output_old output_new : W) (Holds : Option (List ℕ) → Option (List ℕ) → Option (List ℕ) → Option (List ℕ) → Type 0) : Type 0 where
  pub bytes : List ℕ
  pub how : Reading
  pub came : Came read was bytes how input_old input_new
  pub fits : Fits ok ended how
  pub written : List ℕ
  pub went : Went write ok written output_old output_new
  pub holds : (x y : List ℕ) → x ≡ bytes ++ y → (how ≡ AtEnd → y ≡ []) → (o n : List ℕ) → n ≡ o ++ written → Holds (Some x) (Some y) (Some o) (Some n)

-- ---- what holds then

-- what is to come stays what it was, and nothing is left of an input that came to its end
pub record Took (a b : IntakeSeen) (x y : Option (List ℕ)) : Type 0 where
  pub same : Keeps (to_come a x) (to_come b y)
  pub at_end : IsTrue b.ended → IsAtEnd y

-- the next line was looked for
pub record OrderTaken (r : Result (Option Order) ReadError) (a b : IntakeSeen) (x y : Option (List ℕ)) : Type 0 where
  pub next : IfOk r (λ order. KnowsEnd a x → IsNext (to_come a x) order a b y)
  pub known : KeepsEnd a x b y
  pub unused : OnErr r (IsUnused a b (to_come a x) (to_come b y))
  pub near : length a.waiting ≤ 4096 → IfSome (to_come a x) (λ bytes. IsNear bytes y (position_or_len is_line_feed bytes))

-- an order whose line is used was answered
pub record OrderAnswered {T : Type 0} (answer : Request → Answered T) (order : Order) (t : T) (r : Result (Vec ℕ Global) ReadError) (a b : IntakeSeen) (x y : Option (List ℕ)) : Type 0 where
  pub reply : IfOk r (λ reply. KnowsEnd a x → IfSome (to_come a x) (λ bytes. IsReplied answer bytes order reply.items t a b y))
  pub known : KeepsEnd a x b y
  pub unused : OnErr r (r ≢ Err read_error.OutOfMemory → IsUnused a b (to_come a x) (to_come b y))
  pub near : length a.waiting ≤ 4096 → IfSome (to_come a x) (λ bytes. IsNear bytes y (cut_after order bytes).size)

-- the requests up to the next order to store, or to the end, were answered
pub record AllAnswered (first s : Seat Seen) (r : Result Halt AnswerError) (a b : IntakeSeen) (writable : Type 0) (x y o n : Option (List ℕ)) : Type 0 where
  pub done : IfOk r (λ h. IfSome (known_come a x) (λ given. IsDone (course (respond by_parts) first given) (is_store h) s o n))
  pub paused : r ≡ Ok halt.Store → IfSome (known_come a x) (λ given. IsPaused (respond by_parts) first given b y)
  pub part : OnErr r (IfSome (known_come a x) (λ given. IsPart o n (course (respond by_parts) first given).replies))
  pub cut : r ≡ Err answer_error.SinkFault → IfSome (known_come a x) (λ given. IsCutShort o n (course (respond by_parts) first given).replies)
  pub too_large : r ≡ Err answer_error.TooLarge → IfSome (known_come a x) (λ given. INPUT_BYTES < (course (respond by_parts) first given).used)
  pub prompt : r ≡ Err answer_error.SourceFault → IfSome (known_come a x) (λ given. IsPrompt (λ front. replies_in (courses (respond by_parts) (resumed_seat by_parts) first front)) given y o n)
  pub near : IfSome (known_come a x) (λ given. IsNear given y (course (respond by_parts) first given).used)
  pub sent : writable → OnOk r (IfSome (known_come a x) (λ given. holds (respond by_parts) SendsFrom first given))

-- ---- how it ends

-- how often each device had failed
pub record Faults : Type 0 where
  pub keeper : ℕ
  pub input : ℕ
  pub output : ℕ

abbrev pub faults : {K S W : Type 0} → (K → ℕ) → (S → ℕ) → (W → ℕ) → K → S → W → Faults
faults keeper input output k s w = record { keeper = keeper k; input = input s; output = output w }

-- devices that tell this, and have failed so often
abbrev pub telling : Option (Option (List ℕ)) → Option (List ℕ) → Option (List ℕ) → Faults → Devices
telling file left told f = record { file = file; left = left; told = told; keeper_faults = f.keeper; input_faults = f.input; output_faults = f.output }

-- what holds as of a keeper that tells any file before, and one after
abbrev pub OnFile : (Option (Option (List ℕ)) → Option (Option (List ℕ)) → Type 0) → Type 0
OnFile Holds = (file : Option (Option (List ℕ))) → (new_file : Option (Option (List ℕ))) × Holds file new_file

abbrev pub StretchAs : {K : Type 0} → (K → List ℕ → Bool → K → Type 0) → Sitting Seen → Sitting Seen → IntakeSeen → IntakeSeen → Result Halt Failure → K → K → Faults → Faults → Option (List ℕ) → Option (List ℕ) → Option (List ℕ) → Option (List ℕ) → Type 0
StretchAs store d next a b r keeper_old keeper_new f g x y o n = OnFile (λ file new_file. EndsOrGoesOn store d (known_come a x) a.ended next (known_come b y) b.ended r keeper_old keeper_new (telling file x o f) (telling new_file y n g))

abbrev pub StageAs : {K : Type 0} → (K → List ℕ → Bool → K → Type 0) → Sitting Seen → Result (Unit {0}) Failure → K → K → Faults → Faults → Option (List ℕ) → Option (List ℕ) → Option (List ℕ) → Option (List ℕ) → Type 0
StageAs store d r keeper_old keeper_new f g x y o n = OnFile (λ file new_file. StageEnds store d x false r keeper_old keeper_new (telling file x o f) (telling new_file y n g))

-- ---- of a session

-- a load that answers Ok found this file; none does so without one
abbrev pub LoadsAs : {K : Type 0} → (K → Result Found LoadError → K → Type 0) → Option (Option (List ℕ)) → K → Bool → K → Type 0
LoadsAs load None old true new = ⊥
LoadsAs load (Some kept) old true new = HasFound load FILE_BYTES kept old new
LoadsAs load file old false new = (cause : LoadError) × load old (Err cause) new

-- The load found this file. Without one the keeper wasn't called or failed to load, and no other device was called.
abbrev pub IsFound : {K : Type 0} → (K → Result Found LoadError → K → Type 0) → Option (Option (List ℕ)) → Type 0 → K → K → Type 0
IsFound {K} load None untouched old new = untouched × ((new ≡ old) ⊎ ((cause : LoadError) × load old (Err cause) new))
IsFound {K} load (Some kept) untouched old new = (mid : K) × HasFound load FILE_BYTES kept old mid

-- The load of a session found a file, its reads gave some bytes, and its writes took some. It ended as over devices that tell this file, these
-- bytes with any rest after them, and what was written: so just what it calls for was stored, store by store, and written, reply by reply.
pub record SessionPerforms {K S W : Type 0} (load : K → Result Found LoadError → K → Type 0) (store : K → List ℕ → Bool → K → Type 0) (read : S → Option (List ℕ) → S → Type 0) (write : W → Option (List ℕ) → W → Type 0) (n : ℕ) (keeper_old keeper_new : K) (input_old input_new : S) (output_old output_new : W) (f g : Faults) : Type 0 where
  pub file : Option (Option (List ℕ))
  pub found : IsFound load file ((input_new ≡ input_old) × (output_new ≡ output_old)) keeper_old keeper_new
  pub bytes : List ℕ
  pub how : Reading
  pub came : Came read false bytes how input_old input_new
  pub written : List ℕ
  pub went : Passes write written output_old output_new ⊎ PassesAndFails write written output_old output_new
  -- with the status 0 no call failed
  pub done : n ≡ 0 → (how ≢ Failed) × Passes write written output_old output_new
  pub ends : (rest : List ℕ) → (how ≡ AtEnd → rest ≡ []) → (new_file : Option (Option (List ℕ)))
      × SessionEnds (LoadsAs load file) store ((input_new ≡ input_old) × (output_new ≡ output_old)) n keeper_old keeper_new (telling file (Some (bytes ++ rest)) (Some []) f) (telling new_file (Some rest) (Some written) g)
