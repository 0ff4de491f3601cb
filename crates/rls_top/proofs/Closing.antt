-- How a command ends, from how its stages do.
use Rattle.std.proofs.Common.{◌≡◌, ◌≢◌, ◌∙◌, ℕ, Bool, List, Option, Some, None, IfErr, OnOk, Result, Ok, Err, refl, sym, ap, subst}
use Rattle.rls_io.specs.Device.{Keeps, Rose}
use Rattle.rls_report.specs.declared.failures.Fault.TheVariants.{Keeper, Source, Sink}
use Rattle.rls_report.specs.declared.failures.Failure.{Failure}
use Rattle.rls_report.specs.declared.failures.Failure.TheVariants.{NoCommand, Fault}
use Rattle.rls_stages.specs.declared.errors.OpenError.TheVariants as opening
use Rattle.rls_stages.specs.KeptFile.{Stays}
use Rattle.rls_stages.proofs.Kept.{stays_on, stays_so}
use Rattle.rls_top.specs.declared.made.Made.{Made}
use Rattle.rls_top.specs.declared.stages.DeviceError.{DeviceError}
use Rattle.rls_top.specs.declared.stages.DeviceError.TheVariants.{KeeperFault, SinkFault, OutOfMemory}
use Rattle.rls_top.specs.declared.stages.MakeError.{MakeError}
use Rattle.rls_top.specs.declared.stages.MakeError.TheVariants as make
use Rattle.rls_top.specs.declared.words.Command.{Command}
use Rattle.rls_top.specs.Due.{due_of_words}
use Rattle.rls_top.specs.Running.{CommandEnds, FinishEnds, MakeEnds, StageEnds}
use Rattle.rls_top.specs.Stages.{IsEarly, IsStatusOf, Leaves, Reports, of_device, of_make}
use Rattle.rls_top.specs.Words.{command_of}
use Rattle.rls_top.proofs.Called.{made_calls, unmade_calls}
use Rattle.rls_top.proofs.Faults.{end_of, ended_by, failure_of, same_error, same_failure, stopped_by}
use Rattle.rls_top.proofs.Finishing.{all_due, ended, ended_due, ended_leaves, ended_reports, unmade}
use Rattle.rls_top.proofs.Statuses.{done_so, due_status_so, early_so, file_so, keeper_fault, no_command, no_keeper_fault, no_other, partly_so, report_so, sink_fault, source_fault, unstored_so}

-- ---- by the end of storing and writing

all_done : (made : Made) (r : Result (Unit {0}) DeviceError) (X : Type 0) → X → OnOk (ended made r) X
all_done made (Ok done) X x = x
all_done made (Err e) X x = tt

unless_cut : (made : Made) (r : Result (Unit {0}) DeviceError) (X Y : Type 0) → (X → Y) → IfErr r (λ e. e ≢ SinkFault → X) → IfErr (ended made r) (λ f. f ≢ Fault Sink → Y)
unless_cut made (Ok done) X Y f h = tt
unless_cut made (Err e) X Y f h = λ other. f (h (λ is. other (ap of_device is)))

not_early : (made : Made) (r : Result (Unit {0}) DeviceError) (X : Type 0) → IfErr (ended made r) (λ f. IsEarly f → X)
not_early made (Ok done) X = tt
not_early made (Err KeeperFault) X = λ h. absurd h
not_early made (Err SinkFault) X = λ h. absurd h
not_early made (Err OutOfMemory) X = λ h. absurd h

module _ {K S W : Type 0} {file_of : K → Option (Option (List ℕ))} {keeper_faults : K → ℕ} {load : K → Bool → K → Type 0} {store : K → List ℕ → Bool → K → Type 0} {left_of : S → Option (List ℕ)} {input_faults : S → ℕ} {told_of : W → Option (List ℕ)} {output_faults : W → ℕ} where
  -- ---- of a stage

  -- nothing was made
  pub unmade_ends : (c : Command) (e : MakeError) (k l : K) (i j : S) (o : W) → MakeEnds file_of keeper_faults load left_of input_faults c (Err e) k l i j → StageEnds file_of keeper_faults load store left_of input_faults told_of output_faults (Some c) (Err (of_make e)) k l i j o o
  unmade_ends c e k l i j o m =
      let f = failure_of e in
      let d = due_of_words (Some c) (file_of k) (left_of i) in
      record {
        due = m.due;
        no_command = λ h. absurd (f.words (same_failure (of_make e) NoCommand h));
        keeper = λ h. m.keeper (ap stopped_by (f.keeper (same_failure (of_make e) (Fault Keeper) h)));
        uncounted = λ other. m.uncounted (λ h. other (ap (λ (x : MakeError). ended_by (of_make x)) (same_error e (make.Open opening.KeeperFault) h)));
        input = λ h. m.input (ap stopped_by (f.source (same_failure (of_make e) (Fault Source) h)));
        output = λ h. absurd (f.sink (same_failure (of_make e) (Fault Sink) h));
        reports = all_due d (λ d. Reports (Err (of_make e)) d (told_of o) (told_of o)) (λ d. (unmade d (of_make e) (told_of o) None None f.sink).0);
        nothing = λ other. refl;
        sent = tt;
        leaves = all_due d (λ d. Leaves (Err (of_make e)) d (file_of k) (file_of l)) (λ d. (unmade d (of_make e) None (file_of k) (file_of l) f.sink).1);
        stays = λ other. stays_so (file_of k) (file_of l) m.kept;
        early = λ h. m.kept;
        unstored = λ h. m.kept;
        uncalled = λ h. let u = m.uncalled h in (u.0, λ z. u.1 (ap stopped_by (f.keeper (same_failure (of_make e) (Fault Keeper) z))));
        unread = m.unread;
        calls = λ n s. unmade_calls load store (Some c) d (j ≡ i) e k l (λ h. (m.uncalled h).0) m.calls m.unopened n s;
      }

  -- it was made, and this came of storing and writing it
  pub finished_ends : (c : Command) (made : Made) (r : Result (Unit {0}) DeviceError) (k l m : K) (i j : S) (o p : W) → MakeEnds file_of keeper_faults load left_of input_faults c (Ok made) k l i j → FinishEnds file_of keeper_faults store told_of output_faults made r l m o p
      → StageEnds file_of keeper_faults load store left_of input_faults told_of output_faults (Some c) (ended made r) k m i j o p
  finished_ends c made r k l m i j o p x y =
      let e = end_of made r in
      let d = due_of_words (Some c) (file_of k) (left_of i) in
      let same : keeper_faults l ≡ keeper_faults k = x.uncounted (λ h. cc) in
      record {
        due = ended_due d made x.due r;
        no_command = λ h. absurd (e.words h);
        keeper = λ h. subst (λ (n : ℕ). Rose n (keeper_faults m)) same (y.keeper (e.keeper h));
        uncounted = λ other. y.uncounted (λ h. other (ap (ended made) h)) ∙ same;
        input = λ h. absurd (e.source h);
        output = λ h. y.output (e.sink h);
        reports = ended_reports d made x.due r (told_of o) (told_of p) y.done y.partly y.nothing;
        nothing = unless_cut made r (told_of p ≡ told_of o) (told_of p ≡ told_of o) (λ h. h) y.nothing;
        sent = all_done made r _ x.sent;
        leaves = ended_leaves d made x.due r (file_of k) (file_of l) (file_of m) x.kept y.file y.file_partly;
        stays = unless_cut made r (Keeps (file_of m) (file_of l)) (Stays (file_of k) (file_of m)) (stays_on (file_of k) (file_of l) (file_of m) x.kept) y.stays;
        early = not_early made r (Keeps (file_of k) (file_of m));
        unstored = λ h. subst (λ (n : K). Keeps (file_of k) (file_of n)) (sym (y.unstored (x.unstored h)).0) x.kept;
        uncalled = λ h. let u = x.uncalled h in let v = y.unstored u.2 in (v.0 ∙ u.0, λ z. v.1 (e.keeper z));
        unread = x.unread;
        calls = λ n s. made_calls load store (Some c) d (j ≡ i) made r k l m (λ h. let u = x.uncalled h in ((y.unstored u.2).0 ∙ u.0, u.2)) x.calls (λ h. y.unstored (x.unstored h)) x.storing y.calls x.due n s;
      }

  -- ---- with its status

  pub command_ends : (words : List (List ℕ)) (r : Result Made Failure) (n : ℕ) (k l : K) (i j : S) (o p : W) → IsStatusOf r n → StageEnds file_of keeper_faults load store left_of input_faults told_of output_faults (command_of words) r k l i j o p
      → CommandEnds file_of keeper_faults load store left_of input_faults told_of output_faults words n k l i j o p
  command_ends words r n k l i j o p s e =
      let d = due_of_words (command_of words) (file_of k) (left_of i) in
      record {
        status = due_status_so d r n s e.due;
        no_command = λ h. e.no_command (no_command r n s h);
        no_other = no_other r n s;
        keeper = λ h. e.keeper (keeper_fault r n s h);
        uncounted = λ other. e.uncounted (no_keeper_fault r n s other);
        input = λ h. e.input (source_fault r n s h);
        output = λ h. e.output (sink_fault r n s h);
        report = report_so d r n (told_of o) (told_of p) s e.reports;
        partly = partly_so d r n (told_of o) (told_of p) s e.reports;
        nothing = unstored_so r n _ s e.nothing;
        sent = done_so r n _ s e.sent;
        file = file_so d r n (file_of k) (file_of l) s e.leaves;
        stays = unstored_so r n _ s e.stays;
        unstored = early_so (command_of words) r n (file_of k) (file_of l) s e.early e.unstored;
        calls = e.calls n s;
        uncalled = λ h. let u = e.uncalled h in (u.0, λ z. u.1 (keeper_fault r n s z));
        unread = e.unread;
      }
