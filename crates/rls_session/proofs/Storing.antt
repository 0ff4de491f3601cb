-- Storing the file, and telling it, as over devices that tell their file and what was written.
use Rattle.std.proofs.Common.{◌≡◌, ◌≢◌, ◌∙◌, ◌<◌, ℕ, Bool, List, [], ◌++◌, length, take, Option, Some, None, IfErr, Result, Ok, Err, refl, sym, ap, subst, inl, inr, append-nil}
use Rattle.std.specs.Prelude.{is_ok, option_map}
use Rattle.rls_io.specs.Device.{Keeps}
use Rattle.rls_report.specs.declared.failures.CommandError.{CommandError}
use Rattle.rls_report.specs.declared.failures.Failure.{Failure}
use Rattle.rls_report.specs.declared.failures.Failure.TheVariants.{NoCommand, Command, Fault}
use Rattle.rls_report.specs.declared.failures.Fault.TheVariants.{Keeper, Source, Sink, Memory}
use Rattle.rls_seen.specs.Seen.{Seen}
use Rattle.rls_stages.specs.declared.errors.WorkError.{WorkError}
use Rattle.rls_stages.specs.declared.errors.WorkError.TheVariants as work
use Rattle.rls_stages.specs.Errors.{of_work}
use Rattle.rls_stages.specs.KeptFile.{bytes_over, saved}
use Rattle.rls_session.specs.AsTold.{HasTold, Went}
use Rattle.rls_session.specs.Endings.{IsKept, Saves}
use Rattle.rls_session.specs.Replies.{saved_text}
use Rattle.rls_session.specs.Serving.{SaveEnds}
use Rattle.rls_session.proofs.Served.{keeps_same}

-- nothing is told if there was no file to store
pub untold : {W : Type 0} (write : W → Option (List ℕ) → W → Type 0) (e : WorkError) (f : Failure) (old : W) → f ≡ of_work e → HasTold write (Err f) old old
untold {W} write e f old is = subst (λ (g : Failure). HasTold write (Err g) old old) (sym is) (go e)
  where
    go : (e : WorkError) → HasTold write (Err (of_work e)) old old
    go (work.Command x) = refl
    go work.OutOfMemory = refl

-- these bytes were written, if it ended so
abbrev pub WroteBytes : Result (Unit {0}) Failure → List ℕ → Type 0
WroteBytes (Ok u) more = more ≡ saved_text
WroteBytes (Err (Fault Sink)) more = (n : ℕ) × (n < length saved_text) × (more ≡ take n saved_text)
WroteBytes (Err f) more = more ≡ []

pub told_went : {W : Type 0} (write : W → Option (List ℕ) → W → Type 0) (r : Result (Unit {0}) Failure) (mid new : W) → HasTold write r mid new → (more : List ℕ) × Went write (is_ok r) more mid new × WroteBytes r more
told_went write (Ok u) mid new h = (saved_text, h, refl)
told_went write (Err (Fault Sink)) mid new h = (take h.0 saved_text, inr h.2, (h.0, h.1, refl))
told_went write (Err (Fault Keeper)) mid new h = ([], inl ([], refl, h), refl)
told_went write (Err (Fault Source)) mid new h = ([], inl ([], refl, h), refl)
told_went write (Err (Fault Memory)) mid new h = ([], inl ([], refl, h), refl)
told_went write (Err NoCommand) mid new h = ([], inl ([], refl, h), refl)
told_went write (Err (Command e)) mid new h = ([], inl ([], refl, h), refl)

-- the file after a store of this replica's
abbrev stored_file : Result Seen CommandError → Option (Option (List ℕ)) → Option (Option (List ℕ))
stored_file (Ok s) file = option_map (λ kept. Some (bytes_over s)) file
stored_file (Err e) file = file

kept_as : (r : Result Seen CommandError) (file new_file : Option (Option (List ℕ))) → IsKept r file new_file → (f : Option (Option (List ℕ))) → IsKept r f (stored_file r f)
kept_as (Ok s) file new_file k None = (tt, k.1)
kept_as (Ok s) file new_file k (Some kept) = (refl, k.1)
kept_as (Err e) file new_file k f = absurd k

-- as it is after storing that ended so
abbrev file_by : Result (Unit {0}) Failure → Result Seen CommandError → Option (Option (List ℕ)) → Option (Option (List ℕ))
file_by (Ok u) r file = stored_file r file
file_by (Err (Fault Sink)) r file = stored_file r file
file_by (Err f) r file = file

-- of a keeper that tells any file, and of an output that tells what was written
pub saved_as : {K : Type 0} (store : K → List ℕ → Bool → K → Type 0) (s : Seen) (r : Result (Unit {0}) Failure) (k l : K) (file new_file : Option (Option (List ℕ))) (faults new_faults : ℕ) (old new : Option (List ℕ)) (out_faults new_out_faults : ℕ) (more m n : List ℕ) (f : Option (Option (List ℕ)))
    → SaveEnds store s r k l file new_file faults new_faults old new out_faults new_out_faults → WroteBytes r more → n ≡ m ++ more
    → (g : Option (Option (List ℕ))) × SaveEnds store s r k l f g faults new_faults (Some m) (Some n) out_faults new_out_faults
saved_as store s r k l file new_file faults new_faults old new out_faults new_out_faults more m n f save wrote e = (
  file_by r (saved s) f,
  record {
    saves = saves r save.saves wrote;
    calls = save.calls;
    stays = stays r;
    same = same r;
    inner = save.inner;
    keeper = save.keeper;
    uncounted = save.uncounted;
    output = save.output;
    never_falls = save.never_falls;
    own = save.own;
  },
)
  where
    written : (bytes : List ℕ) → more ≡ bytes → Some n ≡ Some (m ++ bytes)
    written bytes is = ap (λ (l : List ℕ). Some l) (e ∙ ap (λ (l : List ℕ). m ++ l) is)

    unwritten : more ≡ [] → Some n ≡ Some m
    unwritten is = written [] is ∙ ap (λ (l : List ℕ). Some l) (append-nil m)

    saves : (r : Result (Unit {0}) Failure) → Saves r (saved s) file new_file old new → WroteBytes r more → Saves r (saved s) f (file_by r (saved s) f) (Some m) (Some n)
    saves (Ok u) h w = (kept_as (saved s) file new_file h.0 f, written saved_text w)
    saves (Err (Fault Sink)) h w = (kept_as (saved s) file new_file h.0 f, (w.0, w.1, written (take w.0 saved_text) w.2))
    saves (Err (Fault Keeper)) h w = (h.0, unwritten w)
    saves (Err (Fault Source)) h w = (h.0, unwritten w)
    saves (Err (Fault Memory)) h w = (h.0, unwritten w)
    saves (Err NoCommand) h w = (h.0, unwritten w)
    saves (Err (Command x)) h w = (h.0, unwritten w)

    stays : (r : Result (Unit {0}) Failure) → IfErr r (λ x. x ≢ Fault Sink → Keeps (file_by r (saved s) f) f)
    stays (Ok u) = tt
    stays (Err (Fault Sink)) = λ other. absurd (other refl)
    stays (Err (Fault Keeper)) = λ other. keeps_same f
    stays (Err (Fault Source)) = λ other. keeps_same f
    stays (Err (Fault Memory)) = λ other. keeps_same f
    stays (Err NoCommand) = λ other. keeps_same f
    stays (Err (Command x)) = λ other. keeps_same f

    same : (r : Result (Unit {0}) Failure) → IfErr r (λ x. x ≢ Fault Sink → l ≡ k → file_by r (saved s) f ≡ f)
    same (Ok u) = tt
    same (Err (Fault Sink)) = λ other. absurd (other refl)
    same (Err (Fault Keeper)) = λ other is. refl
    same (Err (Fault Source)) = λ other is. refl
    same (Err (Fault Memory)) = λ other is. refl
    same (Err NoCommand) = λ other is. refl
    same (Err (Command x)) = λ other is. refl
