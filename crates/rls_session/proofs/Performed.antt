-- How a session ends as over devices that tell, from how its stages do.
use Rattle.std.proofs.Common.{◌≡◌, ◌∙◌, ℕ, Bool, true, false, List, [], ◌++◌, Option, Some, None, IfSome, OnOk, Result, Ok, Err, refl, sym, subst, inl, inr}
use Rattle.std.specs.Prelude.{is_ok, ◌≢◌}
use Rattle.rls_io.specs.Device.{HasFound, Keeps, Passes, Rose}
use Rattle.rls_io.specs.declared.devices.Found.{Found}
use Rattle.rls_io.specs.declared.devices.LoadError.{LoadError}
use Rattle.rls_io.specs.declared.devices.LoadError.TheVariants as load_error
use Rattle.rls_ident.specs.declared.limits.TheConstants.{FILE_BYTES}
use Rattle.rls_io.proofs.Told.{passes_none}
use Rattle.rls_report.specs.declared.failures.Failure.{Failure}
use Rattle.rls_seen.specs.Seen.{Seen}
use Rattle.rls_stages.specs.declared.errors.OpenError.{OpenError}
use Rattle.rls_stages.specs.declared.errors.OpenError.TheVariants as opening
use Rattle.rls_stages.specs.Calls.{FindsUnlessFailed, HasLoaded}
use Rattle.rls_stages.specs.Errors.{Gives, GivesError, IsOpenError, of_open}
use Rattle.rls_stages.specs.KeptFile.{loaded, replica_in}
use Rattle.rls_session.specs.AsTold.{AtEnd, Exchanged, Failed, Faults, Fits, IsFound, LoadsAs, Open, SessionPerforms, StageAs, Went, reading_of, telling}
use Rattle.rls_session.specs.Answers.{sitting_at}
use Rattle.rls_session.specs.Endings.{IsStatusOf}
use Rattle.rls_session.proofs.AsTold.{went_any}
use Rattle.rls_session.proofs.Closing.{opened_ends, unopened_ends}
use Rattle.rls_session.proofs.Served.{done_so}

module _ {K S W : Type 0} (load : K → Result Found LoadError → K → Type 0) (store : K → List ℕ → Bool → K → Type 0) (read : S → Option (List ℕ) → S → Type 0) (write : W → Option (List ℕ) → W → Type 0) (n : ℕ) (k : K) where
  -- the file was used
  pub opened_performs : (r : Result (Unit {0}) Failure) (s : Seen) (mid l : K) (i j : S) (p q : W) (f m g : Faults) → IsStatusOf r n → FindsUnlessFailed load (λ kept. Gives of_open (λ (x : Seen). x) (Ok s) (replica_in (loaded kept))) (Ok s) k mid
      → m.keeper ≡ f.keeper → m.input ≡ f.input → m.output ≡ f.output → (ended : Bool) × Exchanged read write false (is_ok r) ended i j p q (StageAs store (sitting_at s) r mid l m g) → SessionPerforms load store read write n k l i j p q f g
  opened_performs r s mid l i j p q f m g is found keeper input output h =
      let kept = found.0 in
      let e = h.1 in
      record {
        file = Some kept;
        found = (mid, found.1);
        bytes = e.bytes;
        how = e.how;
        came = e.came;
        written = e.written;
        went = went_any write (is_ok r) e.written p q e.went;
        done = done_so r n ((e.how ≢ Failed) × Passes write e.written p q) is (all_passed r e.fits e.went);
        ends = λ rest at.
            let stage = e.holds (e.bytes ++ rest) rest refl at [] e.written refl (Some kept) in (
              stage.0,
              opened_ends (LoadsAs load (Some kept)) store ((j ≡ i) × (q ≡ p)) n k l (telling (Some kept) (Some (e.bytes ++ rest)) (Some []) f) (telling stage.0 (Some rest) (Some e.written) g) r s mid (telling (Some kept) (Some (e.bytes ++ rest)) (Some []) m)
                  is found.2 found.1 refl refl refl keeper input output stage.1,
            );
      }
    where
      open_or_end : (ended : Bool) → reading_of ended ≡ Failed → ⊥
      open_or_end true e = let never : AtEnd ≡ Failed = e in cc
      open_or_end false e = let never : Open ≡ Failed = e in cc

      -- no call of a session that is done failed
      all_passed : (r : Result (Unit {0}) Failure) → Fits (is_ok r) h.0 (h.1).how → Went write (is_ok r) (h.1).written p q → OnOk r (((h.1).how ≢ Failed) × Passes write (h.1).written p q)
      all_passed (Ok u) fits went = (λ failed. open_or_end h.0 (sym fits ∙ failed), went)
      all_passed (Err e) fits went = tt

  -- it can't be
  pub unopened_performs : (e : OpenError) (failure : Failure) (l : K) (i : S) (p : W) (f g : Faults) → failure ≡ of_open e → IsStatusOf (Err failure) n → FindsUnlessFailed {X = Seen} load (λ kept. GivesError (of_open e) (replica_in (loaded kept))) (Err e) k l
      → IsOpenError e → (e ≡ opening.KeeperFault → Rose f.keeper g.keeper) → (e ≢ opening.KeeperFault → g.keeper ≡ f.keeper) → SessionPerforms load store read write n k l i i p p f g
  unopened_performs e failure l i p f g is s found errors keeper uncounted = go e found refl
    where
      ends : (file : Option (Option (List ℕ))) → IsFound load file ((i ≡ i) × (p ≡ p)) k l → IfSome file (λ kept. GivesError (of_open e) (replica_in (loaded kept))) → HasLoaded {X = Seen} (LoadsAs load file) (Err e) k l → SessionPerforms load store read write n k l i i p p f g
      ends file is_found opened calls = record {
        file = file;
        found = is_found;
        bytes = [];
        how = Open;
        came = passes_none read i;
        written = [];
        went = inl (passes_none write p);
        done = λ z. (λ failed. let never : Open ≡ Failed = failed in cc, passes_none write p);
        ends = λ rest at. (
          file,
          unopened_ends (LoadsAs load file) store ((i ≡ i) × (p ≡ p)) n k l (telling file (Some rest) (Some []) f) (telling file (Some rest) (Some []) g) e failure is s opened (keeps file) errors keeper uncounted calls (refl, refl) refl refl,
        );
      }
        where
          keeps : (file : Option (Option (List ℕ))) → Keeps file file
          keeps None = tt
          keeps (Some kept) = refl

      found_one : (kept : Option (List ℕ)) → HasFound load FILE_BYTES kept k l → GivesError (of_open e) (replica_in (loaded kept)) → HasLoaded {X = Seen} (LoadsAs load (Some kept)) (Err e) k l → SessionPerforms load store read write n k l i i p p f g
      found_one kept has gives calls = ends (Some kept) (l, has) gives calls

      go : (x : OpenError) → FindsUnlessFailed {X = Seen} load (λ kept. GivesError (of_open e) (replica_in (loaded kept))) (Err x) k l → e ≡ x → SessionPerforms load store read write n k l i i p p f g
      go (opening.Command c) h same = found_one h.0 h.1 h.2 (subst (λ (y : OpenError). HasLoaded {X = Seen} (LoadsAs load (Some h.0)) (Err y) k l) (sym same) h.1)
      go opening.KeeperFault h same = ends None ((refl, refl), inr (load_error.Failed, h)) tt (subst (λ (y : OpenError). HasLoaded {X = Seen} (LoadsAs load None) (Err y) k l) (sym same) (load_error.Failed, h))
      go opening.OutOfMemory (inl h) same = ends None ((refl, refl), inl h) tt (subst (λ (y : OpenError). HasLoaded {X = Seen} (LoadsAs load None) (Err y) k l) (sym same) (inl h))
      go opening.OutOfMemory (inr (inl h)) same = found_one h.0 h.1 (subst (λ (y : OpenError). GivesError (of_open y) (replica_in (loaded h.0))) (sym same) tt) (subst (λ (y : OpenError). HasLoaded {X = Seen} (LoadsAs load (Some h.0)) (Err y) k l) (sym same) (inr (inl h.1)))
      go opening.OutOfMemory (inr (inr h)) same = ends None ((refl, refl), inr (load_error.OutOfMemory, h)) tt (subst (λ (y : OpenError). HasLoaded {X = Seen} (LoadsAs load None) (Err y) k l) (sym same) (inr (inr (load_error.OutOfMemory, h))))
