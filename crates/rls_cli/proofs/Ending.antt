-- The program's end, from that of a session and that of a command.
use Rattle.std.proofs.Common.{◌≡◌, ◌⊎◌, ◌∙◌, ℕ, Bool, true, false, List, Option, None, Result, refl, sym}
use Rattle.rls_io.specs.declared.devices.Found.{Found}
use Rattle.rls_io.specs.declared.devices.LoadError.{LoadError}
use Rattle.rls_io.specs.Device.{LoadsWith, one_more}
use Rattle.rls_session.specs.Devices.{devices}
use Rattle.rls_session.specs.Serving.{SessionEnds}
use Rattle.rls_session.specs.Words.{begins_session}
use Rattle.rls_stages.specs.Calls.{IsKeepersStatus}
use Rattle.rls_top.specs.Running.{CommandEnds}
use Rattle.rls_cli.specs.Folder.{CountsWith, LoadGives, StoreGives, faults_of}
use Rattle.rls_cli.specs.Performing.{ProgramEnds}
use Rattle.rls_cli.specs.declared.folder.FolderKeeper.{FolderKeeper}
use Rattle.rls_cli.proofs.Counted.{counted, counted_session, counts_with}

module _ {K S W : Type 0} {file_of : K → Option (Option (List ℕ))} {keeper_faults : K → ℕ} {load : K → Bool → K → Type 0} {store : K → List ℕ → Bool → K → Type 0} {left_of : S → Option (List ℕ)} {input_faults : S → ℕ} {told_of : W → Option (List ℕ)} {output_faults : W → ℕ}
    {words : List (List ℕ)} {n : ℕ} {keeper_old keeper_new : K} {input_old input_new : S} {output_old output_new : W} where
  -- of a session
  pub session_ending : begins_session words ≡ true
      → SessionEnds load store ((input_new ≡ input_old) × (output_new ≡ output_old)) n keeper_old keeper_new
      (devices file_of keeper_faults left_of input_faults told_of output_faults keeper_old input_old output_old) (devices file_of keeper_faults left_of input_faults told_of output_faults keeper_new input_new output_new)
      → ProgramEnds file_of keeper_faults load store left_of input_faults told_of output_faults words n keeper_old keeper_new input_old input_new output_old output_new
  session_ending is ends = record {
    session = λ _. ends;
    command = λ isnt. absurd (let never : true ≡ false = sym is ∙ isnt in cc);
    keeper = ends.keeper;
    input = λ eight. (ends.input eight).1;
    output = ends.output;
  }

  -- of a command
  pub command_ending : begins_session words ≡ false
      → CommandEnds file_of keeper_faults load store left_of input_faults told_of output_faults words n keeper_old keeper_new input_old input_new output_old output_new
      → ProgramEnds file_of keeper_faults load store left_of input_faults told_of output_faults words n keeper_old keeper_new input_old input_new output_old output_new
  command_ending isnt ends = record {
    session = λ is. absurd (let never : true ≡ false = sym is ∙ isnt in cc);
    command = λ _. ends;
    keeper = ends.keeper;
    input = λ eight. (ends.input eight).2;
    output = ends.output;
  }

-- how often the keeper of a folder failed
pub counted_ending : {A B S W : Type 0} (a_load : A → Result Found LoadError → A → Type 0) (b_load : B → Result Found LoadError → B → Type 0) (a_store : A → List ℕ → Bool → A → Type 0) (b_store : B → List ℕ → Bool → B → Type 0) (a_faults : A → ℕ) (b_faults : B → ℕ) {left_of : S → Option (List ℕ)} {input_faults : S → ℕ} {told_of : W → Option (List ℕ)} {output_faults : W → ℕ} {words : List (List ℕ)} {n : ℕ} {keeper_old keeper_new : FolderKeeper A B} {input_old input_new : S} {output_old output_new : W}
    → ProgramEnds (λ _. None) (faults_of a_faults b_faults) (LoadsWith (LoadGives a_load b_load a_faults b_faults)) (StoreGives a_store b_store a_faults b_faults) left_of input_faults told_of output_faults words n keeper_old keeper_new input_old input_new output_old output_new
    → CountsWith n (faults_of a_faults b_faults keeper_old) (faults_of a_faults b_faults keeper_new)
counted_ending a_load b_load a_store b_store a_faults b_faults {words = words} {n = n} {keeper_old = old} {keeper_new = new} ends = counts_with n (faults_of a_faults b_faults old) (faults_of a_faults b_faults new) (go (begins_session words) refl) ends.keeper
  where
    go : (b : Bool) → begins_session words ≡ b → (faults_of a_faults b_faults new ≡ faults_of a_faults b_faults old) ⊎ (IsKeepersStatus n × (faults_of a_faults b_faults new ≡ one_more (faults_of a_faults b_faults old)))
    go true is = counted_session a_load b_load a_store b_store a_faults b_faults ((ends.session is).calls)
    go false isnt = counted a_load b_load a_store b_store a_faults b_faults ((ends.command isnt).calls)
