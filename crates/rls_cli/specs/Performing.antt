-- How the program ends on its words, in one relation.
use Rattle.std.specs.Prelude.{◌≡◌, ℕ, Bool, List, Option, IsTrue, IsFalse}
use Rattle.rls_io.specs.Device.{Rose}
use Rattle.rls_session.specs.Devices.{devices}
use Rattle.rls_session.specs.Serving.{SessionEnds}
use Rattle.rls_session.specs.Words.{begins_session}
use Rattle.rls_top.specs.Running.{CommandEnds}

-- The program ended on these words with the status n: as a session if the only word is `session`, and otherwise as a command. Each device is
-- seen as it was before and is after, through what it says of itself: the keeper through its file, its count of failed calls and what its calls
-- make of it, the input through what is left of it, the output through what was written, both through their counts.
pub record ProgramEnds {K S W : Type 0} (file_of : K → Option (Option (List ℕ))) (keeper_faults : K → ℕ) (load : K → Bool → K → Type 0) (store : K → List ℕ → Bool → K → Type 0) (left_of : S → Option (List ℕ)) (input_faults : S → ℕ) (told_of : W → Option (List ℕ)) (output_faults : W → ℕ) (words : List (List ℕ)) (n : ℕ) (keeper_old keeper_new : K) (input_old input_new : S) (output_old output_new : W) : Type 0 where
  -- What it leaves, and which calls it makes of which devices.
  pub session : IsTrue (begins_session words) → SessionEnds load store ((input_new ≡ input_old) × (output_new ≡ output_old)) n keeper_old keeper_new
      (devices file_of keeper_faults left_of input_faults told_of output_faults keeper_old input_old output_old) (devices file_of keeper_faults left_of input_faults told_of output_faults keeper_new input_new output_new)
  pub command : IsFalse (begins_session words) → CommandEnds file_of keeper_faults load store left_of input_faults told_of output_faults words n keeper_old keeper_new input_old input_new output_old output_new
  -- The device of the status has failed.
  pub keeper : n ≡ 7 → Rose (keeper_faults keeper_old) (keeper_faults keeper_new)
  pub input : n ≡ 8 → Rose (input_faults input_old) (input_faults input_new)
  pub output : n ≡ 9 → Rose (output_faults output_old) (output_faults output_new)
