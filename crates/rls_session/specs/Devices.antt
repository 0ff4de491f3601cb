-- What is seen of the devices of a session.
use Rattle.std.specs.Prelude.{ℕ, List, Option}

-- at one moment
pub record Devices : Type 0 where
  -- the kept file, what is left of the input, and what was written, each if it is told
  pub file : Option (Option (List ℕ))
  pub left : Option (List ℕ)
  pub told : Option (List ℕ)
  -- how many calls have failed: of the keeper, of the input, of the output
  pub keeper_faults : ℕ
  pub input_faults : ℕ
  pub output_faults : ℕ

-- by what each of them says of itself
abbrev pub devices : {K S W : Type 0} → (K → Option (Option (List ℕ))) → (K → ℕ) → (S → Option (List ℕ)) → (S → ℕ) → (W → Option (List ℕ)) → (W → ℕ) → K → S → W → Devices
devices file keeper_faults left input_faults told output_faults keeper input output = record {
  file = file keeper;
  left = left input;
  told = told output;
  keeper_faults = keeper_faults keeper;
  input_faults = input_faults input;
  output_faults = output_faults output;
}
