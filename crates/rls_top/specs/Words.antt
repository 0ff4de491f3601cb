-- The words of a command.
use Rattle.std.specs.Prelude.{ℕ, List, [], ◌∷◌, codes, bytes_eq, Option, Some, None, option_and_then, if◌then◌else◌}
use Rattle.rls_ident.specs.declared.limits.TheConstants.{GREATEST_NUMBER}
use Rattle.rls_script.specs.Scripts.{number_of, number_up_to}
use Rattle.rls_top.specs.declared.words.Command.{Command}
use Rattle.rls_top.specs.declared.words.Command.TheVariants.{New, OnFile, Trial}
use Rattle.rls_top.specs.declared.words.FileCommand.{FileCommand}
use Rattle.rls_top.specs.declared.words.FileCommand.TheVariants.{Edit, Text, Ids, Stat, Send, Take, Leave}

abbrev pub u32_of : List ℕ → Option ℕ
u32_of word = number_up_to GREATEST_NUMBER word

-- the command without further words
abbrev pub alone : FileCommand → List (List ℕ) → Option Command
alone c [] = Some (OnFile c)
alone c (w ∷ ws) = None

abbrev pub new_of : List (List ℕ) → Option Command
new_of (group ∷ me ∷ members ∷ []) =
    option_and_then (λ g. option_and_then (λ a. option_and_then (λ n. Some (New g a n)) (u32_of members)) (u32_of me)) (number_of group)
new_of _ = None

abbrev pub send_of : List (List ℕ) → Option Command
send_of (to ∷ []) = option_and_then (λ n. Some (OnFile (Send n))) (u32_of to)
send_of _ = None

abbrev pub trial_of : List (List ℕ) → Option Command
trial_of (seed ∷ steps ∷ []) = option_and_then (λ x. option_and_then (λ n. Some (Trial x n)) (number_up_to 100000 steps)) (number_up_to 2147483647 seed)
trial_of _ = None

-- the command that the words are
unfoldable pub command_of : List (List ℕ) → Option Command
command_of [] = None
command_of (word ∷ others) =
    if bytes_eq word (codes "new") then new_of others
    else if bytes_eq word (codes "edit") then alone Edit others
    else if bytes_eq word (codes "text") then alone Text others
    else if bytes_eq word (codes "ids") then alone Ids others
    else if bytes_eq word (codes "stat") then alone Stat others
    else if bytes_eq word (codes "send") then send_of others
    else if bytes_eq word (codes "take") then alone Take others
    else if bytes_eq word (codes "leave") then alone Leave others
    else if bytes_eq word (codes "trial") then trial_of others
    else None
