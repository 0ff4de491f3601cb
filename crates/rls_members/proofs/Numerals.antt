-- The words of commands, and what they mean.
use Rattle.std.proofs.Common.{◌≡◌, ◌∙◌, ◌<◌, ◌≤◌, ◌^◌, ℕ, Option, Some, None, refl, ap, arith, ltb, bytes_eq, ◌&&◌}
use Rattle.std.specs.Prelude.{option_and_then, nat_le, if◌then◌else◌}
use Rattle.std.specs.Fmt.{decimal}
use Rattle.std.proofs.lemmas.Bool.{and_from, cond-true, lt-ltb}
use Rattle.std.proofs.lemmas.Fmt.{decimal_is_IsNumeral}
use Rattle.std.proofs.lemmas.Slice.Eq.{bytes_eq-Decides}
use Rattle.rls_ident.specs.declared.limits.TheConstants.{GREATEST_NUMBER}
use Rattle.rls_ident.proofs.Members.{le_test}
use Rattle.rls_script.specs.Scripts.{number_of}
use Rattle.rls_top.specs.declared.words.Command.TheVariants.{New, OnFile}
use Rattle.rls_top.specs.declared.words.FileCommand.TheVariants.{Send, Take}
use Rattle.rls_top.specs.Words.{command_of, u32_of}
use Rattle.rls_members.specs.Running.{words_of_new, words_of_send, words_of_take}

-- the digits of a number are read as that number
number_of_decimal : (n : ℕ) → n < 2 ^ 64 → number_of (decimal n) ≡ Some n
unfolding number_of
number_of_decimal n small = rw (decimal_is_IsNumeral n small).1 (cond-true (ltb n (2 ^ 64) && bytes_eq (decimal n) (decimal n)) (Some n) None (and_from _ _ (lt-ltb n (2 ^ 64) small) ((bytes_eq-Decides (decimal n) (decimal n)).1 refl)))

u32_of_decimal : (n : ℕ) → n ≤ GREATEST_NUMBER → u32_of (decimal n) ≡ Some n
u32_of_decimal n most = ap (λ (o : Option ℕ). option_and_then (λ n. if nat_le n GREATEST_NUMBER then Some n else None) o) (number_of_decimal n (omega (arith, most))) ∙ rw (le_test n GREATEST_NUMBER most) refl

pub new_is : (group me members : ℕ) → group < 2 ^ 64 → me ≤ GREATEST_NUMBER → members ≤ GREATEST_NUMBER → command_of (words_of_new group me members) ≡ Some (New group me members)
unfolding command_of
new_is group me members large own few = rw (number_of_decimal group large) (rw (u32_of_decimal me own) (rw (u32_of_decimal members few) refl))

pub send_is : (to : ℕ) → to ≤ GREATEST_NUMBER → command_of (words_of_send to) ≡ Some (OnFile (Send to))
unfolding command_of
send_is to most = rw (u32_of_decimal to most) refl

pub take_is : command_of words_of_take ≡ Some (OnFile Take)
unfolding command_of
take_is = refl
