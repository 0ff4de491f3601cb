-- Members to whom nothing has happened.
use Rattle.std.proofs.Common.{◌≡◌, ◌∙◌, ◌<◌, ◌≤◌, ◌^◌, ◌++◌, ℕ, zero, suc, List, [], ◌∷◌, length, take, Option, Some, None, refl, sym, ap, subst, arith}
use Rattle.std.specs.Prelude.{IfSome, slice_get}
use Rattle.std.proofs.lemmas.List.{length-map}
use Rattle.rls_ident.specs.declared.limits.TheConstants.{MEMBERS}
use Rattle.rls_ident.proofs.Members.{some_is}
use Rattle.rls_stages.specs.KeptFile.{bytes_over}
use Rattle.rls_world.specs.Seen.{fresh_replicas}
use Rattle.rls_world.proofs.Beginning.{fresh_length}
use Rattle.rls_top.specs.Due.{Due, due}
use Rattle.rls_top.specs.Endings.{IsKept}
use Rattle.rls_top.specs.Groups.{fresh_group}
use Rattle.rls_top.specs.Words.{command_of}
use Rattle.rls_groups.specs.Groups.{GroupsConverge}
use Rattle.rls_members.specs.Members.{IsLed, IsLedBy, fresh_members}
use Rattle.rls_members.specs.Running.{words_of_new}
use Rattle.rls_members.proofs.Numerals.{new_is}

pub files_length : (group members : ℕ) → length (fresh_group group members).files ≡ members
files_length group members = length-map (fresh_replicas group members members) bytes_over ∙ fresh_length group members members

-- what `new` stores is the member's file
pub new_file : GroupsConverge → (group me members : ℕ) (input : List ℕ) (words : List (List ℕ)) (old now : Option (List ℕ)) → group < 2 ^ 64 → me < members → members ≤ MEMBERS → words ≡ words_of_new group me members → old ≡ None
    → IfSome (due words (Some old) (Some input)) (λ d. IsKept d (Some old) (Some now)) → (bytes : List ℕ) × (now ≡ Some bytes) × (slice_get (fresh_group group members).files me ≡ Some bytes)
new_file law group me members input words old now large own few is empty kept =
    let begins = (law group members [] large (omega (arith, own)) few tt).0 me words input own (ap command_of is ∙ new_is group me members large (omega (arith, own, few)) (omega (arith, few))) in
    let anew : IfSome (due words (Some None) (Some input)) (λ d. IsKept d (Some None) (Some now)) = subst (λ (o : Option (List ℕ)). IfSome (due words (Some o) (Some input)) (λ d. IsKept d (Some o) (Some now))) empty kept in
    let q = subst (λ (o : Option Due). IfSome o (λ d. IsKept d (Some None) (Some now))) begins.1 anew in
    (bytes_over begins.0, some_is now (Some (bytes_over begins.0)) q.0, begins.2)

-- one more of a list
pub take_more : (files : List (List ℕ)) (k : ℕ) (file : List ℕ) → slice_get files k ≡ Some file → take k files ++ file ∷ [] ≡ take (suc k) files
take_more [] k file h = absurd cc
take_more (x ∷ files) zero file h = ap (λ y. y ∷ []) (sym (some_is x file h))
take_more (x ∷ files) (suc k) file h = ap (λ ys. x ∷ ys) (take_more files k file h)

pub fresh_led : (group members : ℕ) → group < 2 ^ 64 → 0 < members → members ≤ MEMBERS → IsLedBy (fresh_members group members) []
fresh_led group members large some few =
    subst (λ (n : ℕ). IsLed group n (fresh_group group members).files [] []) (sym (files_length group members))
    (record { events = record { large = large; some = some; few = few; events = tt }; files_are = refl; sent_are = λ message p. absurd p })

-- members with these files, who sent nothing, are led by no event
pub led_from : (group members : ℕ) (files sent : List (List ℕ)) → files ≡ (fresh_group group members).files → sent ≡ [] → group < 2 ^ 64 → 0 < members → members ≤ MEMBERS → IsLedBy (record { group = group; files = files; sent = sent }) []
led_from group members files sent are none large some few = subst (λ (ms : List (List ℕ)). IsLed group (length files) files ms []) (sym none) (subst (λ (xs : List (List ℕ)). IsLed group (length xs) xs [] []) (sym are) (fresh_led group members large some few))
