-- A command of one of the members.
use Rattle.std.proofs.Common.{◌≡◌, ◌∙◌, ◌<◌, ◌++◌, ℕ, List, [], ◌∷◌, length, get_or, Option, Some, None, sym, ap, subst}
use Rattle.std.specs.Prelude.{IfSome, slice_get, slice_set}
use Rattle.std.proofs.lemmas.Option.{slice_get-get_or}
use Rattle.rls_top.specs.Due.{due}
use Rattle.rls_top.specs.Groups.{due_of}
use Rattle.rls_groups.specs.Groups.{GroupsConverge}
use Rattle.rls_groups.specs.Lives.{Life, lived}
use Rattle.rls_groups.specs.Runs.{file_at}
use Rattle.rls_members.specs.Members.{GoOn, IsLived, MembersSeen, group_of, with_files}
use Rattle.rls_members.specs.Running.{EndsAs, IsClean, IsGivenTo, after_command, performed}
use Rattle.rls_members.proofs.Clean.{clean_so}
use Rattle.rls_members.proofs.Ran.{command_after, command_led}

pub file_there : (files : List (List ℕ)) (i : ℕ) (file : List ℕ) → i < length files → file ≡ get_or files i file → slice_get files i ≡ Some file
file_there files i file below is = slice_get-get_or files i file below ∙ ap (λ (x : List ℕ). Some x) (sym is)

-- of the members m, seen as w
pub record Results (m w : MembersSeen) (i : ℕ) (words : List (List ℕ)) (o : Option (List ℕ)) (n : ℕ) (now : List ℕ) (told new_told : Option (List ℕ)) : Type 0 where
  pub event : IfSome o (λ given. GoOn w (performed i words given n ∷ []) (with_files m (slice_set m.files i now)))
  pub after : IfSome o (λ given. with_files m (slice_set m.files i now) ≡ after_command w i words given n)
  pub ends : IfSome o (λ given. EndsAs (due_of (group_of w) i words given) n told new_told)
  pub clean : IfSome o (λ given. IsClean w i words given n told new_told)
  pub lived : IsLived (with_files m (slice_set m.files i now))

module _ (converge : GroupsConverge) (m : MembersSeen) (lived_m : IsLived m) (i : ℕ) (words : List (List ℕ)) (n : ℕ) (old now : List ℕ) (told new_told : Option (List ℕ)) (is : old ≡ get_or m.files i old) where
  -- what a member's own file came to
  abbrev pub IsEvent : Option (List ℕ) → Type 0
  IsEvent o = IfSome o (λ given. (l : Life) (j : ℕ) → file_at l.group j ≡ Some old → file_at (lived l (performed j words given n)).group j ≡ Some now)

  abbrev pub IsEnd : Option (List ℕ) → Type 0
  IsEnd o = IfSome o (λ given. EndsAs (due words (Some (Some old)) (Some given)) n told new_told)

  results : (o : Option (List ℕ)) → IsEvent o → IsEnd o → i < length m.files → IsGivenTo m words o → Results m m i words o n now told new_told
  results None event ends below given = absurd given
  results (Some input) event ends below given =
      let at = file_there m.files i old below is in
      let led = command_led m i words input n old now at event given in
      let ended : EndsAs (due_of (group_of m) i words input) n told new_told = subst (λ (file : Option (List ℕ)). EndsAs (due words (Some file) (Some input)) n told new_told) (sym at) ends in
      record {
        event = led;
        after = command_after m i words input n old now at event;
        ends = ended;
        clean = clean_so converge m lived_m i words input n told new_told below given ended;
        lived = (lived_m.0 ++ performed i words input n ∷ [], led lived_m.0 lived_m.1);
      }

  pub ran : (w : MembersSeen) (o : Option (List ℕ)) → m ≡ w → i < length w.files → IsGivenTo w words o → IsEvent o → IsEnd o → Results m w i words o n now told new_told
  ran w o same below given event ends = subst (λ (x : MembersSeen). i < length x.files → IsGivenTo x words o → Results m x i words o n now told new_told) same (results o event ends) below given
