-- A command as one event, by the law of what runs leave.
use Rattle.std.proofs.Common.{◌≡◌, ◌∙◌, ◌<◌, ◌⊎◌, ◌||◌, ◌==◌, ℕ, Bool, true, false, List, [], ◌∷◌, length, Option, Some, None, refl, sym, ap, subst, inl, inr}
use Rattle.std.specs.Prelude.{IfSome, IsSome, slice_get, slice_set}
use Rattle.rls_ident.proofs.Members.{bool_cases, eq_is, eq_refl, eq_test, or_left, or_right, or_split, true_false}
use Rattle.rls_ident.proofs.Positions.{get_of}
use Rattle.rls_model.proofs.OnePlace.{got_below}
use Rattle.rls_top.specs.Due.{due}
use Rattle.rls_top.specs.Endings.{IsStored}
use Rattle.rls_top.specs.Running.{CommandEnds}
use Rattle.rls_groups.specs.Events.{Event, Performs, empty_desk}
use Rattle.rls_groups.specs.Lives.{Life, lived}
use Rattle.rls_groups.specs.Rounds.{after}
use Rattle.rls_groups.specs.Runs.{IsFileAfter, actions_of, file_at}
use Rattle.rls_members.specs.Members.{GoOn, MembersSeen, file_in, group_of, with_files}
use Rattle.rls_members.specs.Running.{EndsAs, IsGivenTo, after_command, is_stored, performed}
use Rattle.rls_members.proofs.Lives.{there_still}
use Rattle.rls_members.proofs.Led.{led_by, set_after}

-- ---- a file that there is

pub some_in : (o : Option (List ℕ)) → IsSome o → o ≡ Some (file_in o)
some_in None h = absurd (cc)
some_in (Some bytes) h = refl

pub is_some_of : (o : Option (List ℕ)) (bytes : List ℕ) → o ≡ Some bytes → IsSome o
is_some_of o bytes h = rw h refl

pub if_some : {A : Type 0} (o : Option A) (P : A → Type 0) → ((x : A) → o ≡ Some x → P x) → IfSome o P
if_some None P f = tt
if_some (Some x) P f = f x refl

-- one of which is given
pub some_given : {A : Type 0} (o : Option A) → IsSome o → (x : A) × (o ≡ Some x)
some_given None h = absurd (cc)
some_given (Some x) h = (x, refl)

-- ---- the event

stored_yes : (n : ℕ) → is_stored n ≡ true → IsStored n
stored_yes n h = go (or_split (n == 0) ((n == 5) || (n == 9)) h)
  where
    last : ((n == 5) ≡ true) ⊎ ((n == 9) ≡ true) → IsStored n
    last (inl e) = inr (inl (eq_is n 5 e))
    last (inr e) = inr (inr (eq_is n 9 e))

    go : ((n == 0) ≡ true) ⊎ (((n == 5) || (n == 9)) ≡ true) → IsStored n
    go (inl e) = inl (eq_is n 0 e)
    go (inr e) = last (or_split (n == 5) (n == 9) e)

stored_true : (n : ℕ) → IsStored n → is_stored n ≡ true
stored_true n (inl e) = or_left (n == 0) ((n == 5) || (n == 9)) (eq_test n 0 e)
stored_true n (inr (inl e)) = or_right (n == 0) ((n == 5) || (n == 9)) (or_left (n == 5) (n == 9) (eq_test n 5 e))
stored_true n (inr (inr e)) = or_right (n == 0) ((n == 5) || (n == 9)) (or_right (n == 5) (n == 9) (eq_test n 9 e))

-- what the law says of the file, at this event
pub left : (l : Life) (i : ℕ) (words : List (List ℕ)) (input : List ℕ) (n : ℕ) (now : Option (List ℕ))
    → (IsStored n → IsFileAfter l i (Performs words input ∷ []) now) × ((IsStored n → ⊥) → IsFileAfter l i [] now) → now ≡ file_at (lived l (performed i words input n)).group i
left l i words input n now h = bool_cases (is_stored n) (λ y. h.0 (stored_yes n y) (performed i words input n ∷ []) (yes y)) (λ y. h.1 (λ q. true_false (is_stored n) (stored_true n q) y) (performed i words input n ∷ []) (no y))
  where
    event : Bool → Event
    event done = record { member = i; action = Performs words input; done = done }

    done : actions_of i (event true ∷ []) ≡ Performs words input ∷ []
    done = rw (eq_refl i) refl

    undone : actions_of i (event false ∷ []) ≡ []
    undone = rw (eq_refl i) refl

    yes : is_stored n ≡ true → actions_of i (performed i words input n ∷ []) ≡ Performs words input ∷ []
    yes y = subst (λ (b : Bool). actions_of i (event b ∷ []) ≡ Performs words input ∷ []) (sym y) done

    no : is_stored n ≡ false → actions_of i (performed i words input n ∷ []) ≡ []
    no y = subst (λ (b : Bool). actions_of i (event b ∷ []) ≡ []) (sym y) undone

-- a life in which one member has this file
abbrev pub alone : List ℕ → Life
alone file = record { group = record { files = file ∷ []; written = [] }; desks = λ i. empty_desk; states = [] }

pub still_there : (l : Life) (i : ℕ) (e : Event) → i < length (l.group).files → (now : List ℕ) × (file_at (lived l e).group i ≡ Some now)
still_there l i e m = get_of (lived l e).group.files i (there_still i l e m)

-- ---- of the members

module _ (m : MembersSeen) (i : ℕ) (words : List (List ℕ)) (input : List ℕ) (n : ℕ) (old now : List ℕ) (at : slice_get m.files i ≡ Some old)
    (event : (l : Life) (j : ℕ) → file_at l.group j ≡ Some old → file_at (lived l (performed j words input n)).group j ≡ Some now) where
  here : (l : Life) → m.files ≡ (l.group).files → file_at l.group i ≡ Some old
  here l e = subst (λ (files : List (List ℕ)). slice_get files i ≡ Some old) e at

  below : (l : Life) → m.files ≡ (l.group).files → i < length (l.group).files
  below l e = got_below (l.group).files i old (here l e)

  -- just one file changes
  sets : (l : Life) → m.files ≡ (l.group).files → (lived l (performed i words input n)).group.files ≡ slice_set m.files i now
  sets l e = set_after l i (Performs words input) (is_stored n) now (below l e) (event l i (here l e)) ∙ ap (λ (files : List (List ℕ)). slice_set files i now) (sym e)

  pub command_after : with_files m (slice_set m.files i now) ≡ after_command m i words input n
  command_after = ap (with_files m) (sym (sets (record { group = group_of m; desks = λ i. empty_desk; states = [] }) refl))

  pub command_led : IsGivenTo m words (Some input) → GoOn m (performed i words input n ∷ []) (with_files m (slice_set m.files i now))
  command_led given es h =
      let l = after m.group (length m.files) es in
      led_by m es (performed i words input n ∷ []) i now h ((λ done. record { member = below l h.files_are; given = λ e. h.sent_are input (given e) }), tt) (sets l h.files_are)

-- how a command ends, over the file that there is
pub ends_as : {K S W : Type 0} (file_of : K → Option (Option (List ℕ))) (keeper_faults : K → ℕ) (load : K → Bool → K → Type 0) (store : K → List ℕ → Bool → K → Type 0) (left_of : S → Option (List ℕ)) (input_faults : S → ℕ) (told_of : W → Option (List ℕ)) (output_faults : W → ℕ)
    (words : List (List ℕ)) (n : ℕ) (keeper_old keeper_new : K) (input_old input_new : S) (output_old output_new : W) (file : Option (List ℕ)) (given : List ℕ)
    → CommandEnds file_of keeper_faults load store left_of input_faults told_of output_faults words n keeper_old keeper_new input_old input_new output_old output_new → file_of keeper_old ≡ Some file → left_of input_old ≡ Some given
    → EndsAs (due words (Some file) (Some given)) n (told_of output_old) (told_of output_new)
ends_as file_of keeper_faults load store left_of input_faults told_of output_faults words n keeper_old keeper_new input_old input_new output_old output_new file given e before is = record {
  status = rw is at (rw before at e.status);
  report = λ d. rw is at (rw before at (e.report d));
  partly = λ d. rw is at (rw before at (e.partly d));
  nothing = e.nothing;
}
