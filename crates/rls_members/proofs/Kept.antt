-- A message that a member sends, and that is kept.
use Rattle.std.proofs.Common.{◌≡◌, ◌≢◌, ◌∙◌, ◌<◌, ◌≤◌, ◌++◌, ℕ, Bool, true, false, List, [], ◌∷◌, length, get_or, Option, Some, None, Result, Ok, Err, refl, sym, ap, subst, inl, inr, arith, eqb, ◌⊎◌}
use Rattle.std.specs.Prelude.{if◌then◌else◌, IfSome, nat_lt, slice_get, slice_set}
use Rattle.std.proofs.lemmas.Bool.Decides.{eqb_tells}
use Rattle.rls_ident.specs.declared.limits.TheConstants.{GREATEST_NUMBER}
use Rattle.rls_ident.specs.Lists.{IsIn}
use Rattle.rls_ident.proofs.Members.{in_right, some_is}
use Rattle.rls_model.proofs.OnePlace.{length-set}
use Rattle.rls_ops.specs.Spelling.{message_bytes}
use Rattle.rls_seen.specs.Messages.{message_over}
use Rattle.rls_seen.specs.Seen.{Seen, members}
use Rattle.rls_report.specs.declared.failures.CommandError.{CommandError}
use Rattle.rls_report.specs.declared.failures.CommandError.TheVariants.{NotMember}
use Rattle.rls_stages.specs.KeptFile.{loaded, replica_in}
use Rattle.rls_top.specs.declared.words.Command.{Command}
use Rattle.rls_top.specs.declared.words.Command.TheVariants.{OnFile}
use Rattle.rls_top.specs.declared.words.FileCommand.TheVariants.{Send, Take}
use Rattle.rls_top.specs.Due.{Due, Stops, due, due_of_words, due_on, shows}
use Rattle.rls_top.specs.Endings.{IsWritten}
use Rattle.rls_top.specs.Groups.{due_of, files_with}
use Rattle.rls_top.specs.Words.{command_of}
use Rattle.rls_groups.specs.Events.{Commands, Event, after_run, printed_of, stored_of}
use Rattle.rls_groups.specs.Groups.{GroupsConverge}
use Rattle.rls_groups.specs.Lives.{Life, begun, lived}
use Rattle.rls_groups.specs.Rounds.{after}
use Rattle.rls_groups.specs.Runs.{file_at}
use Rattle.rls_members.specs.Members.{GoOn, IsLedBy, IsLived, MembersSeen, group_of, with_message}
use Rattle.rls_members.specs.Running.{EndsAs, IsGivenTo, is_stored, performed, words_of_send}
use Rattle.rls_members.proofs.Clean.{clean}
use Rattle.rls_members.proofs.Commands.{file_there}
use Rattle.rls_members.proofs.Lives.{lived_both}
use Rattle.rls_members.proofs.Led.{led_with}
use Rattle.rls_members.proofs.Numerals.{send_is}
use Rattle.rls_members.proofs.Ran.{command_after, command_led}

-- ---- what `send` calls for

module _ (to : ℕ) where
  abbrev due_for : Result Seen CommandError → Option Due
  due_for r = due_on (Send to) r (Some [])

  abbrev due_by : Seen → Bool → Due
  due_by s b = if b then shows (message_bytes (message_over s to)) else Stops (NotMember to)

  -- nothing is stored
  none_stored : (r : Result Seen CommandError) → stored_of (due_for r) ≡ None
  none_stored (Ok s) = go (nat_lt to (members s))
    where
      go : (b : Bool) → stored_of (Some (due_by s b)) ≡ None
      go true = refl
      go false = refl
  none_stored (Err e) = refl

  -- what is printed is the message
  message_shown : (r : Result Seen CommandError) (written : List ℕ) → IfSome (due_for r) (λ d. IsWritten d (Some []) (Some written)) → due_for r ≡ Some (shows written)
  message_shown (Ok s) written h = go (nat_lt to (members s)) h
    where
      go : (b : Bool) → IsWritten (due_by s b) (Some []) (Some written) → Some (due_by s b) ≡ Some (shows written)
      go true h = ap (λ (bytes : List ℕ). Some (shows bytes)) (sym (some_is written (message_bytes (message_over s to)) h))
      go false h = absurd h
  message_shown (Err e) written h = absurd h

-- ---- of the members m, seen as w

-- the members with this message more, or as before
abbrev pub sent_as : MembersSeen → ℕ → List ℕ → List (List ℕ) → MembersSeen
sent_as m i now sent = record { group = m.group; files = slice_set m.files i now; sent = sent }

pub record Sends (w new : MembersSeen) (i to n : ℕ) : Type 0 where
  pub event : GoOn w (performed i (words_of_send to) [] n ∷ []) new
  pub sent : n ≡ 0 → (message : List ℕ) × (due_of (group_of w) i (words_of_send to) [] ≡ Some (shows message)) × (new ≡ with_message w message)
  pub unsent : n ≢ 0 → new ≡ w
  pub unrefused : n ≢ 5
  pub lived : IsLived new

module _ (converge : GroupsConverge) (m : MembersSeen) (some : IsLived m) (i to n : ℕ) (old now written : List ℕ) (sent : List (List ℕ)) (is : old ≡ get_or m.files i old)
    (event : (l : Life) (j : ℕ) → file_at l.group j ≡ Some old → file_at (lived l (performed j (words_of_send to) [] n)).group j ≡ Some now)
    (ends : EndsAs (due (words_of_send to) (Some (Some old)) (Some [])) n (Some []) (Some written)) (kept : n ≡ 0 → sent ≡ m.sent ++ written ∷ []) (unkept : n ≢ 0 → sent ≡ m.sent) where
  sends : i < length m.files → to < length m.files → Sends m (sent_as m i now sent) i to n
  sends below to_below = record {
    event = λ es h. by_status es h (eqb_tells n 0);
    sent = λ z. (written, shown z, ap (λ (files : List (List ℕ)). record { group = m.group; files = files; sent = sent }) same ∙ ap (λ (ms : List (List ℕ)). record { group = m.group; files = m.files; sent = ms }) (kept z));
    unsent = λ z. ap (λ (files : List (List ℕ)). record { group = m.group; files = files; sent = sent }) same ∙ ap (λ (ms : List (List ℕ)). record { group = m.group; files = m.files; sent = ms }) (unkept z);
    unrefused = (clean converge m some.0 some.1 i words [] n (Some []) (Some written) below given (subst (λ (file : Option (List ℕ)). EndsAs (due words (Some file) (Some [])) n (Some []) (Some written)) (sym at) ends)).unrefused;
    lived = (some.0 ++ performed i words [] n ∷ [], by_status some.0 some.1 (eqb_tells n 0));
  }
    where
      words : List (List ℕ)
      words = words_of_send to

      few : to ≤ GREATEST_NUMBER
      few = let most = (some.1).events.few in omega (arith, to_below, most)

      command : command_of words ≡ Some (OnFile (Send to))
      command = send_is to few

      at : slice_get m.files i ≡ Some old
      at = file_there m.files i old below is

      -- no message is taken
      given : IsGivenTo m words (Some [])
      given e = absurd (let no : Some (OnFile (Send to)) ≡ Some (OnFile Take) = sym command ∙ e in cc)

      due_is : (file : Option (List ℕ)) → due words (Some file) (Some []) ≡ due_for to (replica_in (loaded file))
      due_is file = ap (λ (c : Option Command). due_of_words c (Some file) (Some [])) command

      stored_none : (b : Bool) → (after_run b (group_of m) i (Commands words [])).files ≡ m.files
      stored_none false = refl
      stored_none true = ap (files_with m.files i) (ap stored_of (due_is (slice_get m.files i)) ∙ none_stored to (replica_in (loaded (slice_get m.files i))))

      same : slice_set m.files i now ≡ m.files
      same = ap (λ (w : MembersSeen). w.files) (command_after m i words [] n old now at event) ∙ stored_none (is_stored n)

      shown : n ≡ 0 → due_of (group_of m) i words [] ≡ Some (shows written)
      shown z =
          ap (λ (file : Option (List ℕ)). due words (Some file) (Some [])) at
          ∙ (due_is (Some old) ∙ message_shown to (replica_in (loaded (Some old))) written (subst (λ (d : Option Due). IfSome d (λ d. IsWritten d (Some []) (Some written))) (due_is (Some old)) (ends.report (inl z))))

      -- it may be handed on then
      told : (es : List Event) → IsLedBy m es → n ≡ 0 → IsIn written ((after m.group (length m.files) (es ++ performed i words [] n ∷ [])).group).written
      told es h z =
          let l = after m.group (length m.files) es in
          let due_there : due_of l.group i words [] ≡ Some (shows written) = sym (ap (λ (files : List (List ℕ)). due words (Some (slice_get files i)) (Some [])) h.files_are) ∙ shown z in
          let prints : IsIn written (printed_of (command_of words) (due_of l.group i words [])) = subst (λ (d : Option Due). IsIn written (printed_of (command_of words) d)) (sym due_there) (subst (λ (c : Option Command). IsIn written (printed_of c (Some (shows written)))) (sym command) (inl refl)) in
          subst (λ (k : Life). IsIn written (k.group).written) (sym (lived_both (begun m.group (length m.files)) es (performed i words [] n ∷ [])))
          (subst (λ (b : Bool). IsIn written (after_run b l.group i (Commands words [])).written) (sym (ap is_stored z)) (in_right written (l.group).written (printed_of (command_of words) (due_of l.group i words [])) prints))

      by_status : (es : List Event) → IsLedBy m es → ((eqb n 0 ≡ true) × (n ≡ 0)) ⊎ ((eqb n 0 ≡ false) × (n ≢ 0)) → IsLedBy (sent_as m i now sent) (es ++ performed i words [] n ∷ [])
      by_status es h (inl z) =
          let led = command_led m i words [] n old now at event given es h in
          subst (λ (ms : List (List ℕ)). IsLedBy (sent_as m i now ms) (es ++ performed i words [] n ∷ [])) (sym (kept z.1))
          (led_with m.group (length (slice_set m.files i now)) (slice_set m.files i now) m.sent (es ++ performed i words [] n ∷ []) written led
          (subst (λ (k : ℕ). IsIn written ((after m.group k (es ++ performed i words [] n ∷ [])).group).written) (sym (length-set m.files i now)) (told es h z.1)))
      by_status es h (inr z) = subst (λ (ms : List (List ℕ)). IsLedBy (sent_as m i now ms) (es ++ performed i words [] n ∷ [])) (sym (unkept z.1)) (command_led m i words [] n old now at event given es h)

  pub sends_so : (w : MembersSeen) → m ≡ w → i < length w.files → to < length w.files → Sends w (sent_as m i now sent) i to n
  sends_so w same = subst (λ (x : MembersSeen). i < length x.files → to < length x.files → Sends x (sent_as m i now sent) i to n) same sends

-- the same, by the words and the devices that it makes
pub sends_by : GroupsConverge → (m : MembersSeen) → IsLived m → (i to n : ℕ) (old now : List ℕ) (words : List (List ℕ)) (given blank written : List ℕ) (sent : List (List ℕ)) → old ≡ get_or m.files i old → words ≡ words_of_send to → given ≡ [] → blank ≡ []
    → ((l : Life) (j : ℕ) → file_at l.group j ≡ Some old → file_at (lived l (performed j words given n)).group j ≡ Some now) → EndsAs (due words (Some (Some old)) (Some given)) n (Some blank) (Some written)
    → (n ≡ 0 → sent ≡ m.sent ++ written ∷ []) → (n ≢ 0 → sent ≡ m.sent) → (w : MembersSeen) → m ≡ w → i < length w.files → to < length w.files → Sends w (sent_as m i now sent) i to n
sends_by converge m some i to n old now words given blank written sent is are none empty event ends kept unkept =
    sends_so converge m some i to n old now written sent is
    (subst (λ (ws : List (List ℕ)). (l : Life) (j : ℕ) → file_at l.group j ≡ Some old → file_at (lived l (performed j ws [] n)).group j ≡ Some now) are
    (subst (λ (bytes : List ℕ). (l : Life) (j : ℕ) → file_at l.group j ≡ Some old → file_at (lived l (performed j words bytes n)).group j ≡ Some now) none event))
    (subst (λ (ws : List (List ℕ)). EndsAs (due ws (Some (Some old)) (Some [])) n (Some []) (Some written)) are
    (subst (λ (bytes : List ℕ). EndsAs (due words (Some (Some old)) (Some bytes)) n (Some []) (Some written)) none
    (subst (λ (bytes : List ℕ). EndsAs (due words (Some (Some old)) (Some given)) n (Some bytes) (Some written)) empty ends)))
    kept unkept
