-- A member's file, and what its session works on, are what its own runs make of them, whatever others do before, between and after.
use Rattle.std.proofs.Common.{◌≡◌, ◌∙◌, ◌<◌, ◌++◌, ◌&&◌, ◌==◌, ℕ, Bool, true, false, List, [], ◌∷◌, length, Option, Some, None, refl, sym, ap, subst, arith}
use Rattle.std.specs.Prelude.{slice_get}
use Rattle.rls_ident.specs.Lists.{IsIn}
use Rattle.rls_ident.proofs.Members.{and_left, and_right, bool_cases, eq_is, eq_not, eq_refl, in_left, in_right}
use Rattle.rls_ident.proofs.Positions.{get_of}
use Rattle.rls_model.proofs.OnePlace.{get_set_other, get_set_same, length-set}
use Rattle.rls_seen.specs.Seen.{Seen}
use Rattle.rls_stages.specs.KeptFile.{bytes_over, loaded, replica_in}
use Rattle.rls_top.specs.Due.{due}
use Rattle.rls_top.specs.Groups.{Group, files_with}
use Rattle.rls_top.specs.Words.{command_of}
use Rattle.rls_groups.specs.Events.{Action, Commands, Deed, Desk, Event, Sits, after_run, deed_of, desk_after, desk_on, due_on, printed_of, replied_on, saved_of, saved_with, stored_by, stored_of, written_by}
use Rattle.rls_groups.specs.Lives.{Life, deed_in, desks_run, lived, lived_all, states_run}
use Rattle.rls_groups.specs.Runs.{IsFileAfter, actions_of, answered_by, answered_in, file_at}
use Rattle.rls_session.specs.Replies.{saved_text}

-- ---- one run

-- the file that is kept after a run that stores this, if it stores
abbrev kept_then : Option (List ℕ) → Option Seen → Option (List ℕ)
kept_then file None = file
kept_then file (Some s) = Some (bytes_over s)

pub set_there : (g : Group) (i : ℕ) (s : Seen) → i < length g.files → slice_get (files_with g.files i (Some s)) i ≡ Some (bytes_over s)
set_there g i s l = let p = get_of g.files i l in get_set_same g.files i p.0 (bytes_over s) p.1

file_then : (g : Group) (i : ℕ) (o : Option Seen) → i < length g.files → slice_get (files_with g.files i o) i ≡ kept_then (file_at g i) o
file_then g i None l = refl
file_then g i (Some s) l = set_there g i s l

others_stay : (g : Group) (i j : ℕ) (o : Option Seen) → (j ≡ i → ⊥) → slice_get (files_with g.files j o) i ≡ file_at g i
others_stay g i j None other = refl
others_stay g i j (Some s) other = get_set_other g.files j i (bytes_over s) other

same_length : (g : Group) (i : ℕ) (o : Option Seen) → length (files_with g.files i o) ≡ length g.files
same_length g i None = refl
same_length g i (Some s) = length-set g.files i (bytes_over s)

-- what a run comes to is so by its member's file
stored_same : (g k : Group) (i : ℕ) (deed : Deed) → file_at g i ≡ file_at k i → stored_by g i deed ≡ stored_by k i deed
stored_same g k i (Commands words input) e = ap (λ (file : Option (List ℕ)). stored_of (due words (Some file) (Some input))) e
stored_same g k i (Sits desk input) e = ap (λ (file : Option (List ℕ)). saved_of (due_on (replica_in (loaded file)) desk input).ending) e

desk_same : (g k : Group) (i : ℕ) (deed : Deed) → file_at g i ≡ file_at k i → desk_after g i deed ≡ desk_after k i deed
desk_same g k i (Commands words input) e = refl
desk_same g k i (Sits desk input) e = ap (λ (file : Option (List ℕ)). desk_on (replica_in (loaded file)) desk input) e

written_same : (g k : Group) (i : ℕ) (deed : Deed) → file_at g i ≡ file_at k i → written_by g i deed ≡ written_by k i deed
written_same g k i (Commands words input) e = ap (λ (file : Option (List ℕ)). printed_of (command_of words) (due words (Some file) (Some input))) e
written_same g k i (Sits desk input) e = ap (λ (file : Option (List ℕ)). saved_with (due_on (replica_in (loaded file)) desk input).ending (replied_on (replica_in (loaded file)) desk input)) e

answered_same : (g k : Group) (i : ℕ) (deed : Deed) → file_at g i ≡ file_at k i → answered_by g i deed ≡ answered_by k i deed
answered_same g k i (Commands words input) e = refl
answered_same g k i (Sits desk input) e = ap (λ (file : Option (List ℕ)). (due_on (replica_in (loaded file)) desk input).replies ++ saved_text) e

module _ (i : ℕ) where
  abbrev pub done : Action → Event
  done action = record { member = i; action = action; done = true }

  -- after these, done
  abbrev pub all_done : Life → List Action → Life
  all_done l [] = l
  all_done l (action ∷ actions) = all_done (lived l (done action)) actions

  pub all_done_more : (l : Life) (actions : List Action) (action : Action) → all_done l (actions ++ action ∷ []) ≡ lived (all_done l actions) (done action)
  all_done_more l [] action = refl
  all_done_more l (a ∷ actions) action = all_done_more (lived l (done a)) actions action

  -- a member is still there
  pub there_still : (l : Life) (e : Event) → i < length (l.group).files → i < length (lived l e).group.files
  there_still l e m = go e.done
    where
      go : (done : Bool) → i < length (after_run done l.group e.member (deed_in l e)).files
      go false = m
      go true = let same = same_length l.group e.member (stored_by l.group e.member (deed_in l e)) in omega (arith, m, same)

  -- the member's file is the same, and what its session works on
  pub record IsSame (l k : Life) : Type 0 where
    pub file : file_at l.group i ≡ file_at k.group i
    pub desk : l.desks i ≡ k.desks i

  same_trans : (l k m : Life) → IsSame l k → IsSame k m → IsSame l m
  same_trans l k m h q = record { file = h.file ∙ q.file; desk = h.desk ∙ q.desk }

  -- after an event of another, or one that isn't done
  abbrev after_one : Life → Bool → ℕ → Deed → Life
  after_one l done j deed = record { group = after_run done l.group j deed; desks = desks_run done l.group l.desks j deed; states = states_run done l.group l.states j deed }

  other : (l : Life) (done : Bool) (j : ℕ) (deed : Deed) → ((j == i) && done) ≡ false → IsSame (after_one l done j deed) l
  other l false j deed e = record { file = refl; desk = refl }
  other l true j deed e =
      let apart : (j == i) ≡ false = bool_cases (j == i) (λ y. absurd (let no : true ≡ false = sym (rw y refl) ∙ e in cc)) (λ y. y) in
      record { file = others_stay l.group i j (stored_by l.group j deed) (eq_not j i apart); desk = rw apart refl }

  -- after one of the member
  own : (l k : Life) (action : Action) → i < length (l.group).files → i < length (k.group).files → IsSame l k → IsSame (lived l (done action)) (lived k (done action))
  own l k action m n h =
      let deed = deed_of (l.desks i) action in
      let here = deed_of (k.desks i) action in
      let same : deed ≡ here = ap (λ (desk : Desk). deed_of desk action) h.desk in
      record {
        file = file_then l.group i (stored_by l.group i deed) m ∙ (ap (kept_then (file_at l.group i)) (stored_same l.group k.group i deed h.file)
            ∙ (ap (λ (file : Option (List ℕ)). kept_then file (stored_by k.group i deed)) h.file ∙ (ap (λ (d : Deed). kept_then (file_at k.group i) (stored_by k.group i d)) same ∙ sym (file_then k.group i (stored_by k.group i here) n))));
        desk = desks_own l deed ∙ (desk_same l.group k.group i deed h.file ∙ (ap (desk_after k.group i) same ∙ sym (desks_own k here)));
      }
    where
      desks_own : (l : Life) (deed : Deed) → desks_run true l.group l.desks i deed i ≡ desk_after l.group i deed
      desks_own l deed = rw (eq_refl i) refl

  -- ---- after any events
  own_event : (l : Life) (e : Event) → e.member ≡ i → e.done ≡ true → IsSame (lived l e) (lived l (done e.action))
  own_event l e is did =
      subst (λ (b : Bool). IsSame (after_one l b e.member (deed_in l e)) (lived l (done e.action))) (sym did)
      (subst (λ (j : ℕ). IsSame (after_one l true j (deed_of (l.desks j) e.action)) (lived l (done e.action))) (sym is) (record { file = refl; desk = refl }))

  abbrev AfterAll : Life → Life → List Event → List Action → Type 0
  AfterAll l k es actions = IsSame (lived_all l es) (all_done k actions)

  pub same_after : (es : List Event) (actions : List Action) (l k : Life) → i < length (l.group).files → i < length (k.group).files → IsSame l k → actions_of i es ≡ actions → AfterAll l k es actions
  same_after [] actions l k m n h q = subst (AfterAll l k []) q h
  same_after (e ∷ es) actions l k m n h q =
      bool_cases ((e.member == i) && e.done)
      (λ f. let a = done e.action in
      subst (AfterAll l k (e ∷ es)) (taken f) (same_after es (actions_of i es) (lived l e) (lived k a) (there_still l e m) (there_still k a n) (same_trans (lived l e) (lived l a) (lived k a) (own_event l e (eq_is e.member i (and_left (e.member == i) e.done f)) (and_right (e.member == i) e.done f)) (own l k e.action m n h)) refl))
      (λ f. same_after es actions (lived l e) k (there_still l e m) n (same_trans (lived l e) l k (other l e.done e.member (deed_in l e) f) h) (left f))
    where
      taken : ((e.member == i) && e.done) ≡ true → e.action ∷ actions_of i es ≡ actions
      taken f = sym (rw f refl) ∙ q

      left : ((e.member == i) && e.done) ≡ false → actions_of i es ≡ actions
      left f = sym (rw f refl) ∙ q

  -- the file after the member's own
  pub file_after : (l : Life) (actions : List Action) (now : Option (List ℕ)) → i < length (l.group).files → now ≡ file_at (all_done l actions).group i → IsFileAfter l i actions now
  file_after l actions now m e es q = e ∙ sym (same_after es actions l l m m (record { file = refl; desk = refl }) q).file

  -- ---- what is answered

  -- in the member's own
  abbrev pub answered : Life → List Action → List ℕ
  answered l [] = []
  answered l (action ∷ actions) = answered_by l.group i (deed_of (l.desks i) action) ++ answered (lived l (done action)) actions

  answered_own : (l k : Life) (e : Event) → e.member ≡ i → IsSame l k → answered_by l.group e.member (deed_in l e) ≡ answered_by k.group i (deed_of (k.desks i) e.action)
  answered_own l k e is h =
      ap (λ (j : ℕ). answered_by l.group j (deed_of (l.desks j) e.action)) is
      ∙ (ap (λ (desk : Desk). answered_by l.group i (deed_of desk e.action)) h.desk ∙ answered_same l.group k.group i (deed_of (k.desks i) e.action) h.file)

  pub answered_after : (es : List Event) (actions : List Action) (l k : Life) → i < length (l.group).files → i < length (k.group).files → IsSame l k → actions_of i es ≡ actions → answered_in i l es ≡ answered k actions
  answered_after [] actions l k m n h q = ap (answered k) q
  answered_after (e ∷ es) actions l k m n h q =
      bool_cases ((e.member == i) && e.done)
      (λ f. let a = done e.action in let is = eq_is e.member i (and_left (e.member == i) e.done f) in
      rw f (ap (λ bs. bs ++ answered_in i (lived l e) es) (answered_own l k e is h)
      ∙ (ap (λ bs. answered_by k.group i (deed_of (k.desks i) e.action) ++ bs) (answered_after es (actions_of i es) (lived l e) (lived k a) (there_still l e m) (there_still k a n)
      (same_trans (lived l e) (lived l a) (lived k a) (own_event l e is (and_right (e.member == i) e.done f)) (own l k e.action m n h)) refl) ∙ ap (answered k) (taken f))))
      (λ f. rw f (answered_after es actions (lived l e) k (there_still l e m) n (same_trans (lived l e) l k (other l e.done e.member (deed_in l e) f) h) (left f)))
    where
      taken : ((e.member == i) && e.done) ≡ true → e.action ∷ actions_of i es ≡ actions
      taken f = sym (rw f refl) ∙ q

      left : ((e.member == i) && e.done) ≡ false → actions_of i es ≡ actions
      left f = sym (rw f refl) ∙ q

  -- ---- messages

  pub stays_written : (b : List ℕ) (es : List Event) (l : Life) → IsIn b (l.group).written → IsIn b (lived_all l es).group.written
  stays_written b [] l p = p
  stays_written b (e ∷ es) l p = stays_written b es (lived l e) (go e.done)
    where
      go : (done : Bool) → IsIn b (after_run done l.group e.member (deed_in l e)).written
      go false = p
      go true = in_left b (l.group).written (written_by l.group e.member (deed_in l e)) p

  written_own : (b : List ℕ) (l : Life) (e : Event) → e.member ≡ i → e.done ≡ true → IsIn b (written_by l.group i (deed_of (l.desks i) e.action)) → IsIn b (lived l e).group.written
  written_own b l e is did p =
      subst (λ (d : Bool). IsIn b (after_run d l.group e.member (deed_in l e)).written) (sym did)
      (subst (λ (j : ℕ). IsIn b (after_run true l.group j (deed_of (l.desks j) e.action)).written) (sym is) (in_right b (l.group).written (written_by l.group i (deed_of (l.desks i) e.action)) p))

  -- what the member's only run writes may be handed on from then on
  pub written_after : (b : List ℕ) (action : Action) (k : Life) → i < length (k.group).files → IsIn b (written_by k.group i (deed_of (k.desks i) action)) → (es : List Event) (l : Life) → i < length (l.group).files → IsSame l k → actions_of i es ≡ action ∷ [] → IsIn b (lived_all l es).group.written
  written_after b action k n p [] l m h q = absurd cc
  written_after b action k n p (e ∷ es) l m h q =
      bool_cases ((e.member == i) && e.done)
      (λ f. let is = taken f in
      stays_written b es (lived l e) (written_own b l e (eq_is e.member i (and_left (e.member == i) e.done f)) (and_right (e.member == i) e.done f) (subst (λ (a : Action). IsIn b (written_by l.group i (deed_of (l.desks i) a))) (sym is) here)))
      (λ f. written_after b action k n p es (lived l e) (there_still l e m) (same_trans (lived l e) l k (other l e.done e.member (deed_in l e) f) h) (left f))
    where
      here : IsIn b (written_by l.group i (deed_of (l.desks i) action))
      here =
          subst (λ (desk : Desk). IsIn b (written_by l.group i (deed_of desk action))) (sym h.desk)
          (subst (λ (bs : List (List ℕ)). IsIn b bs) (sym (written_same l.group k.group i (deed_of (k.desks i) action) h.file)) p)

      taken : ((e.member == i) && e.done) ≡ true → e.action ≡ action
      taken f = let same : e.action ∷ actions_of i es ≡ action ∷ [] = sym (rw f refl) ∙ q in cc

      left : ((e.member == i) && e.done) ≡ false → actions_of i es ≡ action ∷ []
      left f = sym (rw f refl) ∙ q
