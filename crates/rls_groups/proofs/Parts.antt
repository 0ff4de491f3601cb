-- What a session does in turn is given bytes, if its input consists of them.
use Rattle.std.proofs.Common.{ℕ, zero, suc, Bool, true, false, cond, List, [], ◌∷◌, length, drop, refl, sym, subst, inl, inr}
use Rattle.rls_ident.specs.Lists.{IsIn}
use Rattle.rls_codec.specs.CodecLaws.{IsBytes}
use Rattle.rls_codec.proofs.Formats.{IsBytes-drop}
use Rattle.rls_session.specs.Courses.{Stretch, course, stretches, stretches_within}
use Rattle.rls_groups.specs.Events.{Action, AreWritten, IsGiven, unanswered}
use Rattle.rls_top.specs.Groups.{Group}
use Rattle.rls_groups.specs.Runs.{SessionsAreOfGroup, begins_over, goes_on_over, input_of}

abbrev AllBytes : List (Stretch (Unit {0})) → Type 0
AllBytes xs = (a : Stretch (Unit {0})) → IsIn a xs → IsBytes a.input

all_bytes : (m : ℕ) (bytes : List ℕ) → IsBytes bytes → AllBytes (stretches_within unanswered (λ u. u) m tt bytes)
all_bytes zero bytes h a p = absurd p
all_bytes (suc m) bytes h a (inl e) = subst (λ (x : Stretch (Unit {0})). IsBytes x.input) e h
all_bytes (suc m) bytes h a (inr p) = go (course unanswered tt bytes).stores p (λ q. all_bytes m (drop (suc (course unanswered tt bytes).used) bytes) (IsBytes-drop (suc (course unanswered tt bytes).used) bytes h) a q)
  where
    go : (x : Bool) → IsIn a (cond x (stretches_within unanswered (λ u. u) m tt (drop (suc (course unanswered tt bytes).used) bytes)) [])
        → (IsIn a (stretches_within unanswered (λ u. u) m tt (drop (suc (course unanswered tt bytes).used) bytes)) → IsBytes a.input) → IsBytes a.input
    go true q f = f q
    go false q f = absurd q

module _ (g : Group) where
  goes_on_given : (xs : List (Stretch (Unit {0}))) (action : Action) → AllBytes xs → IsIn action (goes_on_over xs) → AreWritten g (input_of action) → IsGiven g action
  goes_on_given [] action h p w = absurd p
  goes_on_given (a ∷ xs) action h (inl e) w = subst (IsGiven g) e (h a (inl refl), subst (λ (x : Action). AreWritten g (input_of x)) (sym e) w)
  goes_on_given (a ∷ xs) action h (inr p) w = goes_on_given xs action (λ b q. h b (inr q)) p w

  begins_given : (xs : List (Stretch (Unit {0}))) (action : Action) → AllBytes xs → IsIn action (begins_over xs) → AreWritten g (input_of action) → IsGiven g action
  begins_given [] action h p w = absurd p
  begins_given (a ∷ xs) action h (inl e) w = subst (IsGiven g) e (h a (inl refl), subst (λ (x : Action). AreWritten g (input_of x)) (sym e) w)
  begins_given (a ∷ xs) action h (inr p) w = goes_on_given xs action (λ b q. h b (inr q)) p w

pub sessions_are_of_group : SessionsAreOfGroup
unfolding stretches
sessions_are_of_group g i input action l b p w = record { member = l; given = begins_given g (stretches_within unanswered (λ u. u) (suc (length input)) tt input) action (all_bytes (suc (length input)) input b) p w }
