-- The trial: steps of three members that draws decide, and two rounds in which all send to all.
use Rattle.std.specs.Prelude.{ℕ, zero, suc, ◌+◌, ◌-◌, ◌%◌, min, List, [], ◌∷◌, ◌++◌, ◌==◌, nat_le, length, map, slice_get, replicate, Option, Some, None, if◌then◌else◌}
use Rattle.rls_runs.specs.Runs.{runs_of}
use Rattle.rls_model.specs.declared.edit.Edit.{Edit}
use Rattle.rls_model.specs.declared.edit.Edit.TheVariants.{Insert, Delete, Rename}
use Rattle.rls_model.specs.declared.event.Event.{Event}
use Rattle.rls_model.specs.declared.event.Event.TheVariants as events
use Rattle.rls_model.specs.History.{count}
use Rattle.rls_model.specs.Document.{idents}
use Rattle.rls_model.specs.Receiving.{State}
use Rattle.rls_model.specs.Retained.{counts}
use Rattle.rls_model.specs.Worlds.{World, empty_world, whole, run}
use Rattle.rls_world.specs.declared.trials.Summary.{Summary}
use Rattle.rls_world.specs.Draws.{next_draw, drawn, letters, after_draws}

-- the world on the way, and the state of the draws
pub record Course : Type 0 where
  pub world : World
  pub drawn_by : ℕ

-- how many characters the text of a member with this state has
abbrev pub total_of : Option State → ℕ
total_of None = 0
total_of (Some s) = length (idents s.history)

-- ---- one step

-- an insertion into a text of so many characters: a place, a number of characters, and the characters, each drawn
abbrev pub drawn_insertion : ℕ → ℕ → Edit
drawn_insertion total x = Insert (drawn (total + 1) (next_draw x)) (letters (1 + drawn 8 (after_draws 2 x)) (after_draws 2 x))

-- the state after its draws
abbrev pub after_insertion : ℕ → ℕ
after_insertion x = after_draws (1 + drawn 8 (after_draws 2 x)) (after_draws 2 x)

-- a deletion: a place, and a number of characters up to the lesser of 8 and those that stand there
abbrev pub drawn_deletion : ℕ → ℕ → Edit
drawn_deletion total x =
    Delete (drawn total (next_draw x)) (1 + drawn (min 8 (total - drawn total (next_draw x))) (after_draws 2 x))

-- the member to whom another one sends
abbrev pub drawn_other : ℕ → ℕ → ℕ
drawn_other r x = (r + 1 + drawn 2 (next_draw x)) % 3

-- a message, which is delivered so many times; its number is that of the messages before it
abbrev pub sent_events : World → ℕ → ℕ → ℕ → List Event
sent_events w from to times = events.Send from to ∷ replicate times (events.Deliver (length w.sent) to)

-- how often a message is delivered in a step of this kind
abbrev pub deliveries : ℕ → ℕ
deliveries kind = if kind == 13 then 1 else if kind == 14 then 2 else 0

-- what happens in a step of this kind at member r, whose text has so many characters, by draws from x on
abbrev pub kind_events : World → ℕ → ℕ → ℕ → ℕ → List Event
kind_events w r total kind x =
    if nat_le kind 8 then events.Edit r (drawn_insertion total x) ∷ []
    else if nat_le kind 11 then (if total == 0 then [] else events.Edit r (drawn_deletion total x) ∷ [])
    else if kind == 12 then (if total == 0 then [] else events.Edit r Rename ∷ [])
    else sent_events w r (drawn_other r x) (deliveries kind)

-- the state of the draws after it
abbrev pub kind_draws : ℕ → ℕ → ℕ → ℕ
kind_draws total kind x =
    if nat_le kind 8 then after_insertion x
    else if nat_le kind 11 then (if total == 0 then x else after_draws 2 x)
    else if kind == 12 then x
    else next_draw x

-- the world after these events, none of which is cut short
abbrev pub after_events : World → List Event → World
after_events w es = run w (map whole es)

-- the step of member r of this kind, after which the member drops what is stable
abbrev pub step_of : Course → ℕ → ℕ → ℕ → ℕ → Course
step_of c r total kind x = record {
  world = after_events c.world (kind_events c.world r total kind x ++ events.Drop r ∷ []);
  drawn_by = kind_draws total kind x;
}

-- a step: the member and the kind are drawn
abbrev pub step : Course → Course
step c =
    let r = drawn 3 (next_draw c.drawn_by) in
    step_of c r (total_of (slice_get c.world.states r)) (drawn 16 (after_draws 2 c.drawn_by)) (after_draws 2 c.drawn_by)

-- n steps
abbrev pub steps : ℕ → Course → Course
steps zero c = c
steps (suc n) c = steps n (step c)

-- ---- rounds

-- a message that is taken at once
abbrev pub exchange : ℕ → ℕ → World → World
exchange from to w = after_events w (sent_events w from to 1)

-- each member sends to each other one
abbrev pub round : World → World
round w = exchange 2 1 (exchange 2 0 (exchange 1 2 (exchange 1 0 (exchange 0 2 (exchange 0 1 w)))))

-- two rounds, after which each member drops what is stable
abbrev pub rounds : World → World
rounds w = after_events (round (round w)) (events.Drop 0 ∷ events.Drop 1 ∷ events.Drop 2 ∷ [])

-- ---- the summary

-- what is told of member 0 and of all members
abbrev pub summary_of : List State → Summary
summary_of [] = record { accepted = []; totals = []; runs = []; epochs = 0; former = 0 }
summary_of (s ∷ ss) = record {
  accepted = count s.history;
  totals = map (λ t. length (idents t.history)) (s ∷ ss);
  runs = map (λ t. length (runs_of (idents t.history))) (s ∷ ss);
  epochs = (counts s).epochs;
  former = (counts s).former;
}

-- the world after all steps of a seed, before the rounds
unfoldable pub course : ℕ → ℕ → Course
course seed n = steps n (record { world = empty_world 1 3; drawn_by = seed })

-- the trial
unfoldable pub trial : ℕ → ℕ → Summary
trial seed n = summary_of (rounds (course seed n).world).states
