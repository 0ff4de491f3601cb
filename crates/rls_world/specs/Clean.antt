-- What an event does in a world that events have brought about.
use Rattle.std.specs.Prelude.{◌≡◌, List, [], None}
use Rattle.rls_ident.specs.Lists.{IsIn}
use Rattle.rls_model.specs.declared.event.Event.{Event}
use Rattle.rls_model.specs.declared.event.Event.TheVariants as events
use Rattle.rls_model.specs.declared.event.Outcome.{Outcome}
use Rattle.rls_model.specs.declared.event.Outcome.TheVariants as outcomes
use Rattle.rls_model.specs.Editing.{made}
use Rattle.rls_model.specs.EditRun.{edit_within}
use Rattle.rls_model.specs.History.{ops}
use Rattle.rls_model.specs.Laws.{IsAt, WaitingMade}
use Rattle.rls_model.specs.Receiving.{State}
use Rattle.rls_model.specs.Worlds.{World, Happening, happens, AreWhole}

-- no operation that was taken was refused
abbrev pub NoneRefused : Outcome → Type 0
NoneRefused (outcomes.Took taken) = taken.refused ≡ []
NoneRefused _ = Unit {0}

-- an edit appends its own operation, refuses none that it releases, and releases none unless an event before was cut short
abbrev pub EditsOwn : World → List Happening → Event → Type 0
EditsOwn w hs (events.Edit i edit) = (t : State) → IsAt w i t →
    IsIn (made t.history edit) (ops (edit_within None t edit).state.history)
    × ((edit_within None t edit).counts.refused ≡ [])
    × (AreWhole hs → (edit_within None t edit).counts.released ≡ 0)
EditsOwn w hs _ = Unit {0}

-- nothing is refused, and what waits afterwards was made by its authors
pub record IsClean (w : World) (hs : List Happening) (e : Event) (o : Outcome) : Type 0 where
  pub taken : NoneRefused o
  pub own : EditsOwn w hs e
  pub waiting : WaitingMade (happens None w e)
