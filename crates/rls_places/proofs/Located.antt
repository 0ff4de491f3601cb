-- Where the place of a word is, worked out for two members.
use Rattle.std.specs.Prelude.{◌≡◌, ℕ, List, [], ◌∷◌, ◌++◌, refl, Option, Some, None, codes, map, option_and_then, slice_get}
use Rattle.rls_model.specs.declared.edit.Edit.{Edit}
use Rattle.rls_model.specs.declared.edit.Edit.TheVariants.{Insert, Rename}
use Rattle.rls_model.specs.declared.event.Event.TheVariants as events
use Rattle.rls_model.specs.Worlds.{World, Happening, whole, run, empty_world}
use Rattle.rls_anchor.specs.Elsewhere.{located}
use Rattle.rls_places.specs.Computing.{computing}
use Rattle.rls_places.specs.Words.{place_of}

abbrev edits : ℕ → Edit → Happening
edits i e = whole (events.Edit i e)

-- the next message of one to the other, delivered
abbrev comes : ℕ → ℕ → ℕ → List Happening
comes k from to = whole (events.Send from to) ∷ whole (events.Deliver k to) ∷ []

-- both members show `hello`, which member 0 inserted, and then this happens
abbrev after_hello : List Happening → World
after_hello hs = run (empty_world 7 2) (edits 0 (Insert 0 (codes "hello")) ∷ (comes 0 0 1 ++ hs))

-- where the place of this word is at each of them
abbrev at_member : World → List ℕ → ℕ → Option ℕ
at_member w word i = option_and_then (λ s. option_and_then (λ a. located s.history a) (place_of word)) (slice_get w.states i)

abbrev at_both : World → List ℕ → List (Option ℕ)
at_both w word = at_member w word 0 ∷ at_member w word 1 ∷ []

-- Behind the `e`, in front of the first `l` and at the beginning; member 1 has an `!` in front of all, which member 0 doesn't know yet.
moved : map (λ (word : List ℕ). at_both (after_hello (edits 1 (Insert 0 (codes "!")) ∷ [])) word) (codes "after:origin:2147483647.0.1.1" ∷ codes "before:origin:2147483647.0.1.2" ∷ codes "beginning" ∷ [])
    ≡ (Some 2 ∷ Some 3 ∷ []) ∷ (Some 2 ∷ Some 3 ∷ []) ∷ (Some 0 ∷ Some 0 ∷ []) ∷ []
unfolding computing
moved = refl

-- Member 0 inserts an `x` behind the `e`, and tells the place behind it. Before that message comes, member 1 puts it where the `x` will be;
-- afterwards it is behind the `x` there too.
abbrev behind_x : List ℕ
behind_x = codes "after:origin:2147483647.0.1.1/2147483647.0.2.0"

before_its_character : at_both (after_hello (edits 0 (Insert 2 (codes "x")) ∷ [])) behind_x ∷ at_both (after_hello (edits 0 (Insert 2 (codes "x")) ∷ comes 1 0 1)) behind_x ∷ []
    ≡ (Some 3 ∷ Some 2 ∷ []) ∷ (Some 3 ∷ Some 3 ∷ []) ∷ []
unfolding computing
before_its_character = refl

-- Member 0 renames. Member 1 doesn't know the epoch until the rename comes. The epoch before it is known to both, until member 0 hears that
-- all are past it.
abbrev renamed : List Happening
renamed = edits 0 Rename ∷ []

abbrev in_both_epochs : World → List (List (Option ℕ))
in_both_epochs w = map (λ (word : List ℕ). at_both w word) (codes "after:0.2:2147483647.0.2.1" ∷ codes "after:origin:2147483647.0.1.1" ∷ [])

through_a_rename : in_both_epochs (after_hello renamed) ∷ in_both_epochs (after_hello (renamed ++ comes 1 0 1)) ∷ in_both_epochs (after_hello (renamed ++ (comes 1 0 1 ++ comes 2 1 0))) ∷ []
    ≡ ((Some 2 ∷ None ∷ []) ∷ (Some 2 ∷ Some 2 ∷ []) ∷ [])
    ∷ ((Some 2 ∷ Some 2 ∷ []) ∷ (Some 2 ∷ None ∷ []) ∷ [])
    ∷ ((Some 2 ∷ Some 2 ∷ []) ∷ (None ∷ None ∷ []) ∷ []) ∷ []
unfolding computing
through_a_rename = refl
