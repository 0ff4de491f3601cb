-- What a step of each kind comes to.
use Rattle.std.proofs.Common.{◌≡◌, ℕ, ◌<◌, ◌≤◌, ◌==◌, true, false, List, [], ◌∷◌, length, sym, ap, ◌∙◌, subst, None, ◌≢◌, arith, if◌then◌else◌}
use Rattle.std.specs.Prelude.{nat_le, slice_get}
use Rattle.std.proofs.lemmas.List.{length-map}
use Rattle.std.proofs.lemmas.Bool.Decides.{nat_tests}
use Rattle.rls_ident.proofs.Members.{le_test, not_le_test}
use Rattle.rls_model.specs.declared.edit.Edit.TheVariants.{Rename}
use Rattle.rls_model.specs.declared.event.Event.{Event}
use Rattle.rls_model.specs.declared.event.Event.TheVariants as events
use Rattle.rls_model.specs.Laws.{IsAt}
use Rattle.rls_model.specs.Receiving.{State}
use Rattle.rls_model.specs.Worlds.{World, happens}
use Rattle.rls_seen.specs.Seen.{Seen}
use Rattle.rls_seen.specs.Stands.{StandsFor}
use Rattle.rls_seen.proofs.Editing.{idents_alike}
use Rattle.rls_world.proofs.Courses.{behind}
use Rattle.rls_world.specs.Draws.{next_draw, after_draws, drawn}
use Rattle.rls_world.specs.Seen.{WorldSeen, StandsForWorld}
use Rattle.rls_world.specs.Trial.{Course, step, step_of, after_events, total_of, drawn_insertion, after_insertion, drawn_deletion, drawn_other, sent_events, deliveries, kind_events, kind_draws}

pub total_alike : (s : Seen) (w : World) (i : ℕ) (t : State) (n : ℕ) → IsAt w i t → StandsFor s t → n ≡ length s.text → n ≡ total_of (slice_get w.states i)
total_alike s w i t n a h e = e ∙ (sym (length-map s.text _) ∙ (ap length (idents_alike s t h) ∙ ap total_of (sym a)))

abbrev renames : ℕ → ℕ → List Event
renames r total = if total == 0 then [] else events.Edit r Rename ∷ []

abbrev deletes : ℕ → ℕ → ℕ → List Event
deletes r total x = if total == 0 then [] else events.Edit r (drawn_deletion total x) ∷ []

abbrev sends : World → ℕ → ℕ → ℕ → List Event
sends w r kind x = sent_events w r (drawn_other r x) (deliveries kind)

abbrev above_11 : World → ℕ → ℕ → ℕ → ℕ → List Event
above_11 w r total kind x = if kind == 12 then renames r total else sends w r kind x

abbrev above_8 : World → ℕ → ℕ → ℕ → ℕ → List Event
above_8 w r total kind x = if nat_le kind 11 then deletes r total x else above_11 w r total kind x

pub inserts : (w : World) (r total kind x : ℕ) → kind ≤ 8 → kind_events w r total kind x ≡ events.Edit r (drawn_insertion total x) ∷ []
inserts w r total kind x l = ap (λ b. if b then events.Edit r (drawn_insertion total x) ∷ [] else above_8 w r total kind x) (le_test kind 8 l)

not_8 : (w : World) (r total kind x : ℕ) → 8 < kind → kind_events w r total kind x ≡ above_8 w r total kind x
not_8 w r total kind x l = ap (λ b. if b then events.Edit r (drawn_insertion total x) ∷ [] else above_8 w r total kind x) (not_le_test kind 8 l)

of_deletion : (w : World) (r total kind x : ℕ) → 8 < kind → kind ≤ 11 → kind_events w r total kind x ≡ deletes r total x
of_deletion w r total kind x l m = not_8 w r total kind x l ∙ ap (λ b. if b then deletes r total x else above_11 w r total kind x) (le_test kind 11 m)

not_11 : (w : World) (r total kind x : ℕ) → 11 < kind → kind_events w r total kind x ≡ above_11 w r total kind x
not_11 w r total kind x l = not_8 w r total kind x (omega arith) ∙ ap (λ b. if b then deletes r total x else above_11 w r total kind x) (not_le_test kind 11 l)

zero_is : (n : ℕ) → n ≡ 0 → (n == 0) ≡ true
zero_is n h = grind (arith, nat_tests)

some_are : (n : ℕ) → 0 < n → (n == 0) ≡ false
some_are n h = grind (arith, nat_tests)

pub nothing_deleted : (w : World) (r total kind x : ℕ) → 8 < kind → kind ≤ 11 → total ≡ 0 → kind_events w r total kind x ≡ []
nothing_deleted w r total kind x l m z = of_deletion w r total kind x l m ∙ ap (λ b. if b then [] else events.Edit r (drawn_deletion total x) ∷ []) (zero_is total z)

pub deleted : (w : World) (r total kind x : ℕ) → 8 < kind → kind ≤ 11 → 0 < total → kind_events w r total kind x ≡ events.Edit r (drawn_deletion total x) ∷ []
deleted w r total kind x l m z = of_deletion w r total kind x l m ∙ ap (λ b. if b then [] else events.Edit r (drawn_deletion total x) ∷ []) (some_are total z)

pub nothing_renamed : (w : World) (r total x : ℕ) → total ≡ 0 → kind_events w r total 12 x ≡ []
nothing_renamed w r total x z = ap (λ b. if b then [] else events.Edit r Rename ∷ []) (zero_is total z)

pub renamed : (w : World) (r total x : ℕ) → 0 < total → kind_events w r total 12 x ≡ events.Edit r Rename ∷ []
renamed w r total x z = ap (λ b. if b then [] else events.Edit r Rename ∷ []) (some_are total z)

pub sent : (w : World) (r total kind x : ℕ) → 11 < kind → (kind == 12) ≡ false → kind_events w r total kind x ≡ sends w r kind x
sent w r total kind x l n = not_11 w r total kind x l ∙ ap (λ b. if b then renames r total else sends w r kind x) n

ne_is : (n m : ℕ) → n ≢ m → (n == m) ≡ false
ne_is n m h = grind (arith, nat_tests)

pub others : (w : World) (r total kind x : ℕ) → 11 < kind → kind ≢ 12 → kind_events w r total kind x ≡ sends w r kind x
others w r total kind x l n = sent w r total kind x l (ne_is kind 12 n)

-- ---- the draws

abbrev draws_above_8 : ℕ → ℕ → ℕ → ℕ
draws_above_8 total kind x = if nat_le kind 11 then (if total == 0 then x else after_draws 2 x) else if kind == 12 then x else next_draw x

draws_11 : (total kind x : ℕ) → 8 < kind → kind ≤ 11 → kind_draws total kind x ≡ (if total == 0 then x else after_draws 2 x)
draws_11 total kind x l m =
    ap (λ b. if b then after_insertion x else draws_above_8 total kind x) (not_le_test kind 8 l)
    ∙ ap (λ b. if b then (if total == 0 then x else after_draws 2 x) else if kind == 12 then x else next_draw x) (le_test kind 11 m)

pub none_drawn : (total kind x : ℕ) → 8 < kind → kind ≤ 11 → total ≡ 0 → kind_draws total kind x ≡ x
none_drawn total kind x l m z = draws_11 total kind x l m ∙ ap (λ b. if b then x else after_draws 2 x) (zero_is total z)

pub two_drawn : (total kind x : ℕ) → 8 < kind → kind ≤ 11 → 0 < total → kind_draws total kind x ≡ after_draws 2 x
two_drawn total kind x l m z = draws_11 total kind x l m ∙ ap (λ b. if b then x else after_draws 2 x) (some_are total z)

-- ---- a step

pub made_step : (k : Course) (m kind x d : ℕ) (new : WorldSeen) → m ≡ drawn 3 (next_draw k.drawn_by) → kind ≡ drawn 16 (after_draws 2 k.drawn_by) → x ≡ after_draws 2 k.drawn_by
    → d ≡ kind_draws (total_of (slice_get k.world.states m)) kind x → StandsForWorld new (happens None (after_events k.world (kind_events k.world m (total_of (slice_get k.world.states m)) kind x)) (events.Drop m))
    → (d ≡ (step k).drawn_by) × StandsForWorld new (step k).world
made_step k m kind x d new em ek ex ed h =
    let M = drawn 3 (next_draw k.drawn_by) in
    let K = drawn 16 (after_draws 2 k.drawn_by) in
    let go : step_of k m (total_of (slice_get k.world.states m)) kind x ≡ step k =
    ap (λ m. step_of k m (total_of (slice_get k.world.states m)) kind x) em
    ∙ (ap (λ kind. step_of k M (total_of (slice_get k.world.states M)) kind x) ek ∙ ap (λ x. step_of k M (total_of (slice_get k.world.states M)) K x) ex) in (
      ed ∙ ap (λ (c : Course). c.drawn_by) go,
      subst (λ (c : Course). StandsForWorld new c.world) go
          (subst (λ (v : World). StandsForWorld new v) (sym (behind k.world (kind_events k.world m (total_of (slice_get k.world.states m)) kind x) (events.Drop m))) h),
    )
