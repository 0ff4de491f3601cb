-- The law of a group whose members work by commands and by sessions.
use Rattle.std.proofs.Common.{◌≡◌, ℕ, List, ◌∷◌, Some, sym, subst, arith, slice_get}
use Rattle.rls_model.specs.Worlds.{World, empty_world}
use Rattle.rls_top.proofs.Groups.{alone, begins, clean, equal, taken, waits}
use Rattle.rls_groups.specs.Events.{Event}
use Rattle.rls_groups.specs.Groups.{EachMeant, GroupsConverge}
use Rattle.rls_groups.specs.Lives.{AreOfGroup, after_deed, begun, deed_in, lived_all, states_run}
use Rattle.rls_groups.proofs.Groups.{AtEach, all_events, begun_lives, cleans, held_after, means, run_at, usable}
use Rattle.rls_groups.proofs.Ordered.{ordered}

pub each_meant : (g n : ℕ) (es : List Event) → AreOfGroup (begun g n) es → (v : World) → AtEach g n (begun g n) es v → EachMeant g n es
each_meant g n es p v each before after e s q done stored =
    let r = each before (e ∷ after) q in
    let l = lived_all (begun g n) before in
    let run = run_at (begun g n) before after e (subst (AreOfGroup (begun g n)) (sym q) p) in
    let deed = deed_in l e in
    let m = means g n l r.0 r.1 e.member e.action s (run done) stored in (
      m.0,
      m.1,
      subst (λ b. slice_get (states_run b l.group l.states e.member deed) e.member ≡ Some (after_deed deed m.0)) (sym done) (held_after g n l r.0 r.1 e.member deed s m.0 stored m.1),
      m.2,
    )

pub law : GroupsConverge
law g n es large some few p =
    let r = all_events g n (begun g n) (empty_world g n) es (begun_lives g n large few) p in
    let l = lived_all (begun g n) es in
    let v = r.0 in
    let x = r.1 in
    let m = x.matches in
    let size = ((m.stands).belongs).count in (
      begins g n large few,
      clean g n l.group v m,
      alone g n l.group v m,
      waits g n l.group v m,
      taken g n l.group v m,
      equal g n l.group v m,
      cleans g n l v x,
      usable g n l v x,
      each_meant g n es p v r.3,
      ordered g n l v x es (omega (arith, some, size)) r.3,
    )
