-- In a good world the edits of a member where nothing is ready release nothing: none of them makes ready what waits.
use Rattle.std.proofs.Common.{◌≡◌, ℕ, Bool, true, false, List, length, refl, sym, subst}
use Rattle.std.specs.Prelude.{if◌then◌else◌, None, Result, Ok}
use Rattle.rls_ident.specs.Lists.{IsIn}
use Rattle.rls_model.specs.declared.edit.Edit.{Edit}
use Rattle.rls_model.specs.Editing.{made}
use Rattle.rls_model.specs.EditRun.{Done, edit_step, run_lines}
use Rattle.rls_model.specs.Laws.{IsAt}
use Rattle.rls_model.specs.Machine.{no_counts}
use Rattle.rls_model.specs.Receiving.{State, accept}
use Rattle.rls_model.specs.Taking.{Progress, by_history, has_room, moved, started, with_releases}
use Rattle.rls_model.specs.Worlds.{World, with_state}
use Rattle.rls_model.proofs.Machines.{running_keeps}
use Rattle.rls_model.proofs.MemberSteps.{edits_own, here, keep, start}
use Rattle.rls_model.proofs.NothingReady.{IsAtRest, edited_done, made_alone, rest_steps}
use Rattle.rls_model.proofs.WorldsEdits.{AllReadWell}
use Rattle.rls_model.proofs.WorldsInvariant.{IsGood}

-- the world with the state reached so far is good, nothing is ready there, and nothing was counted
record IsAlone (w : World) (i : ℕ) (p : Progress) : Type 0 where
  good : IsGood (with_state w i p.state)
  rest : IsAtRest p.state
  counts : p.counts ≡ no_counts

-- so lines that are not stopped count nothing
pub lines_alone : {L F : Type 0} (reads : State → L → Result Edit F) (w : World) (i : ℕ) (s : State) (q : Progress) (ls : List L) → IsGood w → IsAt w i s → IsAtRest s → AllReadWell reads ls → run_lines reads s ls ≡ Done q → q.counts ≡ no_counts
unfolding run_lines
lines_alone {L} reads w i s q ls g h r a e = (running_keeps by_history reads (IsAlone w i) ls line 1 (started None s) q e (record { good = (start w i s None g h).good; rest = r; counts = refl })).counts
  where
    line : (l : L) → IsIn l ls → (p : Progress) (edit : Edit) → reads p.state l ≡ Ok edit → IsAlone w i p → IsAlone w i (with_releases (edit_step p edit))
    line l u p edit f k = go (has_room p.limit)
      where
        v : World
        v = with_state w i p.state

        t : State
        t = accept p.state (made (p.state).history edit)

        rest : IsAtRest t
        rest = subst IsAtRest (made_alone v i p.state edit k.good (here w i s p.state h) k.rest) (edited_done p.state edit).1

        go : (b : Bool) → IsAlone w i (with_releases (if b then moved p t else p))
        go true =
            let b = a l u p.state edit f in
            let good = keep w i s p.state t h k.good (edits_own v i p.state edit ((k.good).member i p.state (here w i s p.state h)) b.0 b.1) in
            subst (IsAlone w i) (sym (rest_steps (length t.waiting) (moved p t) rest)) (record { good = good; rest = rest; counts = k.counts })
        go false = subst (IsAlone w i) (sym (rest_steps (length (p.state).waiting) p k.rest)) k
