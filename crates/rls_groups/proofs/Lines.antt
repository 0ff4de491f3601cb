-- Lines that a member of a good world runs are made one after another, and nothing else happens.
use Rattle.std.proofs.Common.{◌≡◌, ◌∙◌, ℕ, suc, List, [], ◌∷◌, length, refl, ap, subst, inl, inr}
use Rattle.std.specs.Prelude.{None, Result, Ok, Err, if◌then◌else◌}
use Rattle.rls_model.specs.declared.edit.Edit.{Edit}
use Rattle.rls_model.specs.Editing.{made}
use Rattle.rls_model.specs.EditRun.{Run, Done, edit_step, go_on, run_from, run_lines}
use Rattle.rls_model.specs.Laws.{IsAt, IsFront}
use Rattle.rls_model.specs.Machine.{no_counts, one_less}
use Rattle.rls_model.specs.Receiving.{State, accept}
use Rattle.rls_model.specs.Taking.{Progress, has_room, moved, started, with_releases}
use Rattle.rls_model.specs.Worlds.{World, with_state}
use Rattle.rls_model.proofs.HistoryNumbers.{front_self, front_trans}
use Rattle.rls_model.proofs.MemberSteps.{edits_own, here, keep, start}
use Rattle.rls_model.proofs.NothingReady.{IsAtRest, edited_done, made_alone, rest_steps}
use Rattle.rls_model.proofs.WorldsArrived.{IsThere, edit_stays}
use Rattle.rls_model.proofs.WorldsEdits.{AllReadWell}
use Rattle.rls_model.proofs.WorldsInvariant.{IsGood}
use Rattle.rls_report.specs.declared.failures.LineFault.{LineFault}
use Rattle.rls_ops.specs.declared.op.Op.{Op}
use Rattle.rls_groups.specs.Groups.{AreMade}
use Rattle.rls_groups.proofs.Staying.{Follows}

-- what lines make of a stage
pub record Ran {L : Type 0} (reads : State → L → Result Edit LineFault) (p : Progress) (ls : List L) (q : Progress) : Type 0 where
  pub made : AreMade reads p.state ls q.state
  pub counts : q.counts ≡ p.counts
  pub front : IsFront (p.state).history (q.state).history
  pub stays : (o : Op) → IsThere p.state o → IsThere q.state o

module _ {L : Type 0} (reads : State → L → Result Edit LineFault) (w : World) (i : ℕ) (s : State) (h : IsAt w i s) where
  ran_none : (p q : Progress) → ◌≡◌ {A = Run State LineFault} (Done p) (Done q) → Ran reads p [] q
  ran_none p q e = let same : p ≡ q = cc in subst (Ran reads p []) same (record { made = refl; counts = refl; front = front_self (p.state).history; stays = λ o u. u })

  from : (ls : List L) (k : ℕ) (p q : Progress) → p.limit ≡ None → IsGood (with_state w i p.state) → IsAtRest p.state → AllReadWell reads ls → run_from reads k p ls ≡ Done q → Ran reads p ls q
  from [] k p q none good rest well e = ran_none p q e
  from (l ∷ ls) k p q none good rest well e = go (reads p.state l) refl e (λ m a b c f. from ls (suc k) m q a b c (λ x u. well x (inr u)) f)
    where
      v : World
      v = with_state w i p.state

      at : IsAt v i p.state
      at = here w i s p.state h

      go : (y : Result Edit LineFault) → reads p.state l ≡ y → go_on k y (λ edit. run_from reads (suc k) (with_releases (edit_step p edit)) ls) ≡ Done q →
          ((m : Progress) → m.limit ≡ None → IsGood (with_state w i m.state) → IsAtRest m.state → run_from reads (suc k) m ls ≡ Done q → Ran reads m ls q) → Ran reads p (l ∷ ls) q
      go (Err fault) f e rest_of = absurd (cc)
      go (Ok edit) f e rest_of =
          let b = well l (inl refl) p.state edit f in
          let t = accept p.state (made (p.state).history edit) in
          let m = moved p t in
          let alone = made_alone v i p.state edit good at rest in
          let still : IsAtRest t = subst IsAtRest alone (edited_done p.state edit).1 in
          let same : with_releases (edit_step p edit) ≡ m = ap (λ o. with_releases (if has_room o then m else p)) none ∙ rest_steps (length t.waiting) m still in
          let r = rest_of m (ap one_less none) (keep w i s p.state t h good (edits_own v i p.state edit (good.member i p.state at) b.0 b.1)) still (subst (λ (x : Progress). run_from reads (suc k) x ls ≡ Done q) same e) in
          record {
            made = (edit, f, b.0, b.1, r.front, r.made);
            counts = r.counts;
            front = front_trans (p.state).history t.history (q.state).history (inr (front_self (p.state).history)) r.front;
            stays = λ o u. r.stays o (edit_stays v i p.state edit o good at u);
          }

  pub lines_made : (q : Progress) (ls : List L) → IsGood w → IsAtRest s → AllReadWell reads ls → run_lines reads s ls ≡ Done q → AreMade reads s ls q.state × (q.counts ≡ no_counts) × Follows s q.state
  unfolding run_lines
  lines_made q ls good rest well e = let r = from ls 1 (started None s) q refl (start w i s None good h).good rest well e in (r.made, r.counts, (r.front, r.stays))
