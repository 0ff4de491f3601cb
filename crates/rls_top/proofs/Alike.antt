-- A run of lines over what a replica consists of and over a history that it stands for.
use Rattle.std.proofs.Common.{◌≡◌, ◌∙◌, ℕ, List, None, Result, Ok, refl, ap, subst}
use Rattle.rls_ident.specs.Lists.{IsIn}
use Rattle.rls_model.specs.declared.edit.Edit.{Edit}
use Rattle.rls_model.specs.Editing.{made as make}
use Rattle.rls_model.specs.Machine.{Run, Done, Stopped, started}
use Rattle.rls_model.specs.MachineLaws.{IsSameRun}
use Rattle.rls_model.proofs.Machines.{running_alike}
use Rattle.rls_model.specs.EditRun as histories
use Rattle.rls_model.specs.Receiving.{State, accept}
use Rattle.rls_model.specs.Taking.{by_history, Progress}
use Rattle.rls_model.specs.WellFormed.{IsOp}
use Rattle.rls_seen.specs.Edits.{edited, made_over}
use Rattle.rls_seen.specs.Messages.{by_parts, Course}
use Rattle.rls_seen.specs.Seen.{Seen, members}
use Rattle.rls_seen.specs.Stands.{StandsFor}
use Rattle.rls_seen.proofs.Counting.{members_accepted}
use Rattle.rls_seen.proofs.Editing.{edited_stands}
use Rattle.rls_seen.proofs.Taking.{Goes, Stands, machines_agree, started_goes}
use Rattle.rls_file.specs.Kept.{ReadsWell}
use Rattle.rls_stages.proofs.Alike.{ReadsAlike}
use Rattle.rls_top.specs.Scripts.{run_lines}

module _ {L F : Type 0} (reads : Seen → L → Result Edit F) (tells : State → L → Result Edit F) (alike : ReadsAlike reads tells) (s : Seen) (t : State) (ls : List L) (w : ReadsWell reads ls) (h : StandsFor s t) where
  -- a replica and a history that it stands for run alike
  same_run : IsSameRun (Stands (members s)) (run_lines reads s ls) (histories.run_lines tells t ls)
  unfolding run_lines histories.run_lines made_over
  same_run = running_alike (Stands (members s)) by_parts by_history IsOp (machines_agree (members s)) reads tells (λ s t l k. alike s t l k.1) ls made 1 (started None s) (started None t) (started_goes None s t h)
    where
      made : (s' : Seen) (t' : State) (l : L) (edit : Edit) → IsIn l ls → reads s' l ≡ Ok edit → Stands (members s) s' t' → Stands (members s) (edited s' edit) (accept t' (make t'.history edit))
      made s' t' l edit q f k = let g = w s' l edit q f in (members_accepted s' (made_over s' edit) ∙ k.0, edited_stands s' t' edit g.0 g.1 k.1)

  -- a run over a history that came to its end is one over each replica that stands for it
  pub runs_alike : (p : Progress) → histories.run_lines tells t ls ≡ Done p → (c : Course) × (run_lines reads s ls ≡ Done c) × Goes (members s) c p
  runs_alike p e = go (run_lines reads s ls) refl (subst (IsSameRun (Stands (members s)) (run_lines reads s ls)) e same_run)
    where
      go : (r : Run Seen F) → run_lines reads s ls ≡ r → IsSameRun (Stands (members s)) r (Done p) → (c : Course) × (run_lines reads s ls ≡ Done c) × Goes (members s) c p
      go (Done c) f g = (c, f, g)
      go (Stopped k x) f g = absurd g

  -- and one that stopped is one that stops at the same line for the same fault
  pub stops_alike : (k : ℕ) (fault : F) → histories.run_lines tells t ls ≡ Stopped k fault → run_lines reads s ls ≡ Stopped k fault
  stops_alike k fault e = go (run_lines reads s ls) refl (subst (IsSameRun (Stands (members s)) (run_lines reads s ls)) e same_run)
    where
      go : (r : Run Seen F) → run_lines reads s ls ≡ r → IsSameRun (Stands (members s)) r (Stopped k fault) → run_lines reads s ls ≡ Stopped k fault
      go (Done c) f g = absurd g
      go (Stopped j x) f g = f ∙ (ap (λ (n : ℕ). Stopped n x) g.0 ∙ ap (Stopped k) g.1)

  -- and the other way round
  pub runs_told : (c : Course) → run_lines reads s ls ≡ Done c → (p : Progress) × (histories.run_lines tells t ls ≡ Done p) × Goes (members s) c p
  runs_told c e = go (histories.run_lines tells t ls) refl (subst (λ (r : Run Seen F). IsSameRun (Stands (members s)) r (histories.run_lines tells t ls)) e same_run)
    where
      go : (r : Run State F) → histories.run_lines tells t ls ≡ r → IsSameRun (Stands (members s)) (Done c) r → (p : Progress) × (histories.run_lines tells t ls ≡ Done p) × Goes (members s) c p
      go (Done p) f g = (p, f, g)
      go (Stopped k x) f g = absurd g
