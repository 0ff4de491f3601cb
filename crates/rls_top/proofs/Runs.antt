-- Runs of lines, step by step.
use Rattle.std.proofs.Common.{◌≡◌, ◌+◌, ◌≤◌, ℕ, suc, List, [], ◌∷◌, length, sum, Result, refl, sym, ap, subst, arith}
use Rattle.rls_ident.proofs.Vectors.{sum-raise_le}
use Rattle.rls_model.specs.declared.edit.Edit.{Edit}
use Rattle.rls_model.specs.declared.edit.Edit.TheVariants as edits
use Rattle.rls_model.specs.declared.receipt.Taken.{Taken}
use Rattle.rls_report.specs.declared.failures.LineFault.{LineFault}
use Rattle.rls_replica.specs.Steps.{course}
use Rattle.rls_seen.specs.Edits.{edited, made_over}
use Rattle.rls_seen.specs.Messages.{by_parts, Course, edit_step, with_releases}
use Rattle.rls_seen.specs.Over.{accepted}
use Rattle.rls_seen.specs.Seen.{Seen, vector}
use Rattle.rls_stages.specs.declared.errors.LineError.{LineError}
use Rattle.rls_stages.specs.declared.errors.LineError.TheVariants.{Refused, OutOfMemory}
use Rattle.rls_top.specs.Due.{due_of_run}
use Rattle.rls_model.specs.Machine.{Run, Done, Stopped, go_on, run_on}
use Rattle.rls_top.specs.Scripts.{run_lines}
use Rattle.rls_stages.specs.Errors.{IsEdited, IsRefused, of_work}
use Rattle.rls_top.specs.Stages.{EndsAs, at_line}

-- how lines are read
abbrev pub Reading : Type 0 → Type 0
Reading L = Seen → L → Result Edit LineFault

-- nothing is counted
abbrev pub nothing : Taken
nothing = record { applied = 0; released = 0; repeated = 0; held = 0; refused = [] }

-- ---- counting

-- an edit lowers no count
raised_by : (s : Seen) (edit : Edit) → sum (vector s) ≤ sum (vector (edited s edit))
unfolding accepted made_over
raised_by s (edits.Insert at text) = sum-raise_le s.acks.mine s.acks.me
raised_by s (edits.Delete at n) = sum-raise_le s.acks.mine s.acks.me
raised_by s edits.Rename = sum-raise_le s.acks.mine s.acks.me
raised_by s edits.Leave = sum-raise_le s.acks.mine s.acks.me

pub counted_on : (s new : Seen) (meant : Result Edit LineFault) (n : ℕ) → IsEdited s meant new → n ≤ sum (vector s) → n ≤ sum (vector new)
counted_on s new meant n e h =
    let more = raised_by s e.0 in
    let at_edited : n ≤ sum (vector (edited s e.0)) = omega (arith, h, more) in
    subst (λ x. n ≤ sum (vector x)) (sym e.2) at_edited

-- ---- one line after another

-- the run begins with nothing counted
pub run_begins : {L : Type 0} (reads : Reading L) (s : Seen) (found : Taken) (lines : List L) → found ≡ nothing → run_on by_parts reads (0 + 1) (course s found) lines ≡ run_lines reads s lines
unfolding run_lines
run_begins reads s found lines e = rw e refl

-- a refused line stops the run, and the command
pub run_stops : {L : Type 0} (reads : Reading L) (n : ℕ) (c : Course) (line : L) (rest : List L) (run : Run Seen LineFault) (e : LineError)
    → run_on by_parts reads n c (line ∷ rest) ≡ run → IsRefused e (reads c.state line) → (k : ℕ) → EndsAs (of_work (at_line n e)) (due_of_run k run)
run_stops {L} reads n c line rest run OutOfMemory h refused k = tt
run_stops {L} reads n c line rest run (Refused fault) h refused k =
    let later : Edit → Run Seen LineFault = λ edit. run_on by_parts reads (suc n) (with_releases (edit_step c edit)) rest in
    let stopped : Stopped n fault ≡ run = subst (λ (m : Result Edit LineFault). go_on n m later ≡ run) refused h in
    sym (ap (due_of_run k) stopped)

-- an accepted line, with what it makes ready, goes on
pub run_goes_on : {L : Type 0} (reads : Reading L) (n m : ℕ) (s new after : Seen) (found last : Taken) (line : L) (rest : List L) (run : Run Seen LineFault)
    → m ≡ suc n → run_on by_parts reads n (course s found) (line ∷ rest) ≡ run → IsEdited s (reads s line) new → course after last ≡ with_releases (course new found)
    → run_on by_parts reads m (course after last) rest ≡ run
run_goes_on {L} reads n m s new after found last line rest run one_more h e released =
    let later : Edit → Run Seen LineFault = λ edit. run_on by_parts reads (suc n) (with_releases (edit_step (course s found) edit)) rest in
    let at_edit : later e.0 ≡ run = subst (λ (r : Result Edit LineFault). go_on n r later ≡ run) e.1 h in
    let at_new : run_on by_parts reads (suc n) (with_releases (course new found)) rest ≡ run =
    subst (λ (x : Seen). run_on by_parts reads (suc n) (with_releases (course x found)) rest ≡ run) (sym e.2) at_edit in
    let at_after : run_on by_parts reads (suc n) (course after last) rest ≡ run = subst (λ (x : Course). run_on by_parts reads (suc n) x rest ≡ run) (sym released) at_new in
    subst (λ (k : ℕ). run_on by_parts reads k (course after last) rest ≡ run) (sym one_more) at_after

-- where no line is left the run is done
pub run_ends : {L : Type 0} (reads : Reading L) (n : ℕ) (c : Course) (rest : List L) (run : Run Seen LineFault) → length rest ≡ 0 → run_on by_parts reads n c rest ≡ run → run ≡ Done c
run_ends {L} reads n c [] run none h = sym h
run_ends {L} reads n c (line ∷ rest) run none h = absurd (omega (arith, none))

-- ---- one leave

pub leave_stops : {L : Type 0} (reads : Reading L) (s : Seen) (line : L) (e : LineError) → IsRefused e (reads s line) → EndsAs (of_work (at_line 1 e)) (due_of_run 1 (run_lines reads s (line ∷ [])))
leave_stops {L} reads s line e refused =
    run_stops reads 1 (course s nothing) line [] (run_lines reads s (line ∷ [])) e (run_begins reads s nothing (line ∷ []) refl) refused 1

pub leave_done : {L : Type 0} (reads : Reading L) (s new after : Seen) (found last : Taken) (line : L) → found ≡ nothing → IsEdited s (reads s line) new → course after last ≡ with_releases (course new found)
    → run_lines reads s (line ∷ []) ≡ Done (course after last)
leave_done {L} reads s new after found last line none e released =
    sym (run_goes_on reads 1 2 s new after found last line [] (run_lines reads s (line ∷ [])) refl (run_begins reads s found (line ∷ []) none) e released)
