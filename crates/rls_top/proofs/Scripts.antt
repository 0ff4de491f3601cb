-- The lines of a script are read as well formed edits, so that what a script makes may be written as a file.
use Rattle.std.proofs.Common.{◌≡◌, ℕ, suc, List, [], ◌∷◌, Option, Some, None, Result, Ok, Err, refl, subst, inl, inr}
use Rattle.rls_ident.specs.Lists.{IsIn}
use Rattle.rls_model.specs.declared.edit.Edit.{Edit}
use Rattle.rls_model.specs.declared.edit.Edit.TheVariants as edits
use Rattle.rls_model.specs.Machine.{Done}
use Rattle.rls_model.specs.WellFormed.{IsEdit}
use Rattle.rls_script.specs.Scripts.{script_of, lines_from, put_line, line_of, script_lines}
use Rattle.rls_script.specs.declared.lines.Line.{Line}
use Rattle.rls_seen.specs.Edits.{edit_fault_over}
use Rattle.rls_seen.specs.Messages.{Course}
use Rattle.rls_seen.specs.Sane.{IsSane}
use Rattle.rls_seen.specs.Seen.{Seen, text_over}
use Rattle.rls_file.specs.Kept.{ReadsWell}
use Rattle.rls_file.specs.Stored.{AreWritable}
use Rattle.rls_stages.specs.Lines.{allowed, read_line}
use Rattle.rls_stages.proofs.Meant.{IsGood, IsLine, IsMeantWell, allowed_well, line_good, line_well}
use Rattle.rls_file.proofs.Storable as storable
use Rattle.rls_top.specs.Scripts.{run_lines}

-- ---- what lines mean

abbrev pub AreLines : List Line → Type 0
AreLines [] = Unit {0}
AreLines (l ∷ ls) = IsLine l × AreLines ls

pub line_in : (ls : List Line) (l : Line) → AreLines ls → IsIn l ls → IsLine l
line_in [] l a p = absurd p
line_in (m ∷ ls) l a (inl e) = subst IsLine e a.0
line_in (m ∷ ls) l a (inr p) = line_in ls l a.1 p

pub lines_read_well : (ls : List Line) → AreLines ls → ReadsWell read_line ls
lines_read_well ls a s l edit p e = subst (IsMeantWell edit_fault_over s) e (line_well edit_fault_over text_over s l (line_in ls l a p))

pub leave_reads_well : ReadsWell allowed (edits.Leave ∷ [])
leave_reads_well s edit made (inl p) e = subst (IsMeantWell edit_fault_over s) e (allowed_well edit_fault_over text_over s edit (subst IsEdit p tt))
leave_reads_well s edit made (inr p) e = absurd p

-- ---- what a run of lines comes to

pub lines_writable : {L F : Type 0} (reads : Seen → L → Result Edit F) (s : Seen) (ls : List L) (last : Course) → ReadsWell reads ls → IsSane s → AreWritable s → run_lines reads s ls ≡ Done last → IsSane last.state × AreWritable last.state
unfolding run_lines
lines_writable reads s ls last w h k e = storable.lines_writable reads s ls last w h k e

-- ---- scripts

lines_fit : (n : ℕ) (bss : List (List ℕ)) (lines : List Line) → lines_from n bss ≡ Ok lines → AreLines lines
lines_fit n [] lines e = let same : [] ≡ lines = cc in subst AreLines same tt
lines_fit n (bs ∷ bss) lines e = go (line_of bs) (line_good bs) (lines_from (suc n) bss) (λ ls f. lines_fit (suc n) bss ls f) e
  where
    go : (l : Option Line) → IsGood l → (r : Result (List Line) ℕ) → ((ls : List Line) → r ≡ Ok ls → AreLines ls) → put_line n l r ≡ Ok lines → AreLines lines
    go None g r h e = cc
    go (Some l) g (Ok ls) h e = let same : l ∷ ls ≡ lines = cc in subst AreLines same (g, h ls refl)
    go (Some l) g (Err m) h e = cc

pub script_fits : (script : List ℕ) (lines : List Line) → script_of script ≡ Ok lines → AreLines lines
unfolding script_of
script_fits script lines e = lines_fit 1 (script_lines script) lines e
