-- The reports of commands.
use Rattle.std.specs.Prelude.{ℕ, ◌+◌, List, [], ◌∷◌, ◌++◌, codes}
use Rattle.std.specs.List.{concat}
use Rattle.std.specs.Fmt.{decimal}
use Rattle.rls_model.specs.declared.counts.Counts.{Counts}
use Rattle.rls_report.specs.Texts.{line, spaced}

abbrev pub new_text : ℕ → ℕ → ℕ → List ℕ
new_text group me members = line (codes "new " ∷ decimal group ∷ codes " " ∷ decimal me ∷ codes " " ∷ decimal members ∷ [])

abbrev pub edit_text : ℕ → ℕ → ℕ → List ℕ
edit_text edits released refused = line (codes "edits " ∷ decimal edits ∷ codes " released " ∷ decimal released ∷ codes " refused " ∷ decimal refused ∷ [])

abbrev pub take_text : ℕ → ℕ → ℕ → ℕ → ℕ → List ℕ
take_text applied released repeated held refused =
    line (codes "applied " ∷ decimal applied ∷ codes " released " ∷ decimal released ∷ codes " repeated " ∷ decimal repeated ∷ codes " held " ∷ decimal held ∷ codes " refused " ∷ decimal refused ∷ [])

-- how many operations of each member were accepted
abbrev pub accepted_line : List ℕ → List ℕ
accepted_line accepted = line (codes "accepted" ∷ spaced accepted ∷ [])

-- of a replica's group, number, count of members, accepted operations and numbers
abbrev pub stat_text : ℕ → ℕ → ℕ → List ℕ → Counts → List ℕ
stat_text group me members accepted counts = concat (
    line (codes "group " ∷ decimal group ∷ []) ∷ line (codes "me " ∷ decimal me ∷ []) ∷ line (codes "members " ∷ decimal members ∷ [])
    ∷ line (codes "accepted" ∷ spaced accepted ∷ []) ∷ line (codes "total " ∷ decimal counts.total ∷ []) ∷ line (codes "runs " ∷ decimal counts.runs ∷ [])
    ∷ line (codes "held " ∷ decimal counts.held ∷ []) ∷ line (codes "unstable " ∷ decimal counts.unstable ∷ []) ∷ line (codes "epochs " ∷ decimal counts.epochs ∷ [])
    ∷ line (codes "former " ∷ decimal counts.former ∷ []) ∷ [])

-- its parts: the replica itself, what it holds, and what it retains
abbrev pub itself_lines : ℕ → ℕ → ℕ → List ℕ
itself_lines group me members = concat (line (codes "group " ∷ decimal group ∷ []) ∷ line (codes "me " ∷ decimal me ∷ []) ∷ line (codes "members " ∷ decimal members ∷ []) ∷ [])

abbrev pub held_lines : Counts → List ℕ
held_lines counts = concat (line (codes "total " ∷ decimal counts.total ∷ []) ∷ line (codes "runs " ∷ decimal counts.runs ∷ []) ∷ line (codes "held " ∷ decimal counts.held ∷ []) ∷ [])

abbrev pub retained_lines : Counts → List ℕ
retained_lines counts = concat (line (codes "unstable " ∷ decimal counts.unstable ∷ []) ∷ line (codes "epochs " ∷ decimal counts.epochs ∷ []) ∷ line (codes "former " ∷ decimal counts.former ∷ []) ∷ [])

abbrev pub member_line : ℕ → ℕ → ℕ → List ℕ
member_line member total runs = line (codes "member " ∷ decimal member ∷ codes " total " ∷ decimal total ∷ codes " runs " ∷ decimal runs ∷ [])

-- of the members from this one on, each with its total and its runs
abbrev pub member_lines : ℕ → List (ℕ × ℕ) → List ℕ
member_lines member [] = []
member_lines member (sizes ∷ others) = member_line member sizes.0 sizes.1 ++ member_lines (member + 1) others

-- of the epochs and former identifiers
abbrev pub epochs_line : ℕ → ℕ → List ℕ
epochs_line epochs former = line (codes "epochs " ∷ decimal epochs ∷ codes " former " ∷ decimal former ∷ [])

-- of a trial's seed and number of steps, the accepted operations of member 0, the total and the runs of each member, and the epochs and former identifiers of member 0
abbrev pub trial_text : ℕ → ℕ → List ℕ → List (ℕ × ℕ) → ℕ → ℕ → List ℕ
trial_text seed steps accepted members epochs former = concat (
    line (codes "trial " ∷ decimal seed ∷ codes " " ∷ decimal steps ∷ []) ∷ line (codes "accepted" ∷ spaced accepted ∷ [])
    ∷ member_lines 0 members ∷ line (codes "epochs " ∷ decimal epochs ∷ codes " former " ∷ decimal former ∷ []) ∷ [])
