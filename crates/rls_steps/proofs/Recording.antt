-- What is recorded, at a replica.
use Rattle.std.proofs.Common.{◌≡◌, ℕ, Bool, true, List, [], ◌∷◌, ◌++◌, length, map, refl, sym, ap, ◌∙◌, subst}
use Rattle.std.specs.Prelude.{IsTrue, replicate, if◌then◌else◌}
use Rattle.rls_ident.specs.declared.epoch_name.EpochName.{EpochName}
use Rattle.rls_ident.specs.EpochNames.{name_eq}
use Rattle.rls_ident.proofs.Named.{name_eq_is, name_eq_refl}
use Rattle.rls_rename.specs.Tree.{Epochs, greatest, is_kept}
use Rattle.rls_seen.specs.Over.{placed_over}
use Rattle.rls_seen.specs.Seen.{Seen, greatest_over}
use Rattle.rls_model.specs.declared.edit.EditError.{EditError}
use Rattle.rls_replica.specs.Names.{KeepsNames}
use Rattle.rls_steps.specs.declared.piece.Step.{Step}
use Rattle.rls_steps.specs.Marks.{Piece, Put, numbers_from}
use Rattle.rls_steps.specs.Labelled.{Names, Labelled, insert_over, ready_over, cut_over, cut_piece}
use Rattle.rls_steps.specs.Courses.{Steps, Insertion, Back, Again, moved, course, MayRun, Copies, Shows, copies}
use Rattle.rls_steps.specs.Groups.{stacked, IsStopped}
use Rattle.rls_steps.specs.Parts.{parts, deleted}
use Rattle.rls_steps.specs.Recorded.{Recorded, held_by, pieces_of, steps_of, names_over, settled, steps_over}
use Rattle.rls_steps.proofs.Courses.{as_copied}
use Rattle.rls_steps.proofs.Stacks.{pieces_more, pieces_back}

-- ---- the greatest epoch

pub same_greatest : (s n : Seen) → n.epochs ≡ s.epochs → greatest_over n ≡ greatest_over s
same_greatest s n e = ap (λ (E : Epochs). greatest E.top E.nodes) e

pub keeps_same : (s n : Seen) → n.epochs ≡ s.epochs → KeepsNames s n
keeps_same s n e = λ f h. subst (λ (E : Epochs). IsTrue (is_kept E.top E.nodes f)) (sym e) h

there : Seen → EpochName → Names → Bool → Names
there s e names b = if b then names else map (λ n. (placed_over s e n.0, n.1)) names

pub names_there : (s : Seen) (e : EpochName) (names : Names) → e ≡ greatest_over s → names_over s e names ≡ names
unfolding there
names_there s e names q = ap (there s e names) (ap (λ (f : EpochName). name_eq f (greatest_over s)) q ∙ name_eq_refl (greatest_over s))

-- ---- settled

abbrev pub record_of : EpochName → ℕ → Names → List Step → List Step → ℕ → Bool → ℕ → Recorded
record_of e next names past future group overfull after = record { epoch = e; next = next; names = names; past = past; future = future; group = group; overfull = overfull; after_sweep = after }

pub settled_same : (s : Seen) (e : EpochName) (next : ℕ) (names : Names) (past future : List Step) (group : ℕ) (overfull : Bool) (after : ℕ) → name_eq e (greatest_over s) ≡ true →
    record { epoch = e; next = next; names = names; past = past; future = future; group = group; overfull = overfull; after_sweep = after } ≡ settled s (record { epoch = e; next = next; names = names; past = past; future = future; group = group; overfull = overfull; after_sweep = after })
settled_same s e next names past future group overfull after t =
    let q = name_eq_is e (greatest_over s) t in
    ap (λ (f : EpochName). record_of f next names past future group overfull after) q
    ∙ sym (ap (λ (ns : Names). record_of (greatest_over s) next ns past future group overfull after) (names_there s e names q))

pub settled_once : (s : Seen) (r : Recorded) → settled s (settled s r) ≡ settled s r
settled_once s r = ap (λ (ns : Names). record_of (greatest_over s) r.next ns r.past r.future r.group r.overfull r.after_sweep) (names_there s (greatest_over s) (names_over s r.epoch r.names) refl)

abbrev steps_at : Seen → ℕ → List Step → List Step → Names → Steps
steps_at s next past future names = record { held = held_by s next names; past = pieces_of past; future = pieces_of future }

pub steps_settled : (s : Seen) (r : Recorded) → steps_over s (settled s r) ≡ steps_over s r
steps_settled s r = ap (steps_at s r.next r.past r.future) (names_there s (greatest_over s) (names_over s r.epoch r.names) refl)

-- ---- at the greatest epoch

steps_there : (s : Seen) (e : EpochName) (next : ℕ) (names : Names) (past future : List Step) (group : ℕ) (overfull : Bool) (after : ℕ) → e ≡ greatest_over s →
    steps_over s (record { epoch = e; next = next; names = names; past = past; future = future; group = group; overfull = overfull; after_sweep = after }) ≡ steps_at s next past future names
steps_there s e next names past future group overfull after q = ap (steps_at s next past future) (names_there s e names q)

abbrev made : Labelled → List Piece → List Piece → Steps
made h ps qs = record { held = h; past = ps; future = qs }

pub insert_recorded : (s n : Seen) (e : EpochName) (next more : ℕ) (names names' : Names) (past past' future : List Step) (group : ℕ) (overfull : Bool) (after at : ℕ) (cs : List ℕ) → e ≡ greatest_over s → n.epochs ≡ s.epochs →
    held_by n more names' ≡ insert_over (held_by s next names) at cs → past' ≡ past ++ record { group = group; piece = Put (numbers_from next (length cs)) } ∷ [] →
    steps_over n (record { epoch = e; next = more; names = names'; past = past'; future = []; group = group; overfull = overfull; after_sweep = after })
    ≡ moved (steps_over s (record { epoch = e; next = next; names = names; past = past; future = future; group = group; overfull = overfull; after_sweep = after })) (Insertion at cs)
insert_recorded s n e next more names names' past past' future group overfull after at cs q k h p =
    let put = Put (numbers_from next (length cs)) in
    let ps : pieces_of past' ≡ put ∷ pieces_of past = ap pieces_of p ∙ pieces_more past (record { group = group; piece = put } ∷ []) in
    steps_there n e more names' past' [] group overfull after (q ∙ sym (same_greatest s n k))
    ∙ (ap (λ (z : Labelled). made z (pieces_of past') []) h
    ∙ (ap (λ (xs : List Piece). made (insert_over (held_by s next names) at cs) xs []) ps ∙ sym (ap (λ (st : Steps). moved st (Insertion at cs)) (steps_there s e next names past future group overfull after q))))

pub delete_recorded : (s n : Seen) (e : EpochName) (next more : ℕ) (names names' : Names) (past past' future : List Step) (group : ℕ) (overfull : Bool) (after at count : ℕ) → e ≡ greatest_over s → n.epochs ≡ s.epochs →
    held_by n more names' ≡ cut_over (ready_over (held_by s next names) at count) at count → past' ≡ past ++ steps_of group (parts (cut_piece (ready_over (held_by s next names) at count) at count)) →
    steps_over n (record { epoch = e; next = more; names = names'; past = past'; future = []; group = group; overfull = overfull; after_sweep = after })
    ≡ deleted (steps_over s (record { epoch = e; next = next; names = names; past = past; future = future; group = group; overfull = overfull; after_sweep = after })) at count
delete_recorded s n e next more names names' past past' future group overfull after at count q k h p =
    let g = ready_over (held_by s next names) at count in
    let cuts = parts (cut_piece g at count) in
    let ps : pieces_of past' ≡ cuts ++ pieces_of past = ap pieces_of p ∙ (pieces_more past (steps_of group cuts) ∙ ap (λ (xs : List Piece). xs ++ pieces_of past) (pieces_back group cuts)) in
    steps_there n e more names' past' [] group overfull after (q ∙ sym (same_greatest s n k))
    ∙ (ap (λ (z : Labelled). made z (pieces_of past') []) h
    ∙ (ap (λ (xs : List Piece). made (cut_over g at count) xs []) ps ∙ sym (ap (λ (st : Steps). deleted st at count) (steps_there s e next names past future group overfull after q))))

pub back_recorded : (s n : Seen) (e : EpochName) (next more : ℕ) (names names' : Names) (past past' future future' : List Step) (group group' : ℕ) (overfull overfull' : Bool) (after k : ℕ) → e ≡ greatest_over s → n.epochs ≡ s.epochs →
    stacked (held_by n more names') past' future' ≡ course (stacked (held_by s next names) past future) (replicate k Back) →
    steps_over n (record { epoch = e; next = more; names = names'; past = past'; future = future'; group = group'; overfull = overfull'; after_sweep = after })
    ≡ course (steps_over s (record { epoch = e; next = next; names = names; past = past; future = future; group = group; overfull = overfull; after_sweep = after })) (replicate k Back)
back_recorded s n e next more names names' past past' future future' group group' overfull overfull' after k q w h =
    steps_there n e more names' past' future' group' overfull' after (q ∙ sym (same_greatest s n w)) ∙ (h ∙ sym (ap (λ (st : Steps). course st (replicate k Back)) (steps_there s e next names past future group overfull after q)))

pub back_may : (s : Seen) (e : EpochName) (next : ℕ) (names : Names) (past future : List Step) (group : ℕ) (overfull : Bool) (after k : ℕ) → e ≡ greatest_over s → MayRun (stacked (held_by s next names) past future) (replicate k Back) →
    MayRun (steps_over s (record { epoch = e; next = next; names = names; past = past; future = future; group = group; overfull = overfull; after_sweep = after })) (replicate k Back)
back_may s e next names past future group overfull after k q f = subst (λ (st : Steps). MayRun st (replicate k Back)) (sym (steps_there s e next names past future group overfull after q)) f

-- ---- a stop within a group

held_there : (s : Seen) (e : EpochName) (next : ℕ) (names : Names) → e ≡ greatest_over s → held_by s next names ≡ held_by s next (names_over s e names)
held_there s e next names q = ap (held_by s next) (sym (names_there s e names q))

pub stopped_there : (f : EditError) (s n : Seen) (e : EpochName) (next more : ℕ) (names names' : Names) (from from' to to' : List Step) → e ≡ greatest_over s → n.epochs ≡ s.epochs →
    IsStopped f (held_by s next names) from to (held_by n more names') from' to' → IsStopped f (held_by s next (names_over s e names)) from to (held_by n more (names_over n e names')) from' to'
stopped_there f s n e next more names names' from from' to to' q k x =
    subst (λ (h : Labelled). IsStopped f h from to (held_by n more (names_over n e names')) from' to') (held_there s e next names q)
    (subst (λ (h : Labelled). IsStopped f (held_by s next names) from to h from' to') (held_there n e more names' (q ∙ sym (same_greatest s n k))) x)
