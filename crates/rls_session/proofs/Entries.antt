-- The entries of undo: their texts, and those of an edit.
use Rattle.std.proofs.Common.{◌≡◌, ◌∙◌, ◌++◌, ℕ, Bool, true, false, cond, zero, suc, List, [], ◌∷◌, map, take, drop, Some, sym, ap, subst}
use Rattle.std.specs.Prelude.{slice_get}
use Rattle.std.proofs.lemmas.List.Elements.{All-drop, All-nil, All-take}
use Rattle.std.specs.Char.{IsScalar}
use Rattle.rls_ident.specs.declared.epoch_name.EpochName.{EpochName}
use Rattle.rls_ops.specs.declared.op.Body.{Body}
use Rattle.rls_ops.specs.declared.op.Body.TheVariants as bodies
use Rattle.rls_ops.specs.WellFormed.{IsText}
use Rattle.rls_model.specs.declared.edit.Edit.{Edit}
use Rattle.rls_model.specs.declared.edit.Edit.TheVariants as edits
use Rattle.rls_model.specs.Document.{text}
use Rattle.rls_model.specs.Editing.{made}
use Rattle.rls_model.specs.Receiving.{State}
use Rattle.rls_seen.specs.Edits.{made_over}
use Rattle.rls_seen.specs.Seen.{Seen, greatest_over, text_over}
use Rattle.rls_seen.specs.Stands.{StandsFor}
use Rattle.rls_seen.proofs.Editing.{made_alike}
use Rattle.rls_seen.proofs.Keeping.{text_alike}
use Rattle.rls_model.proofs.Characters.{text_chars}
use Rattle.rls_undo.specs.declared.entry.Entry.{Entry}
use Rattle.rls_undo.specs.Plans.{entries_by, gone_by}
use Rattle.rls_undo.specs.UndoLaws.{AreWhole, IsEntry}
use Rattle.rls_undo.specs.Undoing.{caught_up_over, is_behind, settled_over, entries_of, entries_over}
use Rattle.rls_undo.specs.declared.entry.Entry.TheVariants.{Inserted, Removed}

pub whole_more : (es fs : List Entry) → AreWhole es → AreWhole fs → AreWhole (es ++ fs)
whole_more [] fs h k = k
whole_more (e ∷ es) fs h k = (h.0, whole_more es fs h.1 k)

pub whole_front : (n : ℕ) (es : List Entry) → AreWhole es → AreWhole (take n es)
whole_front zero es h = tt
whole_front (suc n) [] h = tt
whole_front (suc n) (e ∷ es) h = (h.0, whole_front n es h.1)

pub whole_back : (n : ℕ) (es : List Entry) → AreWhole es → AreWhole (drop n es)
whole_back zero es h = h
whole_back (suc n) [] h = tt
whole_back (suc n) (e ∷ es) h = whole_back n es h.1

pub whole_at : (es : List Entry) (i : ℕ) (entry : Entry) → slice_get es i ≡ Some entry → AreWhole es → IsEntry entry
whole_at [] i entry e h = absurd cc
whole_at (x ∷ es) zero entry e h = let same : x ≡ entry = cc in subst IsEntry same h.0
whole_at (x ∷ es) (suc i) entry e h = whole_at es i entry e h.1

-- those of an edit of a text
pub gone_text : (edit : Edit) (cs : List ℕ) → IsText cs → IsText (gone_by edit cs)
gone_text (edits.Delete at n) cs h = All-take IsScalar n (drop at cs) (All-drop IsScalar at cs h)
gone_text (edits.Insert at text) cs h = All-nil IsScalar
gone_text edits.Rename cs h = All-nil IsScalar
gone_text edits.Leave cs h = All-nil IsScalar

pub entries_text : (e : EpochName) (b : Body) (gone : List ℕ) → IsText gone → AreWhole (entries_by e b gone)
entries_text e (bodies.Insert first text) gone h = (tt, tt)
entries_text e (bodies.Delete []) gone h = tt
entries_text e (bodies.Delete (x ∷ xs)) gone h = (h, tt)
entries_text e (bodies.Rename former) gone h = tt
entries_text e bodies.Leave gone h = tt

pub entries_whole : (s : Seen) (t : State) (edit : Edit) → StandsFor s t → AreWhole (entries_over s edit)
unfolding entries_over
entries_whole s t edit h =
    entries_text (made_over s edit).epoch (made_over s edit).body (gone_by edit (text_over s)) (gone_text edit (text_over s) (subst IsText (sym (text_alike s t h)) (text_chars t.history h.legal)))

pub settled_whole : (s : Seen) (e : Entry) → IsEntry e → IsEntry (settled_over s e)
settled_whole s (Inserted e ids) h = tt
settled_whole s (Removed e first cs) h = h

pub all_settled_whole : (s : Seen) (es : List Entry) → AreWhole es → AreWhole (map (settled_over s) es)
all_settled_whole s [] h = tt
all_settled_whole s (e ∷ es) h = (settled_whole s e h.0, all_settled_whole s es h.1)

pub caught_up_whole : (s : Seen) (es : List Entry) → AreWhole es → AreWhole (caught_up_over s es)
caught_up_whole s es h = go (is_behind (greatest_over s) es)
  where
    go : (b : Bool) → AreWhole (cond b (map (settled_over s) es) es)
    go true = all_settled_whole s es h
    go false = h

pub entries_alike : (s : Seen) (t : State) (edit : Edit) → StandsFor s t → entries_over s edit ≡ entries_of t.history edit
unfolding entries_over entries_of
entries_alike s t edit h =
    ap (λ o. entries_by o.epoch o.body (gone_by edit (text_over s))) (made_alike s t edit h)
    ∙ ap (λ cs. entries_by (made t.history edit).epoch (made t.history edit).body (gone_by edit cs)) (text_alike s t h)
