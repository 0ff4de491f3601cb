-- An operation that is accepted, seen by a history that the replica stands for.
use Rattle.std.proofs.Common.{◌≡◌, ℕ, ◌+◌, ◌<◌, ◌==◌, ◌&&◌, ◌||◌, not, slice_index, Bool, true, false, cond, List, [], ◌∷◌, length, map, get_or, set, refl, sym, ap, ◌∙◌, subst, arith, ⊎_elim, if◌then◌else◌}
use Rattle.std.specs.Prelude.{filter, zip, pos}
use Rattle.std.proofs.lemmas.List.{get_or-set_same, get_or-set_other}
use Rattle.rls_ident.specs.declared.tuple.Tuple.{Tuple}
use Rattle.rls_ident.specs.declared.epoch_name.EpochName.{EpochName}
use Rattle.rls_ident.specs.declared.epoch_name.EpochName.TheVariants.{Of}
use Rattle.rls_ident.specs.EpochNames.{name_eq}
use Rattle.rls_ident.specs.Identifiers.{shifted}
use Rattle.rls_ident.specs.Vectors.{at_most, raise}
use Rattle.rls_ident.proofs.Members.{bool_cases, true_false, eq_is, eq_not, not_le_test}
use Rattle.rls_ident.proofs.Vectors.{at_most_trans, index_le}
use Rattle.rls_ident.proofs.Agreeing.{map_same}
use Rattle.rls_runs.specs.Runs.{run_idents}
use Rattle.rls_rename.specs.Tree.{is_kept}
use Rattle.rls_rename.specs.Tree as tree
use Rattle.rls_rename.proofs.Paths.{name_eq_is, name_eq_refl}
use Rattle.rls_rename.proofs.Windows.{translate_window}
use Rattle.rls_ops.specs.declared.op.Op.{Op}
use Rattle.rls_ops.specs.declared.op.Body.{Body}
use Rattle.rls_ops.specs.declared.op.Body.TheVariants.{Insert, Delete, Rename, Leave}
use Rattle.rls_ops.specs.Rows.{AcksSeen, AreRows, row_of, left, raised}
use Rattle.rls_ops.proofs.KeptRows.{raised_rows, parted_rows}
use Rattle.rls_model.specs.Document.{has_ident, put_all, export}
use Rattle.rls_model.specs.Epochs.{greatest, translate, nodes_after, renaming_of}
use Rattle.rls_model.specs.History.{History, Then, Accepted, me_of, members_of, ops, count, count_of, is_leave}
use Rattle.rls_model.specs.History as history
use Rattle.rls_model.specs.Legal.{IsLegal, MayAccept}
use Rattle.rls_model.specs.Receiving.{State, accept, without}
use Rattle.rls_model.specs.Stability.{stable, is_covered}
use Rattle.rls_model.specs.Stems.{stems_after}
use Rattle.rls_model.specs.WellFormed.{IsOp}
use Rattle.rls_rename.specs.Renaming.{forward}
use Rattle.rls_model.proofs.Dropping.{opened, greatest_same, greatest_retained, fits_retained}
use Rattle.rls_model.proofs.Later.{window_step}
use Rattle.rls_model.proofs.OneTree.{author_below}
use Rattle.rls_model.proofs.Spliced.{entries}
use Rattle.rls_model.proofs.Stable.{stable_count, stable_grows}
use Rattle.rls_model.proofs.TextSteps.{placed, aims, renamed_entry, export_put, export_delete, export_stays, export_renamed, export_leave}
use Rattle.rls_model.proofs.WindowAnswers.{greatest_cases}
use Rattle.rls_model.proofs.WaitingFits.{sound_accepted}
use Rattle.rls_seen.specs.Seen.{Seen}
use Rattle.rls_seen.specs.Over.{acks_after, epochs_after, placed_over, added_over, renamed_over, is_greatest_over, text_after, logged, accepted}
use Rattle.rls_seen.specs.Stands.{StandsFor}
use Rattle.rls_seen.proofs.Alike.{members_alike, stable_by_rows, keeping, keeps_back, greatest_alike}
use Rattle.rls_seen.proofs.Logs.{either_below, logged_log}

-- ---- the rows

pub acks_me : (acks : AcksSeen) (a : ℕ) (b : Body) → (acks_after acks a b).me ≡ acks.me
acks_me acks a (Insert first text) = refl
acks_me acks a (Delete targets) = refl
acks_me acks a (Rename former) = refl
acks_me acks a Leave = refl

pub acks_mine : (acks : AcksSeen) (a : ℕ) (b : Body) → (acks_after acks a b).mine ≡ raise acks.mine a
acks_mine acks a (Insert first text) = refl
acks_mine acks a (Delete targets) = refl
acks_mine acks a (Rename former) = refl
acks_mine acks a Leave = refl

pub places_after : (acks : AcksSeen) (a : ℕ) (b : Body) → AreRows acks → AreRows (acks_after acks a b)
places_after acks a (Insert first text) h = raised_rows acks a h
places_after acks a (Delete targets) h = raised_rows acks a h
places_after acks a (Rename former) h = raised_rows acks a h
places_after acks a Leave h = parted_rows (raised acks a) a (raised_rows acks a h)

-- a row, by whether it is the own one
pub row_after : (acks : AcksSeen) (a : ℕ) (b : Body) (c : ℕ) → row_of (acks_after acks a b) c ≡ (if c == acks.me then raise acks.mine a else get_or acks.others c [])
row_after acks a (Insert first text) c = refl
row_after acks a (Delete targets) c = refl
row_after acks a (Rename former) c = refl
row_after acks a Leave c = refl

not_both : (x y : Bool) → x ≡ (x || (y && false))
not_both true y = refl
not_both false true = refl
not_both false false = refl

just_first : (x y : Bool) → y ≡ false → x ≡ (x || (y && true))
just_first true y e = refl
just_first false y e = ap (λ b. b && true) (sym e)

just_second : (x y : Bool) → y ≡ true → true ≡ (x || (y && true))
just_second true y e = refl
just_second false y e = ap (λ b. b && true) (sym e)

parted_go : (xs : List Bool) (a c : ℕ) → a < length xs → get_or (set xs a true) c false ≡ (get_or xs c false || ((a == c) && true))
parted_go xs a c l =
    bool_cases (a == c)
    (λ e. let f = eq_is a c e in subst (λ d. get_or (set xs a true) d false ≡ true) f (get_or-set_same xs a true false l) ∙ just_second (get_or xs c false) (a == c) e)
    (λ e. get_or-set_other xs a c true false (λ f. eq_not a c e (sym f)) ∙ just_first (get_or xs c false) (a == c) e)

pub left_after : (acks : AcksSeen) (a : ℕ) (b : Body) (c : ℕ) → a < length acks.left → left (acks_after acks a b) c ≡ (left acks c || ((a == c) && is_leave b))
left_after acks a (Insert first text) c l = not_both (left acks c) (a == c)
left_after acks a (Delete targets) c l = not_both (left acks c) (a == c)
left_after acks a (Rename former) c l = not_both (left acks c) (a == c)
left_after acks a Leave c l = parted_go acks.left a c l

row_go : (b : Bool) (mine count x y : List ℕ) (a : ℕ) → mine ≡ count → cond b mine x ≡ cond b count y → cond b (raise mine a) x ≡ cond b (raise count a) y
row_go true mine count x y a e f = ap (λ v. raise v a) e
row_go false mine count x y a e f = f

-- ---- the text

pub added_go : (f : List Tuple → List Tuple) (x : List Tuple) (cs : List ℕ) → zip (map f (run_idents x (length cs))) cs ≡ map (λ (y : List Tuple × ℕ). (f y.0, y.1)) (entries x cs)
added_go f x [] = refl
added_go f x (c ∷ cs) = ap (λ es. (f x, c) ∷ es) (added_go f (shifted (pos 1) x) cs)

-- translation to the greatest epoch, from a kept one
pub placed_alike : (s : Seen) (t : State) → StandsFor s t → (e : EpochName) (x : List Tuple) → is_kept s.epochs.top s.epochs.nodes e ≡ true → placed_over s e x ≡ translate t.history e (greatest t.history) x
unfolding translate
placed_alike s t h e x k =
    let H = t.history in
    let p = keeping s t h in
    let g : is_kept s.epochs.top s.epochs.nodes (greatest H) ≡ true = p.keeps (greatest H) (greatest_retained H h.legal) in
    ap (λ f. tree.translate s.epochs.nodes e f x) (greatest_alike s t h) ∙ translate_window p.window e (greatest H) x k g

map_alike : {A B : Type 0} (f g : A → B) (xs : List A) → ((x : A) → f x ≡ g x) → map f xs ≡ map g xs
map_alike f g xs e = map_same f g xs (λ x p. e x)

pub added_alike : (s : Seen) (t : State) → StandsFor s t → (e : EpochName) (x : List Tuple) (cs : List ℕ) → is_kept s.epochs.top s.epochs.nodes e ≡ true → added_over s e x cs ≡ map (placed t.history e) (entries x cs)
added_alike s t h e x cs k =
    added_go (placed_over s e) x cs
    ∙ map_alike (λ (y : List Tuple × ℕ). (placed_over s e y.0, y.1)) (placed t.history e) (entries x cs) (λ y. ap (λ z. (z, y.1)) (placed_alike s t h e y.0 k))

-- the operation's epoch is kept
pub epoch_kept : (s : Seen) (t : State) (o : Op) → StandsFor s t → MayAccept t.history o → is_kept s.epochs.top s.epochs.nodes o.epoch ≡ true
epoch_kept s t o h m = (keeping s t h).keeps o.epoch (fits_retained t.history o h.legal (author_below (members_of t.history) o m.shape) m.fits)

renamed_alike : (s : Seen) (t : State) (o : Op) (xs : List (List Tuple)) → StandsFor s t → MayAccept t.history o → (y : List Tuple × ℕ) → (renamed_over s o xs y.0, y.1) ≡ renamed_entry t.history o xs y
unfolding translate
renamed_alike s t o xs h m y =
    let H = t.history in
    let p = keeping s t h in
    let g : is_kept s.epochs.top s.epochs.nodes (greatest H) ≡ true = p.keeps (greatest H) (greatest_retained H h.legal) in
    ap (λ x. (forward (renaming_of o xs) x, y.1))
    (ap (λ e. tree.translate s.epochs.nodes e o.epoch y.0) (greatest_alike s t h) ∙ translate_window p.window (greatest H) o.epoch y.0 g (epoch_kept s t o h m))

-- the greatest epoch afterwards
next_greatest : (s : Seen) (t : State) (o : Op) → StandsFor s t → IsLegal (Then t.history (Accepted o)) → tree.greatest s.epochs.top (epochs_after s.epochs o).nodes ≡ greatest (Then t.history (Accepted o))
next_greatest s t o h l =
    greatest_same (Then t.history (Accepted o)) s.epochs.top (nodes_after s.epochs.nodes o o.body) l (window_step t.history (Accepted o) l s.epochs.top s.epochs.nodes (keeping s t h))

rename_text : (s : Seen) (t : State) (o : Op) (xs : List (List Tuple)) → StandsFor s t → IsLegal (Then t.history (Accepted o)) → o.body ≡ Rename xs → text_after s o (Rename xs) ≡ export (Then t.history (Accepted o))
rename_text s t o xs h l e =
    let H = t.history in
    let K = Then H (Accepted o) in
    let m = l.2 in
    let renamed : List (List Tuple × ℕ) = map (λ y. (renamed_over s o xs y.0, y.1)) s.text in
    let same = next_greatest s t o h l in
    bool_cases (is_greatest_over s o)
    (λ q. let g : greatest K ≡ Of o.author o.seq = sym same ∙ name_eq_is (tree.greatest s.epochs.top (epochs_after s.epochs o).nodes) (Of o.author o.seq) q in
    ap (λ b. if b then renamed else s.text) q
    ∙ (ap (map (λ (y : List Tuple × ℕ). (renamed_over s o xs y.0, y.1))) h.text
    ∙ (map_alike (λ (y : List Tuple × ℕ). (renamed_over s o xs y.0, y.1)) (renamed_entry H o xs) (export H) (renamed_alike s t o xs h m)
    ∙ sym (export_renamed H o xs l e g))))
    (λ q. let other : greatest K ≡ Of o.author o.seq → ⊥ =
    λ g. true_false (is_greatest_over s o) (ap (λ f. name_eq f (Of o.author o.seq)) (same ∙ g) ∙ name_eq_refl (Of o.author o.seq)) q in
    let g : greatest K ≡ greatest H = ⊎_elim (λ x. x) (λ x. absurd (other (subst (λ b. opened o b (greatest K)) e x))) (greatest_cases H (Accepted o) h.legal l) in
    ap (λ b. if b then renamed else s.text) q ∙ (h.text ∙ sym (export_stays H o xs l e g)))

text_go : (s : Seen) (t : State) (o : Op) (b : Body) → StandsFor s t → IsLegal (Then t.history (Accepted o)) → o.body ≡ b → text_after s o b ≡ export (Then t.history (Accepted o))
text_go s t o (Insert x cs) h l e =
    ap (λ es. put_all es s.text) (added_alike s t h o.epoch x cs (epoch_kept s t o h l.2))
    ∙ (ap (put_all (map (placed t.history o.epoch) (entries x cs))) h.text
    ∙ sym (export_put t.history o x cs l e))
text_go s t o (Delete ts) h l e =
    ap (λ xs. filter (λ y. not (has_ident xs y.0)) s.text) (map_alike (placed_over s o.epoch) (translate t.history o.epoch (greatest t.history)) ts (λ x. placed_alike s t h o.epoch x (epoch_kept s t o h l.2)))
    ∙ (ap (filter (λ y. not (has_ident (aims t.history o ts) y.0))) h.text
    ∙ sym (export_delete t.history o ts l e))
text_go s t o (Rename xs) h l e = rename_text s t o xs h l e
text_go s t o Leave h l e = h.text ∙ sym (export_leave t.history o e)

-- ---- all

new_uncovered : (gone : List ℕ) (H : History) (o : Op) → at_most gone (stable H) ≡ true → o.seq ≡ count_of H o.author + 1 → is_covered gone o ≡ false
new_uncovered gone H o l n =
    let i = index_le gone (count H) o.author (at_most_trans gone (stable H) (count H) l (stable_count H)) in
    not_le_test o.seq (slice_index gone o.author) (omega arith)

-- an operation that may be accepted is accepted by both
pub accepted_stands : (s : Seen) (t : State) (o : Op) → IsOp o → MayAccept t.history o → StandsFor s t → StandsFor (accepted s o) (accept t o)
unfolding accepted
accepted_stands s t o w m h =
    let H = t.history in
    let l : IsLegal (Then H (Accepted o)) = (h.legal, w, m) in
    let K = Then H (Accepted o) in
    let acks = acks_after s.acks o.author o.body in
    let inside : o.author < length s.acks.left = let e = h.places.marks ∙ members_alike s t h in let a = author_below (members_of H) o m.shape in omega arith in
    let me : acks.me ≡ me_of K = acks_me s.acks o.author o.body ∙ h.me in
    let mine : acks.mine ≡ count K = acks_mine s.acks o.author o.body ∙ ap (λ v. raise v o.author) h.vector in
    let rows : (c : ℕ) → c < members_of K → row_of acks c ≡ history.row K c =
    λ c k. row_after s.acks o.author o.body c
    ∙ (ap (λ me. cond (c == me) (raise s.acks.mine o.author) (get_or s.acks.others c [])) h.me
    ∙ row_go (c == me_of H) s.acks.mine (count H) (get_or s.acks.others c []) (history.acknowledged H c) o.author h.vector
    (ap (λ me. cond (c == me) s.acks.mine (get_or s.acks.others c [])) (sym h.me) ∙ h.rows c k)) in
    let marks : (c : ℕ) → c < members_of K → left acks c ≡ history.has_left K c = λ c k. left_after s.acks o.author o.body c inside ∙ ap (λ b. b || ((o.author == c) && is_leave o.body)) (h.left c k) in
    let grows = at_most_trans h.log.0 (stable H) (stable K) h.log.1.stable (stable_grows H (Accepted o) l) in
    let log = logged_log h.log.0 (stable K) s.log (ops H) o grows (new_uncovered h.log.0 H o h.log.1.stable m.next) h.log.1.kept in
    record {
      legal = l;
      sound = sound_accepted H o t.waiting m h.sound;
      group = h.group;
      me = me;
      vector = mine;
      places = places_after s.acks o.author o.body h.places;
      rows = rows;
      left = marks;
      stems = ap (λ ss. stems_after ss o.author o.seq o.body) h.stems;
      epochs = keeps_back (epochs_after s.epochs o) (Then H (Accepted o)) (window_step H (Accepted o) l s.epochs.top s.epochs.nodes (keeping s t h));
      text = text_go s t o o.body h l refl;
      waiting = ap (without o.author o.seq) h.waiting;
      log = (log.0, record { stable = either_below h.log.0 (stable K) log.0 grows log.1; kept = ap (λ v. logged v s.log o) (stable_by_rows acks K me mine rows marks) ∙ log.2 });
    }
