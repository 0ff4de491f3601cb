-- What is known where an operation is accepted, and what it adds.
use Rattle.std.proofs.Common.{◌≡◌, ◌∙◌, ℕ, ◌+◌, ◌^◌, ◌<◌, ◌≤◌, false, List, length, map, IsSome, refl, sym, ap, subst, arith, nat_lt}
use Rattle.std.specs.Prelude.{pos, ◌+ℤ◌}
use Rattle.std.specs.Ordering.{is_lt}
use Rattle.rls_ident.specs.declared.limits.TheConstants.{CHARACTERS, IDENTIFIERS}
use Rattle.rls_ident.specs.declared.tuple.Tuple.{Tuple}
use Rattle.rls_ident.specs.declared.epoch_name.EpochName.{EpochName}
use Rattle.rls_ident.specs.Identifiers.{ident_cmp, last_of, greatest_offset}
use Rattle.rls_ident.specs.Tuples.{offset_of}
use Rattle.rls_ident.proofs.Members.{less_is, eq_not, not_lt_is, not_int_lt_is}
use Rattle.rls_runs.specs.Runs.{run_idents, idents_of, IsImage}
use Rattle.rls_doc.specs.Documents.{KeepsOrder}
use Rattle.rls_rename.specs.Renaming.{Renaming, IsFormer}
use Rattle.rls_rename.specs.Tree.{Node, Epochs, AreNodes, greatest, translate}
use Rattle.rls_rename.proofs.Former.{former_of}
use Rattle.rls_rename.proofs.Paths.{renaming_iso, translate_ident, translate_order}
use Rattle.rls_epoch.specs.Seen.{former_sum}
use Rattle.rls_ops.specs.declared.op.Op.{Op}
use Rattle.rls_ops.specs.declared.op.Body.{Body}
use Rattle.rls_ops.specs.declared.op.Body.TheVariants.{Insert, Delete, Rename, Leave}
use Rattle.rls_ops.specs.Shapes.{is_empty, body_limit, body_len, passes_end}
use Rattle.rls_model.specs.WellFormed.{IsBody}
use Rattle.rls_seen.specs.Seen.{Seen, vector, count_over}
use Rattle.rls_seen.specs.Sane.{IsSane, MayApply}
use Rattle.rls_seen.proofs.Fitting.{facts, name_new}
use Rattle.rls_seen.proofs.Needed.{total_room, former_room}
use Rattle.rls_seen.proofs.StemNumbers.{each_stem}
use Rattle.rls_seen.proofs.Written.{newborn}
use Rattle.rls_parts.specs.Tables.{IsNewest}
use Rattle.rls_replica.specs.Changing.{renaming_in, former_in, renamed_from, MayInsert, MayRename}

-- ---- the map of a rename

-- it keeps the order
pub renamed_keeps : (nodes : List Node) (e f : EpochName) (R : Renaming) → AreNodes nodes → IsFormer R.former → KeepsOrder (renamed_from nodes e f R)
renamed_keeps nodes e f R n h x y i j l =
    let o : ident_cmp (translate nodes e f x) (translate nodes e f y) ≡ _ = translate_order nodes e f x y n i j ∙ less_is (ident_cmp x y) l in
    let u = (renaming_iso R h).up (translate nodes e f x) (translate nodes e f y) (translate_ident nodes e f x n i) (translate_ident nodes e f y n j) (record { less = o }) in
    ap is_lt u.less

-- ---- insertions

-- the image of a run in the greatest epoch
pub image_is : (E : Epochs) (e : EpochName) (first : List Tuple) (n : ℕ) (g : EpochName) (run : List Tuple × ℕ) (runs : List (List Tuple × ℕ)) → g ≡ greatest E.top E.nodes → run ≡ (first, n)
    → IsImage (translate E.nodes e g) run runs → idents_of runs ≡ map (translate E.nodes e (greatest E.top E.nodes)) (run_idents first n)
image_is E e first n g run runs k h i =
    i.idents ∙ (ap (λ (r : List Tuple × ℕ). map (translate E.nodes e g) (run_idents r.0 r.1)) h ∙ ap (λ (f : EpochName). map (translate E.nodes e f) (run_idents first n)) k)

pub insert_may : (s : Seen) (o : Op) (first : List Tuple) (text : List ℕ) → IsSane s → MayApply s o → o.body ≡ Insert first text → MayInsert s.epochs s.text o.epoch first text
insert_may s o first text sane m e =
    let f = facts s o m in
    let z : is_empty (Insert first text) ≡ false = ap is_empty (sym e) ∙ f.shaped.some in
    let few : length text ≤ CHARACTERS = not_lt_is CHARACTERS (length text) (ap (λ b. nat_lt (body_limit b) (body_len b)) (sym e) ∙ f.shaped.few) in
    let p : passes_end (Insert first text) ≡ false = ap passes_end (sym e) ∙ f.shaped.room in
    let new = newborn s o first text sane m e in
    let room = total_room s sane in
    record {
      kept = f.kept;
      some = let k = eq_not (length text) 0 z in omega arith;
      few = few;
      end = not_int_lt_is (greatest_offset +ℤ pos 1) (offset_of (last_of first) +ℤ pos (length text)) p;
      idents = new.idents;
      new = new.new;
      room = omega arith;
    }

-- ---- renames

pub rename_may : (s : Seen) (o : Op) (former : List (List Tuple)) → IsSane s → MayApply s o → o.body ≡ Rename former → MayRename s.epochs o former
rename_may s o former sane m e =
    let f = facts s o m in
    let b : IsBody (Rename former) = subst IsBody e m.whole.body in
    let z : is_empty (Rename former) ≡ false = ap is_empty (sym e) ∙ f.shaped.some in
    let some : 0 < length former = let k = eq_not (length former) 0 z in omega arith in
    record {
      nodes = sane.epochs.nodes;
      kept = f.kept;
      fresh = name_new s o sane f;
      body = e;
      are_former = former_of former some b;
      few = not_lt_is IDENTIFIERS (length former) (ap (λ b. nat_lt (body_limit b) (body_len b)) (sym e) ∙ f.shaped.few);
    }

-- ---- what takes no memory

-- the stems of the author have lesser numbers
pub newest : (s : Seen) (o : Op) → IsSane s → MayApply s o → IsNewest s.stems o.author o.seq
newest s o sane m t p e =
    let i = each_stem (vector s) s.stems t sane.stems p in
    let n = (facts s o m).next in
    let c : t.s0 ≤ count_over s o.author = subst (λ a. t.s0 ≤ count_over s a) e i.counted in
    omega arith

brief_go : (b : Body) → nat_lt (body_limit b) (body_len b) ≡ false → body_len b ≤ IDENTIFIERS
brief_go (Insert first text) h = let l = not_lt_is CHARACTERS (length text) h in omega arith
brief_go (Delete targets) h = not_lt_is IDENTIFIERS (length targets) h
brief_go (Rename former) h = not_lt_is IDENTIFIERS (length former) h
brief_go Leave h = omega arith

pub brief : (s : Seen) (o : Op) → MayApply s o → body_len o.body < 2 ^ 31
brief s o m = let l = brief_go o.body (facts s o m).shaped.few in omega arith

some_go : (o : Op) (b : Body) → IsSome (renaming_in o b) → b ≡ Rename (former_in b)
some_go o (Insert first text) h = absurd (cc)
some_go o (Delete targets) h = absurd (cc)
some_go o (Rename former) h = refl
some_go o Leave h = absurd (cc)

pub may_add : (s : Seen) (o : Op) → IsSane s → MayApply s o → IsSome (renaming_in o o.body) → MayRename s.epochs o (former_in o.body)
may_add s o sane m h = rename_may s o (former_in o.body) sane m (some_go o o.body h)

pub add_room : (s : Seen) (o : Op) → IsSane s → MayApply s o → IsSome (renaming_in o o.body) → former_sum s.epochs.nodes + length (former_in o.body) < 2 ^ 64
add_room s o sane m h = let f = (may_add s o sane m h).few in let r = former_room s sane in omega arith
