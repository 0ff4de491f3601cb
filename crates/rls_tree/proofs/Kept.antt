-- Patches that take characters out.
use Rattle.std.proofs.Common.{◌≡◌, ℕ, suc, ◌+◌, ◌-◌, ◌<◌, ◌≤◌, Bool, true, false, cond, List, [], ◌∷◌, ◌++◌, length, take, drop, get_or, Some, None, slice_get, refl, sym, ap, ◌∙◌, subst, arith, length-drop}
use Rattle.std.specs.Prelude.{not, nat_lt}
use Rattle.std.proofs.lemmas.List.{take-append-drop, take_all, drop-drop}
use Rattle.std.proofs.lemmas.Option.{slice_get-get_or}
use Rattle.std.proofs.Math.Seq.{take-add}
use Rattle.rls_ident.specs.declared.tuple.Tuple.{Tuple}
use Rattle.rls_ident.proofs.Members.{lt_is, not_lt_is}
use Rattle.rls_runs.specs.Entries.{Entries, idents_in, has_ident, without_all}
use Rattle.rls_runs.proofs.Sorted.{Entry}
use Rattle.rls_blocks.specs.declared.patch.Patch.{Patch}
use Rattle.rls_blocks.specs.Trees.{Piece, ArePieces, entries_of, runs_in}
use Rattle.rls_blocks.specs.Edits.{leads_to, are_loose, Shows}
use Rattle.rls_blocks.specs.Patches.{before, after, IsBetween, patched}
use Rattle.rls_tree.specs.Targets.{AreMembers}
use Rattle.rls_blocks.proofs.Loose.{last_run}
use Rattle.rls_tree.proofs.Located.{mapped_at}
use Rattle.rls_tree.proofs.Puts.{headed}
use Rattle.rls_tree.proofs.Without.{without_append}
use Rattle.rls_blocks.proofs.Patches.{none_before}
use Rattle.rls_tree.proofs.Targets.{part_stays}
use Rattle.rls_tree.proofs.Planned.{Planned, unplanned, old, entries_more, begins_alike, begins_first, ends_apart, planned_more, some_blocks, all_entries, all_loose}

-- the patches leave of the characters up to a place those that are no targets
pub record Kept (ts : List (List Tuple)) (bs : List Piece) (ps : List Patch) (at : ℕ) : Type 0 where
  pub plan : Planned bs ps at
  pub entries : entries_of (patched ps (before at bs)) ≡ without_all ts (take at (entries_of bs))
  pub first : at ≡ 0 → patched ps (before at bs) ≡ []
  pub stays : 0 < at → AreMembers false ts (idents_in (entries_of bs)) at (at + 1)

pub start : (ts : List (List Tuple)) (bs : List Piece) → ArePieces bs → are_loose None (runs_in bs) ≡ true → Kept ts bs [] 0
start ts bs h l =
    record {
      plan = unplanned bs h l;
      entries = ap entries_of (none_before bs h);
      first = λ e. none_before bs h;
      stays = λ o. absurd (omega (arith, o));
    }

-- ---- one patch more

module _ (ts : List (List Tuple)) (bs : List Piece) (ps : List Patch) (at : ℕ) (p : Patch) (h : ArePieces bs) (was : Kept ts bs ps at)
    (order : at ≤ p.from) (later : p.from < p.to) (within : p.to ≤ length (entries_of bs)) (from_is : IsBetween p.from bs) (to_is : IsBetween p.to bs)
    (none : AreMembers false ts (idents_in (entries_of bs)) at p.from) (kept : 0 < p.from → AreMembers false ts (idents_in (entries_of bs)) p.from (p.from + 1))
    (fresh : entries_of p.fresh.blocks ≡ without_all ts (take (p.to - p.from) (drop p.from (entries_of bs)))) (fresh_are : ArePieces p.fresh.blocks) (fresh_loose : are_loose None (runs_in p.fresh.blocks) ≡ true)
    (apart : leads_to (last_run p.fresh.blocks) (runs_in (after p.to bs)) ≡ false) (stay : AreMembers false ts (idents_in (entries_of bs)) p.to (p.to + 1)) where
  up : p.from ≤ p.to
  up = omega (arith, later)

  abbrev all : List Piece
  all = old bs ps at p h was.plan order up from_is to_is

  entries_kept : entries_of (patched (p ∷ ps) (before p.to bs)) ≡ without_all ts (take p.to (entries_of bs))
  entries_kept =
      let es = entries_of bs in
      let middle = take (p.from - at) (drop at es) in
      let segment = take (p.to - p.from) (drop p.from es) in
      let a : p.from + (p.to - p.from) ≡ p.to = omega (arith, later) in
      let b : at + (p.from - at) ≡ p.from = omega (arith, order) in
      let same : without_all ts middle ≡ middle = part_stays ts es at (p.from - at) (subst (AreMembers false ts (idents_in es) at) (sym b) none) in
      let all : take p.to es ≡ (take at es ++ middle) ++ segment = ap (λ k. take k es) (sym a) ∙ take-add p.from (p.to - p.from) es ∙ ap (λ zs. zs ++ segment) (ap (λ k. take k es) (sym b) ∙ take-add at (p.from - at) es) in
      entries_more bs ps at p h was.plan order up from_is to_is
      ∙ ap (λ zs. (zs ++ middle) ++ entries_of p.fresh.blocks) was.entries
      ∙ ap (λ zs. (without_all ts (take at es) ++ zs) ++ entries_of p.fresh.blocks) (sym same)
      ∙ ap (λ zs. (without_all ts (take at es) ++ without_all ts middle) ++ zs) fresh
      ∙ ap (λ zs. zs ++ without_all ts segment) (sym (without_append ts (take at es) middle)) ∙ sym (without_append ts (take at es ++ middle) segment) ∙ ap (without_all ts) (sym all)

  joints : (t : Bool) → nat_lt 0 p.from ≡ t → (leads_to (last_run all) (runs_in p.fresh.blocks) ≡ false) × (leads_to (last_run (all ++ p.fresh.blocks)) (runs_in (after p.to bs)) ≡ false)
  joints true q =
      let es = entries_of bs in
      let some = lt_is 0 p.from q in
      let d : Entry = ([], 0) in
      let e = get_or es p.from d in
      let there : slice_get es p.from ≡ Some e = slice_get-get_or es p.from d (omega (arith, later, within)) in
      let n = p.to - suc p.from in
      let m : p.to - p.from ≡ suc n = omega (arith, later) in
      let more = take n (drop (suc p.from) es) in
      let rest = headed p.from es e there in
      let seg : take (p.to - p.from) (drop p.from es) ≡ e ∷ more = ap (λ k. take k (drop p.from es)) m ∙ ap (take (suc n)) rest in
      let no : has_ident ts e.0 ≡ false = kept some p.from e.0 (omega arith) (omega arith) (mapped_at (λ u. u.0) es p.from e there) in
      let new : entries_of p.fresh.blocks ≡ e ∷ without_all ts more = fresh ∙ ap (without_all ts) seg ∙ ap (λ b. cond (not b) (e ∷ without_all ts more) (without_all ts more)) no in
      let l = ap length new in (
        begins_alike bs ps at p h was.plan order up from_is to_is e (without_all ts more) (drop (suc p.from) es) fresh_are new rest,
        ends_apart bs ps at p h was.plan order up from_is to_is (some_blocks p.fresh.blocks (omega (arith, l))) apart,
      )
  joints false q =
      let m = not_lt_is 0 p.from q in
      let none = begins_first bs ps at p h was.plan order up from_is to_is (was.first (omega (arith, m, order))) (omega (arith, m, order)) in
      (none.1, ap (λ xs. leads_to (last_run (xs ++ p.fresh.blocks)) (runs_in (after p.to bs))) none.0 ∙ apart)

  pub next : Kept ts bs (p ∷ ps) p.to
  next =
      let j = joints (nat_lt 0 p.from) refl in
      record {
        plan = planned_more bs ps at p h was.plan order up from_is to_is fresh_loose j.0 j.1;
        entries = entries_kept;
        first = λ e. absurd (omega (arith, e, later));
        stays = λ o. stay;
      }

-- ---- all of them

pub all_shows : (ts : List (List Tuple)) (bs : List Piece) (ps : List Patch) (at : ℕ) → ArePieces bs → Kept ts bs ps at → AreMembers false ts (idents_in (entries_of bs)) at (length (entries_of bs)) → at ≤ length (entries_of bs) → Shows (without_all ts (entries_of bs)) (patched ps bs)
all_shows ts bs ps at h was none within =
    let es = entries_of bs in
    let n = length es - at in
    let m : at + n ≡ length es = omega (arith, within) in
    let k = length-drop at es in
    let rest : take n (drop at es) ≡ drop at es = take_all n (drop at es) (omega (arith, k)) in
    let same : without_all ts (drop at es) ≡ drop at es = ap (without_all ts) (sym rest) ∙ part_stays ts es at n (subst (AreMembers false ts (idents_in es) at) (sym m) none) ∙ rest in
    record {
      entries_are = all_entries bs ps at h was.plan ∙ ap (λ zs. zs ++ drop at es) was.entries ∙ ap (λ zs. without_all ts (take at es) ++ zs) (sym same) ∙ sym (without_append ts (take at es) (drop at es)) ∙ ap (without_all ts) (take-append-drop at es);
      loose = all_loose bs ps at h was.plan;
    }

-- ---- from one patch to the next

pub from_later : (ts xs : List (List Tuple)) (at i from : ℕ) → (0 < at → AreMembers false ts xs at (at + 1)) → AreMembers true ts xs i (i + 1) → i < length xs → at ≤ i → (at < i → at ≤ from) → at ≤ from
from_later ts xs at i from f t l o k = go (nat_lt at i) refl
  where
    same : (c : Bool) → nat_lt 0 at ≡ c → at ≡ i → at ≤ from
    same true q e =
        let x = get_or xs i [] in
        let there : slice_get xs i ≡ Some x = slice_get-get_or xs i [] l in
        let no = f (lt_is 0 at q) i x (omega (arith, e)) (omega (arith, e)) there in
        let yes = t i x (omega arith) (omega arith) there in
        let d : true ≡ false = sym yes ∙ no in
        absurd cc
    same false q e = let m = not_lt_is 0 at q in omega (arith, m)

    go : (c : Bool) → nat_lt at i ≡ c → at ≤ from
    go true q = k (lt_is at i q)
    go false q = let m = not_lt_is at i q in same (nat_lt 0 at) refl (omega (arith, m, o))

-- ---- what stays of some characters, and of those after them

pub without_more : (ts : List (List Tuple)) (es : Entries) (from at to : ℕ) → from ≤ at → at ≤ to
    → without_all ts (take (at - from) (drop from es)) ++ without_all ts (take (to - at) (drop at es)) ≡ without_all ts (take (to - from) (drop from es))
without_more ts es from at to o l =
    let n : from + (at - from) ≡ at = omega (arith, o) in
    let m : (at - from) + (to - at) ≡ to - from = omega (arith, o, l) in
    sym (without_append ts (take (at - from) (drop from es)) (take (to - at) (drop at es)))
    ∙ ap (λ zs. without_all ts (take (at - from) (drop from es) ++ take (to - at) zs)) (ap (λ k. drop k es) (sym n) ∙ sym (drop-drop (at - from) from es))
    ∙ ap (without_all ts) (sym (take-add (at - from) (to - at) (drop from es)) ∙ ap (λ k. take k (drop from es)) m)
