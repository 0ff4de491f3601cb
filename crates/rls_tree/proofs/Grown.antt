-- Patches that put runs in.
use Rattle.std.proofs.Common.{◌≡◌, ℕ, suc, ◌-◌, ◌<◌, ◌≤◌, ◌⊎◌, inl, inr, Bool, true, false, List, [], ◌∷◌, ◌++◌, length, take, drop, get_or, Some, None, slice_get, slice_index_or, refl, sym, ap, ◌∙◌, subst, ⊎_elim, arith, append_assoc, length-append}
use Rattle.std.specs.Prelude.{nat_lt}
use Rattle.std.proofs.lemmas.List.{append-nil}
use Rattle.std.proofs.lemmas.Option.{slice_get-get_or}
use Rattle.rls_ident.proofs.Members.{lt_is, not_lt_is}
use Rattle.rls_runs.specs.Entries.{Entries}
use Rattle.rls_runs.proofs.Sorted.{Entry}
use Rattle.rls_blocks.specs.declared.patch.Patch.{Patch}
use Rattle.rls_tree.specs.declared.insertion.Gap.{Gap}
use Rattle.rls_blocks.specs.Trees.{Piece, IsPiece, ArePieces, piece_entries, entries_of, runs_in}
use Rattle.rls_blocks.specs.Edits.{goes_on, leads_to, are_loose, Shows}
use Rattle.rls_blocks.specs.Patches.{before, after, IsBetween, patched}
use Rattle.rls_tree.specs.Gaps.{filled, AreGaps, is_gap}
use Rattle.rls_blocks.proofs.Loose.{last_run}
use Rattle.rls_blocks.proofs.Pieces.{piece_length, piece_some}
use Rattle.rls_tree.proofs.Puts.{headed}
use Rattle.rls_blocks.proofs.Patches.{none_before}
use Rattle.rls_tree.proofs.Planned.{Planned, unplanned, end_of, old, led, some_blocks, entries_more, begins_alike, begins_first, begins_apart, ends_apart, planned_more, all_entries, all_loose}
use Rattle.rls_tree.proofs.Filled.{filled_later, first_gap, gaps_within, gap_later}

-- what the patches leave up to the last one, and the gaps after it, come to these entries
pub record Grown (all : Entries) (bs : List Piece) (gs : List Gap) (ps : List Patch) : Type 0 where
  pub plan : Planned bs ps (end_of ps)
  pub total : entries_of (patched ps (before (end_of ps) bs)) ++ filled (end_of ps) gs (entries_of bs) (λ k. drop k (entries_of bs)) ≡ all
  pub places : AreGaps (end_of ps) gs (length (entries_of bs))
  pub later : 0 < length ps → is_gap (end_of ps) gs ≡ false

pub start : (bs : List Piece) (gs : List Gap) → ArePieces bs → are_loose None (runs_in bs) ≡ true → AreGaps 0 gs (length (entries_of bs)) → Grown (filled 0 gs (entries_of bs) (λ k. drop k (entries_of bs))) bs gs []
start bs gs h l g =
    record {
      plan = unplanned bs h l;
      total = ap (λ xs. entries_of xs ++ filled 0 gs (entries_of bs) (λ k. drop k (entries_of bs))) (none_before bs h);
      places = g;
      later = λ o. absurd (omega (arith, o));
    }

head_append : (xs ys : Entries) (e : Entry) (zs : Entries) → 0 < length xs → xs ++ ys ≡ e ∷ zs → (fs : Entries) × (xs ≡ e ∷ fs)
head_append [] ys e zs s q = absurd (omega (arith, s))
head_append (x ∷ xs) ys e zs s q = let f : x ≡ e = cc in (xs, ap (λ y. y ∷ xs) f)

head_of : (xs : Entries) → 0 < length xs → (e : Entry) × (fs : Entries) × (xs ≡ e ∷ fs)
head_of [] s = absurd (omega (arith, s))
head_of (x ∷ xs) s = (x, xs, refl)

-- the next gap is after the last patch, or there is no patch yet
earlier : (ps : List Patch) (g : Gap) (gs : List Gap) → (0 < length ps → is_gap (end_of ps) (g ∷ gs) ≡ false) → end_of ps ≤ g.at → (end_of ps < g.at) ⊎ (ps ≡ [])
earlier [] g gs f l = inr refl
earlier (q ∷ ps) g gs f l = inl (gap_later gs g q.to (f (omega arith)) l)

-- the first gap is taken out
pub first_grown : {all : Entries} {bs : List Piece} {gs : List Gap} {ps : List Patch} (g : Gap) → 0 < length gs → g ≡ slice_index_or gs 0 g → Grown all bs gs ps → Grown all bs (g ∷ drop 1 gs) ps
first_grown {all = all} {bs = bs} {gs = gs} {ps = ps} g some first was = subst (λ xs. Grown all bs xs ps) (first_gap gs g some first) was

pub low_of : (all : Entries) (bs : List Piece) (ps : List Patch) (g : Gap) (gs : List Gap) (from : ℕ) → Grown all bs (g ∷ gs) ps → ((at : ℕ) → IsBetween at bs → at < g.at → at ≤ from) → end_of ps ≤ from
low_of all bs ps g gs from was last = ⊎_elim (λ l. last (end_of ps) was.plan.between l) (λ e. let z = ap end_of e in omega (arith, z)) (earlier ps g gs was.later was.places.0)

-- what is still to come is no longer than all
pub rest_fits : (all : Entries) (bs : List Piece) (ps : List Patch) (g : Gap) (gs : List Gap) (from : ℕ) → Grown all bs (g ∷ gs) ps → from ≤ g.at → ((at : ℕ) → IsBetween at bs → at < g.at → at ≤ from) → length (filled from (g ∷ gs) (entries_of bs) (λ k. drop k (entries_of bs))) ≤ length all
rest_fits all bs ps g gs from was near last =
    let es = entries_of bs in
    let at = end_of ps in
    let rest = filled from (g ∷ gs) es (λ k. drop k es) in
    let e = ap length was.total in
    let m = length-append (entries_of (patched ps (before at bs))) (filled at (g ∷ gs) es (λ k. drop k es)) in
    let l = ap length (filled_later (g ∷ gs) at from (length es) es (low_of all bs ps g gs from was last) (near, was.places.1)) in
    let n = length-append (take (from - at) (drop at es)) rest in
    omega (arith, e, m, l, n)

-- ---- one patch more

module _ (all : Entries) (bs : List Piece) (ps : List Patch) (g : Gap) (gs more : List Gap) (p : Patch) (h : ArePieces bs) (was : Grown all bs (g ∷ gs) ps) (own : IsPiece g.block.0 g.block.1)
    (from_is : IsBetween p.from bs) (near : p.from ≤ g.at) (last : (at : ℕ) → IsBetween at bs → at < g.at → at ≤ p.from) (begins : p.from ≡ g.at → goes_on (last_run (before g.at bs)) g.block.0.0 ≡ false) where
  abbrev at : ℕ
  at = end_of ps

  apart_gap : (at < g.at) ⊎ (ps ≡ [])
  apart_gap = earlier ps g gs was.later was.places.0

  pub low : at ≤ p.from
  low = low_of all bs ps g gs p.from was last

  module _ (up : p.from ≤ p.to) (to_is : IsBetween p.to bs) (places : AreGaps p.to more (length (entries_of bs))) (gap : is_gap p.to more ≡ false) (some : 0 < length (entries_of p.fresh.blocks))
      (entries : entries_of p.fresh.blocks ++ filled p.to more (entries_of bs) (λ k. drop k (entries_of bs)) ≡ filled p.from (g ∷ gs) (entries_of bs) (λ k. drop k (entries_of bs)))
      (fresh_are : ArePieces p.fresh.blocks) (fresh_loose : are_loose None (runs_in p.fresh.blocks) ≡ true) (apart : leads_to (last_run p.fresh.blocks) (runs_in (after p.to bs)) ≡ false) where
    abbrev es : Entries
    es = entries_of bs

    abbrev rest : Entries
    rest = filled g.at gs es (λ k. drop k es)

    alike : p.from < g.at → leads_to (last_run (old bs ps at p h was.plan low up from_is to_is)) (runs_in p.fresh.blocks) ≡ false
    alike l =
        let d : Entry = ([], 0) in
        let e = get_or es p.from d in
        let m = gaps_within gs g.at (length es) was.places.1 in
        let there : slice_get es p.from ≡ Some e = slice_get-get_or es p.from d (omega (arith, l, m)) in
        let n = g.at - suc p.from in
        let k : g.at - p.from ≡ suc n = omega (arith, l) in
        let tail = drop (suc p.from) es in
        let here = headed p.from es e there in
        let first : filled p.from (g ∷ gs) es (λ k. drop k es) ≡ e ∷ (take n tail ++ (piece_entries g.block ++ rest)) = ap (λ zs. zs ++ (piece_entries g.block ++ rest)) (ap (λ j. take j (drop p.from es)) k ∙ ap (take (suc n)) here) in
        let f = head_append (entries_of p.fresh.blocks) (filled p.to more es (λ k. drop k es)) e (take n tail ++ (piece_entries g.block ++ rest)) some (entries ∙ first) in
        begins_alike bs ps at p h was.plan low up from_is to_is e f.0 tail fresh_are f.1 here

    at_gap : p.from ≡ g.at → leads_to (last_run (before p.from bs)) (runs_in p.fresh.blocks) ≡ false
    at_gap q =
        let l = piece_length g.block own in
        let s = piece_some g.block own in
        let e = head_of (piece_entries g.block) (omega (arith, l, s)) in
        let k : g.at - p.from ≡ 0 = omega (arith, q) in
        let first : filled p.from (g ∷ gs) es (λ k. drop k es) ≡ e.0 ∷ (e.1 ++ rest) = ap (λ j. take j (drop p.from es) ++ (piece_entries g.block ++ rest)) k ∙ ap (λ zs. zs ++ rest) e.2 in
        let f = head_append (entries_of p.fresh.blocks) (filled p.to more es (λ k. drop k es)) e.0 (e.1 ++ rest) some (entries ∙ first) in
        led p.fresh.blocks (g.block ∷ []) (last_run (before p.from bs)) e.0 f.0 e.1 fresh_are (own, tt) f.1 (append-nil (piece_entries g.block) ∙ e.2)
        ∙ ap (λ j. goes_on (last_run (before j bs)) g.block.0.0) q ∙ begins q

    front : leads_to (last_run (old bs ps at p h was.plan low up from_is to_is)) (runs_in p.fresh.blocks) ≡ false
    front = go (nat_lt p.from g.at) refl
      where
        other : p.from ≡ g.at → (t : Bool) → nat_lt at p.from ≡ t → leads_to (last_run (old bs ps at p h was.plan low up from_is to_is)) (runs_in p.fresh.blocks) ≡ false
        other e true q = begins_apart bs ps at p h was.plan low up from_is to_is (lt_is at p.from q) (at_gap e)
        other e false q =
            let m = not_lt_is at p.from q in
            let o = low in
            ⊎_elim (λ l. absurd (omega (arith, e, m, l)))
            (λ n. (begins_first bs ps at p h was.plan low up from_is to_is (ap (λ qs. patched qs (before (end_of qs) bs)) n ∙ none_before bs h) (omega (arith, m, o))).1) apart_gap

        go : (t : Bool) → nat_lt p.from g.at ≡ t → leads_to (last_run (old bs ps at p h was.plan low up from_is to_is)) (runs_in p.fresh.blocks) ≡ false
        go true q = alike (lt_is p.from g.at q)
        go false q = let m = not_lt_is p.from g.at q in other (omega (arith, m, near)) (nat_lt at p.from) refl

    pub next : Grown all bs more (p ∷ ps)
    next =
        let first = entries_of (patched ps (before at bs)) in
        let middle = take (p.from - at) (drop at es) in
        let last = entries_of p.fresh.blocks in
        let end = filled p.to more es (λ k. drop k es) in
        record {
          plan = planned_more bs ps at p h was.plan low up from_is to_is fresh_loose front (ends_apart bs ps at p h was.plan low up from_is to_is (some_blocks p.fresh.blocks some) apart);
          total =
              ap (λ zs. zs ++ end) (entries_more bs ps at p h was.plan low up from_is to_is) ∙ append_assoc (first ++ middle) last end ∙ ap (λ zs. (first ++ middle) ++ zs) entries
              ∙ append_assoc first middle (filled p.from (g ∷ gs) es (λ k. drop k es)) ∙ ap (λ zs. first ++ zs) (sym (filled_later (g ∷ gs) at p.from (length es) es low (near, was.places.1))) ∙ was.total;
          places = places;
          later = λ o. gap;
        }

-- ---- all of them

pub all_shows : (all : Entries) (bs : List Piece) (ps : List Patch) → ArePieces bs → Grown all bs [] ps → Shows all (patched ps bs)
all_shows all bs ps h was =
    record {
      entries_are = all_entries bs ps (end_of ps) h was.plan ∙ was.total;
      loose = all_loose bs ps (end_of ps) h was.plan;
    }
