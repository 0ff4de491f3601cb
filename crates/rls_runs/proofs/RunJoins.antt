-- One more run after the others, which may join the last one.
use Rattle.std.proofs.Common.{◌≡◌, ℕ, zero, suc, ◌+◌, ◌-◌, ◌<◌, true, false, List, [], ◌∷◌, ◌++◌, length, Option, Some, None, refl, sym, ap, ◌∙◌, arith, append_assoc, length-append}
use Rattle.std.specs.Prelude.{pos, ◌&&◌, nat_lt, not}
use Rattle.std.specs.List.{list_all}
use Rattle.std.proofs.lemmas.Int.{ints}
use Rattle.std.proofs.lemmas.List.{append-nil}
use Rattle.std.proofs.lemmas.List.Folds.{list_all-append}
use Rattle.rls_ident.specs.declared.tuple.Tuple.{Tuple}
use Rattle.rls_ident.specs.Identifiers.{ident_lt, shifted, follows}
use Rattle.rls_ident.proofs.Members.{and_left, and_right, and_true, lt_test}
use Rattle.rls_ident.proofs.Shifted.{shifted_none, shifted_shifted}
use Rattle.rls_runs.specs.Runs.{run_idents, run_last, idents_of, is_apart, are_apart, run_before, is_run, starts_of, AreRuns}
use Rattle.rls_runs.specs.Places.{last_ident, is_above, touches}
use Rattle.rls_runs.proofs.Finding.{run_length}
use Rattle.rls_runs.proofs.RunOrder.{idents_append, run_some}
use Rattle.rls_runs.proofs.RunPlaces.{starts_more}
use Rattle.rls_runs.proofs.RunsOf.{apart_more, run_before_pushed}

-- ---- the last identifier

last_behind : (x : List Tuple) (xs ys : List (List Tuple)) → last_ident ys ≡ Some x → last_ident (xs ++ ys) ≡ Some x
last_behind x [] ys h = h
last_behind x (z ∷ []) [] h = absurd (cc)
last_behind x (z ∷ []) (y ∷ ys) h = h
last_behind x (z ∷ (w ∷ xs)) ys h = last_behind x (w ∷ xs) ys h

last_in_run : (x : List Tuple) (n : ℕ) → last_ident (run_idents x (suc n)) ≡ Some (shifted (pos n) x)
last_in_run x zero = ap Some (sym (shifted_none x))
last_in_run x (suc n) = last_in_run (shifted (pos 1) x) n ∙ ap Some (shifted_shifted (pos n) (pos 1) x ∙ ap (λ k. shifted k x) (omega (arith, ints)))

last_of_run : (r : List Tuple × ℕ) → 0 < r.1 → last_ident (run_idents r.0 r.1) ≡ Some (run_last r)
last_of_run (x, zero) h = absurd (omega arith)
last_of_run (x, suc n) h = let e : n ≡ suc n - 1 = omega arith in last_in_run x n ∙ ap (λ k. Some (shifted (pos k) x)) e

-- the last identifier of runs is that of the last run
pub last_pushed : (fs : List (List Tuple × ℕ)) (r : List Tuple × ℕ) → is_run r ≡ true → last_ident (idents_of (fs ++ r ∷ [])) ≡ Some (run_last r)
last_pushed fs r h =
    ap last_ident (idents_append fs (r ∷ []) ∙ ap (λ xs. idents_of fs ++ xs) (append-nil (run_idents r.0 r.1)))
    ∙ last_behind (run_last r) (idents_of fs) (run_idents r.0 r.1) (last_of_run r (run_some r h))

-- ---- one more run

-- whether it is apart from the run before, by the last identifier
pub apart_by_last : (fs : List (List Tuple × ℕ)) (q r : List Tuple × ℕ) → is_run q ≡ true → is_above (last_ident (idents_of (fs ++ q ∷ []))) r.0 ≡ true → touches (last_ident (idents_of (fs ++ q ∷ []))) r.0 ≡ false → is_apart (run_before None (fs ++ q ∷ [])) r ≡ true
apart_by_last fs q r h a t =
    let l = last_pushed fs q h in
    let above : ident_lt (run_last q) r.0 ≡ true = ap (λ o. is_above o r.0) (sym l) ∙ a in
    let apart : follows r.0 (run_last q) ≡ false = ap (λ o. touches o r.0) (sym l) ∙ t in
    ap (λ o. is_apart o r) (run_before_pushed None fs q) ∙ and_true (ident_lt (run_last q) r.0) (not (follows r.0 (run_last q))) above (ap not apart)

pub idents_pushed : (fs : List (List Tuple × ℕ)) (r : List Tuple × ℕ) → idents_of (fs ++ r ∷ []) ≡ idents_of fs ++ run_idents r.0 r.1
idents_pushed fs r = idents_append fs (r ∷ []) ∙ ap (λ xs. idents_of fs ++ xs) (append-nil (run_idents r.0 r.1))

pub runs_pushed : (fs : List (List Tuple × ℕ)) (starts : List ℕ) (total : ℕ) (r : List Tuple × ℕ) → AreRuns fs starts total → is_run r ≡ true → is_apart (run_before None fs) r ≡ true → AreRuns (fs ++ r ∷ []) (starts ++ total ∷ []) (total + r.1)
runs_pushed fs starts total r a s p =
    let e : total ≡ 0 + length (idents_of fs) = let t = a.total_is in omega arith in
    record {
      apart = apart_more None fs r a.apart (let l = run_some r s in lt_test 0 r.1 l) p;
      sound = list_all-append is_run fs (r ∷ []) ∙ and_true (list_all is_run fs) (list_all is_run (r ∷ [])) a.sound (and_true (is_run r) true s refl);
      starts_are = ap (λ xs. xs ++ total ∷ []) a.starts_are ∙ ap (λ k. starts_of 0 fs ++ k ∷ []) e ∙ sym (starts_more 0 fs r);
      total_is = let l = ap length (idents_pushed fs r) in let m = length-append (idents_of fs) (run_idents r.0 r.1) in let n = run_length r.0 r.1 in let t = a.total_is in omega arith;
    }

-- ---- a longer last run

pub run_longer : (x : List Tuple) (n m : ℕ) → run_idents x (n + m) ≡ run_idents x n ++ run_idents (shifted (pos n) x) m
run_longer x zero m = let e : 0 + m ≡ m = omega arith in ap (run_idents x) e ∙ ap (λ y. run_idents y m) (sym (shifted_none x))
run_longer x (suc n) m =
    let e : suc n + m ≡ suc (n + m) = omega arith in
    let f : shifted (pos n) (shifted (pos 1) x) ≡ shifted (pos (suc n)) x = shifted_shifted (pos n) (pos 1) x ∙ ap (λ k. shifted k x) (omega (arith, ints)) in
    ap (run_idents x) e ∙ ap (λ xs. x ∷ xs) (run_longer (shifted (pos 1) x) n m ∙ ap (λ y. run_idents (shifted (pos 1) x) n ++ run_idents y m) f)

pub idents_longer : (fs : List (List Tuple × ℕ)) (x : List Tuple) (n m : ℕ) (y : List Tuple) → y ≡ shifted (pos n) x → idents_of (fs ++ (x, n + m) ∷ []) ≡ idents_of (fs ++ (x, n) ∷ []) ++ run_idents y m
idents_longer fs x n m y e =
    idents_pushed fs (x, n + m)
    ∙ ap (λ xs. idents_of fs ++ xs) (run_longer x n m ∙ ap (λ z. run_idents x n ++ run_idents z m) (sym e))
    ∙ sym (append_assoc (idents_of fs) (run_idents x n) (run_idents y m))
    ∙ ap (λ xs. xs ++ run_idents y m) (sym (idents_pushed fs (x, n)))

pub apart_longer : (before : Option (List Tuple × ℕ)) (fs : List (List Tuple × ℕ)) (x : List Tuple) (n m : ℕ) → 0 < m → are_apart before (fs ++ (x, n) ∷ []) ≡ true → are_apart before (fs ++ (x, m) ∷ []) ≡ true
apart_longer before [] x n m l h =
    let p = and_left (nat_lt 0 n && is_apart before (x, n)) true h in
    and_true (nat_lt 0 m && is_apart before (x, m)) true (and_true (nat_lt 0 m) (is_apart before (x, m)) (lt_test 0 m l) (go before (and_right (nat_lt 0 n) (is_apart before (x, n)) p))) refl
  where
    go : (b : Option (List Tuple × ℕ)) → is_apart b (x, n) ≡ true → is_apart b (x, m) ≡ true
    go None q = refl
    go (Some r) q = q
apart_longer before (q ∷ fs) x n m l h =
    let a = nat_lt 0 q.1 && is_apart before q in
    and_true a (are_apart (Some q) (fs ++ (x, m) ∷ [])) (and_left a (are_apart (Some q) (fs ++ (x, n) ∷ [])) h) (apart_longer (Some q) fs x n m l (and_right a (are_apart (Some q) (fs ++ (x, n) ∷ [])) h))

starts_longer : (k : ℕ) (fs : List (List Tuple × ℕ)) (q r : List Tuple × ℕ) → starts_of k (fs ++ q ∷ []) ≡ starts_of k (fs ++ r ∷ [])
starts_longer k [] q r = refl
starts_longer k (s ∷ fs) q r = ap (λ xs. k ∷ xs) (starts_longer (k + s.1) fs q r)

sound_last : (fs : List (List Tuple × ℕ)) (q r : List Tuple × ℕ) → list_all is_run (fs ++ q ∷ []) ≡ true → is_run r ≡ true → list_all is_run (fs ++ r ∷ []) ≡ true
sound_last [] q r h k = and_true (is_run r) true k refl
sound_last (s ∷ fs) q r h k = and_true (is_run s) (list_all is_run (fs ++ r ∷ [])) (and_left (is_run s) (list_all is_run (fs ++ q ∷ [])) h) (sound_last fs q r (and_right (is_run s) (list_all is_run (fs ++ q ∷ [])) h) k)

pub runs_longer : (fs : List (List Tuple × ℕ)) (starts : List ℕ) (total : ℕ) (x : List Tuple) (n m : ℕ) → AreRuns (fs ++ (x, n) ∷ []) starts total → is_run (x, n + m) ≡ true → AreRuns (fs ++ (x, n + m) ∷ []) starts (total + m)
runs_longer fs starts total x n m a s =
    record {
      apart = apart_longer None fs x n (n + m) (run_some (x, n + m) s) a.apart;
      sound = sound_last fs (x, n) (x, n + m) a.sound s;
      starts_are = a.starts_are ∙ starts_longer 0 fs (x, n) (x, n + m);
      total_is =
          let l = ap length (idents_longer fs x n m (shifted (pos n) x) refl) in
          let k = length-append (idents_of (fs ++ (x, n) ∷ [])) (run_idents (shifted (pos n) x) m) in
          let j = run_length (shifted (pos n) x) m in
          let t = a.total_is in omega arith;
    }
