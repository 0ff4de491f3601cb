-- A map from the numbers of one author's operations to the operations, against the list of these.
use Rattle.std.proofs.Common.{◌≡◌, ℕ, suc, Bool, true, false, cond, List, [], ◌∷◌, None, Some, length, refl, sym, ap, ◌∙◌, arith, inl}
use Rattle.std.specs.List.{list_all}
use Rattle.std.specs.Map.{values_of, lookup, remove_entry}
use Rattle.std.specs.BTreeMap.{is_at, insert_entry}
use Rattle.std.specs.declared.cmp.Ordering.{Ordering}
use Rattle.std.specs.declared.cmp.Ordering.TheVariants.{Less, Equal, Greater}
use Rattle.std.specs.Ordering.{is_eq, nat_cmp, match_ordering}
use Rattle.std.proofs.lemmas.Bool.Decides.{nat_tests}
use Rattle.rls_ident.proofs.Members.{and_left, and_right, and_true, true_false, not_found}
use Rattle.rls_ops.specs.declared.op.Op.{Op}
use Rattle.rls_ops.specs.Waiting.{is_numbered, waiting_under, comes_before, with_waiting, without, is_in_order}
use Rattle.rls_ops.proofs.Waiting.{none_behind, not_after, with_in_order}
use Rattle.rls_causal.specs.Queued.{is_by, numbered}

-- ---- what an answer of `cmp` says

cmp_at : (a s : ℕ) (o : Op) → is_by a o ≡ true → is_eq (nat_cmp s o.seq) ≡ is_numbered a s o
cmp_at a s o h = grind (arith, nat_tests)

cmp_less : (o p : Op) → is_by o.author p ≡ true → nat_cmp o.seq p.seq ≡ Less → comes_before o p ≡ true
cmp_less o p h k = grind (arith, nat_tests)

cmp_greater : (o p : Op) → is_by o.author p ≡ true → nat_cmp o.seq p.seq ≡ Greater → comes_before p o ≡ true
cmp_greater o p h k = grind (arith, nat_tests)

-- ---- the list of such a map

values_numbered : (W : List Op) → values_of (numbered W) ≡ W
values_numbered [] = refl
values_numbered (w ∷ ws) = ap (λ xs. w ∷ xs) (values_numbered ws)

pub values_is : (es : List (ℕ × Op)) (W : List Op) → es ≡ numbered W → values_of es ≡ W
values_is es W e = ap values_of e ∙ values_numbered W

pub own_is : (es : List (ℕ × Op)) (W : List Op) → es ≡ numbered W → es ≡ numbered (values_of es)
own_is es W e = e ∙ ap numbered (sym (values_is es W e))

lookup_is : (a s : ℕ) (W : List Op) → list_all (is_by a) W ≡ true → lookup (is_at (nat_cmp s)) (numbered W) ≡ waiting_under W a s
lookup_is a s [] h = refl
lookup_is a s (w ∷ ws) h =
    ap (λ b. cond b (Some w) (lookup (is_at (nat_cmp s)) (numbered ws))) (cmp_at a s w (and_left (is_by a w) (list_all (is_by a) ws) h))
    ∙ ap (λ r. cond (is_numbered a s w) (Some w) r) (lookup_is a s ws (and_right (is_by a w) (list_all (is_by a) ws) h))

insert_is : (o : Op) (W : List Op) → list_all (is_by o.author) W ≡ true → waiting_under W o.author o.seq ≡ None → insert_entry nat_cmp (numbered W) o.seq o ≡ numbered (with_waiting o W)
insert_is o [] k h = refl
insert_is o (w ∷ ws) k h = go (nat_cmp o.seq w.seq) refl (insert_is o ws (and_right (is_by o.author w) (list_all (is_by o.author) ws) k) (sym (ap (λ b. cond b (Some w) (waiting_under ws o.author o.seq)) other) ∙ h))
  where
    by : is_by o.author w ≡ true
    by = and_left (is_by o.author w) (list_all (is_by o.author) ws) k

    other : is_numbered o.author o.seq w ≡ false
    other = not_found (is_numbered o.author o.seq) w (w ∷ ws) h (inl refl)

    placed : (b : Bool) → comes_before w o ≡ b → numbered (cond b (w ∷ with_waiting o ws) (o ∷ (w ∷ ws))) ≡ numbered (with_waiting o (w ∷ ws))
    placed b e = ap (λ t. numbered (cond t (w ∷ with_waiting o ws) (o ∷ (w ∷ ws)))) (sym e)

    go : (c : Ordering) → nat_cmp o.seq w.seq ≡ c → insert_entry nat_cmp (numbered ws) o.seq o ≡ numbered (with_waiting o ws) → match_ordering c ((o.seq, o) ∷ numbered (w ∷ ws)) ((w.seq, o) ∷ numbered ws) ((w.seq, w) ∷ insert_entry nat_cmp (numbered ws) o.seq o) ≡ numbered (with_waiting o (w ∷ ws))
    go Less c e = placed false (not_after o w (cmp_less o w by c))
    go Equal c e = absurd (true_false (is_numbered o.author o.seq w) (sym (cmp_at o.author o.seq w by) ∙ ap is_eq c) other)
    go Greater c e = ap (λ es. (w.seq, w) ∷ es) e ∙ placed true (cmp_greater o w by c)

remove_is : (a s : ℕ) (W : List Op) → list_all (is_by a) W ≡ true → is_in_order W ≡ true → remove_entry (is_at (nat_cmp s)) (numbered W) ≡ numbered (without a s W)
remove_is a s [] k h = refl
remove_is a s (w ∷ ws) k h =
    ap (λ b. cond b (numbered ws) ((w.seq, w) ∷ remove_entry (is_at (nat_cmp s)) (numbered ws))) (cmp_at a s w (and_left (is_by a w) (list_all (is_by a) ws) k))
    ∙ go (is_numbered a s w) refl (remove_is a s ws (and_right (is_by a w) (list_all (is_by a) ws) k) (and_right (list_all (comes_before w) ws) (is_in_order ws) h))
  where
    go : (b : Bool) → is_numbered a s w ≡ b → remove_entry (is_at (nat_cmp s)) (numbered ws) ≡ numbered (without a s ws) → cond b (numbered ws) ((w.seq, w) ∷ remove_entry (is_at (nat_cmp s)) (numbered ws)) ≡ numbered (cond b (without a s ws) (w ∷ without a s ws))
    go true t e = sym (ap numbered (none_behind a s w ws t (and_left (list_all (comes_before w) ws) (is_in_order ws) h)))
    go false t e = ap (λ es. (w.seq, w) ∷ es) e

-- ---- the same of a map that has the operations, each under its number

module _ (es : List (ℕ × Op)) (W : List Op) (own : es ≡ numbered W) where
  pub looked_up : (a s : ℕ) → list_all (is_by a) W ≡ true → lookup (is_at (nat_cmp s)) es ≡ waiting_under W a s
  looked_up a s h = ap (lookup (is_at (nat_cmp s))) own ∙ lookup_is a s W h

  pub inserted : (o : Op) (ds : List (ℕ × Op)) → list_all (is_by o.author) W ≡ true → waiting_under W o.author o.seq ≡ None → ds ≡ insert_entry nat_cmp es o.seq o → ds ≡ numbered (with_waiting o W)
  inserted o ds k h e = e ∙ ap (λ cs. insert_entry nat_cmp cs o.seq o) own ∙ insert_is o W k h

  pub removed : (a s : ℕ) (ds : List (ℕ × Op)) → list_all (is_by a) W ≡ true → is_in_order W ≡ true → ds ≡ remove_entry (is_at (nat_cmp s)) es → ds ≡ numbered (without a s W)
  removed a s ds k h e = e ∙ ap (remove_entry (is_at (nat_cmp s))) own ∙ remove_is a s W k h

-- ---- lists with one operation more or less

-- an operation under a new number keeps the order
pub with_new : (o : Op) (W : List Op) → is_in_order W ≡ true → waiting_under W o.author o.seq ≡ None → is_in_order (with_waiting o W) ≡ true
with_new o W h e = with_in_order o W h (λ x p. not_found (is_numbered o.author o.seq) x W e p)

pub with_passing : (t : Op → Bool) (o : Op) (W : List Op) → t o ≡ true → list_all t W ≡ true → list_all t (with_waiting o W) ≡ true
with_passing t o [] h k = and_true (t o) true h refl
with_passing t o (w ∷ ws) h k = go (comes_before w o) (with_passing t o ws h (and_right (t w) (list_all t ws) k))
  where
    go : (b : Bool) → list_all t (with_waiting o ws) ≡ true → list_all t (cond b (w ∷ with_waiting o ws) (o ∷ w ∷ ws)) ≡ true
    go true e = and_true (t w) (list_all t (with_waiting o ws)) (and_left (t w) (list_all t ws) k) e
    go false e = and_true (t o) (list_all t (w ∷ ws)) h k

pub without_passing : (t : Op → Bool) (a s : ℕ) (W : List Op) → list_all t W ≡ true → list_all t (without a s W) ≡ true
without_passing t a s [] h = refl
without_passing t a s (w ∷ ws) h = go (is_numbered a s w) (without_passing t a s ws (and_right (t w) (list_all t ws) h))
  where
    go : (b : Bool) → list_all t (without a s ws) ≡ true → list_all t (cond b (without a s ws) (w ∷ without a s ws)) ≡ true
    go true e = e
    go false e = and_true (t w) (list_all t (without a s ws)) (and_left (t w) (list_all t ws) h) e

pub length-with : (o : Op) (W : List Op) → length (with_waiting o W) ≡ suc (length W)
length-with o [] = refl
length-with o (w ∷ ws) = go (comes_before w o) (length-with o ws)
  where
    go : (b : Bool) → length (with_waiting o ws) ≡ suc (length ws) → length (cond b (w ∷ with_waiting o ws) (o ∷ w ∷ ws)) ≡ suc (suc (length ws))
    go true e = ap suc e
    go false e = refl

pub length-without_one : (a s : ℕ) (x : Op) (W : List Op) → is_in_order W ≡ true → waiting_under W a s ≡ Some x → suc (length (without a s W)) ≡ length W
length-without_one a s x [] h e = absurd (cc)
length-without_one a s x (w ∷ ws) h e = go (is_numbered a s w) refl e (length-without_one a s x ws (and_right (list_all (comes_before w) ws) (is_in_order ws) h))
  where
    go : (b : Bool) → is_numbered a s w ≡ b → cond b (Some w) (waiting_under ws a s) ≡ Some x → (waiting_under ws a s ≡ Some x → suc (length (without a s ws)) ≡ length ws) → suc (length (cond b (without a s ws) (w ∷ without a s ws))) ≡ suc (length ws)
    go true t f ih = ap (λ V. suc (length V)) (none_behind a s w ws t (and_left (list_all (comes_before w) ws) (is_in_order ws) h))
    go false t f ih = ap suc (ih f)
