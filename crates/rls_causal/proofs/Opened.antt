-- An author gets a queue, which is empty.
use Rattle.std.proofs.Common.{◌≡◌, ℕ, ◌+◌, zero, suc, Bool, true, false, cond, List, [], ◌∷◌, ◌++◌, Option, None, Some, length, refl, ap, ◌∙◌, arith}
use Rattle.std.specs.Prelude.{nat_eq, not, slice_get, insert, remove, is_some, if◌then◌else◌}
use Rattle.std.specs.List.{list_all, position_or_len, IsDistinct}
use Rattle.std.specs.List.Sorted.{IsSorted}
use Rattle.std.specs.Map.{keys_of, values_of, lookup}
use Rattle.std.specs.Option.{option_map_or}
use Rattle.std.specs.Ordering.{nat_cmp}
use Rattle.indexmap.specs.IndexMap.{insert_entry, move_index}
use Rattle.rls_ident.proofs.Members.{and_left, and_right, and_true}
use Rattle.rls_ops.specs.declared.op.Op.{Op}
use Rattle.rls_ops.specs.Waiting.{is_in_order}
use Rattle.rls_causal.specs.Queues.{joined, is_own, AreQueues}

pub is_none : (r : Option (List Op)) (b : Bool) → b ≡ is_some r → b ≡ false → r ≡ None
is_none None b e f = refl
is_none (Some W) b e f = absurd (cc)

-- ---- where it is put

absent_head : (a : ℕ) (e : ℕ × List Op) (es : List (ℕ × List Op)) → lookup (nat_eq a) (e ∷ es) ≡ None → (nat_eq a e.0 ≡ false) × (lookup (nat_eq a) es ≡ None)
absent_head a e es h = go (nat_eq a e.0) refl h
  where
    go : (b : Bool) → nat_eq a e.0 ≡ b → cond b (Some e.1) (lookup (nat_eq a) es) ≡ None → (nat_eq a e.0 ≡ false) × (lookup (nat_eq a) es ≡ None)
    go true t f = absurd (cc)
    go false t f = (t, f)

at_end : (a : ℕ) (V : List Op) (es : List (ℕ × List Op)) → lookup (nat_eq a) es ≡ None → insert_entry nat_eq es a V ≡ es ++ (a, V) ∷ []
at_end a V [] h = refl
at_end a V (e ∷ es) h =
    let p = absent_head a e es h in
    ap (λ b. if b then (e.0, V) ∷ es else e ∷ insert_entry nat_eq es a V) p.0 ∙ ap (λ ds. e ∷ ds) (at_end a V es p.1)

place_at_end : (a : ℕ) (es : List (ℕ × List Op)) → lookup (nat_eq a) es ≡ None → position_or_len (nat_eq a) (keys_of es) ≡ length es
place_at_end a [] h = refl
place_at_end a (e ∷ es) h =
    let p = absent_head a e es h in
    let rest = place_at_end a es p.1 in
    ap (λ b. cond (not b) (1 + position_or_len (nat_eq a) (keys_of es)) 0) p.0 ∙ omega (arith, rest)

get_end : (x : ℕ × List Op) (es : List (ℕ × List Op)) → slice_get (es ++ x ∷ []) (length es) ≡ Some x
get_end x [] = refl
get_end x (e ∷ es) = get_end x es

remove_end : (x : ℕ × List Op) (es : List (ℕ × List Op)) → remove (es ++ x ∷ []) (length es) ≡ es
remove_end x [] = refl
remove_end x (e ∷ es) = ap (λ ds. e ∷ ds) (remove_end x es)

moved : (a i : ℕ) (V : List Op) (es : List (ℕ × List Op)) → lookup (nat_eq a) es ≡ None → move_index (insert_entry nat_eq es a V) (position_or_len (nat_eq a) (keys_of es)) i ≡ insert es i (a, V)
moved a i V es h =
    ap (λ ds. move_index ds (position_or_len (nat_eq a) (keys_of es)) i) (at_end a V es h)
    ∙ ap (λ n. move_index (es ++ (a, V) ∷ []) n i) (place_at_end a es h)
    ∙ ap (λ r. option_map_or (λ x. insert (remove (es ++ (a, V) ∷ []) (length es)) i x) r (es ++ (a, V) ∷ [])) (get_end (a, V) es)
    ∙ ap (λ ds. insert ds i (a, V)) (remove_end (a, V) es)

-- ---- what it changes

joined_insert : (a i : ℕ) (es : List (ℕ × List Op)) → joined (values_of (insert es i (a, []))) ≡ joined (values_of es)
joined_insert a zero [] = refl
joined_insert a zero (e ∷ es) = refl
joined_insert a (suc i) [] = refl
joined_insert a (suc i) (e ∷ es) = ap (λ V. e.1 ++ V) (joined_insert a i es)

own_insert : (a i : ℕ) (es : List (ℕ × List Op)) → list_all is_own es ≡ true → list_all is_own (insert es i (a, [])) ≡ true
own_insert a zero [] h = refl
own_insert a zero (e ∷ es) h = h
own_insert a (suc i) [] h = refl
own_insert a (suc i) (e ∷ es) h = and_true (is_own e) (list_all is_own (insert es i (a, []))) (and_left (is_own e) (list_all is_own es) h) (own_insert a i es (and_right (is_own e) (list_all is_own es) h))

module _ (a i : ℕ) (V : List Op) (es ds : List (ℕ × List Op)) (empty : V ≡ []) (absent : lookup (nat_eq a) es ≡ None) (is : ds ≡ move_index (insert_entry nat_eq es a V) (position_or_len (nat_eq a) (keys_of es)) i) where
  opened : ds ≡ insert es i (a, [])
  opened = is ∙ moved a i V es absent ∙ ap (λ W. insert es i (a, W)) empty

  pub opened_same : joined (values_of ds) ≡ joined (values_of es)
  opened_same = ap (λ cs. joined (values_of cs)) opened ∙ joined_insert a i es

  pub opened_queues : AreQueues es → IsSorted nat_cmp (keys_of ds) → IsDistinct nat_eq (keys_of ds) → AreQueues ds
  opened_queues q sorted apart = record {
    own = ap (list_all is_own) opened ∙ own_insert a i es q.own;
    sorted = sorted;
    apart = apart;
    order = ap is_in_order opened_same ∙ q.order;
  }
