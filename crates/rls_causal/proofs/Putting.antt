-- An operation is put where none, or an equal one, waits under its number: as if that one were taken out first.
use Rattle.std.proofs.Common.{◌≡◌, ℕ, true, false, cond, List, [], ◌∷◌, None, Some, refl, sym, ap, ◌∙◌, inl, inr, ◌⊎◌}
use Rattle.std.specs.List.{list_all}
use Rattle.rls_ident.proofs.Members.{and_left, and_right, bool_cases, in_all, not_found, found_in, some_is}
use Rattle.rls_ops.specs.declared.op.Op.{Op}
use Rattle.rls_ops.specs.Waiting.{is_numbered, waiting_under, comes_before, with_waiting, without, is_in_order}
use Rattle.rls_ops.proofs.Waiting.{none_behind, not_after}
use Rattle.rls_causal.specs.Putting.{put_beside, put_in}

pub without_none : (a s : ℕ) (W : List Op) → waiting_under W a s ≡ None → without a s W ≡ W
without_none a s [] h = refl
without_none a s (w ∷ ws) h =
    let e : is_numbered a s w ≡ false = not_found (is_numbered a s) w (w ∷ ws) h (inl refl) in
    let rest : waiting_under ws a s ≡ None = sym (ap (λ b. cond b (Some w) (waiting_under ws a s)) e) ∙ h in
    ap (λ b. cond b (without a s ws) (w ∷ without a s ws)) e ∙ ap (λ xs. w ∷ xs) (without_none a s ws rest)

-- before those that come after it
pub with_front : (o : Op) (W : List Op) → list_all (comes_before o) W ≡ true → with_waiting o W ≡ o ∷ W
with_front o [] h = refl
with_front o (w ∷ ws) h = ap (λ b. cond b (w ∷ with_waiting o ws) (o ∷ w ∷ ws)) (not_after o w (and_left (comes_before o w) (list_all (comes_before o) ws) h))

put_again : (o : Op) (W : List Op) → is_in_order W ≡ true → waiting_under W o.author o.seq ≡ Some o → with_waiting o (without o.author o.seq W) ≡ W
put_again o [] h e = absurd (cc)
put_again o (w ∷ ws) h e = bool_cases (is_numbered o.author o.seq w) here (later (put_again o ws (and_right (list_all (comes_before w) ws) (is_in_order ws) h)))
  where
    behind : list_all (comes_before w) ws ≡ true
    behind = and_left (list_all (comes_before w) ws) (is_in_order ws) h

    here : is_numbered o.author o.seq w ≡ true → with_waiting o (without o.author o.seq (w ∷ ws)) ≡ w ∷ ws
    here t =
        let same : w ≡ o = some_is w o (sym (ap (λ b. cond b (Some w) (waiting_under ws o.author o.seq)) t) ∙ e) in
        ap (λ b. with_waiting o (cond b (without o.author o.seq ws) (w ∷ without o.author o.seq ws))) t
        ∙ ap (with_waiting o) (none_behind o.author o.seq w ws t behind)
        ∙ with_front o ws (ap (λ x. list_all (comes_before x) ws) (sym same) ∙ behind)
        ∙ ap (λ x. x ∷ ws) (sym same)

    later : (waiting_under ws o.author o.seq ≡ Some o → with_waiting o (without o.author o.seq ws) ≡ ws) → is_numbered o.author o.seq w ≡ false → with_waiting o (without o.author o.seq (w ∷ ws)) ≡ w ∷ ws
    later again t =
        let there : waiting_under ws o.author o.seq ≡ Some o = sym (ap (λ b. cond b (Some w) (waiting_under ws o.author o.seq)) t) ∙ e in
        let before : comes_before w o ≡ true = in_all (comes_before w) o ws behind (found_in (is_numbered o.author o.seq) o ws there).0 in
        ap (λ b. with_waiting o (cond b (without o.author o.seq ws) (w ∷ without o.author o.seq ws))) t
        ∙ ap (λ b. cond b (w ∷ with_waiting o (without o.author o.seq ws)) (o ∷ w ∷ without o.author o.seq ws)) before
        ∙ ap (λ xs. w ∷ xs) (again there)

pub put_over : (o : Op) (W : List Op) → is_in_order W ≡ true → (waiting_under W o.author o.seq ≡ None) ⊎ (waiting_under W o.author o.seq ≡ Some o) → put_in o W ≡ with_waiting o (without o.author o.seq W)
put_over o W h (inl e) = ap (λ w. put_beside w o W) e ∙ ap (with_waiting o) (sym (without_none o.author o.seq W e))
put_over o W h (inr e) = ap (λ w. put_beside w o W) e ∙ sym (put_again o W h e)
