-- Identifiers of a run that stand in a text.
use Rattle.std.proofs.Common.{◌≡◌, ◌∙◌, ℕ, zero, suc, ◌+◌, ◌<◌, List, [], ◌∷◌, take, drop, true, Some, slice_get, sym, ap}
use Rattle.std.specs.Prelude.{pos}
use Rattle.std.specs.Ordering.{is_eq}
use Rattle.std.proofs.lemmas.Cmp.{lists_total, tied_itself}
use Rattle.rls_ident.specs.declared.tuple.Tuple.{Tuple}
use Rattle.rls_ident.specs.Identifiers.{ident_eq, shifted}
use Rattle.rls_ident.proofs.Members.{any_in, in_any, in_drop, in_take, or_left, or_right, some_is}
use Rattle.rls_ident.proofs.Shifted.{shifted_shifted}
use Rattle.rls_ident.proofs.Tuples.{tuple_total}
use Rattle.rls_runs.specs.Runs.{run_idents}
use Rattle.rls_runs.specs.Entries.{has_ident}
use Rattle.rls_runs.proofs.RunOrder.{run_gets}

-- what stands at a place is there
pub has_got : (xs : List (List Tuple)) (i : ℕ) (x : List Tuple) → slice_get xs i ≡ Some x → has_ident xs x ≡ true
has_got [] i x h = absurd (cc)
has_got (y ∷ ys) zero x h = or_left (ident_eq y x) (has_ident ys x) (ap (λ z. ident_eq z x) (some_is y x h) ∙ ap is_eq (tied_itself (lists_total tuple_total) x))
has_got (y ∷ ys) (suc i) x h = or_right (ident_eq y x) (has_ident ys x) (has_got ys i x h)

-- what is among some of them is there
has_part : (xs : List (List Tuple)) (i n : ℕ) (x : List Tuple) → has_ident (take n (drop i xs)) x ≡ true → has_ident xs x ≡ true
has_part xs i n x h =
    let p = in_any (λ y. ident_eq y x) (take n (drop i xs)) h in
    any_in (λ y. ident_eq y x) p.0 xs (in_drop i p.0 xs (in_take n p.0 (drop i xs) p.1)) p.2

-- an identifier of a run that stands there, of which the first one is that of another run from a place on
pub stands : (xs : List (List Tuple)) (i n from k : ℕ) (x : List Tuple) → take n (drop i xs) ≡ run_idents (shifted (pos from) x) n → k < n → has_ident xs (shifted (pos (from + k)) x) ≡ true
stands xs i n from k x h l =
    let y = shifted (pos from) x in
    ap (has_ident xs) (sym (shifted_shifted (pos k) (pos from) x))
    ∙ has_part xs i n (shifted (pos k) y) (ap (λ zs. has_ident zs (shifted (pos k) y)) h ∙ has_got (run_idents y n) k (shifted (pos k) y) (run_gets y n k l))
