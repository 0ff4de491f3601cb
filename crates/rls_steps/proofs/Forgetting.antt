-- Steps without the oldest.
use Rattle.std.proofs.Common.{◌≡◌, ℕ, zero, suc, ◌-◌, ◌≤◌, List, [], ◌∷◌, length, take, drop, refl, sym, ap, ◌∙◌, subst}
use Rattle.std.specs.Prelude.{reverse}
use Rattle.std.proofs.lemmas.List.{take-append-drop, take_at, length-map, length-reverse, length-drop}
use Rattle.rls_steps.specs.declared.piece.Step.{Step}
use Rattle.rls_steps.specs.Marks.{Marked, Piece, Put, Cut}
use Rattle.rls_steps.specs.Back.{LeadBack, ArePieces}
use Rattle.rls_steps.specs.Labelled.{Labelled, Leads}
use Rattle.rls_steps.specs.Forgetting.{ForgettingShows}
use Rattle.rls_steps.specs.Recorded.{pieces_of, steps_over}
use Rattle.rls_steps.proofs.Stacks.{pieces_more}

lead_fewer : (n : ℕ) (m : Marked) (ps : List Piece) (ts : List (List ℕ)) → LeadBack m ps ts → LeadBack m (take n ps) (take n ts)
lead_fewer zero m ps ts l = refl
lead_fewer (suc n) m [] ts l = ap (take (suc n)) l
lead_fewer (suc n) m (Put labels ∷ ps) [] l = absurd l
lead_fewer (suc n) m (Cut labels cs left right ∷ ps) [] l = absurd l
lead_fewer (suc n) m (Put labels ∷ ps) (t ∷ ts) (front, cs, rest, put, same, back) = (front, cs, rest, put, same, lead_fewer n _ ps ts back)
lead_fewer (suc n) m (Cut labels cs left right ∷ ps) (t ∷ ts) (front, rest, cut, same, back) = (front, rest, cut, same, lead_fewer n _ ps ts back)

given_fewer : (next n : ℕ) (ps : List Piece) → ArePieces next ps → ArePieces next (take n ps)
given_fewer next zero ps g = tt
given_fewer next (suc n) [] g = tt
given_fewer next (suc n) (Put labels ∷ ps) g = (g.0, given_fewer next n ps g.1)
given_fewer next (suc n) (Cut labels cs left right ∷ ps) g = (g.0, g.1, given_fewer next n ps g.2)

leads_fewer : (h : Labelled) (n : ℕ) (ps : List Piece) (ts : List (List ℕ)) → Leads h ps ts → Leads h (take n ps) (take n ts)
leads_fewer h n ps ts l = record { given = given_fewer h.next n ps l.given; back = lead_fewer n _ ps ts l.back }

pieces_length : (xs : List Step) → length (pieces_of xs) ≡ length xs
pieces_length xs = length-map (reverse xs) (λ (x : Step). x.piece) ∙ length-reverse xs

pieces_left : (k : ℕ) (xs : List Step) → k ≤ length xs → pieces_of (drop k xs) ≡ take (length xs - k) (pieces_of xs)
pieces_left k xs h =
    let n : length (pieces_of (drop k xs)) ≡ length xs - k = pieces_length (drop k xs) ∙ length-drop k xs in
    sym (ap (λ (ys : List Step). take (length xs - k) (pieces_of ys)) (sym (take-append-drop k xs))
    ∙ (ap (take (length xs - k)) (pieces_more (take k xs) (drop k xs)) ∙ take_at (pieces_of (drop k xs)) (pieces_of (take k xs)) (length xs - k) n))

pub forgetting_shows : ForgettingShows
forgetting_shows s r c k h x =
    let n = length r.past - k in
    let held = (steps_over s r).held in
    record {
      labelled = x.labelled;
      text = x.text;
      back = subst (λ (ps : List Piece). Leads held ps (take n c.before)) (sym (pieces_left k r.past h)) (leads_fewer held n (pieces_of r.past) c.before x.back);
      forth = x.forth;
    }
