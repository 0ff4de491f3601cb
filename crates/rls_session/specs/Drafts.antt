-- What an editor changed and is no operation yet.
use Rattle.std.specs.Prelude.{◌≡◌, ℕ, ◌+◌, ◌-◌, ◌≤◌, ◌==◌, ◌&&◌, Bool, not, nat_le, nat_lt, ◌^◌, min, List, [], ◌++◌, length, take, drop, Option, Some, None, if◌then◌else◌}
use Rattle.rls_session.specs.declared.draft.Draft.{Draft}
use Rattle.rls_session.specs.declared.draft.TheConstants.{DRAFT_CHARACTERS}

abbrev pub no_draft : Draft
no_draft = record { at = 0; count = 0; text = [] }

abbrev pub is_none : Draft → Bool
is_none p = (p.count == 0) && (length p.text == 0)

-- a text with the draft in it; so also a text in which a change was made
abbrev pub shown_by : Draft → List ℕ → List ℕ
shown_by p cs = take p.at cs ++ (p.text ++ drop (p.at + p.count) cs)

-- a change of what is shown touches the draft's text
abbrev pub touches : Draft → Draft → Bool
touches p c = nat_le c.at (p.at + length p.text) && nat_le p.at (c.at + c.count)

-- the draft after it
abbrev pub merged : Draft → Draft → Draft
merged p c = record {
  at = min c.at p.at;
  count = (p.at - c.at) + (p.count + ((c.at + c.count) - (p.at + length p.text)));
  text = take (c.at - p.at) p.text ++ (c.text ++ drop ((c.at + c.count) - p.at) p.text);
}

abbrev pub draft_of : ℕ → ℕ → List ℕ → Draft
draft_of at n cs = record { at = at; count = n; text = cs }

abbrev pub is_small : Draft → Bool
is_small p = nat_le p.count DRAFT_CHARACTERS && nat_le (length p.text) DRAFT_CHARACTERS

-- a change goes on with the draft, where the replica's text has so many characters: it lies within what is shown, whose places fit 64 bits,
-- touches the draft's text, and leaves a draft within bounds
abbrev pub joins : ℕ → Draft → Draft → Bool
joins total p c = nat_lt (total + length p.text) (2 ^ 64) && not (is_none p) && not (is_none c) && nat_le (c.at + c.count) (total - p.count + length p.text) && touches p c && is_small (merged p c)

abbrev pub joined : ℕ → Draft → Draft → Option Draft
joined total p c = if joins total p c then Some (merged p c) else None

-- ---- the law

-- what is shown with the draft after a change is what was shown before, with that change
abbrev pub MergesShown : Type 0
MergesShown = (p c : Draft) (cs : List ℕ) → p.at + p.count ≤ length cs → c.at ≤ p.at + length p.text → p.at ≤ c.at + c.count → shown_by (merged p c) cs ≡ shown_by c (shown_by p cs)
