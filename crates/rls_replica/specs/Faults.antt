-- Which numbers and messages are refused.
use Rattle.std.specs.Prelude.{◌≡◌, ◌≢◌, ◌<◌, ◌≤◌, ◌⊎◌, ℕ}
use Rattle.rls_ident.specs.declared.limits.TheConstants.{MEMBERS}
use Rattle.rls_ops.specs.declared.message.Message.{Message}
use Rattle.rls_seen.specs.Seen.{Seen, members}

-- no count of members
abbrev pub IsNoCount : ℕ → Type 0
IsNoCount n = (n ≡ 0) ⊎ (MEMBERS < n)

-- a count of members, and a number that isn't one of theirs
abbrev pub IsNoMember : ℕ → ℕ → Type 0
IsNoMember me n = (0 < n) × (n ≤ MEMBERS) × (n ≤ me)

-- the message comes from another group, or one with another count of members
abbrev pub IsForeign : Seen → Message → Type 0
IsForeign s m = (m.group ≢ s.group) ⊎ (m.members ≢ members s)
