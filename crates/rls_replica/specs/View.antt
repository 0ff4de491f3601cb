-- What a replica is seen as.
use Rattle.std.specs.Prelude.{◌≡◌, ℕ, Option, IfSome}
use Rattle.rls_blocks.specs.Trees.{entries_of}
use Rattle.rls_seen.specs.Seen.{Seen, members}
use Rattle.rls_seen.specs.Sane.{IsSane}
use Rattle.rls_replica.specs.declared.replica.Replica.TheInside.{Inside}
use Rattle.rls_replica.specs.declared.gone.Gone.{Gone}
use Rattle.rls_replica.specs.declared.known.Known.{Known}
use Rattle.rls_replica.specs.Gone.{IsGone}
use Rattle.rls_replica.specs.Known.{IsKnown}

abbrev pub seen : Inside → Seen
seen r = record {
  group = r.group;
  acks = r.acks;
  stems = r.stems.stems;
  epochs = r.epochs.epochs;
  text = entries_of r.document.blocks;
  waiting = r.held;
  log = r.log;
}

-- what holds of the parts: they are sane, the table of stems has a place for each member, and what is kept of gone and of known targets is right
pub record IsWhole (s : Seen) (authors : ℕ) (gone : Option Gone) (known : Option Known) : Type 0 where
  pub sane : IsSane s
  pub authors_are : authors ≡ members s
  pub gone_are : IfSome gone (λ g. IsGone s g)
  pub known_are : IfSome known (λ k. IsKnown s k)
