-- What a replica consists of.
use Rattle.std.specs.Prelude.{ℕ, List, [], replicate, slice_index, length}
use Rattle.rls_ident.specs.declared.tuple.Tuple.{Tuple}
use Rattle.rls_ident.specs.declared.epoch_name.EpochName.{EpochName}
use Rattle.rls_ident.specs.declared.epoch_name.EpochName.TheVariants.{Origin}
use Rattle.rls_runs.specs.Entries.{Entries, idents_in, chars_in}
use Rattle.rls_rename.specs.Tree.{Epochs}
use Rattle.rls_rename.specs.Tree as tree
use Rattle.rls_ops.specs.declared.op.Op.{Op}
use Rattle.rls_ops.specs.Rows.{AcksSeen, starting_at, stable_of, missing_for}
use Rattle.rls_model.specs.declared.parts.Stem.{Stem}

pub record Seen : Type 0 where
  pub group : ℕ
  -- the own number, the rows and who has left
  pub acks : AcksSeen
  pub stems : List Stem
  -- the epochs that are kept
  pub epochs : Epochs
  -- identifiers of the greatest epoch, in increasing order, with their characters
  pub text : Entries
  -- in increasing order of author and number
  pub waiting : List Op
  -- the accepted operations that are kept, in order
  pub log : List Op

-- the vector, which is the own row
abbrev pub vector : Seen → List ℕ
vector s = s.acks.mine

-- the count of members
abbrev pub members : Seen → ℕ
members s = length s.acks.mine

-- how many operations of a member were accepted
abbrev pub count_over : Seen → ℕ → ℕ
count_over s a = slice_index s.acks.mine a

-- how many own operations were made
abbrev pub own_count : Seen → ℕ
own_count s = slice_index s.acks.mine s.acks.me

-- what every member that hasn't left has accepted
abbrev pub stable_over : Seen → List ℕ
stable_over s = stable_of s.acks

-- the operations that aren't stable, in order
abbrev pub unstable_over : Seen → List Op
unstable_over s = missing_for (stable_over s) s.log

-- the greatest epoch
abbrev pub greatest_over : Seen → EpochName
greatest_over s = tree.greatest s.epochs.top s.epochs.nodes

-- the greatest epoch within the vector
abbrev pub due_over : Seen → List ℕ → EpochName
due_over s v = tree.greatest_within s.epochs.top s.epochs.nodes v

-- x from epoch e to epoch f
abbrev pub translate_over : Seen → EpochName → EpochName → List Tuple → List Tuple
translate_over s e f x = tree.translate s.epochs.nodes e f x

-- the identifiers of the text
abbrev pub idents_over : Seen → List (List Tuple)
idents_over s = idents_in s.text

-- the characters of the text
abbrev pub text_over : Seen → List ℕ
text_over s = chars_in s.text

-- nothing has happened
abbrev pub fresh : ℕ → ℕ → ℕ → Seen
fresh group me n = record {
  group = group;
  acks = starting_at me (replicate n 0);
  stems = [];
  epochs = record { top = Origin; nodes = [] };
  text = [];
  waiting = [];
  log = [];
}
