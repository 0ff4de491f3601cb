use Rattle.unicode_segmentation.specs.Iter.{graphemes_left}
use Rattle.rls_script.proofs.Places.{IsPlace}
use Rattle.rls_script.proofs.clusters.cluster_before.Given as goal

abbrev pub invariant-loop-cluster : goal.invariant-loop-cluster
invariant-loop-cluster l = IsPlace l.text l.at l.begin (graphemes_left l.cluster-iterator)
