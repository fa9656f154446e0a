use Rattle.std.proofs.Common.{take}
use Rattle.nodes.specs.Formed.{WellFormed}
use Rattle.nodes_tests.proofs.build.Given as goal

abbrev pub invariant-loop-i : goal.invariant-loop-i
invariant-loop-i l = WellFormed (take l.i l.nodes)
