use Rattle.std.proofs.Common.{◌≡◌, ℕ, ◌<◌, length, get_or}
use Rattle.nodes.specs.Tables.{result_of}
use Rattle.nodes.specs.Meanings.{zero_form}
use Rattle.nodes.specs.Locations.{algebra}
use Rattle.nodes.proofs.list.Nodes.evaluate.Given as goal

abbrev pub invariant-loop-i : goal.invariant-loop-i
invariant-loop-i g l =
    (length l.out ≡ 64)
    × ((k : ℕ) → k < l.i → get_or l.out k zero_form
    ≡ result_of (algebra g.R.Arithmetic.operations (g.R.Arithmetic.axes_at l.leg l.at)) l.self.all.now k)
