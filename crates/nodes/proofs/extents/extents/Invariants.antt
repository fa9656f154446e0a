use Rattle.std.proofs.Common.{◌≡◌, ℕ, ◌<◌, length, get_or, pos}
use Rattle.nodes.specs.Tables.{result_of}
use Rattle.nodes.specs.Meanings.{extents}
use Rattle.nodes.proofs.extents.extents.Given as goal

abbrev pub invariant-loop-i : goal.invariant-loop-i
invariant-loop-i g l =
    (length l.out ≡ 64)
    × ((k : ℕ) → k < l.i → get_or l.out k (pos 0) ≡ result_of (extents (λ n. g.E.Extent.quadric_of l.extent n) g.E.Extent.MARGIN) l.nodes.all.now k)
