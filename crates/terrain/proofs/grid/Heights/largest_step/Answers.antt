use Rattle.std.proofs.Common.{max, ◌∙◌, ap₂}
use Rattle.lattice.specs.Terrain.{greatest_step}
use Rattle.terrain.proofs.grid.Heights.largest_step.Goals as goal

pub returns : goal.returns
unfolding greatest_step
returns c = c.max.ensures ∙ ap₂ max (c.greatest.ensures _ (λ j x is. is)) (c.greatest-2.ensures _ (λ j x is. is))
