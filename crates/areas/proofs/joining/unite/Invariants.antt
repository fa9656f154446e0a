use Rattle.std.proofs.Common.{◌≡◌, take}
use Rattle.areas.specs.Fields.{united}
use Rattle.areas.proofs.joining.unite.Given as goal

abbrev pub invariant-loop-number : goal.invariant-loop-number
invariant-loop-number g l = l.so_far ≡ united (g.J.Joining.join l.joining) (g.J.Joining.given l.joining) l.initial.so_far (take l._number l.slots)
