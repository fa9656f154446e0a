use Rattle.areas.proofs.Uniting.{next_can, next_united, all_united}
use Rattle.areas.proofs.joining.unite.Goals as goal

pub with_slot-so_far-requires : goal.with_slot-so_far-requires
with_slot-so_far-requires g c =
    let j = c.args.joining.now in
    next_can (g.J.Joining.join j) (g.J.Joining.given j) c.args.start c.args.slots.now c.loop-number._number c.loop-number.invariant (g.J.Joining.can j) c.requires c.loop-number-test.true

pub loop-number-preserved : goal.loop-number-preserved
loop-number-preserved g c =
    let j = c.args.joining.now in
    next_united (g.J.Joining.join j) (g.J.Joining.given j) c.args.start c.args.slots.now c.loop-number._number c.loop-number.invariant c.loop-number-test.true c.with_slot-so_far.ensures

pub returns : goal.returns
returns g c =
    let j = c.args.joining.now in
    all_united (g.J.Joining.join j) (g.J.Joining.given j) c.args.start c.args.slots.now c.loop-number._number c.loop-number.invariant c.loop-number-test.false
