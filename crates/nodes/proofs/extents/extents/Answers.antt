use Rattle.std.proofs.Common.{◌<◌, ◌≤◌, length, get_or, ℤ, pos, refl, ◌∙◌, arith, length-set}
use Rattle.integer.specs.Numbers.{Within}
use Rattle.integer.proofs.Machine.{kept}
use Rattle.nodes.specs.Tables.{Algebra, shape_of}
use Rattle.nodes.specs.Meanings.{extents}
use Rattle.nodes.specs.Formed.{no_node}
use Rattle.nodes.specs.TablesLemmas.{earlier}
use Rattle.nodes.proofs.Steps.{next_is, small_entry, stored_entry}
use Rattle.nodes.proofs.ExtentCode.{ready}
use Rattle.nodes.proofs.extents.extents.Goals as goal

pub extent_of-requires : goal.extent_of-requires
extent_of-requires g c =
    let nodes = c.args.nodes.now.all.now in let formed = c.args.nodes.now.formed in let i = c.loop-i.i in let taken = c.loop-i-test.true in
    let al : Algebra ℤ = extents (λ n. g.E.Extent.quadric_of c.args.extent.now n) g.E.Extent.MARGIN in
    let few : c.loop-i.i ≤ 64 = omega (arith, c.loop-i-test.true, c.args.nodes.now.few) in
    ready (get_or nodes i no_node) c.loop-i.out i few
    (small_entry al nodes formed c.loop-i.out i taken c.loop-i.invariant.1 (λ (x : ℤ). Within x (pos 1152921504606846976)) (g.met.E.Extent.all_small c.args.extent.now nodes formed))
    (shape_of (get_or nodes i no_node)) (earlier nodes formed i taken) (formed.keeps i taken)

pub loop-i-preserved : goal.loop-i-preserved
loop-i-preserved g c =
    let nodes = c.args.nodes.now.all.now in let formed = c.args.nodes.now.formed in let i = c.loop-i.i in let taken = c.loop-i-test.true in
    let inv = c.loop-i.invariant in let out = c.loop-i.out in
    let al : Algebra ℤ = extents (λ n. g.E.Extent.quadric_of c.args.extent.now n) g.E.Extent.MARGIN in
    let inside : i < length c.loop-i.out = omega (arith, c.loop-i-test.true, inv.0, c.args.nodes.now.few) in (
      simp length-set inv.0,
      stored_entry al nodes out i _ inside inv.1
          (kept c.extent_of.type_inv ∙ c.extent_of.ensures ∙ next_is al nodes formed out i taken inv.1 (shape_of (get_or nodes i no_node)) refl),
    )
