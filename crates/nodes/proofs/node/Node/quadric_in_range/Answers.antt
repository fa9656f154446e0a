use Rattle.std.proofs.Common.{rules, ◌≡◌, negsuc, pos, ap₂}
use Rattle.std.proofs.Math.Bool.{◌&&◌}
use Rattle.nodes.specs.Validation.{between, all_between}
use Rattle.nodes.proofs.node.Node.quadric_in_range.Goals as goal

pub returns : goal.returns
returns c =
    let node = c.args.self.now in
    let s : c.all_between-scales.result ≡ all_between (negsuc 15) (pos 16) node.sx node.sy node.sz = search rules in
    let l : c.all_between-slopes.result ≡ all_between (negsuc 4095) (pos 4096) node.lx node.ly node.lz = search rules in
    let k : c.contains-level.result ≡ between (negsuc 1073741823) node.k (pos 1073741824) = search rules in
    ap₂ ◌&&◌ (ap₂ ◌&&◌ (ap₂ ◌&&◌ c.centre_on_map.ensures s) l) k
