use Rattle.std.proofs.Common.{◌≡◌, Ok, rules}
use Rattle.sheet.specs.Held.{data_of}
use Rattle.loading.specs.Loading.{loaded_of}
use Rattle.loading.proofs.Loaded.{loaded_built, same_loaded}
use Rattle.loading.proofs.tables.load.Goals as goal

pub returns-clause-built : goal.returns-clause-built
returns-clause-built c =
    let nodes = c.args.nodes.now in
    let areas = c.args.areas.now in
    let sheet = data_of c.load_table-2.new.sheet in
    let exact : loaded_of nodes areas ≡ Ok sheet = search rules in
    loaded_built nodes areas sheet exact

pub returns-in_err-sheet-clause-same : goal.returns-in_err-sheet-clause-same
returns-in_err-sheet-clause-same c = same_loaded c.args.nodes.now c.args.areas.now

pub returns-in_err-load_table-clause-same : goal.returns-in_err-load_table-clause-same
returns-in_err-load_table-clause-same c = same_loaded c.args.nodes.now c.args.areas.now

pub returns-in_err-load_table-2-clause-same : goal.returns-in_err-load_table-2-clause-same
returns-in_err-load_table-2-clause-same c = same_loaded c.args.nodes.now c.args.areas.now

pub returns-clause-same : goal.returns-clause-same
returns-clause-same c = same_loaded c.args.nodes.now c.args.areas.now
