use Rattle.std.proofs.Common.{◌≡◌, ◌≤◌, drop}
use Rattle.table.specs.Number.{read_on, capped}
use Rattle.table.proofs.number.parsed.Given as goal

abbrev pub invariant-loop-digit : goal.invariant-loop-digit
invariant-loop-digit l = (capped (read_on l.number (drop l.digit-index l.digits)) ≡ capped (read_on 0 l.digits)) × (l.number ≤ 2147483647)
