use Rattle.std.proofs.Common.{◌≡◌, drop}
use Rattle.wb_aql_check.specs.Names.{is_in}
use Rattle.wb_aql_check.proofs.scope.is_among.Given as goal

-- it is among those that are left where it is among all
abbrev pub invariant-loop-known : goal.invariant-loop-known
invariant-loop-known l = is_in (drop l.known-index l.names) l.name ≡ is_in l.names l.name
