use Rattle.std.proofs.Common.{rules}
use Rattle.std.proofs.lemmas.Fn.{filter_same}
use Rattle.wb_store.specs.declared.records.Record.{Record}
use Rattle.wb_store.specs.invariants.Removals.{stays}
use Rattle.wb_store.proofs.removals.drop_records.Goals as goal

pub returns : goal.returns
returns c = filter_same _ (λ (r : Record). stays c.args.dead.now r) _ (λ x b f' k. search rules) _ _ c.retain.ensures.filtered
