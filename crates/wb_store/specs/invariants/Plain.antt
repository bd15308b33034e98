-- What is true of the list in which objects are kept.
use Rattle.std.specs.Prelude.{◌≡◌, List, true}
use Rattle.std.specs.List.{list_all}
use Rattle.wb_metamodel.specs.Metamodel.{Metamodel}
use Rattle.wb_store.specs.declared.records.Record.{Record}
use Rattle.wb_store.specs.Places.{rises}
use Rattle.wb_store.specs.Records.{id_of, feature_of, is_known}

pub record IsPlain (metamodel : Metamodel) (records : List Record) : Type 0 where
  -- objects by number, and the slots of each by feature
  pub objects_rise : rises id_of records ≡ true
  pub slots_rise : list_all (λ (r : Record). rises feature_of r.slots) records ≡ true
  pub known : list_all (is_known metamodel) records ≡ true
