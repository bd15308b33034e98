use Rattle.std.proofs.Common.{sym}
use Rattle.wb_store.specs.Records.{id_of}
use Rattle.wb_store.proofs.Found.{numbered_read, numbered_none}
use Rattle.wb_store.proofs.records.find_object.Goals as goal

pub returns-in-Some : goal.returns-in-Some
returns-in-Some c = numbered_read id_of _ _ _ _ c.requires c.in-Some.ensures c.index-records-place.is

pub returns-in-None : goal.returns-in-None
returns-in-None c = sym (numbered_none id_of _ _ c.in-None.ensures)
