use Rattle.wb_metamodel.proofs.Wholes.{names-read}
use Rattle.wb_metamodel.proofs.reading.read_metamodel.Goals as goal

pub checked-requires-clause-names : goal.checked-requires-clause-names
checked-requires-clause-names c = names-read c.args.bytes.now c.in_ok-document.document c.in_ok-document.ensures
