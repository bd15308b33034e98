use Rattle.std.proofs.Common.{subst}
use Rattle.wb_metamodel.specs.WellFormed.{WellFormed}
use Rattle.wb_model_json.proofs.laws.written_objects_are_read_again.Goals as goal

pub returns : goal.returns
returns c = λ class live.
    c.texts_of_objects_are_those_of_their_rows.ensures c.args.model.now (subst WellFormed c.metamodel.ensures c.well_formed-2.ensures) c.valid.ensures c.args.o class live
