use Rattle.std.proofs.Common.{◌∙◌, sym, ap}
use Rattle.std.specs.Option.{option_map}
use Rattle.serde_json.specs.View.{view}
use Rattle.wb_model_json.proofs.RowsAgain.{none-spelled}
use Rattle.wb_model_json.proofs.row_reading.read_object.Goals as goal

pub returns-in-None-clause-none : goal.returns-in-None-clause-none
returns-in-None-clause-none c = λ none r t. none-spelled c.args.metamodel.now c.well_formed-2.ensures c.args.text.now (sym c.in_ok-value.ensures ∙ ap (option_map view) c.in-None.is) r t
