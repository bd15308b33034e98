use Rattle.wb_model_json.proofs.PartLemmas.{are_parts}
use Rattle.wb_model_json.proofs.TextNames.{text-names}
use Rattle.wb_model_json.proofs.reading.made.Goals as goal

pub build-requires : goal.build-requires
build-requires c = are_parts c.args.metamodel c.args.text.now c.args.parts (text-names c.requires.read.0 c.args.text.now c.requires.read.1) c.requires.parts
