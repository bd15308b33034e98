use Rattle.std.proofs.Common.{arith, ap, ◌∙◌}
use Rattle.std.specs.Result.{result_ok}
use Rattle.std.proofs.lemmas.Fmt.{parse-decimal}
use Rattle.wb_diagram.proofs.key_reader.read_number.Goals as goal

pub returns-clause-complete : goal.returns-clause-complete
returns-clause-complete c = λ n small is.
    c.ok.ensures.value ∙ ap result_ok (parse-decimal 32 n c.args.text.now c.parse.result small (omega arith) is c.parse.ensures.value.0)
