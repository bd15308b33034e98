use Rattle.std.proofs.Common.{arith}
use Rattle.std.proofs.lemmas.List.Sums.{prefix_len-le-length}
use Rattle.wb_base.specs.Names.{is_name_byte}
use Rattle.wb_aql_tokens.proofs.Runs.{run_of_front}
use Rattle.wb_aql_tokens.proofs.characters.name_len.Goals as goal

pub returns-clause-value : goal.returns-clause-value
returns-clause-value c =
    let text = c.args.text.now in
    omega (arith, c.name_bytes_len.ensures.value, run_of_front is_name_byte c.min.result text, prefix_len-le-length is_name_byte text)
