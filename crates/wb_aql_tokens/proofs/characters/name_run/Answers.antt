use Rattle.std.proofs.Common.{◌≡◌, ◌≤◌, true, sym, subst, take, arith, IsUtf8}
use Rattle.std.specs.List.{list_all, prefix_len}
use Rattle.wb_base.specs.Names.{is_name_byte}
use Rattle.wb_aql_tokens.proofs.Runs.{ascii_text, run_passes, part_of_run}
use Rattle.wb_aql_tokens.proofs.Spellings.{low_name_byte}
use Rattle.wb_aql_tokens.proofs.characters.name_run.Goals as goal

pub unreachable-requires : goal.unreachable-requires
unreachable-requires c =
    let text = c.args.text.now in
    let within : c.name_len.result ≤ prefix_len is_name_byte text = omega arith in
    let passes : list_all is_name_byte (take c.name_len.result text) ≡ true =
    part_of_run is_name_byte (prefix_len is_name_byte text) c.name_len.result text within (run_passes is_name_byte text) in
    c.in-Err.ensures.cases.0 (subst IsUtf8 (sym c.split_at.ensures.front) (ascii_text is_name_byte low_name_byte _ passes))
