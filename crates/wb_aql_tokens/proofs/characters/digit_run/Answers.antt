use Rattle.std.proofs.Common.{sym, subst, ap, ◌∙◌, take, IsUtf8}
use Rattle.std.specs.Char.{is_ascii_digit}
use Rattle.wb_aql_tokens.proofs.Runs.{ascii_text, run_passes}
use Rattle.wb_aql_tokens.proofs.Spellings.{low_digit}
use Rattle.wb_aql_tokens.proofs.characters.digit_run.Goals as goal

pub unreachable-requires : goal.unreachable-requires
unreachable-requires c =
    let same = c.split_at.ensures.front ∙ ap (λ n. take n c.args.text.now) c.digits_len.ensures.value in
    c.in-Err.ensures.cases.0 (subst IsUtf8 (sym same) (ascii_text is_ascii_digit low_digit _ (run_passes is_ascii_digit c.args.text.now)))
