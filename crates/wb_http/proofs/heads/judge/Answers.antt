use Rattle.std.proofs.Common.{sym, ◌∙◌}
use Rattle.wb_http.proofs.Judging.{judged}
use Rattle.wb_http.proofs.heads.judge.Goals as goal

pub returns : goal.returns
returns c = judged c.args.head.now c.judge_short.result (sym c.has_many_lines.ensures ∙ c.if-has_many_lines.false) c.judge_short.ensures
