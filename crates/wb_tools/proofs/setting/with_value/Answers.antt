use Rattle.std.proofs.Common.{sym, ◌∙◌}
use Rattle.wb_tools.specs.FeatureEdits.{with_value}
use Rattle.wb_tools.specs.Runs.{work}
use Rattle.wb_tools.proofs.FeatureLemmas.{value_refused}
use Rattle.wb_tools.proofs.RunLemmas.{no_memory}
use Rattle.wb_tools.proofs.setting.with_value.Goals as goal

pub returns-in_err-change-clause-done : goal.returns-in_err-change-clause-done
returns-in_err-change-clause-done c =
    λ out. no_memory out (with_value c.args.way c.args.place c.args.o c.args.f c.args.value.now) (work c.args.model.now c.args.tally.now) c.from_residual.result c.args.model.now c.from_residual.ensures.1

pub returns-in-None-clause-done : goal.returns-in-None-clause-done
returns-in-None-clause-done c =
    λ out. value_refused out c.args.way c.args.place c.args.o c.args.f c.args.value.now (work c.args.model.now c.args.tally.now) (sym c.in_ok-change.ensures ∙ c.in-None.is)
