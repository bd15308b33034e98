use Rattle.std.proofs.Common.{◌∙◌}
use Rattle.wb_answers.proofs.SeenLoops.{not_over}
use Rattle.wb_refresh.specs.Diagrams.{all_keys}
use Rattle.wb_refresh.proofs.Showing.{filters_refused, looks_refused, shown_asked, shown_so}
use Rattle.wb_refresh.proofs.declaring.show.Goals as goal

pub returns-in_err-looks-clause-asks : goal.returns-in_err-looks-clause-asks
returns-in_err-looks-clause-asks g c =
    looks_refused c.args.spec.now (g.A.Answers.seen c.args.answers.now) (all_keys c.args.nodes.now c.args.edges.now) c.as_slice.result.now (c.as_slice.ensures.value ∙ c.in_ok-keys.ensures) _ _ _ c.from_residual-in_err-looks.ensures c.in_err-looks.ensures.asks

pub filtered-requires : goal.filtered-requires
filtered-requires g c = record { fine = not_over _ _ _ c.in_ok-looks.ensures.asks c.requires.fine }

pub returns-in_err-filtered-clause-asks : goal.returns-in_err-filtered-clause-asks
returns-in_err-filtered-clause-asks g c =
    filters_refused c.args.spec.now (g.A.Answers.seen c.args.answers.now) (all_keys c.args.nodes.now c.args.edges.now) c.as_slice.result.now (c.as_slice.ensures.value ∙ c.in_ok-keys.ensures) (g.A.Answers.seen c.looks.new.answers) c.in_ok-looks.ensures.asks
    c.as_slice-2.result.now (c.as_slice-2.ensures.value ∙ c.in_ok-keys.ensures) _ _ _ c.from_residual-in_err-filtered.ensures c.in_err-filtered.ensures.asks

pub returns-clause-shown : goal.returns-clause-shown
returns-clause-shown g c =
    shown_so c.args.spec.now (g.A.Answers.seen c.args.answers.now) (all_keys c.args.nodes.now c.args.edges.now) c.as_slice.result.now (c.as_slice.ensures.value ∙ c.in_ok-keys.ensures) (g.A.Answers.seen c.looks.new.answers) c.in_ok-looks.ensures.asks
    c.as_slice-2.result.now (c.as_slice-2.ensures.value ∙ c.in_ok-keys.ensures) c.args.metamodel.now _ _ c.in_ok-looks.ensures.looks c.in_ok-filtered.ensures.value

pub returns-clause-asks : goal.returns-clause-asks
returns-clause-asks g c =
    shown_asked c.args.spec.now (g.A.Answers.seen c.args.answers.now) (all_keys c.args.nodes.now c.args.edges.now) c.as_slice.result.now (c.as_slice.ensures.value ∙ c.in_ok-keys.ensures) (g.A.Answers.seen c.looks.new.answers) c.in_ok-looks.ensures.asks
    c.as_slice-2.result.now (c.as_slice-2.ensures.value ∙ c.in_ok-keys.ensures) _ c.in_ok-filtered.ensures.asks
