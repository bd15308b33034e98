use Rattle.cases_evaluation.proofs.served.push_words.Goals as goal

pub push_service-requires-clause-receiver : goal.push_service-requires-clause-receiver
push_service-requires-clause-receiver c = c.in_ok-receiver.ensures c.args.model.now.metamodel

pub push_service-requires-clause-argument : goal.push_service-requires-clause-argument
push_service-requires-clause-argument c = c.in_ok-text_value.ensures c.args.model.now.metamodel
