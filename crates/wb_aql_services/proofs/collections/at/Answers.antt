use Rattle.std.proofs.Common.{◌≡◌, Ok, sym, ap, ◌∙◌, arith}
use Rattle.std.proofs.lemmas.Int.{ints, to_z-of_z}
use Rattle.std.specs.Option.{option_copied}
use Rattle.wb_aql_values.specs.declared.faults.Fault.TheVariants.{NotInt}
use Rattle.wb_aql_values.specs.Values.{members}
use Rattle.wb_aql_values.specs.Readings.{contents, done, fail}
use Rattle.wb_aql_values.specs.Runs.{run}
use Rattle.wb_aql_services.specs.Collections.{at, member_at, member_or_null}
use Rattle.wb_aql_services.proofs.Choices.{at_none, at_some}
use Rattle.wb_aql_services.proofs.collections.at.Goals as goal

pub returns-in_default : goal.returns-in_default
unfolding at run
returns-in_default c =
    at_none (λ i. done (member_or_null (member_at i (members c.args.receiver.now)))) (fail NotInt) (contents c.args.model.now) _ c.args.reads.now (sym c.int_in.ensures ∙ c.in_default.is)

pub returns : goal.returns
unfolding at run
returns c =
    let found : option_copied c.member_at.result ≡ member_at c.in-Some.place c.members.result.now =
    first_of (grind (arith, to_z-of_z, c.member_at.ensures), search (arith, ints, to_z-of_z, c.member_at.ensures)) in
    at_some (λ i. done (member_or_null (member_at i (members c.args.receiver.now)))) (fail NotInt) (contents c.args.model.now) _ c.in-Some.place c.args.reads.now (sym c.in-Some.ensures)
    ∙ ap (λ v. record { gave = Ok v; reads = c.args.reads.now })
    (ap (λ xs. member_or_null (member_at c.in-Some.place xs)) (sym c.members.ensures) ∙ (ap member_or_null (sym found) ∙ sym c.in_ok-member_or_null.ensures))
