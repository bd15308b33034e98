use Rattle.std.proofs.Common.{sym}
use Rattle.cases_serving.specs.Tallies.{tally_told}
use Rattle.cases_serving.proofs.Commanding.{is_less, added, full}
use Rattle.cases_serving.proofs.tally.Tally.command.Goals as goal

pub returns-then-self-ge9 : goal.returns-then-self-ge9
returns-then-self-ge9 c = full (tally_told c.args.self.now) c.args.body.now c.args.close c.say-then-self-ge9.result (sym c.if-not-is_add.ensures) c.if-self-ge9.true c.say-then-self-ge9.ensures

pub returns-else-self-ge9 : goal.returns-else-self-ge9
returns-else-self-ge9 c = added (tally_told c.args.self.now) c.args.body.now c.args.close (tally_told c.add.new.self) c.add.result (sym c.if-not-is_add.ensures) (is_less c.args.self.now.total c.if-self-ge9.false) c.add.ensures
