use Rattle.wb_model.proofs.OtherEnds.{EndsLeave}
use Rattle.wb_model.proofs.edits.links.drop_other_ends.Given as goal

abbrev pub invariant-loop-value : goal.invariant-loop-value
invariant-loop-value l = EndsLeave l.fn.store l.store l.o l.f l.value-index l.values
