use Rattle.std.proofs.Common.{◌≡◌, Ok, Err, sym, subst}
use Rattle.wb_aql_values.specs.declared.faults.Fault.TheVariants.{DeadObject}
use Rattle.wb_aql_values.specs.Readings.{class_of, contents}
use Rattle.wb_aql_values.specs.Runs.{run}
use Rattle.wb_aql_values.proofs.RunLemmas.{class_of_live, class_of_dead}
use Rattle.wb_aql_values.proofs.looks.look_at_class.Goals as goal

pub returns-in-Some-clause-class : goal.returns-in-Some-clause-class
returns-in-Some-clause-class c =
    subst (λ r. run (class_of c.args.o) (contents c.args.model.now) c.args.reads.now ≡ record { gave = Ok c.in-Some.class; reads = r }) (sym c.in_ok-note.ensures.ok)
    (class_of_live c.args.model.now c.args.o c.args.reads.now c.in-Some.class (sym c.in-Some.ensures.value))

pub returns-in-None-clause-class : goal.returns-in-None-clause-class
returns-in-None-clause-class c =
    subst (λ r. run (class_of c.args.o) (contents c.args.model.now) c.args.reads.now ≡ record { gave = Err DeadObject; reads = r }) (sym c.in_ok-note.ensures.ok)
    (class_of_dead c.args.model.now c.args.o c.args.reads.now (sym c.in-None.ensures.value))
