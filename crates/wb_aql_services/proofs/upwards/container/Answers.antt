use Rattle.std.proofs.Common.{ℕ, Ok, sym, ap, ◌∙◌}
use Rattle.std.specs.Option.{option_map_or}
use Rattle.wb_store.specs.declared.scalars.Scalar.TheVariants.{Object}
use Rattle.wb_store.specs.declared.scalars.Cell.TheVariants.{Holder}
use Rattle.wb_aql_values.specs.declared.values.Value.TheVariants.{Null, One}
use Rattle.wb_aql_values.specs.Readings.{contents, done}
use Rattle.wb_aql_values.specs.Runs.{run}
use Rattle.wb_aql_services.specs.Navigation.{container}
use Rattle.wb_aql_services.proofs.Choices.{noted}
use Rattle.wb_aql_services.proofs.upwards.container.Goals as goal

pub returns-in-Some : goal.returns-in-Some
unfolding container run
returns-in-Some c =
    noted (contents c.args.model.now) (Holder c.args.o) (λ holder. done (option_map_or (λ (place : ℕ × ℕ). One (Object place.0)) holder Null)) c.args.reads.now c.note.new.self c.in_ok-note.ensures.ok
    ∙ ap (λ holder. record { gave = Ok (option_map_or (λ (place : ℕ × ℕ). One (Object place.0)) holder Null); reads = c.note.new.self }) (sym c.in-Some.ensures)

pub returns-in-None : goal.returns-in-None
unfolding container run
returns-in-None c =
    noted (contents c.args.model.now) (Holder c.args.o) (λ holder. done (option_map_or (λ (place : ℕ × ℕ). One (Object place.0)) holder Null)) c.args.reads.now c.note.new.self c.in_ok-note.ensures.ok
    ∙ ap (λ holder. record { gave = Ok (option_map_or (λ (place : ℕ × ℕ). One (Object place.0)) holder Null); reads = c.note.new.self }) (sym c.in-None.ensures)
