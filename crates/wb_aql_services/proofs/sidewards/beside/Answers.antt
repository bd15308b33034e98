use Rattle.std.proofs.Common.{ℕ, sym, ap, ◌∙◌}
use Rattle.std.specs.Option.{option_map_or}
use Rattle.wb_store.specs.declared.scalars.Cell.TheVariants.{Holder, Roots}
use Rattle.wb_aql_values.specs.Readings.{contents, held}
use Rattle.wb_aql_values.specs.Runs.{run}
use Rattle.wb_aql_services.specs.Navigation.{beside, content_of}
use Rattle.wb_aql_services.proofs.Choices.{as_given, noted}
use Rattle.wb_aql_services.proofs.sidewards.beside.Goals as goal

pub returns-in-Some : goal.returns-in-Some
unfolding beside
returns-in-Some c =
    let f = λ (place : ℕ × ℕ). content_of c.args.model.now.metamodel place.0 in
    as_given _ _ c.content_of.result c.content_of.new.reads
    (noted (contents c.args.model.now) (Holder c.args.o) (λ holder. option_map_or f holder (held Roots)) c.args.reads.now c.note.new.self c.in_ok-note.ensures.ok
    ∙ ap (λ holder. run (option_map_or f holder (held Roots)) (contents c.args.model.now) c.note.new.self) (sym c.in-Some.ensures))
    c.content_of.ensures

pub returns-in-None : goal.returns-in-None
unfolding beside
returns-in-None c =
    let f = λ (place : ℕ × ℕ). content_of c.args.model.now.metamodel place.0 in
    as_given _ _ c.roots.result c.roots.new.reads
    (noted (contents c.args.model.now) (Holder c.args.o) (λ holder. option_map_or f holder (held Roots)) c.args.reads.now c.note.new.self c.in_ok-note.ensures.ok
    ∙ ap (λ holder. run (option_map_or f holder (held Roots)) (contents c.args.model.now) c.note.new.self) (sym c.in-None.ensures))
    c.roots.ensures
