-- Tasks of the code, without the places in memory where the names stand.
use Rattle.wb_program.specs.Words as words
use Rattle.wb_program.specs.declared.words.Sources.{Sources}
use Rattle.wb_program.specs.declared.words.Task.{Task}
use Rattle.wb_program.specs.declared.words.Task.TheVariants.{Check, Draw, Serve, Big}

abbrev pub shown_sources : Sources → words.Sources
shown_sources sources = record { metamodel = sources.metamodel.now; viewpoint = sources.viewpoint.now; model = sources.model.now }

abbrev pub shown : Task → words.Task
shown (Check metamodel viewpoint) = words.check metamodel.now viewpoint.now
shown (Draw sources) = words.draw (shown_sources sources)
shown (Serve sources connections) = words.serve (shown_sources sources) connections
shown (Big number) = words.big number
