-- The entries of a log.
use Rattle.std.specs.Prelude.{List, [], ◌∷◌, ◌++◌}
use Rattle.wb_outer.specs.declared.log.Entry.{Entry}
use Rattle.wb_outer.specs.declared.log.Entry.TheVariants.{None, After}

abbrev pub entries : {E : Type 0} → Entry E → List E
entries None = []
entries (After earlier entry) = earlier.value ++ entry.value ∷ []
