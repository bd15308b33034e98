use Rattle.std.proofs.Common.{sym, ap, ◌∙◌}
use Rattle.wb_ecore.specs.invariants.NumberedNames.{number_of}
use Rattle.wb_ecore.proofs.Numbered.{class-number-known}
use Rattle.wb_ecore.proofs.index.Index.class.Goals as goal

pub returns-in-Some-clause-known : goal.returns-in-Some-clause-known
returns-in-Some-clause-known c =
    let name = c.as_bytes.ensures.value ∙ c.as_str.ensures.same in
    class-number-known c.args.document.now c.args.name.now c.in-Some.number
    (sym (c.in-Some.ensures ∙ ap (number_of c.args.self.now.classes) name ∙ c.requires.classes c.args.name.now))
