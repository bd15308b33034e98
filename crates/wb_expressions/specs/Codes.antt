-- The codes of problems of a viewpoint: the word of each, and what a refusal tells.
use Rattle.std.specs.Prelude.{ℕ, List, Option, Some, None, codes}
use Rattle.wb_expressions.specs.declared.problem.ProblemCode.{ProblemCode}
use Rattle.wb_expressions.specs.declared.problem.ProblemCode.TheVariants as c
use Rattle.wb_expressions.specs.declared.refusal.ExprRefusal.{ExprRefusal}
use Rattle.wb_expressions.specs.declared.refusal.ExprRefusal.TheVariants as r

-- the word as it is printed
abbrev pub code_name : ProblemCode → List ℕ
code_name c.DuplicateName = codes "DuplicateName"
code_name c.UnknownClass = codes "UnknownClass"
code_name c.UnknownMapping = codes "UnknownMapping"
code_name c.UnknownLayer = codes "UnknownLayer"
code_name c.MappingReused = codes "MappingReused"
code_name c.BadChild = codes "BadChild"
code_name c.BadEnds = codes "BadEnds"
code_name c.BadPrefix = codes "BadPrefix"
code_name c.Syntax = codes "Syntax"
code_name c.TooDeep = codes "TooDeep"
code_name c.UnknownVariable = codes "UnknownVariable"
code_name c.UnknownFeature = codes "UnknownFeature"
code_name c.UnknownService = codes "UnknownService"
code_name c.WrongArity = codes "WrongArity"
code_name c.UnknownType = codes "UnknownType"
code_name c.BadOperation = codes "BadOperation"

-- the code and the detail that a refusal tells; want of memory tells none
abbrev pub code_of : ExprRefusal → Option (ProblemCode × List ℕ)
code_of (r.At code detail) = Some (code, detail)
code_of r.NoMemory = None
