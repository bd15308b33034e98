-- The first problem of a viewpoint ends the run.
use Rattle.std.proofs.Common.{◌≡◌, ◌∙◌, sym, subst, refl, ◌∷◌, ℕ, List, Some, None, Result, Ok, Err}
use Rattle.std.specs.Result.{IsErrAnd}
use Rattle.wb_metamodel.specs.Metamodel.{Metamodel}
use Rattle.wb_expressions.specs.Codes.{code_name}
use Rattle.wb_viewpoint.specs.declared.content.Content.{Content}
use Rattle.wb_spec_check.specs.Answers.{Answers}
use Rattle.wb_spec_check.specs.Checked.{Specification, checked}
use Rattle.wb_spec_check.specs.declared.checking.Checking.{Checking}
use Rattle.wb_spec_check.specs.declared.checking.Checking.TheVariants.{Bad}
use Rattle.wb_spec_check.specs.Validated.{Validated, good, bad, problems_of, value_of}
use Rattle.wb_spec_check.specs.declared.parts.Parts.{Parts}
use Rattle.wb_spec_check.specs.declared.problem.Problem.{Problem}
use Rattle.wb_program.specs.declared.answer.Ending.{Ending}
use Rattle.wb_program.specs.declared.answer.Ending.TheVariants.{NoMemory}
use Rattle.wb_program.specs.Answers as answers
use Rattle.wb_program.specs.Checking.{or_bad}
use Rattle.wb_program.specs.Course.{Course}
use Rattle.wb_program.specs.Steps.{EndsWith, Reaches}
use Rattle.wb_program.proofs.StepLemmas.{ends_with}

pub first_told : (name : List ℕ) (content : Content) (found : Validated Parts) (ps : List Problem) (e : Ending) → value_of found ≡ None → ps ≡ problems_of found
    → ((first : Problem) (more : List Problem) → ps ≡ first ∷ more → EndsWith e (answers.bad name first.place (code_name first.code)))
    → Reaches {A = Specification} (Err e) (Some (or_bad name content found))
first_told name content (good parts) ps e none is h = cc
first_told name content (bad problem problems) ps e none is h = ends_with Specification e (answers.bad name problem.place (code_name problem.code)) (h problem problems is)

-- the same, by what the check answers
pub bad_told : (name : List ℕ) (mm : Metamodel) (content : Content) (given : Checking) (ps shown : List Problem) (e : Ending) → Answers mm content given → given ≡ Bad ps → shown ≡ ps
    → ((first : Problem) (more : List Problem) → shown ≡ first ∷ more → EndsWith e (answers.bad name first.place (code_name first.code)))
    → Reaches {A = Specification} (Err e) (Some (or_bad name content (checked mm content)))
bad_told name mm content given ps shown e found is same h =
    let told : Answers mm content (Bad ps) = subst (Answers mm content) is found in
    first_told name content (checked mm content) shown e told.0 (same ∙ told.1) h

-- want of memory may come at every step
pub short : {A : Type 0} (r : Result A Ending) (course : Course A) → IsErrAnd r (λ e. e ≡ NoMemory) → Reaches r (Some course)
short (Ok x) course is = absurd is
short {A} (Err e) course is = subst (λ (ending : Ending). Reaches {A = A} (Err ending) (Some course)) (sym is) refl
