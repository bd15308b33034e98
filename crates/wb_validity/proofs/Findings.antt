-- What checks one after the other find.
use Rattle.std.proofs.Common.{◌≡◌, ℕ, Option, Some, None, Result, Err, refl, sym, ap, subst}
use Rattle.std.proofs.lemmas.Option.{none-some}
use Rattle.std.specs.Option.{option_or}
use Rattle.wb_validity.specs.declared.flaws.Flaw.{Flaw}
use Rattle.wb_validity.specs.declared.flaws.Flaw.TheVariants.{At, Whole, NoMemory}
use Rattle.wb_validity.specs.Broken.{Breach, shown_by}
use Rattle.wb_validity.specs.Flaws.{Finds}

found_first : (flaw : Flaw) (a b : Option Breach) → Finds (Err flaw) a → Finds (Err flaw) (option_or a b)
found_first (At number o) a b h = ap (λ x. option_or x b) h
found_first (Whole number) a b h = ap (λ x. option_or x b) h
found_first NoMemory a b h = tt

-- what the first of two checks finds is found
pub raised : (r : Result (Unit {0}) Flaw) (e flaw : Flaw) (a b : Option Breach) → r ≡ Err e → e ≡ flaw → Finds (Err flaw) a → Finds r (option_or a b)
raised r e flaw a b p q h = subst (λ r. Finds r (option_or a b)) (sym p) (subst (λ e. Finds (Err e) (option_or a b)) (sym q) (found_first flaw a b h))

-- what the second finds is found where the first finds nothing
pub passed_on : (r : Result (Unit {0}) Flaw) (a b : Option Breach) → a ≡ None → Finds r b → Finds r (option_or a b)
passed_on r a b e h = subst (Finds r) (sym (ap (λ x. option_or x b) e)) h

pub nothing_shown : (number : ℕ) (o : Option ℕ) → shown_by number o ≡ None → o ≡ None
nothing_shown number None e = refl
nothing_shown number (Some o) e = absurd (none-some (number, Some o) (sym e))
