use Rattle.std.proofs.Common.{◌≡◌, ℕ, false, List, [], ◌∷◌, refl, sym}
use Rattle.std.specs.List.{list_any}
use Rattle.wb_store.specs.declared.scalars.Scalar.{Scalar}
use Rattle.wb_store.specs.declared.scalars.Scalar.TheVariants.{Int, Bool as Boolean, Text, Literal, Object}
use Rattle.wb_store.specs.Relinking.{is_value_among}
use Rattle.wb_store.proofs.removals.is_value_among.Goals as goal

never : (dead : List ℕ) → list_any (λ p. false) dead ≡ false
never [] = refl
never (p ∷ dead) = never dead

no_object : (dead : List ℕ) (v : Scalar) → ((p : ℕ) → v ≡ Object p → ⊥) → false ≡ is_value_among dead v
no_object dead (Int n) h = sym (never dead)
no_object dead (Boolean b) h = sym (never dead)
no_object dead (Text t) h = sym (never dead)
no_object dead (Literal e n) h = sym (never dead)
no_object dead (Object p) h = absurd (h p refl)

pub returns-in_default : goal.returns-in_default
returns-in_default c = no_object c.args.dead.now c.args.value.now c.in_default.not-Object
