-- The services of texts, `concat` and `startsWith`, which take any receiver by its text form.
use Rattle.std.specs.Prelude.{ℕ, List, ◌++◌, nat_eq}
use Rattle.std.specs.List.{starts_with}
use Rattle.std.specs.Option.{option_map_or}
use Rattle.wb_metamodel.specs.Metamodel.{Metamodel}
use Rattle.wb_store.specs.declared.scalars.Scalar.{Scalar}
use Rattle.wb_store.specs.declared.scalars.Scalar.TheVariants.{Text}
use Rattle.wb_aql_values.specs.declared.values.Value.{Value}
use Rattle.wb_aql_values.specs.declared.values.Value.TheVariants.{One}
use Rattle.wb_aql_values.specs.TextForms.{scalar_form, full_form, text_form, bounded_text, made}
use Rattle.wb_aql_values.specs.Readings.{Reading, done, ◌>>=◌, given, class_of}
use Rattle.wb_aql_services.specs.Types.{object_in}
use Rattle.wb_aql_values.specs.Values.{flag}

-- an object has a text form only while it lives
unfoldable pub alive : Scalar → Reading Unit
alive x = option_map_or (λ o. class_of o >>= λ c. done tt) (object_in x) (done tt)

-- what a service gives of the text form of a scalar
unfoldable pub of_form : Metamodel → (List ℕ → Reading Value) → Scalar → Reading Value
of_form mm service x = alive x >>= λ _. service (scalar_form mm x)

-- a text form with a value's behind it
unfoldable pub concat : Metamodel → Value → List ℕ → Reading Value
concat mm value form = given (made (bounded_text (form ++ full_form mm value))) >>= λ bytes. done (One (Text bytes))

-- does a text form begin with a value's?
unfoldable pub begins : Metamodel → Value → List ℕ → Reading Value
begins mm value form = given (made (text_form mm value)) >>= λ bytes. done (flag (starts_with nat_eq form bytes))
