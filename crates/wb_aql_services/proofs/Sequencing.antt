-- Objects that are put into a sequence.
use Rattle.std.proofs.Common.{◌≡◌, ℕ, suc, ◌<◌, ◌≤◌, List, [], ◌∷◌, Option, Some, Ok, Err, length, map, refl, sym, ap, subst, ◌∙◌, if◌then◌else◌}
use Rattle.std.proofs.lemmas.Bool.{le-leb, lt-leb}
use Rattle.wb_metamodel.specs.Metamodel.{Metamodel}
use Rattle.wb_store.specs.declared.scalars.Scalar.{Scalar}
use Rattle.wb_store.specs.declared.scalars.Scalar.TheVariants.{Object}
use Rattle.wb_store.specs.declared.scalars.Cell.{Cell}
use Rattle.wb_aql_values.specs.declared.faults.Fault.TheVariants.{TooLong}
use Rattle.wb_aql_values.specs.declared.values.Value.{Value}
use Rattle.wb_aql_values.specs.declared.values.Value.TheVariants.{Sequence}
use Rattle.wb_aql_values.specs.Readings.{Content, Reading, done, given, ◌>>=◌}
use Rattle.wb_aql_values.specs.Runs.{run}
use Rattle.wb_aql_services.specs.Types.{narrowed}
use Rattle.wb_aql_services.specs.Navigation.{sequence, e_container, nearest, height}

length_mapped : (os : List ℕ) → length (map Object os) ≡ length os
length_mapped [] = refl
length_mapped (o ∷ os) = ap suc (length_mapped os)

module _ (mm : Metamodel) (t : Option ℕ) (m : (c : Cell) → Content c) (os : List ℕ) (old : List Cell) where
  through : List Scalar → Reading Value
  through xs = narrowed mm t xs >>= λ ys. done (Sequence ys)

  pub sequence_long : 65536 < length os → run (sequence mm t os) m old ≡ record { gave = Err TooLong; reads = old }
  unfolding sequence run ◌>>=◌ through
  sequence_long h =
      let l : 65536 < length (map Object os) = subst (λ n. 65536 < n) (sym (length_mapped os)) h in
      ap (λ b. run (given {A = List Scalar} (if b then Ok (map Object os) else Err TooLong) >>= through) m old) (lt-leb (length (map Object os)) 65536 l)

  pub sequence_short : length os ≤ 65536 → run (sequence mm t os) m old ≡ run (narrowed mm t (map Object os) >>= λ ys. done (Sequence ys)) m old
  unfolding sequence run ◌>>=◌ through
  sequence_short h =
      let l : length (map Object os) ≤ 65536 = subst (λ n. n ≤ 65536) (sym (length_mapped os)) h in
      ap (λ b. run (given {A = List Scalar} (if b then Ok (map Object os) else Err TooLong) >>= through) m old) (le-leb (length (map Object os)) 65536 l)

-- with a type the nearest container is looked for
pub asked_nearest : (mm : Metamodel) {x : ℕ} (t : Option ℕ) (m : (c : Cell) → Content c) (o : ℕ) (old : List Cell) → t ≡ Some x → run (e_container mm t o) m old ≡ run (nearest mm t height o) m old
unfolding e_container
asked_nearest mm t m o old e = ap (λ k. run (e_container mm k o) m old) e ∙ sym (ap (λ k. run (nearest mm k height o) m old) e)
