use Rattle.std.proofs.Common.{◌≡◌, ℕ, drop, map}
use Rattle.std.specs.Option.{option_map}
use Rattle.std.specs.List.{find}
use Rattle.wb_validity.specs.Broken.{least}
use Rattle.wb_store.specs.Records.{kind_entry}
use Rattle.wb_validity.specs.Valid.{is_abstract}
use Rattle.wb_validity.proofs.conditions.abstract_object.Given as goal

abbrev pub invariant-loop-record : goal.invariant-loop-record
invariant-loop-record l = option_map (λ (e : ℕ × ℕ). e.0) (find (λ (e : ℕ × ℕ). is_abstract l.store.metamodel e.1) (map kind_entry (drop l.record-index l.record-items))) ≡ least l.store (λ o c. is_abstract l.store.metamodel c)
