-- What is only asked whether an object is in a list stays where the list is put in another order.
use Rattle.std.proofs.Common.{◌≡◌, ℕ, not, ◌||◌, List, [], ◌∷◌, Ok, Some, None, cond, true, sym, ap, ◌∙◌, eqb}
use Rattle.std.proofs.lemmas.List.Sorted.{list_any-IsPermutation}
use Rattle.std.specs.Prelude.{filter}
use Rattle.std.specs.FinMap.{entries, from_entries}
use Rattle.std.specs.List.Sorted.{IsPermutation}
use Rattle.std.specs.Option.{option_or}
use Rattle.wb_validity.specs.declared.conditions.Condition.TheVariants.{OfClass, HasRoom}
use Rattle.wb_store.specs.declared.scalars.Scalar.{Scalar}
use Rattle.wb_store.specs.declared.scalars.Scalar.TheVariants.{Object}
use Rattle.wb_validity.specs.Broken.{shown_by, least, breaks, broken, broken_first, broken_number, broken_values, broken_containment}
use Rattle.wb_store.specs.Cells.{tree}
use Rattle.wb_store.specs.Contents.{Contents}
use Rattle.wb_model.specs.declared.refusals.ModelRefusal.TheVariants.{UnknownObject}
use Rattle.wb_store.specs.Relinking.{Link, relink, is_among, is_value_among, without}
use Rattle.wb_model.specs.Edits.{removed, unless, is_live, remove}
use Rattle.wb_store.specs.Scalars.{same}
use Rattle.wb_validity.specs.Valid.{is_abstract}

module _ (xs ys : List ℕ) (permuted : IsPermutation xs ys) (m : Contents) where
  among : (o : ℕ) → is_among xs o ≡ is_among ys o
  among o = list_any-IsPermutation (λ p. eqb p o) xs ys permuted

  value_among : (v : Scalar) → is_value_among xs v ≡ is_value_among ys v
  value_among v = list_any-IsPermutation (λ p. same v (Object p)) xs ys permuted

  -- the same objects are deleted
  pub without-permuted : without xs m ≡ without ys m
  without-permuted = λ i. record (relink (λ (l : Link). among l.object i || value_among l.value i) [] m) {
    kinds = from_entries (filter (λ (e : ℕ × ℕ). not (among e.0 i)) (entries m.kinds));
    roots = filter (λ root. not (among root i)) m.roots;
  }

  -- the same condition is broken first
  pub broken-permuted : broken m xs ≡ broken m ys
  unfolding broken broken_first
  broken-permuted = λ i.
      option_or
      (option_or (broken_number m)
      (option_or (shown_by 2 (least m (λ o c. is_abstract m.metamodel c)))
      (option_or (shown_by 3 (least m (λ o c. breaks m OfClass o)))
      (shown_by 4 (least m (λ o c. among o i || breaks m HasRoom o))))))
      (option_or (broken_values m) (broken_containment m))

-- a live object is removed where these objects are deleted: the object and all that it contains, in any order
pub removes : (m n : Contents) (o : ℕ) (objects dead : List ℕ) → is_live m o ≡ true → objects ≡ o ∷ tree m o → IsPermutation objects dead → n ≡ without dead m → remove m o ≡ Ok n
removes m n o objects dead live all permuted is =
    ap (λ b. unless (cond b None (Some UnknownObject)) (removed o m)) live
    ∙ ap Ok (ap (λ os. without os m) (sym all) ∙ without-permuted objects dead permuted m ∙ sym is)
