-- The numbers of objects of a valid model have 32 bits.
use Rattle.std.proofs.Common.{◌≡◌, ℕ, ◌^◌, ◌&&◌, true, ltb, arith}
use Rattle.std.proofs.lemmas.Bool.{and_parts}
use Rattle.std.proofs.lemmas.Bool.Decides.{nat_tests}
use Rattle.std.specs.FinMap.{entries}
use Rattle.wb_store.specs.Contents.{Contents}
use Rattle.wb_validity.specs.Valid.{Valid}
use Rattle.wb_store.proofs.Members.{In, In-all}

smaller : (o next : ℕ) → ltb o next ≡ true → ltb next (2 ^ 32) ≡ true → ltb o (2 ^ 32) ≡ true
smaller o next h l = grind (arith, nat_tests)

module _ (m : Contents) (v : Valid m) where
  pub next-small : ltb m.next (2 ^ 32) ≡ true
  next-small = (and_parts _ _ (and_parts _ _ v.numbers_are_spent).0).1

  pub object-small : (e : ℕ × ℕ) → In e (entries m.kinds) → ltb e.0 (2 ^ 32) ≡ true
  object-small e i =
      smaller e.0 m.next (and_parts _ _ (In-all (λ (e : ℕ × ℕ). ltb 0 e.0 && ltb e.0 m.next) (entries m.kinds) e (and_parts _ _ v.numbers_are_spent).1 i)).1 next-small
