-- The model that parts make is valid exactly where no check finds anything.
use Rattle.std.proofs.Common.{◌≡◌, ℕ, ◌≤◌, true, false, not, List, [], ◌∷◌, map, length, Option, Some, None, Err, refl, sym, ap, subst, ◌∙◌, cond, eqb, arith}
use Rattle.std.proofs.lemmas.Bool.{and_parts, or_parts, both_ways, not_from_false, true_from_ne_false}
use Rattle.std.proofs.lemmas.Option.{none-some}
use Rattle.std.specs.Prelude.{filter, IsSome}
use Rattle.std.specs.Option.{option_map}
use Rattle.std.specs.List.{list_all}
use Rattle.std.specs.List.Sorted.{IsPermutation}
use Rattle.std.specs.FinMap.{len}
use Rattle.wb_metamodel.specs.Metamodel.{Metamodel}
use Rattle.wb_validity.specs.declared.flaws.Flaw.{Flaw}
use Rattle.wb_validity.specs.declared.flaws.Flaw.TheVariants.{At, Whole, NoMemory}
use Rattle.wb_store.specs.declared.parts.Part.{Part}
use Rattle.wb_store.specs.declared.records.Record.{Record}
use Rattle.wb_validity.specs.Broken.{Breach, miswritten, broken}
use Rattle.wb_store.specs.Contents.{Contents, kind}
use Rattle.wb_model.specs.Building.{NamesBreach, refusal_of, MakeModel, Refutes}
use Rattle.wb_validity.specs.Flaws.{Finds}
use Rattle.wb_store.specs.invariants.Links.{Kept}
use Rattle.wb_store.specs.Parts.{made_of, record_of, is_listed}
use Rattle.wb_store.specs.Places.{numbered}
use Rattle.wb_store.specs.Records.{id_of, kind_entry}
use Rattle.wb_validity.specs.Valid.{IsValid}
use Rattle.wb_store.proofs.Filtered.{In-filter}
use Rattle.wb_store.proofs.Found.{is_itself}
use Rattle.wb_store.proofs.Maps.{kind-numbered, len-from_entries}
use Rattle.wb_store.proofs.Members.{In, In-map, all_In, any_In}
use Rattle.wb_store.proofs.Members.In.{here, there}
use Rattle.wb_model.proofs.Permuted.{broken-permuted}
use Rattle.wb_validity.proofs.Unbroken.{broken_none, none_crowded, live_entry, valid_from}

length-entries : (parts : List Part) → length (map kind_entry (map record_of parts)) ≡ length parts
length-entries [] = refl
length-entries (p ∷ parts) = let e = length-entries parts in omega (arith, e)

pub few_made : (metamodel : Metamodel) (next : ℕ) (parts : List Part) (roots : List ℕ) → length parts ≤ 20000 → len (made_of metamodel next parts roots).kinds ≤ 20000
few_made metamodel next parts roots h = let few = len-from_entries (map kind_entry (map record_of parts)) in let same = length-entries parts in omega (arith, few, same, h)

-- ---- parts

some_numbered : (qs : List Record) (r : Record) → In r qs → IsSome (option_map (λ (r : Record). r.class) (numbered id_of r.id qs))
some_numbered [] r i = elim i [ ]
some_numbered (q ∷ qs) r here = subst (λ b. IsSome (option_map (λ (r : Record). r.class) (cond b (Some r) (numbered id_of r.id qs)))) (sym (is_itself r.id)) refl
some_numbered (q ∷ qs) r (there m) =
    let rest = some_numbered qs r m in
    elim (eqb r.id q.id) as (λ b. IsSome (option_map (λ (r : Record). r.class) (cond b (Some q) (numbered id_of r.id qs)))) [ true ↦ refl | false ↦ rest ]

miswritten_In : (metamodel : Metamodel) (parts : List Part) (p : Part) → In p parts → is_listed metamodel p ≡ false → In p.id (miswritten metamodel parts)
miswritten_In metamodel parts p i h = In-map (λ (p : Part). p.id) (filter (λ (p : Part). not (is_listed metamodel p)) parts) p (In-filter (λ (p : Part). not (is_listed metamodel p)) parts p i (not_from_false _ h))

pub none_miswritten : (metamodel : Metamodel) (parts : List Part) → list_all (is_listed metamodel) parts ≡ true → miswritten metamodel parts ≡ []
none_miswritten metamodel [] h = refl
none_miswritten metamodel (p ∷ parts) h =
    let both = and_parts _ _ h in
    ap (λ b. map (λ (p : Part). p.id) (cond (not b) (p ∷ filter (λ (p : Part). not (is_listed metamodel p)) parts) (filter (λ (p : Part). not (is_listed metamodel p)) parts))) both.0 ∙ none_miswritten metamodel parts both.1

-- where no condition is broken, no object of the parts is miswritten
module _ (metamodel : Metamodel) (next : ℕ) (parts : List Part) (roots : List ℕ) (rs : List Record) (kept : Kept (made_of metamodel next parts roots) rs) where
  part_live : (p : Part) → In p parts → IsSome (kind (made_of metamodel next parts roots) p.id)
  part_live p i =
      subst IsSome (sym (kind-numbered metamodel next (map record_of parts) roots p.id))
      (some_numbered (map record_of parts) (record_of p) (In-map record_of parts p i))

  pub listed_from : broken (made_of metamodel next parts roots) (miswritten metamodel parts) ≡ None → list_all (is_listed metamodel) parts ≡ true
  listed_from whole = all_In (is_listed metamodel) parts (λ p i. true_from_ne_false _ (λ h.
      let m = made_of metamodel next parts roots in
      let l = live_entry m rs kept p.id (part_live p i) in
      let free = (or_parts _ _ (none_crowded m rs kept (miswritten metamodel parts) whole p.id l.0 l.1)).0 in
      both_ways _ free (any_In (λ q. eqb q p.id) (miswritten metamodel parts) p.id (miswritten_In metamodel parts p i h) (is_itself p.id))))

-- parts make a valid model exactly where they break no condition
module _ (metamodel : Metamodel) (next : ℕ) (parts : List Part) (roots : List ℕ) (s : Contents) (same : s ≡ made_of metamodel next parts roots) (rs : List Record) (kept : Kept s rs) (wrong : List ℕ) (are_wrong : IsPermutation (miswritten metamodel parts) wrong) where
  pub made_valid : length parts ≤ 20000 → broken s wrong ≡ None → IsValid s
  made_valid few whole = valid_from s rs kept wrong whole (subst (λ (m : Contents). len m.kinds ≤ 20000) (sym same) (few_made metamodel next parts roots few))

  pub made_model : length parts ≤ 20000 → broken s wrong ≡ None → MakeModel metamodel next parts roots
  made_model few whole = record {
    listed = listed_from metamodel next parts roots rs (subst (λ m. Kept m rs) same kept) (subst (λ m. broken m (miswritten metamodel parts) ≡ None) same (broken-permuted _ _ are_wrong s ∙ whole));
    valid = subst IsValid same (made_valid few whole);
  }

  pub model_whole : MakeModel metamodel next parts roots → broken s wrong ≡ None
  model_whole make =
      sym (broken-permuted _ _ are_wrong s)
      ∙ broken_none s (miswritten metamodel parts) (subst IsValid (sym same) make.valid) (none_miswritten metamodel parts make.listed)

  -- the breach is that of the parts
  pub same_breach : broken (made_of metamodel next parts roots) (miswritten metamodel parts) ≡ broken s wrong
  same_breach = ap (λ (m : Contents). broken m (miswritten metamodel parts)) (sym same) ∙ broken-permuted _ _ are_wrong s

-- ---- refusals

-- a building that is refused names the breach that a check finds
pub names : (flaw : Flaw) (found breach : Option Breach) → breach ≡ found → Finds (Err flaw) found → NamesBreach {A = Contents} (Err (refusal_of flaw)) breach
names (At number object) found breach e h = e ∙ h
names (Whole number) found breach e h = e ∙ h
names NoMemory found breach e h = tt

pub refutes : (flaw : Flaw) (breach : Option Breach) (P : Type 0) → (P → breach ≡ None) → Finds (Err flaw) breach → Refutes (refusal_of flaw) P
refutes (At number object) breach P f h = λ p. none-some (number, Some object) (sym (f p) ∙ h)
refutes (Whole number) breach P f h = λ p. none-some (number, None) (sym (f p) ∙ h)
refutes NoMemory breach P f h = tt
