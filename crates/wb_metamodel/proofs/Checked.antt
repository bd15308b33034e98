-- A metamodel that passed every check is well formed.
use Rattle.std.proofs.Common.{◌≡◌, ◌≢◌, ℕ, ◌<◌, ◌≤◌, Bool, true, false, not, cond, ◌&&◌, ◌||◌, eqb, leb, List, [], ◌∷◌, length, Option, Some, None, Result, Ok, Err, get_or, refl, sym, ap, ◌∙◌, subst, inl, inr, ⊎_elim, ◌⊎◌, arith}
use Rattle.std.specs.Prelude.{⊤, Contains}
use Rattle.std.proofs.lemmas.Bool.{false≢true, true≢false, cases_lt, false_from_ne_true, not-false, or_parts, and_parts, and_cases, eqb-true, eqb-false, eq-eqb, leb-true}
use Rattle.std.proofs.lemmas.Option.{same_Some, slice_get_within}
use Rattle.std.specs.Cmp.Lexicographic.{nat_list_eq_equiv}
use Rattle.std.proofs.lemmas.List.Folds.{list_any_at}
use Rattle.std.specs.List.{list_any, find}
use Rattle.std.specs.Option.{option_map_or}
use Rattle.wb_json.specs.Place.{Place}
use Rattle.wb_ecore.specs.declared.features.Feature.{Feature}
use Rattle.wb_ecore.specs.declared.features.Kind.{Kind}
use Rattle.wb_ecore.specs.declared.features.Kind.TheVariants.{Int, Bool as BoolKind, Text, Enum, Reference}
use Rattle.wb_metamodel.specs.Metamodel.{Metamodel, same_name, names_feature, numbers, is_below, features_of, feature_at, feature_named, literal_total}
use Rattle.wb_metamodel.specs.WellFormed.{AreOpposite}
use Rattle.wb_metamodel.specs.Checks.{wrong_class, no_cycle, is_name_of, clashes, has_clash, no_clash, refers_to, unfit, is_mismatched, has_mismatch, wrong_feature, opposites_match, is_small, within_limits}
use Rattle.wb_metamodel.proofs.Paths.{below-known}
use Rattle.wb_base.proofs.ListLemmas.{number-at}
use Rattle.wb_metamodel.proofs.Distinct.{none-bad}

class-wrong : (c : ℕ) → ◌≡◌ {A = Result ⊤ Place} (wrong_class c) (Ok tt) → ⊥
class-wrong c h = cc

pub is-acyclic : (mm : Metamodel) → no_cycle mm ≡ Ok tt → (c : ℕ) → is_below mm c c ≡ false
is-acyclic mm h c =
    ⊎_elim
    (λ l. none-bad (λ k. is_below mm k k) wrong_class (numbers (length mm.classes)) class-wrong h c c (number-at (length mm.classes) c l))
    (λ past. false_from_ne_true _ (λ t. let l = below-known mm c c t in absurd (omega arith)))
    (cases_lt c (length mm.classes))

or_second : (a b : Bool) → b ≡ true → (a || b) ≡ true
or_second true b h = refl
or_second false b h = h

either : (a b : Bool) → (a || b) ≡ true → (a ≡ true) ⊎ (b ≡ true)
either true b h = inl refl
either false b h = inr h

abbrev pub Found : (ℕ → Bool) → List ℕ → Type 0
Found p xs = (g : ℕ) × (find p xs ≡ Some g) × (list_any (eqb g) xs ≡ true) × (p g ≡ true)

found-step : (p : ℕ → Bool) (x : ℕ) (xs : List ℕ) (f : ℕ) → (list_any (eqb f) xs ≡ true → Found p xs) → (eqb f x || list_any (eqb f) xs) ≡ true → p f ≡ true → (b : Bool) → p x ≡ b → Found p (x ∷ xs)
found-step p x xs f later m y true s = (x, ap (λ b. cond b (Some x) (find p xs)) s, ap (λ b. b || list_any (eqb x) xs) (eq-eqb x x refl), s)
found-step p x xs f later m y false s =
    ⊎_elim
    (λ e. absurd (false≢true (sym s ∙ subst (λ v. p v ≡ true) (eqb-true f x e) y)))
    (λ i. let g = later i in (g.0, ap (λ b. cond b (Some x) (find p xs)) s ∙ g.1, or_second (eqb g.0 x) _ g.2, g.3))
    (either (eqb f x) (list_any (eqb f) xs) m)

-- what `find` gives, where one passes
pub find-passes : (p : ℕ → Bool) (xs : List ℕ) (f : ℕ) → list_any (eqb f) xs ≡ true → p f ≡ true → Found p xs
find-passes p [] f m y = absurd (false≢true m)
find-passes p (x ∷ xs) f m y = found-step p x xs f (λ i. find-passes p xs f i y) m y (p x) refl

member-step : (p : ℕ → Bool) (x : ℕ) (xs : List ℕ) (g : ℕ) → p x ≡ false → (list_any (eqb g) xs ≡ true → p g ≡ false) → (b : Bool) → eqb g x ≡ b → (b || list_any (eqb g) xs) ≡ true → p g ≡ false
member-step p x xs g h later true s i = ap p (eqb-true g x s) ∙ h
member-step p x xs g h later false s i = later i

-- an element of a list none of which passes
no-member : (p : ℕ → Bool) (xs : List ℕ) (g : ℕ) → list_any p xs ≡ false → list_any (eqb g) xs ≡ true → p g ≡ false
no-member p [] g h m = absurd (false≢true m)
no-member p (x ∷ xs) g h m =
    let parts = or_parts (p x) (list_any p xs) h in
    member-step p x xs g parts.0 (no-member p xs g parts.1) (eqb g x) refl m

test-at : (p : Feature → Bool) (o : Option Feature) (x : Feature) → o ≡ Some x → option_map_or p o false ≡ false → p x ≡ false
test-at p o x e h = ap (λ v. option_map_or p v false) (sym e) ∙ h

same-one : (f g : ℕ) (b : Bool) → (not (eqb f g) && b) ≡ false → b ≡ true → f ≡ g
same-one f g b h y = ⊎_elim (λ n. eqb-true f g (not-false (eqb f g) n)) (λ n. absurd (false≢true (sym n ∙ y))) (and_cases (not (eqb f g)) b h)

pub features-named : (mm : Metamodel) → no_clash mm ≡ Ok tt → (c f : ℕ) (feature : Feature) → c < length mm.classes → Contains (features_of mm c) f → feature_at mm f ≡ Some feature → feature_named mm c feature.name ≡ Some f
features-named mm h c f feature l has at =
    let all = features_of mm c in
    let member : list_any (eqb f) all ≡ true = list_any_at (eqb f) all has.0 f has.1 (eq-eqb f (get_or all has.0 f) (sym has.2)) in
    let clear : has_clash mm c ≡ false = none-bad (has_clash mm) wrong_class (numbers (length mm.classes)) class-wrong h c c (number-at (length mm.classes) c l) in
    let alone : list_any (λ g. not (eqb f g) && is_name_of mm feature.name g) all ≡ false = test-at (λ (one : Feature). list_any (λ g. not (eqb f g) && is_name_of mm one.name g) all) (feature_at mm f) feature at (no-member (clashes mm c) all f clear member) in
    let own : is_name_of mm feature.name f ≡ true = ap (λ o. option_map_or (λ (one : Feature). same_name one.name feature.name) o false) at ∙ nat_list_eq_equiv.refl feature.name in
    let found = find-passes (is_name_of mm feature.name) all f member own in
    let differs = no-member (λ g. not (eqb f g) && is_name_of mm feature.name g) all found.0 alone found.2 in
    found.1 ∙ ap Some (sym (same-one f found.0 (is_name_of mm feature.name found.0) differs found.3))

-- ---- opposites

refers : (kind : Kind) (c : ℕ) → refers_to kind c ≡ true → kind ≡ Reference c
refers (Reference k) c h = ap (λ n. Reference n) (eqb-true k c h)
refers Int c h = absurd (false≢true h)
refers BoolKind c h = absurd (false≢true h)
refers Text c h = absurd (false≢true h)
refers (Enum e) c h = absurd (false≢true h)

names-it : (o : Option ℕ) (f : ℕ) → names_feature o f ≡ true → o ≡ Some f
names-it None f h = absurd (false≢true h)
names-it (Some g) f h = ap Some (eqb-true g f h)

-- what a fit pair is
pub record Fits (f : ℕ) (feature : Feature) (g : ℕ) (other : Feature) : Type 0 where
  pub differ : f ≢ g
  pub named_back : other.opposite ≡ Some f
  pub refers_back : other.kind ≡ Reference feature.owner
  pub contained : (other.containment && (feature.containment || feature.many)) ≡ false

fits : (f : ℕ) (feature : Feature) (g : ℕ) (other : Feature) → unfit f feature g other ≡ false → Fits f feature g other
fits f feature g other h =
    let a = or_parts (eqb f g || not (names_feature other.opposite f) || not (refers_to other.kind feature.owner)) (other.containment && (feature.containment || feature.many)) h in
    let b = or_parts (eqb f g || not (names_feature other.opposite f)) (not (refers_to other.kind feature.owner)) a.0 in
    let d = or_parts (eqb f g) (not (names_feature other.opposite f)) b.0 in
    record {
      differ = eqb-false f g d.0;
      named_back = names-it other.opposite f (not-false _ d.1);
      refers_back = refers other.kind feature.owner (not-false _ b.1);
      contained = a.1;
    }

matched : (mm : Metamodel) (f g : ℕ) (feature : Feature) (o : Option Feature) → option_map_or (λ (other : Feature). unfit f feature g other) o true ≡ false → (other : Feature) × (o ≡ Some other) × Fits f feature g other
matched mm f g feature None h = absurd (true≢false h)
matched mm f g feature (Some other) h = (other, refl, fits f feature g other h)

some-wrong : (w : Feature → Result ⊤ Place) (o : Option Feature) → ((x : Feature) → w x ≡ Ok tt → ⊥) → option_map_or w o (Err []) ≡ Ok tt → ⊥
some-wrong w None e h = cc
some-wrong w (Some x) e h = e x h

feature-wrong : (mm : Metamodel) (f : ℕ) → ◌≡◌ {A = Result ⊤ Place} (wrong_feature mm f) (Ok tt) → ⊥
feature-wrong mm f h = some-wrong _ (feature_at mm f) (λ x g. cc) h

pub one-side : (mm : Metamodel) → opposites_match mm ≡ Ok tt → (f g : ℕ) (feature : Feature) → feature_at mm f ≡ Some feature → feature.opposite ≡ Some g → (other : Feature) × (feature_at mm g ≡ Some other) × Fits f feature g other
one-side mm h f g feature at names =
    let inside = slice_get_within mm.features f feature at in
    let clear : has_mismatch mm f ≡ false = none-bad (has_mismatch mm) (wrong_feature mm) (numbers (length mm.features)) (feature-wrong mm) h f f (number-at (length mm.features) f inside) in
    let mine : is_mismatched mm f feature feature.opposite ≡ false = test-at (λ (one : Feature). is_mismatched mm f one one.opposite) (feature_at mm f) feature at clear in
    matched mm f g feature (feature_at mm g) (ap (is_mismatched mm f feature) (sym names) ∙ mine)

alone : (a b c : Bool) → (a && (b || c)) ≡ false → (b ≡ true → a ≡ false) × (a ≡ true → c ≡ false)
alone true true c h = absurd (true≢false h)
alone true false c h = (λ t. absurd (false≢true t), λ _. h)
alone false b c h = (λ _. refl, λ t. absurd (false≢true t))

pub opposites-are : (mm : Metamodel) → opposites_match mm ≡ Ok tt → (f g : ℕ) (feature : Feature) → feature_at mm f ≡ Some feature → feature.opposite ≡ Some g → (other : Feature) × (feature_at mm g ≡ Some other) × AreOpposite f feature g other
opposites-are mm h f g feature at names =
    let there = one-side mm h f g feature at names in
    let back = one-side mm h g f there.0 there.1 there.2.named_back in
    let same : back.0 ≡ feature = same_Some back.0 feature (sym back.1 ∙ at) in
    let one = alone there.0.containment feature.containment feature.many there.2.contained in (
      there.0,
      there.1,
      record {
        differ = there.2.differ;
        named_back = there.2.named_back;
        target = subst (λ (x : Feature). x.kind ≡ Reference there.0.owner) same back.2.refers_back;
        target_back = there.2.refers_back;
        one_containment = one.0;
        single_container = one.1;
      },
    )

-- ---- limits

small-parts : (mm : Metamodel) → is_small mm ≡ true → (length mm.classes ≤ 1000) × (length mm.features ≤ 10000) × (length mm.enumerations ≤ 1000) × (literal_total mm ≤ 10000)
small-parts mm h =
    let a = and_parts (leb (length mm.classes) 1000 && leb (length mm.features) 10000 && leb (length mm.enumerations) 1000) (leb (literal_total mm) 10000) h in
    let b = and_parts (leb (length mm.classes) 1000 && leb (length mm.features) 10000) (leb (length mm.enumerations) 1000) a.0 in
    let d = and_parts (leb (length mm.classes) 1000) (leb (length mm.features) 10000) b.0 in
    (leb-true _ _ d.0, leb-true _ _ d.1, leb-true _ _ b.1, leb-true _ _ a.1)

chosen : (b : Bool) → ◌≡◌ {A = Result ⊤ Place} (cond b (Ok tt) (Err [])) (Ok tt) → b ≡ true
chosen true h = refl
chosen false h = cc

pub limits : (mm : Metamodel) → within_limits mm ≡ Ok tt → (length mm.classes ≤ 1000) × (length mm.features ≤ 10000) × (length mm.enumerations ≤ 1000) × (literal_total mm ≤ 10000)
limits mm h = small-parts mm (chosen (is_small mm) h)
