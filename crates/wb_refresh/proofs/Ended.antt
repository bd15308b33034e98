-- What asking all units by evaluating leaves.
use Rattle.std.proofs.Common.{◌≡◌, ◌+◌, ◌≤◌, ◌<◌, ◌⊎◌, ℕ, Bool, true, false, ◌||◌, nat_lt, List, [], ◌∷◌, ◌++◌, map, length, refl, sym, ap, subst, ◌∙◌, arith, length-append, ⊎_elim}
use Rattle.std.specs.List.{sum_by}
use Rattle.std.specs.Prelude.{Result, Ok, Err}
use Rattle.std.specs.Borrow.{GName}
use Rattle.std.proofs.lemmas.List.{map-append}
use Rattle.std.proofs.lemmas.List.Sums.{sum_by-append}
use Rattle.std.proofs.lemmas.Grind.{common_steps}
use Rattle.wb_diagram.specs.declared.units.Unit.{Unit as Place}
use Rattle.wb_spec_check.specs.Checked.{IsGood}
use Rattle.wb_answers.specs.Limits.{AsksUpTo}
use Rattle.wb_answers.specs.Seen.{Seen, after, Stopped}
use Rattle.wb_answers.specs.declared.answers.Stop.{Stop}
use Rattle.wb_answers.specs.declared.answers.Stop.TheVariants.{TooLarge}
use Rattle.wb_answers.specs.declared.rows.Row.{Row}
use Rattle.wb_refresh.specs.Diagrams.{size_of, units_of}
use Rattle.wb_refresh.specs.Endings.{Ends}
use Rattle.wb_refresh.specs.Openings.{all_rows, all_units, is_too_large}
use Rattle.wb_refresh.specs.Outcomes.{Gives, cost, row, told}
use Rattle.wb_refresh.specs.Subjects.{Subject, scene}
use Rattle.wb_refresh.specs.Tables.{Evaluated, none_evaluated, seen_by}
use Rattle.wb_refresh.specs.Weights.{is_over, weight_of}
use Rattle.wb_refresh.proofs.Counting.{all_counted}
use Rattle.wb_refresh.proofs.DiagramLaws.{units_have_expressions}

-- ---- tests

grows : (a b x y : ℕ) → a ≤ b → x ≤ y → (nat_lt 100000 a || nat_lt 2000000 x) ≡ true → (nat_lt 100000 b || nat_lt 2000000 y) ≡ true
grows a b x y ab xy h = grind (arith, common_steps)

neither : (b : Bool) (n : ℕ) → b ≡ false → n ≤ 100000 → (b || nat_lt 100000 n) ≡ false
neither b n is few = grind (arith, common_steps)

one_way : (b : Bool) (n : ℕ) → b ≡ true → (b || nat_lt 100000 n) ≡ true
one_way b n is = grind (arith, common_steps)

other_way : (b : Bool) (n : ℕ) → 100000 < n → (b || nat_lt 100000 n) ≡ true
other_way b n many = grind (arith, common_steps)

-- ---- from nothing evaluated

module _ (gives : Gives) (s : Subject) (count : ℕ) (names : List GName) (now : Seen) (own : now.over ≡ is_over now.kept) where
  abbrev pub start : Seen
  start = seen_by gives (none_evaluated s.setting) count names

  abbrev units : List Place
  units = all_units gives s

  abbrev rows : List Row
  rows = all_rows gives s

  abbrev AllAsked : Type 0
  AllAsked = now ≡ after start units

  kept_all : AllAsked → now.kept ≡ rows
  unfolding after
  kept_all is = ap (λ (m : Seen). m.kept) is

  spent_all : AllAsked → now.spent ≡ count + sum_by (cost s.setting) units
  unfolding after
  spent_all is = ap (λ (m : Seen). m.spent) is

  metamodel_all : AllAsked → now.metamodel ≡ s.setting.model.metamodel
  unfolding after
  metamodel_all is = ap (λ (m : Seen). m.metamodel) is

  lenders_all : AllAsked → now.lenders ≡ names
  unfolding after
  lenders_all is = ap (λ (m : Seen). m.lenders) is

  not_over : AllAsked → is_over rows ≡ false
  unfolding after
  not_over is = ap is_over (sym (kept_all is)) ∙ (sym own ∙ ap (λ (m : Seen). m.over) is)

  -- what is over with a front of the units is over with all
  over_with_all : Stopped start units now → now.over ≡ true → is_over rows ≡ true
  over_with_all stop over =
      let first = map (row gives s.setting) stop.front in
      let rest = map (row gives s.setting) stop.rest in
      let all = ap (map (row gives s.setting)) (sym stop.is) ∙ map-append (row gives s.setting) stop.front stop.rest in
      let longer = ap length all ∙ length-append first rest in
      let heavier = ap (sum_by weight_of) all ∙ sum_by-append weight_of first rest in
      let shorter = ap length stop.kept in
      let lighter = ap (sum_by weight_of) stop.kept in
      grows (length now.kept) (length rows) (sum_by weight_of now.kept) (sum_by weight_of rows) (omega (arith, longer, shorter)) (omega (arith, heavier, lighter)) (sym own ∙ over)

  too_large : Stopped start units now → (now.over ≡ true) ⊎ (100000 < size_of (scene s) (told gives s.setting)) → is_too_large gives s ≡ true
  too_large stop large =
      ⊎_elim {C = is_too_large gives s ≡ true} (λ over. one_way (is_over rows) (size_of (scene s) (told gives s.setting)) (over_with_all stop over))
      (λ many. other_way (is_over rows) (size_of (scene s) (told gives s.setting)) many)
      large

ends : {A : Type 0} (gives : Gives) (s : Subject) (count risen : ℕ) (names names_now : List GName) (t now : Evaluated) (r : Result A Stop) → t ≡ none_evaluated s.setting
    → sum_by (cost s.setting) (all_units gives s) ≡ length (all_units gives s)
    → AsksUpTo (seen_by gives t count names) (units_of (scene s) (told gives t.setting)) (size_of (scene s) (told gives t.setting)) r (seen_by gives now risen names_now)
    → Ends gives s count r now risen × (names_now ≡ names)
ends {A} gives s count risen names names_now t now r fresh each asks =
    by r (let P : Evaluated → Type 0 = λ e. AsksUpTo (seen_by gives e count names) (units_of (scene s) (told gives e.setting)) (size_of (scene s) (told gives e.setting)) r end in subst P fresh asks)
  where
    end : Seen
    end = seen_by gives now risen names_now

    by : (r : Result A Stop) → AsksUpTo (seen_by gives (none_evaluated s.setting) count names) (all_units gives s) (size_of (scene s) (told gives s.setting)) r end → Ends gives s count r now risen × (names_now ≡ names)
    by (Ok x) asks =
        let spent = spent_all gives s count names end refl asks.asked in (
          record {
            rows = kept_all gives s count names end refl asks.asked;
            metamodel = metamodel_all gives s count names end refl asks.asked;
            few = neither (is_over (all_rows gives s)) (size_of (scene s) (told gives s.setting)) (not_over gives s count names end refl asks.asked) asks.few;
            large = tt;
            counted = spent ∙ ap (λ n. count + n) each;
            most = omega (arith, spent, each);
          },
          lenders_all gives s count names end refl asks.asked,
        )
    by (Err stop) asks =
        let most = asks.stopped.spent in (
          record {
            rows = tt;
            metamodel = asks.stopped.metamodel;
            few = tt;
            large = λ same. too_large gives s count names end refl asks.stopped (asks.large same);
            counted = tt;
            most = omega (arith, most, each);
          },
          asks.stopped.lenders,
        )

-- the same in a viewpoint that was checked
pub all_ends : {A : Type 0} (gives : Gives) (s : Subject) (count risen : ℕ) (names names_now : List GName) (t now : Evaluated) (r : Result A Stop) → t ≡ none_evaluated s.setting → IsGood s.setting.spec
    → AsksUpTo (seen_by gives t count names) (units_of (scene s) (told gives t.setting)) (size_of (scene s) (told gives t.setting)) r (seen_by gives now risen names_now)
    → Ends gives s count r now risen × (names_now ≡ names)
all_ends gives s count risen names names_now t now r fresh good asks =
    ends gives s count risen names names_now t now r fresh (all_counted s.setting (all_units gives s) (units_have_expressions (scene s) (told gives s.setting) good)) asks
