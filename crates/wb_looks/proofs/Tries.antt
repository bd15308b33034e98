-- Styles that were tried one after the other.
use Rattle.std.proofs.Common.{◌≡◌, ◌+◌, ◌-◌, ◌<◌, ℕ, zero, suc, true, false, List, [], ◌∷◌, ◌++◌, refl, sym, ap, ◌∙◌, arith, append_assoc, append-nil, add-one, if◌then◌else◌}
use Rattle.wb_diagram.specs.declared.keys.AnyKey.{AnyKey}
use Rattle.wb_diagram.specs.declared.units.Unit.{Unit}
use Rattle.wb_diagram.specs.declared.units.Unit.TheVariants.{Style}
use Rattle.wb_answers.specs.Meanings.{is_true}
use Rattle.wb_answers.specs.Seen.{Told}
use Rattle.wb_looks.specs.Looks.{chosen, style_units}

-- the first styles' predicates
pub tried : AnyKey → ℕ → List Unit
tried key zero = []
tried key (suc n) = tried key n ++ Style (suc n) key ∷ []

-- none of these many styles holds, so what the others give is what all give
pub record Tried (told : Told) (key : AnyKey) (count index : ℕ) : Type 0 where
  pub split : tried key index ++ style_units told key (suc index) (count - index) ≡ style_units told key 1 count
  pub same : chosen told key (suc index) (count - index) ≡ chosen told key 1 count

pub none_tried : (told : Told) (key : AnyKey) (count : ℕ) → Tried told key count 0
unfolding tried
none_tried told key count = record { split = ap (style_units told key 1) zero_less; same = ap (chosen told key 1) zero_less }
  where
    zero_less : count - 0 ≡ count
    zero_less = omega arith

pub tried_all : (told : Told) (key : AnyKey) (count : ℕ) → Tried told key count count → (tried key count ≡ style_units told key 1 count) × (0 ≡ chosen told key 1 count)
unfolding style_units chosen
tried_all told key count t =
    let none : count - count ≡ 0 = omega arith in (
      sym (append-nil (tried key count)) ∙ (ap (λ n. tried key count ++ style_units told key (suc count) n) (sym none) ∙ t.split),
      ap (chosen told key (suc count)) (sym none) ∙ t.same,
    )

step : (told : Told) (key : AnyKey) (style n : ℕ) → is_true (told (Style style key)) ≡ false → (style_units told key style (suc n) ≡ Style style key ∷ style_units told key (suc style) n) × (chosen told key style (suc n) ≡ chosen told key (suc style) n)
unfolding style_units chosen
step told key style n fails = (ap (λ b. Style style key ∷ (if b then [] else style_units told key (suc style) n)) fails, ap (λ b. if b then style else chosen told key (suc style) n) fails)

hit : (told : Told) (key : AnyKey) (style n : ℕ) → is_true (told (Style style key)) ≡ true → (style_units told key style (suc n) ≡ Style style key ∷ []) × (chosen told key style (suc n) ≡ style)
unfolding style_units chosen
hit told key style n holds = (ap (λ b. Style style key ∷ (if b then [] else style_units told key (suc style) n)) holds, ap (λ b. if b then style else chosen told key (suc style) n) holds)

left : (count index : ℕ) → index < count → count - index ≡ suc (count - suc index)
left count index within = omega (arith, within)

pub tried_next : (told : Told) (key : AnyKey) (count index : ℕ) → index < count → is_true (told (Style (suc index) key)) ≡ false → Tried told key count index → Tried told key count (suc index)
unfolding tried
tried_next told key count index within fails t =
    let more = step told key (suc index) (count - suc index) fails in
    record {
      split = append_assoc (tried key index) (Style (suc index) key ∷ []) (style_units told key (suc (suc index)) (count - suc index))
          ∙ (ap (λ us. tried key index ++ us) (sym more.0 ∙ ap (style_units told key (suc index)) (sym (left count index within))) ∙ t.split);
      same = sym more.1 ∙ (ap (chosen told key (suc index)) (sym (left count index within)) ∙ t.same);
    }

pub tried_hit : (told : Told) (key : AnyKey) (count index : ℕ) → index < count → is_true (told (Style (suc index) key)) ≡ true → Tried told key count index
    → (tried key index ++ Style (suc index) key ∷ [] ≡ style_units told key 1 count) × (suc index ≡ chosen told key 1 count)
tried_hit told key count index within holds t =
    let one = hit told key (suc index) (count - suc index) holds in (
      ap (λ us. tried key index ++ us) (sym one.0 ∙ ap (style_units told key (suc index)) (sym (left count index within))) ∙ t.split,
      sym one.1 ∙ (ap (chosen told key (suc index)) (sym (left count index within)) ∙ t.same),
    )

-- at any style the rest of the predicates begins with its own
pub tried_here : (told : Told) (key : AnyKey) (count index : ℕ) → index < count → Tried told key count index
    → (rest : List Unit) × (tried key index ++ (Style (suc index) key ∷ rest) ≡ style_units told key 1 count)
unfolding style_units
tried_here told key count index within t = (
  (if is_true (told (Style (suc index) key)) then [] else style_units told key (suc (suc index)) (count - suc index)),
  ap (λ n. tried key index ++ style_units told key (suc index) n) (sym (left count index within)) ∙ t.split,
)

pub tried_none : (key : AnyKey) → tried key 0 ≡ []
unfolding tried
tried_none key = refl

pub tried_more : (key : AnyKey) (n : ℕ) → tried key n ++ Style (n + 1) key ∷ [] ≡ tried key (n + 1)
unfolding tried
tried_more key n = ap (λ k. tried key n ++ Style k key ∷ []) (add-one n) ∙ (more key n ∙ ap (tried key) (sym (add-one n)))
  where
    more : (key : AnyKey) (n : ℕ) → tried key n ++ Style (suc n) key ∷ [] ≡ tried key (suc n)
    more key n = refl
