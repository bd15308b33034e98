-- What objects and slots are where some objects are deleted.
use Rattle.std.proofs.Common.{◌≡◌, ℕ, true, false, not, ◌||◌, List, [], None, refl, sym, ap, ◌∙◌, cond, append-nil}
use Rattle.std.proofs.lemmas.Cmp.{nat_cmp_total}
use Rattle.std.specs.Prelude.{filter}
use Rattle.std.specs.Ordering.{nat_cmp}
use Rattle.std.specs.FinMap.{entries, get-entries, get-from_entries, nat_cmp-IsAntisymmetric}
use Rattle.std.specs.FinMap.Entries.{find-where_key}
use Rattle.wb_store.specs.Contents.{Contents, kind, slot}
use Rattle.wb_store.specs.Relinking.{relink, is_among, is_value_among, touches, without}
use Rattle.wb_store.proofs.Filtered.{filter-none}
use Rattle.wb_store.proofs.Relinked.{slot-relink}

module _ (m : Contents) (dead : List ℕ) where
  abbrev left : Contents
  left = without dead m

  abbrev stay_entries : List (ℕ × ℕ)
  stay_entries = filter (λ (e : ℕ × ℕ). not (is_among dead e.0)) (entries m.kinds)

  pub kind-without : (x : ℕ) → kind left x ≡ cond (not (is_among dead x)) (kind m x) None
  kind-without x =
      get-from_entries nat_cmp_total stay_entries x
      ∙ find-where_key nat_cmp (λ x. not (is_among dead x)) x (λ y e. ap (λ z. not (is_among dead z)) (sym (nat_cmp-IsAntisymmetric x y e))) (entries m.kinds)
      ∙ ap (λ r. cond (not (is_among dead x)) r None) (sym (get-entries m.kinds x))

  pub slot-without : (o f : ℕ) → slot left o f ≡ cond (is_among dead o) [] (filter (λ v. not (is_value_among dead v)) (slot m o f))
  unfolding relink
  slot-without o f =
      slot-relink (touches dead) [] m o f ∙ append-nil (filter (λ v. not (is_among dead o || is_value_among dead v)) (slot m o f))
      ∙ elim (is_among dead o) as (λ b. filter (λ v. not (b || is_value_among dead v)) (slot m o f) ≡ cond b [] (filter (λ v. not (is_value_among dead v)) (slot m o f))) [
        | true ↦ filter-none (λ v. false) (slot m o f) (λ v i. refl)
        | false ↦ refl
      ]
