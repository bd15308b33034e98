-- A move of an object keeps a model valid.
use Rattle.std.proofs.Common.{◌≡◌, ℕ, true, false, not, ◌&&◌, [], ◌∷◌, None, refl, sym, subst, ◌∙◌, cond, eqb}
use Rattle.std.proofs.lemmas.Bool.{false≢true, not-false, not-true, not_from_false, eq-eqb, ne_eqb, or_parts}
use Rattle.std.specs.Prelude.{IsSome, Some, Ok}
use Rattle.wb_metamodel.specs.WellFormed.{WellFormed}
use Rattle.wb_store.specs.declared.scalars.Scalar.TheVariants.{Object}
use Rattle.wb_model.specs.declared.refusals.ModelRefusal.TheVariants.{UnknownObject, KindMismatch, UpperBound, ContainmentCycle}
use Rattle.wb_store.specs.Contents.{Contents, kind, contains}
use Rattle.wb_store.specs.Cells.{tree}
use Rattle.wb_validity.specs.Valid.{IsValid}
use Rattle.wb_store.specs.Relinking.{link, relink, is_among, stands, without_root}
use Rattle.wb_model.specs.Edits.{place, moved, is_live, is_full, may_contain, conforms_as, refusal_of_move, move_to}
use Rattle.wb_model.proofs.FewerRoots.{among-filter, filter-among, once-filter}
use Rattle.wb_model.proofs.KeptLinks.{and-true, not_refused, accepted, sound, housed, valid}
use Rattle.wb_model.proofs.Live.{kind-at}
use Rattle.wb_model.proofs.Placing.{MayHold, may-hold, HasPlace, placed-sound, placed-only, placed-stays, placed-there, placed-kind}
use Rattle.wb_model.proofs.Rehoused.{IsRehoused, housed-rehoused}
use Rattle.wb_model.proofs.Sound.{absent, Sound, Housed}
use Rattle.wb_model.proofs.TreesWithin.{within-tree, In-among}

-- ---- what an accepted edit says

pub record MayMove (m : Contents) (o p f : ℕ) : Type 0 where
  pub live : (is_live m o && is_live m p) ≡ true
  pub sort : conforms_as m p f o ≡ true
  pub space : (not (stands m (link p f (Object o))) && is_full m p f) ≡ false
  pub no_cycle : is_among (o ∷ tree m o) p ≡ false

pub may-move : (m : Contents) (o p f : ℕ) → refusal_of_move m o p f ≡ None → MayMove m o p f
may-move m o p f h =
    let full = not (stands m (link p f (Object o))) && is_full m p f in
    let cycle = is_among (o ∷ tree m o) p in
    let a = not_refused (not (is_live m o && is_live m p)) UnknownObject ((not (conforms_as m p f o), KindMismatch) ∷ (full, UpperBound) ∷ (cycle, ContainmentCycle) ∷ []) h in
    let b = not_refused (not (conforms_as m p f o)) KindMismatch ((full, UpperBound) ∷ (cycle, ContainmentCycle) ∷ []) a.1 in
    let c = not_refused full UpperBound ((cycle, ContainmentCycle) ∷ []) b.1 in
    let d = not_refused cycle ContainmentCycle [] c.1 in
    record { live = not-false _ a.0; sort = not-false _ b.0; space = c.0; no_cycle = d.0 }

-- the object has a class, and its new slot may hold objects of this class
pub moves-class : (m : Contents) (o p f : ℕ) → MayMove m o p f → (c : ℕ) × (kind m o ≡ Some c) × (may_contain m p f c ≡ true)
moves-class m o p f may = kind-at m o (may_contain m p f) may.sort

pub moves-into : (m : Contents) (o p f : ℕ) (may : MayMove m o p f) → MayHold m p f (moves-class m o p f may).0
moves-into m o p f may = may-hold m p f (moves-class m o p f may).0 (moves-class m o p f may).2

module _ (m : Contents) (well : WellFormed m.metamodel) (s : Sound m) (h : Housed m) (o p f : ℕ) (may : MayMove m o p f) (new : stands m (link p f (Object o)) ≡ false) where
  abbrev rootless : Contents
  rootless = without_root o m

  sound-rootless : Sound rootless
  sound-rootless = record { next_spent = s.next_spent; numbers = s.numbers; concrete = s.concrete; of_class = s.of_class; has_room = s.has_room; of_kind = s.of_kind; values_differ = s.values_differ; agree = s.agree; few = s.few }

  has : HasPlace rootless o p f
  has =
      let c = moves-class m o p f may in
      let holds = moves-into m o p f may in
      record {
        class = c.0;
        is_class = c.1;
        holds = record { of_class = holds.of_class; containment = holds.containment; refers = holds.refers };
        new = absent m (link p f (Object o)) new;
        not_full = and-true (not (stands m (link p f (Object o)))) (is_full m p f) (not_from_false _ new) may.space;
      }

  cycle-parts : (eqb o p ≡ false) × (is_among (tree m o) p ≡ false)
  cycle-parts = or_parts (eqb o p) (is_among (tree m o) p) may.no_cycle

  pub is_there : contains (place o p f rootless) p f o ≡ true
  is_there = placed-there rootless well sound-rootless o p f has

  rehoused : IsRehoused m (place o p f rootless) p f o
  unfolding relink
  rehoused = record {
    only = placed-only rootless well sound-rootless o p f has;
    stays = placed-stays rootless well sound-rootless o p f has;
    placed = is_there;
    live = λ x live n. subst IsSome (placed-kind rootless o p f x) live;
    lives = λ x live. subst IsSome (sym (placed-kind rootless o p f x)) live;
    apart = λ e. false≢true (sym cycle-parts.0 ∙ eq-eqb o p (sym e));
    not_within = λ w. false≢true (sym cycle-parts.1 ∙ In-among (tree m o) p (within-tree m s h.no_ring o p w));
    roots_once = once-filter (λ root. not (eqb root o)) m.roots h.roots.each_once;
    root = λ x r. let both = among-filter (λ root. not (eqb root o)) m.roots x r in (both.0, (λ e. false≢true (sym (not-true _ both.1) ∙ eq-eqb x o e)));
    roots = λ x r n. filter-among (λ root. not (eqb root o)) m.roots x r (not_from_false _ (ne_eqb x o n));
  }

  moved-there : IsValid (place o p f rootless)
  moved-there = valid (place o p f rootless) (placed-sound rootless well sound-rootless o p f has) (housed-rehoused m (place o p f rootless) p f o rehoused h)

moved-valid : (m : Contents) → WellFormed m.metamodel → IsValid m → (o p f : ℕ) → refusal_of_move m o p f ≡ None → IsValid (moved o p f m)
moved-valid m well v o p f e =
    elim (stands m (link p f (Object o))) as (λ b. stands m (link p f (Object o)) ≡ b → IsValid (cond b m (place o p f (without_root o m)))) [
      | true ↦ λ s. v
      | false ↦ λ n. moved-there m well (sound m v) (housed m v) o p f (may-move m o p f e) n
    ] refl

pub kept_move : (m n : Contents) (o p f : ℕ) → WellFormed m.metamodel → IsValid m → move_to m o p f ≡ Ok n → IsValid n
kept_move m n o p f well v h =
    let a = accepted (refusal_of_move m o p f) (moved o p f m) n h in
    subst IsValid a.1 (moved-valid m well v o p f a.0)
