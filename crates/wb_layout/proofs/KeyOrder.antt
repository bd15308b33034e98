-- Keys are totally ordered, and only equal ones tie.
use Rattle.std.proofs.Common.{◌≡◌, refl, ap, ◌∙◌}
use Rattle.std.specs.declared.cmp.Ordering.{Ordering}
use Rattle.std.specs.declared.cmp.Ordering.TheVariants as c
use Rattle.std.specs.Ordering.{nat_cmp, ordering_then}
use Rattle.std.specs.Cmp.{IsTotalOrder}
use Rattle.std.specs.Cmp.Lexicographic.{lists_total}
use Rattle.std.specs.FinMap.{IsAntisymmetric, nat_cmp-IsAntisymmetric, slice_cmp-IsAntisymmetric}
use Rattle.std.proofs.lemmas.Cmp.{nat_cmp_total, then_total, on_total}
use Rattle.wb_diagram.specs.declared.keys.Pair.{Pair}
use Rattle.wb_diagram.specs.declared.keys.Key.{Key}
use Rattle.wb_layout.specs.Orders.{pair_cmp, key_cmp}

pub key_cmp_total : IsTotalOrder key_cmp
key_cmp_total = on_total (λ (k : Key). k.pairs) (lists_total (then_total (on_total (λ (p : Pair). p.mapping) nat_cmp_total) (on_total (λ (p : Pair). p.object) nat_cmp_total)))

same_pair : (p q : Pair) (r s : Ordering) → nat_cmp p.mapping q.mapping ≡ r → nat_cmp p.object q.object ≡ s → ordering_then r s ≡ c.Equal → p ≡ q
same_pair p q c.Equal c.Equal e f h =
    let a : p.mapping ≡ q.mapping = nat_cmp-IsAntisymmetric p.mapping q.mapping e in
    let b : p.object ≡ q.object = nat_cmp-IsAntisymmetric p.object q.object f in
    ap (λ n. let x : Pair = record { mapping = n; object = p.object } in x) a ∙ ap (λ n. let x : Pair = record { mapping = q.mapping; object = n } in x) b
same_pair p q c.Equal c.Less e f h = absurd cc
same_pair p q c.Equal c.Greater e f h = absurd cc
same_pair p q c.Less s e f h = absurd cc
same_pair p q c.Greater s e f h = absurd cc

pub key_cmp-IsAntisymmetric : IsAntisymmetric key_cmp
key_cmp-IsAntisymmetric k l e = ap (λ ps. let x : Key = record { pairs = ps } in x)
    (slice_cmp-IsAntisymmetric {R = pair_cmp} (λ p q h. same_pair p q (nat_cmp p.mapping q.mapping) (nat_cmp p.object q.object) refl refl h) k.pairs l.pairs e)
