-- Where a count did not rise, nothing was counted.
use Rattle.std.proofs.Common.{◌≡◌, ◌∙◌, sym, ap, inl, inr, ℕ, ◌+◌, ◌-◌, ◌^◌, ◌<◌, arith}
use Rattle.wb_outer.specs.Door.{DoorTold}
use Rattle.wb_serving.specs.declared.ends.Ended.{Ended}
use Rattle.wb_serving.specs.declared.ends.Ended.TheVariants.{Fault}
use Rattle.wb_serving.specs.Counts.{IsRiseOf}
use Rattle.wb_serving.specs.Machines.{Law, MachineTold}
use Rattle.wb_serving.specs.Runs.{Serves, unkept_of, faults_of, fault_at}

none_counted : (n before now : ℕ) → IsRiseOf n before now → now ≡ before → now < 2 ^ 64 - 1 → n ≡ 0
none_counted n before now (inl least) same less = omega (arith, least, same)
none_counted n before now (inr full) same less = absurd (omega (arith, full, less))

module _ {S : Type 0} (law : Law S) (m m' : MachineTold S) (d d' : DoorTold) (limit : ℕ) (ended : Ended) (served : Serves law m m' d d' limit ended) where
  pub none_unkept : m'.faults ≡ m.faults → m'.faults < 2 ^ 64 - 1 → unkept_of served.visits ≡ 0
  none_unkept same less = none_counted (unkept_of served.visits) m.faults m'.faults served.run.unkept same less

  none_failed : d'.faults ≡ d.faults → d'.faults < 2 ^ 64 - 1 → faults_of served.visits + fault_at ended ≡ 0
  none_failed same less = none_counted (faults_of served.visits + fault_at ended) d.faults d'.faults served.run.faults same less

  pub none_faulty : d'.faults ≡ d.faults → d'.faults < 2 ^ 64 - 1 → (faults_of served.visits ≡ 0) × (ended ≡ Fault → ⊥)
  none_faulty same less =
      let none = none_failed same less in
      (omega (arith, none), λ is. let one : fault_at ended ≡ 1 = ap fault_at is in absurd (omega (arith, none, one)))
