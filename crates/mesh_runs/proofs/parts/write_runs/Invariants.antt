-- `write_runs` meets its contract. With the materials below a bound done, their runs and parts are written and those of the rest are left. Assumes nothing.
use Prim.Native.Nat.{◌-◌}
use Rattle.mesh_runs.proofs.PartLaws.{Parting}
use Rattle.mesh_runs.proofs.parts.write_runs.Given as goal

abbrev pub invariant-loop-q : goal.invariant-loop-q
invariant-loop-q l = Parting l.rows l.indices l.initial.w l.at l.starts l.order l.m l.initial.out l.initial.parts l.q l.o l.p l.w l.out l.parts

abbrev pub decreases-loop-q : goal.decreases-loop-q
decreases-loop-q l = l.m - l.q
