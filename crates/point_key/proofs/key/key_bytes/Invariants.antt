-- `point_key::key::key_bytes` meets its contract. Assumes nothing.
use Rattle.std.proofs.Common.{◌≡◌, ◌-◌}
use Rattle.point_rules.specs.Points.{key_steps, little_endian}
use Rattle.point_key.proofs.key.key_bytes.Given as goal

abbrev pub invariant-loop : goal.invariant-loop
invariant-loop l = key_steps l.h (little_endian (l.count - l.counter) l.w) ≡ key_steps l.start (little_endian l.count l.word)
