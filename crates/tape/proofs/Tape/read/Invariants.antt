-- `read` meets its contract: at each turn the manifests passed are short enough.
use Rattle.tape.proofs.Kit.{◌≡◌}
use Rattle.history.specs.Tape.{manifest_count}
use Rattle.tape.proofs.Places.{Passed}
use Rattle.tape.proofs.Tape.read.Given as goal

abbrev pub invariant-loop-passed : goal.invariant-loop-passed
invariant-loop-passed l = (l.count ≡ manifest_count l.bytes) × Passed l.bytes l._passed l.at
