-- `manifest` meets its contract: in a tape every manifest that is passed is there.
use Rattle.tape.proofs.Kit.{◌≡◌}
use Rattle.history.specs.Tape.{manifest_place}
use Rattle.tape.proofs.Tape.manifest.Given as goal

abbrev pub invariant-loop-passed : goal.invariant-loop-passed
invariant-loop-passed l = l.at ≡ manifest_place l.bytes l._passed
