-- Each turn brings one instance more of the list.
use Rattle.std.proofs.Common.{◌≡◌, take}
use Rattle.tables.specs.Held.{instances_table}
use Rattle.device.proofs.running_agrees.Given as goal

abbrev pub invariant-loop-instance : goal.invariant-loop-instance
invariant-loop-instance l = l.brought ≡ instances_table (take l.instance-index l.instance-items)
