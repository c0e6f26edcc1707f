-- What the monitor makes of an action record of a tape.
use Rattle.std.specs.Prelude.{ℕ, List}
use Rattle.rules.specs.declared.Loan.{Loan}
use Rattle.state.specs.declared.Device.{Device}
use Rattle.monitor.specs.declared.Stepped.{Stepped}
use Rattle.history.specs.Run.{monitor_steps, Held, answer_to, held_after}

-- record i at a device and the table lent to it
abbrev pub held_by : Device → List Loan → Held
held_by d lent = record { device = d; lent = lent }

abbrev pub stepped : List ℕ → Device → List Loan → ℕ → Stepped
stepped s d lent i =
    record {
      device = (held_after monitor_steps s (held_by d lent) i).device;
      lent = (held_after monitor_steps s (held_by d lent) i).lent;
      answer = answer_to monitor_steps s (held_by d lent) i;
    }
