-- `add_use` meets its contract: the permission is pushed to the uses.
use Rattle.std.proofs.Common.{ℕ, ap}
use Rattle.state.specs.declared.Table.{Table}
use Rattle.monitor.specs.Installing.{add_use}
use Rattle.monitor.proofs.add_use.Goals as goal

pub returns : goal.returns
unfolding add_use
returns c =
    let a = c.args.app in
    ap (λ (t : Table ℕ 32). record {
      number = a.number;
      signer = a.signer;
      image = a.image;
      uses = t;
      grants = a.grants;
      groups = a.groups;
    }) c.push.ensures
