-- `lacking` meets its contract: each operation that is asked for has to have a ground.
use Rattle.rules.specs.Lists.{test}
use Rattle.rules.specs.Refusals.{lacking}
use Rattle.answers.proofs.Grounds.{none-is}
use Rattle.answers.proofs.lacking.Goals as goal

pub returns : goal.returns
unfolding lacking test
returns c =
    rw (c.is_in.ensures, c.is_in-2.ensures, c.eq.ensures, c.eq-2.ensures, none-is c.args.read, none-is c.args.write)
