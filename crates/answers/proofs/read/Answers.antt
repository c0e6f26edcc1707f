-- `read` meets its contract: an access to read.
use Rattle.rules.specs.Answer.{answer, ground_for, value_for}
use Rattle.rules.specs.Refusals.{refusals}
use Rattle.answers.specs.Answering.{access_in}
use Rattle.answers.proofs.read.Goals as goal

pub returns : goal.returns
unfolding access_in answer refusals ground_for value_for
returns c = c.access.ensures
