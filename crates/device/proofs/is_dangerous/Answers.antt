-- A permission is dangerous if its definition in force says so.
use Rattle.std.proofs.Common.{rules}
use borrow.Author.Tests.{tests}
use Rattle.rules.specs.Permissions.{dangerous}
use Rattle.device.proofs.Options.{tested}
use Rattle.device.proofs.is_dangerous.Goals as goal

pub returns : goal.returns
returns c = tested dangerous _ c.known_of.ensures c.is_some_and.ensures (λ x e. search (rules, tests))
