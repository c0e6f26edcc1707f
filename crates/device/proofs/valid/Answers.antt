-- The tests as the code makes them are those of the definition.
use Rattle.std.proofs.Common.{rules, sym, ◌∙◌, ◌≡◌, length, arith}
use Rattle.device.specs.LookupLaws.{stored-as-tested}
use Rattle.device.proofs.valid.Goals as goal

pub returns-then-loans_padded : goal.returns-then-loans_padded
returns-then-loans_padded c =
    let long : length c.args.lent ≡ 128 = omega arith in
    search rules ∙ sym (stored-as-tested c.args.d c.args.lent long)

pub returns-else-loans_padded : goal.returns-else-loans_padded
returns-else-loans_padded c =
    let long : length c.args.lent ≡ 128 = omega arith in
    search rules ∙ sym (stored-as-tested c.args.d c.args.lent long)
