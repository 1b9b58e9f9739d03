use Rattle.std.proofs.Common.{rules}
use Rattle.script.proofs.tokens.Token.number.Goals as goal

pub returns-in-Number : goal.returns-in-Number
returns-in-Number g c = rw c.in-Number.is (c.try_from.result, c.try_from.ensures, search rules)
