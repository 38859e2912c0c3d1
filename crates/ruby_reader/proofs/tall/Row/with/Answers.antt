use Rattle.ruby_reader.proofs.Heights.{row_more}
use Rattle.ruby_reader.proofs.tall.Row.with.Goals as goal

pub invariant_of-result : goal.invariant_of-result
invariant_of-result c = row_more c.self.inside.items c.push.new.self c.more.inside.expression c.self.inside.levels c.more.inside.levels c.max.result c.in_ok-push.ensures.ok c.self.invariant c.more.invariant c.max.ensures
