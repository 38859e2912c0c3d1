use Rattle.rbs_declarations.proofs.begins.keyword_begins.Goals as goal

pub returns-in-Class : goal.returns-in-Class
returns-in-Class c = rw c.in-Class.is c.member_keyword.ensures
