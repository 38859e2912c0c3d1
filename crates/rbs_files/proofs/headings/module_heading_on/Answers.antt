use Rattle.rbs_files.proofs.headings.module_heading_on.Goals as goal

pub returns-clause-phrase : goal.returns-clause-phrase
returns-clause-phrase c = (c.name_on.new.cursor.rest, c.params_on.new.cursor.rest, c.in_ok-name.ensures.phrase, c.in_ok-params.ensures.phrase, c.in_ok-selves.ensures.phrase)
