use Rattle.std.proofs.Common.{sym, ◌∙◌, ap}
use Rattle.rbs_files.proofs.Following.{extended_by, extension_is}
use Rattle.rbs_files.proofs.method_names.extension.Goals as goal

pub returns-in-Some : goal.returns-in-Some
returns-in-Some c = c.extended.ensures ∙ sym (extension_is c.args.operator c.args.cursor.now.rest ∙ ap (extended_by c.args.operator) (sym c.joined_mark.ensures ∙ c.in-Some.is))

pub returns-in-None : goal.returns-in-None
returns-in-None c = sym (extension_is c.args.operator c.args.cursor.now.rest ∙ ap (extended_by c.args.operator) (sym c.joined_mark.ensures ∙ c.in-None.is))
