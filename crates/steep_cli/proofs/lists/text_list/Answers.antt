use Rattle.sig_model.specs.PlainDecl.{plain_decls}
use Rattle.call_outcomes.specs.Only.{IsOnly}
use Rattle.steep_cli.specs.Lists.{RubyLists}
use Rattle.steep_cli.proofs.OnlyLists.{only_bodies, only_none, ok_is}
use Rattle.steep_cli.proofs.lists.text_list.Goals as goal

pub returns-in-Some : goal.returns-in-Some
returns-in-Some c =
    only_bodies (plain_decls c.args.decls.now) c.args.bytes.now c.in-Some.list c.ordered.result c.requires (rw c.in-Some.is at c.in_ok-list.ensures)
    (record { ordered = c.ordered.ensures.order; same = c.ordered.ensures.same }) c.ordered.ensures.only

pub returns-in-None : goal.returns-in-None
returns-in-None c =
    ok_is c.at_first.result _ (IsOnly (RubyLists (plain_decls c.args.decls.now) c.args.bytes.now)) c.at_first.ensures (only_none (plain_decls c.args.decls.now) c.args.bytes.now c.requires (rw c.in-None.is at c.in_ok-list.ensures))
