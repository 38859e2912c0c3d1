use Rattle.std.proofs.Common.{List, ℕ}
use Rattle.sig_model.specs.PlainDecl.{plain_decls}
use Rattle.call_outcomes.specs.Only.{IsOnly}
use Rattle.steep_cli.specs.Lists.{RubyLists}
use Rattle.call_outcomes.specs.Loads.{IsLoaded}
use Rattle.steep_cli.proofs.OnlyLists.{only_large, ok_is}
use Rattle.steep_cli.proofs.lists.ruby_list.Goals as goal

pub returns-in-TooLarge : goal.returns-in-TooLarge
returns-in-TooLarge c =
    ok_is c.at_first.result _ (λ list. (bytes : List ℕ) → IsLoaded bytes c.args.ruby.now → IsOnly (RubyLists (plain_decls c.args.decls.now) bytes) list) c.at_first.ensures
    (λ bytes loaded. only_large (plain_decls c.args.decls.now) bytes (rw c.in-TooLarge.is at loaded))
