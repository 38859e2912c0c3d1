use Rattle.std.proofs.Common.{List, ℕ, subst}
use Rattle.sig_model.specs.PlainDecl.{plain_decls}
use Rattle.sig_model.specs.declared.decl.Decl.{Decl}
use Rattle.call_outcomes.specs.Only.{IsOnly}
use Rattle.steep_cli.specs.Lists.{RubyLists, Lists}
use Rattle.call_outcomes.specs.Loads.{IsLoaded}
use Rattle.steep_cli.proofs.OnlyLists.{only_good_signature, only_no_signature, ok_is, ok_on}
use Rattle.steep_cli.proofs.lists.signature_list.Goals as goal

pub returns-in-Some : goal.returns-in-Some
returns-in-Some c =
    let found = rw c.in-Some.is at c.in_ok-decls.ensures in
    ok_on c.ruby_list.result
    (λ list. (text : List ℕ) → IsLoaded text c.args.ruby.now → IsOnly (RubyLists (plain_decls c.as_slice.result.now) text) list)
    (λ list. (text : List ℕ) → IsLoaded text c.args.ruby.now → IsOnly (Lists c.args.bytes.now text) list)
    c.ruby_list.ensures
    (λ list listed text loaded. only_good_signature c.args.bytes.now text (plain_decls c.in-Some.decls) list c.requires.signature found.0 found.1
    (subst (λ (ds : List Decl). IsOnly (RubyLists (plain_decls ds) text) list) c.as_slice.ensures (listed text loaded)))

pub returns-in-None : goal.returns-in-None
returns-in-None c =
    ok_is c.at_first.result _ (λ list. (text : List ℕ) → IsLoaded text c.args.ruby.now → IsOnly (Lists c.args.bytes.now text) list) c.at_first.ensures
    (λ text loaded. only_no_signature c.args.bytes.now text c.requires.signature (rw c.in-None.is at c.in_ok-decls.ensures))
