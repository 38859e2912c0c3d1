use Rattle.signature_profile.proofs.Members.{decls_none, decls_more, decls_stop, decls_all}
use Rattle.signature_profile.proofs.well_named.class_names.Goals as goal

pub returns-then-not-branch : goal.returns-then-not-branch
returns-then-not-branch c =
    decls_stop c.loop-decl.names c.admits_decl.new.seen c.args.decls.now c.loop-decl.decl-index c.decl-item.result c.loop-decl.invariant c.loop-decl-test.true c.decl-item.is
    (rw c.if-not-branch.true at c.in_ok-admits_decl.ensures)

pub loop-decl-init : goal.loop-decl-init
loop-decl-init c = decls_none c.args.decls.now c.new-names.result c.new-names.ensures

pub loop-decl-preserved : goal.loop-decl-preserved
loop-decl-preserved c =
    decls_more c.loop-decl.names c.admits_decl.new.seen c.args.decls.now c.loop-decl.decl-index c.decl-item.result c.loop-decl.invariant c.loop-decl-test.true c.decl-item.is
    (rw c.if-not-branch.false at c.in_ok-admits_decl.ensures)

pub returns : goal.returns
returns c = decls_all c.loop-decl.names c.args.decls.now c.loop-decl.decl-index c.loop-decl.invariant c.loop-decl-test.false
