use Rattle.std.proofs.Common.{List, Err, subst, sym}
use Rattle.sig_model.specs.declared.decl.Decl.{Decl}
use Rattle.sig_model.specs.PlainDecl.{plain_decls}
use Rattle.rbs_parser.specs.Texts.{AnswersFile}
use Rattle.rbs_parser.specs.declared.refused.ParseRefused.{ParseRefused}
use Rattle.signature_profile.specs.Profile.{IsSignature}
use Rattle.signature_profile.proofs.Signatures.{refuses_only}
use Rattle.signature_profile.proofs.classes.read_classes.Goals as goal

pub returns-then-branch : goal.returns-then-branch
returns-then-branch c = (
  subst (λ (ds : List Decl). IsSignature c.args.file (plain_decls ds) c.args.bytes.now) c.as_slice.ensures (c.in_ok-is_of_profile-in-Ok.ensures.0 c.if-branch.true),
  λ ds s. c.in-Ok.ensures.answer.1 ds s.read,
)

pub returns-in-Ok : goal.returns-in-Ok
returns-in-Ok c =
    refuses_only c.args.file c.args.bytes.now c.in-Ok.decls c.in-Ok.ensures.answer.1 c.in_ok-is_of_profile-in-Ok.field-0 c.if-branch.false
    (λ s. c.in_ok-is_of_profile-in-Ok.ensures.1 (subst (λ (ds : List Decl). IsSignature c.args.file (plain_decls ds) c.args.bytes.now) (sym c.as_slice.ensures) s))

pub returns-in-Err-Syntax : goal.returns-in-Err-Syntax
returns-in-Err-Syntax c =
    let answer = subst (λ (r : ParseRefused). AnswersFile c.args.file c.args.bytes.now (Err r)) c.in-Err-Syntax.field-0-is c.in-Err-Syntax.ensures.answer in
    λ ds s. answer.4 ds s.read

pub returns-in-Err-Limit : goal.returns-in-Err-Limit
returns-in-Err-Limit c =
    let answer = subst (λ (r : ParseRefused). AnswersFile c.args.file c.args.bytes.now (Err r)) c.in-Err-Limit.field-0-is c.in-Err-Limit.ensures.answer in
    λ ds s. answer.3 ds s.read
